-- Names in their order, and lists of names where some are left out.
use Rattle.std.proofs.Common.{◌≡◌, ℕ, ◌+◌, Bool, true, false, cond, Option, None, List, [], ◌∷◌, ◌++◌, refl, sym, ◌∙◌, ap, subst, arith, zero-add, filter, filter_map}
use Rattle.std.specs.Prelude.{◌||◌, sum_by, count_by, fold, if◌then◌else◌}
use Rattle.std.specs.List.{list_any, AllByRecursion}
use Rattle.std.specs.List.Sorted.{IsStrictlySortedBy}
use Rattle.std.specs.declared.cmp.Ordering.{Ordering}
use Rattle.std.specs.declared.cmp.Ordering.TheVariants.{Less, Equal, Greater}
use Rattle.std.specs.Ordering.{is_eq, ordering_reverse}
use Rattle.std.specs.Cmp.Lexicographic.{nat_list_cmp_total}
use Rattle.std.proofs.lemmas.List.Sums.{sum_by-cons}
use Rattle.std.proofs.lemmas.List.Elements.{filter_map-append}
use Rattle.s4_types.specs.declared.object.Purse.{Purse}
use Rattle.s4_types.specs.declared.request.Request.{Request}
use Rattle.s4_types.specs.declared.request.Request.TheVariants.{PCreate}
use Rattle.s4_types.specs.declared.record.Record.{Record}
use Rattle.s4_types.specs.Bindings.{with_name, in_order, named_by, names_after}
use Rattle.s4_types.specs.Kinds.{concerns}
use Rattle.s4_types.specs.Name.{same_name, name_cmp}
use Rattle.s4_types.specs.Names.{same_purse}
use Rattle.s4_types.proofs.Booleans.{by_test, not_both}
use Rattle.s4_types.proofs.SameNames.{name_is, name_self, at_name}

-- ONE NAME AND ANOTHER

pub less-other : (a b : List ℕ) → name_cmp a b ≡ Less → same_name a b ≡ false
less-other a b e = sym (at_name a b) ∙ ap is_eq e

pub greater-other : (a b : List ℕ) → name_cmp a b ≡ Greater → same_name a b ≡ false
greater-other a b e = sym (at_name a b) ∙ ap is_eq e

pub equal-same : (a b : List ℕ) → name_cmp a b ≡ Equal → a ≡ b
equal-same a b e = name_is a b (sym (at_name a b) ∙ ap is_eq e)

pub by_order : {A : Type 0} (o : Ordering) → (o ≡ Less → A) → (o ≡ Equal → A) → (o ≡ Greater → A) → A
by_order Less l e g = l refl
by_order Equal l e g = e refl
by_order Greater l e g = g refl

-- whether a test is passed, as a number
abbrev pub tally : Bool → ℕ
tally b = cond b 1 0

pub count-cons : {A : Type 0} (p : A → Bool) (x : A) (xs : List A) → count_by p (x ∷ xs) ≡ tally (p x) + count_by p xs
count-cons p x xs = sum_by-cons (λ y. tally (p y)) x xs

-- ALL NAMES BEHIND ONE

-- the name is below all of these
abbrev pub IsBelow : List ℕ → List (List ℕ) → Type 0
IsBelow name ks = AllByRecursion (λ k. name_cmp name k ≡ Less) ks

pub below-through : (a b : List ℕ) (ks : List (List ℕ)) → name_cmp a b ≡ Less → IsBelow b ks → IsBelow a ks
below-through a b [] e l = _
below-through a b (k ∷ ks) e l = (nat_list_cmp_total.trans a b k e l.0, below-through a b ks e l.1)

pub none-below : (a : List ℕ) (ks : List (List ℕ)) → IsBelow a ks → list_any (same_name a) ks ≡ false
none-below a [] l = refl
none-below a (k ∷ ks) l = ap (λ b. b || list_any (same_name a) ks) (less-other a k l.0) ∙ none-below a ks l.1

pub filter-below : (a : List ℕ) (p : List ℕ → Bool) (ks : List (List ℕ)) → IsBelow a ks → IsBelow a (filter p ks)
filter-below a p [] l = _
filter-below a p (k ∷ ks) l = by_test (p k)
    (λ e. subst (λ b. IsBelow a (cond b (k ∷ filter p ks) (filter p ks))) (sym e) (l.0, filter-below a p ks l.1))
    (λ e. subst (λ b. IsBelow a (cond b (k ∷ filter p ks) (filter p ks))) (sym e) (filter-below a p ks l.1))

-- a test that is told apart at the name alone says the same of all others
pub filter-others : (a : List ℕ) (p q : List ℕ → Bool) (ks : List (List ℕ)) → ((n : List ℕ) → same_name a n ≡ false → p n ≡ q n) → IsBelow a ks → filter p ks ≡ filter q ks
filter-others a p q [] same l = refl
filter-others a p q (k ∷ ks) same l =
    ap (λ b. cond b (k ∷ filter p ks) (filter p ks)) (same k (less-other a k l.0)) ∙ ap (λ xs. cond (q k) (k ∷ xs) xs) (filter-others a p q ks same l.1)

count-others : (a : List ℕ) (p q : List ℕ → Bool) (ks : List (List ℕ)) → ((n : List ℕ) → same_name a n ≡ false → p n ≡ q n) → IsBelow a ks → count_by p ks ≡ count_by q ks
count-others a p q [] same l = refl
count-others a p q (k ∷ ks) same l =
    count-cons p k ks ∙ ap (λ b. tally b + count_by p ks) (same k (less-other a k l.0)) ∙ ap (λ n. tally (q k) + n) (count-others a p q ks same l.1) ∙ sym (count-cons q k ks)

pub in-front : (a : List ℕ) (ks : List (List ℕ)) → IsBelow a ks → with_name a ks ≡ a ∷ ks
in-front a [] l = refl
in-front a (k ∷ ks) l = ap (λ o. in_order o (a ∷ k ∷ ks) (k ∷ ks) (k ∷ with_name a ks)) l.0

-- ONE NAME AMONG ITS LIKES

pub tail-sorted : (k : List ℕ) (ks : List (List ℕ)) → IsStrictlySortedBy name_cmp (k ∷ ks) → IsBelow k ks × IsStrictlySortedBy name_cmp ks
unfolding IsStrictlySortedBy
tail-sorted k ks s = s

module _ (a : List ℕ) (p q : List ℕ → Bool) (same : (n : List ℕ) → same_name a n ≡ false → p n ≡ q n) where
  -- where the tests differ at most at one name
  pub count-one : (ks : List (List ℕ)) → IsStrictlySortedBy name_cmp ks → list_any (same_name a) ks ≡ true → count_by p ks + tally (q a) ≡ count_by q ks + tally (p a)
  count-one [] s e = cc
  count-one (k ∷ ks) s e =
      let sorted = tail-sorted k ks s in
      by_test (same_name a k)
      (λ f. let is : a ≡ k = name_is a k f in
      let rest : count_by p ks ≡ count_by q ks = count-others a p q ks same (subst (λ x. IsBelow x ks) (sym is) sorted.0) in
      let one : count_by p (a ∷ ks) ≡ tally (p a) + count_by p ks = count-cons p a ks in
      let two : count_by q (a ∷ ks) ≡ tally (q a) + count_by q ks = count-cons q a ks in
      subst (λ x. count_by p (x ∷ ks) + tally (q a) ≡ count_by q (x ∷ ks) + tally (p a)) is (omega arith))
      (λ f. let rest : count_by p ks + tally (q a) ≡ count_by q ks + tally (p a) = count-one ks sorted.1 (sym (ap (λ b. b || list_any (same_name a) ks) f) ∙ e) in
      let one : count_by p (k ∷ ks) ≡ tally (p k) + count_by p ks = count-cons p k ks in
      let two : count_by q (k ∷ ks) ≡ tally (q k) + count_by q ks = count-cons q k ks in
      let alike : tally (p k) ≡ tally (q k) = ap tally (same k f) in
      omega arith)

  -- and the one passes where the other needn't
  pub filter-one : p a ≡ true → (ks : List (List ℕ)) → IsStrictlySortedBy name_cmp ks → list_any (same_name a) ks ≡ true → filter p ks ≡ with_name a (filter q ks)
  filter-one pass [] s e = cc
  filter-one pass (k ∷ ks) s e =
      let sorted = tail-sorted k ks s in
      by_order (name_cmp a k)
      (λ less. absurd (not_both _ e (none-below a (k ∷ ks) (less, below-through a k ks less sorted.0))))
      (λ equal. let is : a ≡ k = equal-same a k equal in
      let below : IsBelow a ks = subst (λ x. IsBelow x ks) (sym is) sorted.0 in
      subst (λ x. filter p (x ∷ ks) ≡ with_name a (filter q (x ∷ ks))) is
      (ap (λ b. cond b (a ∷ filter p ks) (filter p ks)) pass ∙ ap (λ xs. a ∷ xs) (filter-others a p q ks same below)
      ∙ by_test (q a)
      (λ f. sym (ap (λ b. with_name a (cond b (a ∷ filter q ks) (filter q ks))) f ∙ ap (λ o. in_order o (a ∷ a ∷ filter q ks) (a ∷ filter q ks) (a ∷ with_name a (filter q ks))) (itself a)))
      (λ f. sym (ap (λ b. with_name a (cond b (a ∷ filter q ks) (filter q ks))) f ∙ in-front a (filter q ks) (filter-below a q ks below)))))
      (λ greater. let other : same_name a k ≡ false = greater-other a k greater in
      let rest : filter p ks ≡ with_name a (filter q ks) = filter-one pass ks sorted.1 (sym (ap (λ b. b || list_any (same_name a) ks) other) ∙ e) in
      ap (λ b. cond b (k ∷ filter p ks) (filter p ks)) (same k other) ∙ by_test (q k)
      (λ f. ap (λ b. cond b (k ∷ filter p ks) (filter p ks)) f ∙ ap (λ xs. k ∷ xs) rest
      ∙ sym (ap (λ b. with_name a (cond b (k ∷ filter q ks) (filter q ks))) f ∙ ap (λ o. in_order o (a ∷ k ∷ filter q ks) (k ∷ filter q ks) (k ∷ with_name a (filter q ks))) greater))
      (λ f. ap (λ b. cond b (k ∷ filter p ks) (filter p ks)) f ∙ rest ∙ sym (ap (λ b. with_name a (cond b (k ∷ filter q ks) (filter q ks))) f)))
    where
      itself : (x : List ℕ) → name_cmp x x ≡ Equal
      itself x = equal (name_cmp x x) (at_name x x ∙ name_self x)
        where
          equal : (o : Ordering) → is_eq o ≡ true → o ≡ Equal
          equal Less f = cc
          equal Equal f = refl
          equal Greater f = cc

-- LEFT OUT

-- what passes the one test passes the other
pub filter-twice : {A : Type 0} (p q : A → Bool) (xs : List A) → ((x : A) → q x ≡ false → p x ≡ false) → filter p (filter q xs) ≡ filter p xs
filter-twice p q [] none = refl
filter-twice p q (x ∷ xs) none = by_test (q x)
    (λ e. ap (λ b. filter p (cond b (x ∷ filter q xs) (filter q xs))) e ∙ ap (λ ys. cond (p x) (x ∷ ys) ys) (filter-twice p q xs none))
    (λ e. ap (λ b. filter p (cond b (x ∷ filter q xs) (filter q xs))) e ∙ filter-twice p q xs none ∙ sym (ap (λ b. cond b (x ∷ filter p xs) (filter p xs)) (none x e)))

-- so where the same elements pass the second test, the same pass the first
pub filter-less : {A : Type 0} (p q : A → Bool) (xs ys : List A) → ((x : A) → q x ≡ false → p x ≡ false) → filter q xs ≡ filter q ys → filter p xs ≡ filter p ys
filter-less p q xs ys none e = sym (filter-twice p q xs none) ∙ ap (filter p) e ∙ filter-twice p q ys none

-- what isn't there wouldn't count
pub sum-filter : {A : Type 0} (f : A → ℕ) (q : A → Bool) (xs : List A) → ((x : A) → q x ≡ false → f x ≡ 0) → sum_by f (filter q xs) ≡ sum_by f xs
sum-filter f q [] none = refl
sum-filter f q (x ∷ xs) none = by_test (q x)
    (λ e. ap (λ b. sum_by f (cond b (x ∷ filter q xs) (filter q xs))) e ∙ sum_by-cons f x (filter q xs) ∙ ap (λ n. f x + n) (sum-filter f q xs none) ∙ sym (sum_by-cons f x xs))
    (λ e. ap (λ b. sum_by f (cond b (x ∷ filter q xs) (filter q xs))) e ∙ sum-filter f q xs none ∙ sym (sum_by-cons f x xs ∙ ap (λ n. n + sum_by f xs) (none x e) ∙ zero-add (sum_by f xs)))

pub count-filter : {A : Type 0} (p q : A → Bool) (xs : List A) → ((x : A) → q x ≡ false → p x ≡ false) → count_by p (filter q xs) ≡ count_by p xs
count-filter p q xs none = sum-filter (λ x. tally (p x)) q xs (λ x e. ap tally (none x e))

pub any-filter : {A : Type 0} (p q : A → Bool) (xs : List A) → ((x : A) → q x ≡ false → p x ≡ false) → list_any p (filter q xs) ≡ list_any p xs
any-filter p q [] none = refl
any-filter p q (x ∷ xs) none = by_test (q x)
    (λ e. ap (λ b. list_any p (cond b (x ∷ filter q xs) (filter q xs))) e ∙ ap (λ b. p x || b) (any-filter p q xs none))
    (λ e. ap (λ b. list_any p (cond b (x ∷ filter q xs) (filter q xs))) e ∙ any-filter p q xs none ∙ sym (ap (λ b. b || list_any p xs) (none x e)))

module _ {A B : Type 0} (f : A → Option B) (p q : A → Bool) where
  kept-line : (x : A) (ys zs : List A) (b : Bool) → filter_map f (filter p ys) ≡ filter_map f (filter p zs) → filter_map f (cond b (x ∷ filter p ys) (filter p ys)) ≡ filter_map f (cond b (x ∷ filter p zs) (filter p zs))
  kept-line x ys zs false rest = rest
  kept-line x ys zs true rest = filter_map-append f (x ∷ []) (filter p ys) ∙ ap (λ us. filter_map f (x ∷ []) ++ us) rest ∙ sym (filter_map-append f (x ∷ []) (filter p zs))

  no-line : (x : A) (zs : List A) (b : Bool) → f x ≡ None → filter_map f (filter p zs) ≡ filter_map f (cond b (x ∷ filter p zs) (filter p zs))
  no-line x zs false e = refl
  no-line x zs true e = sym (filter_map-append f (x ∷ []) (filter p zs) ∙ ap (λ (o : Option B). filter_map (λ (y : Option B). y) (o ∷ []) ++ filter_map f (filter p zs)) e)

  pub lines-filter : (xs : List A) → ((x : A) → q x ≡ false → f x ≡ None) → filter_map f (filter p (filter q xs)) ≡ filter_map f (filter p xs)
  lines-filter [] none = refl
  lines-filter (x ∷ xs) none = by_test (q x)
      (λ e. ap (λ b. filter_map f (filter p (cond b (x ∷ filter q xs) (filter q xs)))) e ∙ kept-line x (filter q xs) xs (p x) (lines-filter xs none))
      (λ e. ap (λ b. filter_map f (filter p (cond b (x ∷ filter q xs) (filter q xs)))) e ∙ lines-filter xs none ∙ no-line x xs (p x) (none x e))

-- NAMES IN THEIR ORDER

-- one name more, where the tests differ at most at that name, and it passes
pub filter-with : (a : List ℕ) (p q : List ℕ → Bool) → ((n : List ℕ) → same_name a n ≡ false → p n ≡ q n) → p a ≡ true → (ks : List (List ℕ)) → IsStrictlySortedBy name_cmp ks → with_name a (filter q ks) ≡ filter p (with_name a ks)
filter-with a p q same pass [] s = sym (ap (λ b. cond b (a ∷ []) []) pass)
filter-with a p q same pass (k ∷ ks) s =
    let sorted = tail-sorted k ks s in
    by_order (name_cmp a k)
    (λ less. let below : IsBelow a (k ∷ ks) = (less, below-through a k ks less sorted.0) in
    in-front a (filter q (k ∷ ks)) (filter-below a q (k ∷ ks) below)
    ∙ ap (λ xs. a ∷ xs) (sym (filter-others a p q (k ∷ ks) same below))
    ∙ sym (ap (λ b. cond b (a ∷ filter p (k ∷ ks)) (filter p (k ∷ ks))) pass)
    ∙ sym (ap (λ o. filter p (in_order o (a ∷ k ∷ ks) (k ∷ ks) (k ∷ with_name a ks))) less))
    (λ equal. sym (filter-one a p q same pass (k ∷ ks) s (ap (λ b. b || list_any (same_name a) ks) (subst (λ x. same_name a x ≡ true) (equal-same a k equal) (name_self a))))
    ∙ sym (ap (λ o. filter p (in_order o (a ∷ k ∷ ks) (k ∷ ks) (k ∷ with_name a ks))) equal))
    (λ greater. by_test (q k)
    (λ e. ap (λ b. with_name a (cond b (k ∷ filter q ks) (filter q ks))) e
    ∙ ap (λ o. in_order o (a ∷ k ∷ filter q ks) (k ∷ filter q ks) (k ∷ with_name a (filter q ks))) greater
    ∙ ap (λ xs. k ∷ xs) (filter-with a p q same pass ks sorted.1)
    ∙ sym (ap (λ b. cond b (k ∷ filter p (with_name a ks)) (filter p (with_name a ks))) (same k (greater-other a k greater) ∙ e))
    ∙ sym (ap (λ o. filter p (in_order o (a ∷ k ∷ ks) (k ∷ ks) (k ∷ with_name a ks))) greater))
    (λ e. ap (λ b. with_name a (cond b (k ∷ filter q ks) (filter q ks))) e
    ∙ filter-with a p q same pass ks sorted.1
    ∙ sym (ap (λ b. cond b (k ∷ filter p (with_name a ks)) (filter p (with_name a ks))) (same k (greater-other a k greater) ∙ e))
    ∙ sym (ap (λ o. filter p (in_order o (a ∷ k ∷ ks) (k ∷ ks) (k ∷ with_name a ks))) greater)))

sorted-front : (k : List ℕ) (ks : List (List ℕ)) → IsBelow k ks → IsStrictlySortedBy name_cmp ks → IsStrictlySortedBy name_cmp (k ∷ ks)
unfolding IsStrictlySortedBy
sorted-front k ks below s = (below, s)

pub no-names : IsStrictlySortedBy name_cmp []
unfolding IsStrictlySortedBy
no-names = _

turned : (a b : List ℕ) → name_cmp a b ≡ Greater → name_cmp b a ≡ Less
turned a b e = nat_list_cmp_total.antisymm b a ∙ ap ordering_reverse e

-- what is above all names is above one more that it is above
below-with : (k a : List ℕ) (ks : List (List ℕ)) → name_cmp k a ≡ Less → IsBelow k ks → IsBelow k (with_name a ks)
below-with k a [] e l = (e, _)
below-with k a (x ∷ ks) e l = of (name_cmp a x) (below-with k a ks e l.1)
  where
    of : (o : Ordering) → IsBelow k (with_name a ks) → IsBelow k (in_order o (a ∷ x ∷ ks) (x ∷ ks) (x ∷ with_name a ks))
    of Less rest = (e, l)
    of Equal rest = l
    of Greater rest = (l.0, rest)

sorted-with : (a : List ℕ) (ks : List (List ℕ)) → IsStrictlySortedBy name_cmp ks → IsStrictlySortedBy name_cmp (with_name a ks)
sorted-with a [] s = sorted-front a [] _ no-names
sorted-with a (k ∷ ks) s =
    let sorted = tail-sorted k ks s in
    by_order (name_cmp a k)
    (λ less. subst (λ o. IsStrictlySortedBy name_cmp (in_order o (a ∷ k ∷ ks) (k ∷ ks) (k ∷ with_name a ks))) (sym less) (sorted-front a (k ∷ ks) (less, below-through a k ks less sorted.0) s))
    (λ equal. subst (λ o. IsStrictlySortedBy name_cmp (in_order o (a ∷ k ∷ ks) (k ∷ ks) (k ∷ with_name a ks))) (sym equal) s)
    (λ greater. subst (λ o. IsStrictlySortedBy name_cmp (in_order o (a ∷ k ∷ ks) (k ∷ ks) (k ∷ with_name a ks))) (sym greater)
    (sorted-front k (with_name a ks) (below-with k a ks (turned a k greater) sorted.0) (sorted-with a ks sorted.1)))

named-sorted : (p : Purse) (request : Request) (ks : List (List ℕ)) → IsStrictlySortedBy name_cmp ks → IsStrictlySortedBy name_cmp (named_by p request ks)
named-sorted p (PCreate name o) ks s = elim (same_purse o.purse p) as (λ b. IsStrictlySortedBy name_cmp (if b then with_name name ks else ks)) [ true ↦ sorted-with name ks s | false ↦ s ]
named-sorted p _ ks s = s

pub name-sorted : (p : Purse) (ks : List (List ℕ)) (r : Record) → IsStrictlySortedBy name_cmp ks → IsStrictlySortedBy name_cmp (names_after p ks r)
name-sorted p ks r s = elim (concerns p r) as (λ b. IsStrictlySortedBy name_cmp (if b then named_by p r.request ks else ks)) [ true ↦ named-sorted p r.request ks s | false ↦ s ]

-- the names stand in their order
pub names-sorted : (p : Purse) (ks : List (List ℕ)) (h : List Record) → IsStrictlySortedBy name_cmp ks → IsStrictlySortedBy name_cmp (fold (names_after p) ks h)
names-sorted p ks [] s = s
names-sorted p ks (r ∷ h) s = names-sorted p (names_after p ks r) h (name-sorted p ks r s)

pub filter-sorted : (q : List ℕ → Bool) (ks : List (List ℕ)) → IsStrictlySortedBy name_cmp ks → IsStrictlySortedBy name_cmp (filter q ks)
filter-sorted q [] s = s
filter-sorted q (k ∷ ks) s =
    let sorted = tail-sorted k ks s in
    elim (q k) as (λ b. IsStrictlySortedBy name_cmp (cond b (k ∷ filter q ks) (filter q ks))) [
      | true ↦ sorted-front k (filter q ks) (filter-below k q ks sorted.0) (filter-sorted q ks sorted.1)
      | false ↦ filter-sorted q ks sorted.1
    ]
