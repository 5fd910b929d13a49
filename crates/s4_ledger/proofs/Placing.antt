-- The places of accounts.
use Rattle.std.proofs.Common.{◌≡◌, ◌<◌, ℕ, suc, Bool, true, false, cond, Option, Some, None, List, [], ◌∷◌, ◌++◌, length, map, refl, sym, ◌∙◌, ap, subst, arith, get_or}
use Rattle.std.specs.Prelude.{is_some, slice_set}
use Rattle.std.specs.Option.{option_map}
use Rattle.std.specs.Ordering.{is_eq}
use Rattle.std.specs.Map.{lookup, keys_of}
use Rattle.std.specs.BTreeMap.{is_at}
use Rattle.std.proofs.lemmas.List.{map-set, set-get_or, get_or-map, map_push, length-map}
use Rattle.s4_types.specs.declared.object.Purse.{Purse}
use Rattle.s4_types.specs.Names.{purse_cmp}
use Rattle.s4_types.proofs.Booleans.{by_test, not_both}
use Rattle.s4_types.proofs.SameNames.{at_purse, purse_is, purse_self}
use Rattle.s4_ledger.specs.declared.accounts.Account.{Account}
use Rattle.s4_ledger.specs.Accounts.{budgets_of, ArePlaces}
use Rattle.s4_ledger.specs.Books.{place_among}

pub some_is : {A : Type 0} (x y : A) → Some x ≡ Some y → x ≡ y
some_is x y e = cc

-- whether a purse stands there
abbrev pub at : Purse → Purse → Bool
at p q = is_at (purse_cmp p) q

pub at_is : (p q : Purse) → at p q ≡ true → p ≡ q
at_is p q t = purse_is p q (sym (at_purse p q) ∙ t)

pub at_self : (p : Purse) → at p p ≡ true
at_self p = at_purse p p ∙ purse_self p

pub at-sym : (p q : Purse) → at p q ≡ at q p
at-sym p q = by_test (at p q)
    (λ t. t ∙ sym (ap (at q) (at_is p q t) ∙ at_self q))
    (λ f. f ∙ sym (by_test (at q p) (λ t. absurd (not_both (at p q) (ap (at p) (at_is q p t) ∙ at_self p) f)) (λ g. g)))

-- a map of a list stays where a value changes that it doesn't tell of
pub map-set_same : {X Y : Type 0} (f : X → Y) (xs : List X) (i : ℕ) (x d : X) → i < length xs → f x ≡ f (get_or xs i d) → map f (slice_set xs i x) ≡ map f xs
map-set_same f xs i x d within same = map-set f xs i x ∙ ap (slice_set (map f xs) i) (same ∙ sym (get_or-map f xs i d (f x) within)) ∙ set-get_or (map f xs) i (f x)

-- one place further on
further : (o : Option ℕ) (i : ℕ) → option_map (λ k. suc k) o ≡ Some i → (j : ℕ) × (o ≡ Some j) × (i ≡ suc j)
further None i e = cc
further (Some j) i e = (j, refl, sym (some_is (suc j) i e))

nowhere : (o : Option ℕ) → option_map (λ k. suc k) o ≡ None → o ≡ None
nowhere None e = refl
nowhere (Some j) e = cc

-- the purse's account is in its place
pub record IsAt (p : Purse) (xs : List (Purse × Account)) (i : ℕ) : Type 0 where
  pub within : i < length xs
  pub named : (d : Purse × Account) → (get_or xs i d).0 ≡ p
  pub found : (d : Purse × Account) → lookup (is_at (purse_cmp p)) xs ≡ Some (get_or xs i d).1

pub at-place : (p : Purse) (xs : List (Purse × Account)) (i : ℕ) → place_among p (keys_of xs) ≡ Some i → IsAt p xs i
at-place p [] i e = cc
at-place p (x ∷ xs) i e = by_test (at p x.0)
    (λ t. let first : 0 ≡ i = some_is 0 i (sym (ap (λ b. cond b (Some 0) (option_map (λ k. suc k) (place_among p (keys_of xs)))) t) ∙ e) in
    subst (IsAt p (x ∷ xs)) first (record {
      within = omega arith;
      named = λ d. sym (at_is p x.0 t);
      found = λ d. ap (λ b. cond b (Some x.1) (lookup (is_at (purse_cmp p)) xs)) t;
    }))
    (λ f. let next = further (place_among p (keys_of xs)) i (sym (ap (λ b. cond b (Some 0) (option_map (λ k. suc k) (place_among p (keys_of xs)))) f) ∙ e) in
    let rest = at-place p xs next.0 next.1 in
    subst (IsAt p (x ∷ xs)) (sym next.2) (record {
      within = omega (arith, rest.within);
      named = rest.named;
      found = λ d. ap (λ b. cond b (Some x.1) (lookup (is_at (purse_cmp p)) xs)) f ∙ rest.found d;
    }))

-- a purse that has a place has an account, and the other way round
pub place-lookup : (p : Purse) (xs : List (Purse × Account)) → is_some (place_among p (keys_of xs)) ≡ is_some (lookup (is_at (purse_cmp p)) xs)
place-lookup p [] = refl
place-lookup p (x ∷ xs) = by_test (at p x.0)
    (λ t. ap (λ b. is_some (cond b (Some 0) (option_map (λ k. suc k) (place_among p (keys_of xs))))) t ∙ sym (ap (λ b. is_some (cond b (Some x.1) (lookup (is_at (purse_cmp p)) xs))) t))
    (λ f. ap (λ b. is_some (cond b (Some 0) (option_map (λ k. suc k) (place_among p (keys_of xs))))) f ∙ same (place_among p (keys_of xs)) ∙ place-lookup p xs ∙ sym (ap (λ b. is_some (cond b (Some x.1) (lookup (is_at (purse_cmp p)) xs))) f))
  where
    same : (o : Option ℕ) → is_some (option_map (λ k. suc k) o) ≡ is_some o
    same None = refl
    same (Some k) = refl

pub keys-budgets : (xs : List (Purse × Account)) → keys_of (budgets_of xs) ≡ keys_of xs
keys-budgets [] = refl
keys-budgets (x ∷ xs) = ap (λ ks. x.0 ∷ ks) (keys-budgets xs)

-- another account in the place of one
module _ (q : Purse) (a : Account) where
  pub lookup-set : (xs : List (Purse × Account)) (i : ℕ) → place_among q (keys_of xs) ≡ Some i
      → (p : Purse) → lookup (is_at (purse_cmp p)) (slice_set xs i (q, a)) ≡ cond (is_eq (purse_cmp q p)) (Some a) (lookup (is_at (purse_cmp p)) xs)
  lookup-set [] i e = cc
  lookup-set (x ∷ xs) i e = by_test (at q x.0)
      (λ t. let first : 0 ≡ i = some_is 0 i (sym (ap (λ b. cond b (Some 0) (option_map (λ k. suc k) (place_among q (keys_of xs)))) t) ∙ e) in
      subst Set first (λ p. ap (λ b. cond b (Some a) (lookup (is_at (purse_cmp p)) xs)) (at-sym p q) ∙ by_test (at q p)
      (λ u. ap (λ b. cond b (Some a) (lookup (is_at (purse_cmp p)) xs)) u ∙ sym (ap (λ b. cond b (Some a) (lookup (is_at (purse_cmp p)) (x ∷ xs))) u))
      (λ u. let other : at p x.0 ≡ false = ap (at p) (sym (at_is q x.0 t)) ∙ at-sym p q ∙ u in
      ap (λ b. cond b (Some a) (lookup (is_at (purse_cmp p)) xs)) u
      ∙ sym (ap (λ b. cond b (Some a) (lookup (is_at (purse_cmp p)) (x ∷ xs))) u ∙ ap (λ b. cond b (Some x.1) (lookup (is_at (purse_cmp p)) xs)) other))))
      (λ f. let next = further (place_among q (keys_of xs)) i (sym (ap (λ b. cond b (Some 0) (option_map (λ k. suc k) (place_among q (keys_of xs)))) f) ∙ e) in
      let rest = lookup-set xs next.0 next.1 in
      subst Set (sym next.2) (λ p. by_test (at p x.0)
      (λ t. let other : at q p ≡ false = ap (at q) (at_is p x.0 t) ∙ f in
      ap (λ b. cond b (Some x.1) (lookup (is_at (purse_cmp p)) (slice_set xs next.0 (q, a)))) t
      ∙ sym (ap (λ b. cond b (Some a) (lookup (is_at (purse_cmp p)) (x ∷ xs))) other ∙ ap (λ b. cond b (Some x.1) (lookup (is_at (purse_cmp p)) xs)) t))
      (λ u. ap (λ b. cond b (Some x.1) (lookup (is_at (purse_cmp p)) (slice_set xs next.0 (q, a)))) u ∙ rest p
      ∙ sym (ap (λ b. cond (at q p) (Some a) (cond b (Some x.1) (lookup (is_at (purse_cmp p)) xs))) u))))
    where
      Set : ℕ → Type 0
      Set k = (p : Purse) → lookup (is_at (purse_cmp p)) (slice_set (x ∷ xs) k (q, a)) ≡ cond (is_eq (purse_cmp q p)) (Some a) (lookup (is_at (purse_cmp p)) (x ∷ xs))

-- AN ACCOUNT MORE

found_or : {A : Type 0} (o : Option A) → cond (is_some o) o None ≡ o
found_or None = refl
found_or (Some x) = refl

pub lookup-push : (p q : Purse) (a : Account) (xs : List (Purse × Account))
    → lookup (is_at (purse_cmp p)) (xs ++ (q, a) ∷ []) ≡ cond (is_some (lookup (is_at (purse_cmp p)) xs)) (lookup (is_at (purse_cmp p)) xs) (cond (at p q) (Some a) None)
lookup-push p q a [] = refl
lookup-push p q a (x ∷ xs) =
    let last : Option Account = cond (at p q) (Some a) None in
    by_test (at p x.0)
    (λ t. ap (λ b. cond b (Some x.1) (lookup (is_at (purse_cmp p)) (xs ++ (q, a) ∷ []))) t
    ∙ sym (ap (λ b. cond (is_some (cond b (Some x.1) (lookup (is_at (purse_cmp p)) xs))) (cond b (Some x.1) (lookup (is_at (purse_cmp p)) xs)) last) t))
    (λ f. ap (λ b. cond b (Some x.1) (lookup (is_at (purse_cmp p)) (xs ++ (q, a) ∷ []))) f ∙ lookup-push p q a xs
    ∙ sym (ap (λ b. cond (is_some (cond b (Some x.1) (lookup (is_at (purse_cmp p)) xs))) (cond b (Some x.1) (lookup (is_at (purse_cmp p)) xs)) last) f))

pub place-push : (p q : Purse) (ks : List Purse) → place_among p (ks ++ q ∷ []) ≡ cond (is_some (place_among p ks)) (place_among p ks) (cond (at p q) (Some (length ks)) None)
place-push p q [] = refl
place-push p q (k ∷ ks) =
    let last : Option ℕ = cond (at p q) (Some (suc (length ks))) None in
    let behind : Option ℕ = option_map (λ i. suc i) (place_among p ks) in
    by_test (at p k)
    (λ t. ap (λ b. cond b (Some 0) (option_map (λ i. suc i) (place_among p (ks ++ q ∷ [])))) t
    ∙ sym (ap (λ b. cond (is_some (cond b (Some 0) behind)) (cond b (Some 0) behind) last) t))
    (λ f. ap (λ b. cond b (Some 0) (option_map (λ i. suc i) (place_among p (ks ++ q ∷ [])))) f
    ∙ ap (option_map (λ i. suc i)) (place-push p q ks) ∙ through (place_among p ks) (at p q) (length ks)
    ∙ sym (ap (λ b. cond (is_some (cond b (Some 0) behind)) (cond b (Some 0) behind) last) f))
  where
    through : (o : Option ℕ) (b : Bool) (n : ℕ) → option_map (λ i. suc i) (cond (is_some o) o (cond b (Some n) None)) ≡ cond (is_some (option_map (λ i. suc i) o)) (option_map (λ i. suc i) o) (cond b (Some (suc n)) None)
    through None true n = refl
    through None false n = refl
    through (Some i) b n = refl

-- what a look-up finds behind a list in which the purse q stands not yet
changed : {A : Type 0} (q p : Purse) (old new : Option A) (x : A) → (at q p ≡ true → old ≡ None) → new ≡ cond (is_some old) old (cond (at p q) (Some x) None) → new ≡ cond (is_eq (purse_cmp q p)) (Some x) old
changed q p old new x none is = by_test (at q p)
    (λ t. is ∙ ap (λ o. cond (is_some o) o (cond (at p q) (Some x) None)) (none t) ∙ ap (λ b. cond b (Some x) None) (at-sym p q ∙ t) ∙ sym (ap (λ b. cond b (Some x) old) t))
    (λ f. is ∙ ap (λ b. cond (is_some old) old (cond b (Some x) None)) (at-sym p q ∙ f) ∙ found_or old ∙ sym (ap (λ b. cond b (Some x) old) f))

module _ (q : Purse) (a : Account) (xs : List (Purse × Account)) (none : lookup (is_at (purse_cmp q)) xs ≡ None) where
  pub lookup-new : (p : Purse) → lookup (is_at (purse_cmp p)) (xs ++ (q, a) ∷ []) ≡ cond (is_eq (purse_cmp q p)) (Some a) (lookup (is_at (purse_cmp p)) xs)
  lookup-new p = changed q p _ _ a (λ t. ap (λ x. lookup (is_at (purse_cmp x)) xs) (sym (at_is q p t)) ∙ none) (lookup-push p q a xs)

  pub place-none : place_among q (keys_of xs) ≡ None
  place-none = of (place_among q (keys_of xs)) (place-lookup q xs ∙ ap is_some none)
    where
      of : (o : Option ℕ) → is_some o ≡ false → o ≡ None
      of None e = refl
      of (Some k) e = cc

  pub place-new : (p : Purse) → place_among p (keys_of (xs ++ (q, a) ∷ [])) ≡ cond (is_eq (purse_cmp q p)) (Some (length xs)) (place_among p (keys_of xs))
  place-new p = ap (place_among p) (map_push (λ e. e.0) xs (q, a))
      ∙ changed q p _ _ (length (keys_of xs)) (λ t. ap (λ x. place_among x (keys_of xs)) (sym (at_is q p t)) ∙ place-none) (place-push p q (keys_of xs))
      ∙ ap (λ n. cond (is_eq (purse_cmp q p)) (Some n) (place_among p (keys_of xs))) (length-map xs (λ e. e.0))

  -- the places are told of, with the new one
  pub places-new : (old new : List (Purse × ℕ)) → ArePlaces old xs → ((p : Purse) → lookup (is_at (purse_cmp p)) new ≡ cond (is_eq (purse_cmp q p)) (Some (length xs)) (lookup (is_at (purse_cmp p)) old)) → ArePlaces new (xs ++ (q, a) ∷ [])
  places-new old new are update p = update p ∙ ap (cond (is_eq (purse_cmp q p)) (Some (length xs))) (are p) ∙ sym (place-new p)
