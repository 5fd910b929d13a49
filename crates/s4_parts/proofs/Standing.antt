-- A table stands over a store of which one chain was changed, or which has one chain more.
use Rattle.std.proofs.Common.{◌≡◌, ℕ, ◌+◌, Bool, true, false, Option, Some, None, List, [], refl, sym, ◌∙◌, ap, subst, arith, filter, length, ◌⊎◌, inl, inr}
use Rattle.std.specs.Prelude.{◌≢◌, ◌&&◌, ◌==◌, is_some, count_by, if◌then◌else◌}
use Rattle.std.specs.List.{list_any}
use Rattle.std.specs.List.Sorted.{IsStrictlySortedBy}
use Rattle.std.specs.FinMap as finmap
use Rattle.std.proofs.lemmas.Bool.{eqb-true}
use Rattle.std.proofs.lemmas.List.Sums.{length-filter}
use Rattle.s4_types.specs.declared.object.Purse.{Purse}
use Rattle.s4_types.specs.declared.version.Version.{Version}
use Rattle.s4_types.specs.Names.{same_purse}
use Rattle.s4_types.specs.Name.{same_name, name_cmp}
use Rattle.s4_types.specs.Bindings.{with_name}
use Rattle.s4_types.proofs.Booleans.{by_test, both, not_both, ||-false}
use Rattle.s4_types.proofs.SameNames.{purse_is, purse_self, name_is, name_self}
use Rattle.s4_store.specs.Chains.{Chains, items_of, IsOpen, StillOpen}
use Rattle.s4_store.specs.Laws.{items_here, items_elsewhere, open_here, fresh_differs, fresh_is_closed, StillOpen-insert}
use Rattle.s4_parts.specs.Table.{items_on, is_any, serial_now, passes, HoldsFor}
use Rattle.s4_parts.specs.Shelf.{or_else, with_chain}
use Rattle.s4_parts.specs.Table.{IsTimely}
use Rattle.s4_parts.proofs.Leaving.{open-elsewhere}
use Rattle.s4_types.proofs.Ordered.{tally, count-one, filter-one}

some_is : {A : Type 0} (x y : A) → Some x ≡ Some y → x ≡ y
some_is x y e = cc

-- ONE CHAIN WAS CHANGED

module _ {chains : Chains Version} {chain : Purse → List ℕ → Option ℕ} {names : Purse → List (List ℕ)} {serials : Purse → List ℕ} (s : HoldsFor chains chain names serials)
    (p : Purse) (n : List ℕ) (c : ℕ) (has : chain p n ≡ Some c) (xs : List Version) (new : Chains Version) (changed : new ≡ finmap.insert chains c xs) where
  pub here : items_on new (chain p n) ≡ xs
  here = ap (items_on new) has ∙ ap (λ m. items_of m c) changed ∙ items_here chains c xs

  pub there : (q : Purse) (m : List ℕ) → (same_purse p q && same_name n m) ≡ false → items_on new (chain q m) ≡ items_on chains (chain q m)
  there q m e = of (chain q m) refl
    where
      of : (f : Option ℕ) → chain q m ≡ f → items_on new f ≡ items_on chains f
      of None got = refl
      of (Some d) got = ap (λ x. items_of x d) changed ∙ items_elsewhere chains c d xs (by_test (d == c)
          (λ same. let one = s.apart p q n m c has (got ∙ ap (λ x. Some x) (eqb-true d c same)) in
          absurd (not_both _ (subst (λ x. (same_purse p x && same_name n m) ≡ true) one.0 (subst (λ y. (same_purse p p && same_name n y) ≡ true) one.1 (rw (purse_self p, name_self n) refl))) e))
          (λ other. other))

  -- the bindings of each name
  pub changed-at : (q : Purse) (m : List ℕ) → items_on new (chain q m) ≡ (if same_purse p q && same_name n m then xs else items_on chains (chain q m))
  changed-at q m = by_test (same_purse p q && same_name n m)
      (λ e. let parts = both (same_purse p q) (same_name n m) e in
      subst (λ x. items_on new (chain x m) ≡ xs) (purse_is p q parts.0) (subst (λ y. items_on new (chain p y) ≡ xs) (name_is n m parts.1) here)
      ∙ sym (ap (λ b. if b then xs else items_on chains (chain q m)) e))
      (λ e. there q m e ∙ sym (ap (λ b. if b then xs else items_on chains (chain q m)) e))

  other-name : (m : List ℕ) → same_name n m ≡ false → items_on new (chain p m) ≡ items_on chains (chain p m)
  other-name m e = there p m (ap (λ b. same_purse p p && b) e ∙ Rattle.s4_types.proofs.Booleans.&&-false (same_purse p p))

  there-name : list_any (same_name n) (names p) ≡ true
  there-name = sym (s.named p n) ∙ ap is_some has

  -- the names that have bindings, where the name now has some
  pub names-more : is_any xs ≡ true → (q : Purse) → filter (λ m. is_any (items_on new (chain q m))) (names q)
      ≡ (if same_purse p q then with_name n (filter (λ m. is_any (items_on chains (chain q m))) (names q)) else filter (λ m. is_any (items_on chains (chain q m))) (names q))
  names-more some q = by_test (same_purse p q)
      (λ e. subst (λ x. filter (λ m. is_any (items_on new (chain x m))) (names x) ≡ with_name n (filter (λ m. is_any (items_on chains (chain x m))) (names x))) (purse_is p q e)
      (filter-one n (λ m. is_any (items_on new (chain p m))) (λ m. is_any (items_on chains (chain p m))) (λ m f. ap is_any (other-name m f)) (ap is_any here ∙ some) (names p) (s.sorted p) there-name)
      ∙ sym (ap (λ b. if b then with_name n (filter (λ m. is_any (items_on chains (chain q m))) (names q)) else filter (λ m. is_any (items_on chains (chain q m))) (names q)) e))
      (λ e. ap (λ f. filter f (names q)) (λ i m. is_any (there q m (ap (λ b. b && same_name n m) e) i))
      ∙ sym (ap (λ b. if b then with_name n (filter (λ m. is_any (items_on chains (chain q m))) (names q)) else filter (λ m. is_any (items_on chains (chain q m))) (names q)) e))

  -- and where it has some just if it had some before
  pub names-same : is_any xs ≡ is_any (items_on chains (chain p n)) → (q : Purse) → filter (λ m. is_any (items_on new (chain q m))) (names q) ≡ filter (λ m. is_any (items_on chains (chain q m))) (names q)
  names-same same q = ap (λ f. filter f (names q)) (λ i m. at m i)
    where
      at : (m : List ℕ) → is_any (items_on new (chain q m)) ≡ is_any (items_on chains (chain q m))
      at m = by_test (same_purse p q && same_name n m)
          (λ e. let parts = both (same_purse p q) (same_name n m) e in
          subst (λ x. is_any (items_on new (chain x m)) ≡ is_any (items_on chains (chain x m))) (purse_is p q parts.0)
          (subst (λ y. is_any (items_on new (chain p y)) ≡ is_any (items_on chains (chain p y))) (name_is n m parts.1) (ap is_any here ∙ same)))
          (λ e. ap is_any (there q m e))

  -- the table stands, where what is bound now is known again
  pub holds-changed : (serials' : Purse → List ℕ)
      → ((test : ℕ → Bool) → count_by test (serials' p) + tally (passes test (serial_now (items_on chains (chain p n)))) ≡ count_by test (serials p) + tally (passes test (serial_now xs)))
      → ((q : Purse) → same_purse p q ≡ false → serials' q ≡ serials q)
      → IsTimely xs → HoldsFor new chain names serials'
  holds-changed serials' counted others timely = record {
    timely = λ q m. subst IsTimely (sym (changed-at q m)) (by_test (same_purse p q && same_name n m)
        (λ e. subst (λ b. IsTimely (if b then xs else items_on chains (chain q m))) (sym e) timely)
        (λ e. subst (λ b. IsTimely (if b then xs else items_on chains (chain q m))) (sym e) (s.timely q m)));
    opened = λ q m d got. StillOpen-insert chains new c xs changed d (s.opened q m d got);
    apart = s.apart;
    named = s.named;
    sorted = s.sorted;
    known = known;
  }
    where
      known : (q : Purse) (test : ℕ → Bool) → count_by test (serials' q) ≡ count_by (λ m. passes test (serial_now (items_on new (chain q m)))) (names q)
      known q test = by_test (same_purse p q)
          (λ e. subst (λ x. count_by test (serials' x) ≡ count_by (λ m. passes test (serial_now (items_on new (chain x m)))) (names x)) (purse_is p q e) at)
          (λ e. ap (count_by test) (others q e) ∙ s.known q test ∙ sym (ap (λ f. count_by f (names q)) (λ i m. passes test (serial_now (there q m (ap (λ b. b && same_name n m) e) i)))))
        where
          before : List ℕ → Bool
          before m = passes test (serial_now (items_on chains (chain p m)))

          after : List ℕ → Bool
          after m = passes test (serial_now (items_on new (chain p m)))

          at : count_by test (serials' p) ≡ count_by after (names p)
          at =
              let one : count_by after (names p) + tally (before n) ≡ count_by before (names p) + tally (after n) =
              count-one n after before (λ m f. ap (λ vs. passes test (serial_now vs)) (other-name m f)) (names p) (s.sorted p) there-name in
              let old : count_by test (serials p) ≡ count_by before (names p) = s.known p test in
              let now : tally (after n) ≡ tally (passes test (serial_now xs)) = ap (λ vs. tally (passes test (serial_now vs))) here in
              let more : count_by test (serials' p) + tally (before n) ≡ count_by test (serials p) + tally (passes test (serial_now xs)) = counted test in
              omega arith

-- ONE CHAIN WAS OPENED, OR NONE

module _ {chains : Chains Version} {chain : Purse → List ℕ → Option ℕ} {names : Purse → List (List ℕ)} {serials : Purse → List ℕ} (s : HoldsFor chains chain names serials)
    (p : Purse) (n : List ℕ) (fresh : Option ℕ) (unopened : (c : ℕ) → fresh ≡ Some c → finmap.get chains c ≡ None) (new : Chains Version) (opened : new ≡ with_chain chains fresh)
    (chain' : Purse → List ℕ → Option ℕ) (chains-are : (q : Purse) (m : List ℕ) → chain' q m ≡ (if same_purse p q && same_name n m then or_else (chain p n) fresh else chain q m)) where
  -- the chains that were open are as before
  pub items-kept : (d : ℕ) → IsOpen chains d → items_of new d ≡ items_of chains d
  items-kept d open' = ap (λ m. items_of m d) opened ∙ of fresh refl
    where
      of : (f : Option ℕ) → fresh ≡ f → items_of (with_chain chains f) d ≡ items_of chains d
      of None e = refl
      of (Some c) e = items_elsewhere chains c d [] (fresh_differs chains c d (unopened c e) open')

  pub still-open : StillOpen chains new
  still-open d open' = subst (λ m. IsOpen m d) (sym opened) (of fresh)
    where
      of : (f : Option ℕ) → IsOpen (with_chain chains f) d
      of None = open'
      of (Some c) = StillOpen-insert chains (with_chain chains (Some c)) c [] refl d open'

  here-are : (q : Purse) (m : List ℕ) → (same_purse p q && same_name n m) ≡ true → chain' q m ≡ or_else (chain q m) fresh
  here-are q m e =
      let parts = both (same_purse p q) (same_name n m) e in
      chains-are q m ∙ ap (λ b. if b then or_else (chain p n) fresh else chain q m) e
      ∙ ap (λ x. or_else (chain x n) fresh) (purse_is p q parts.0) ∙ ap (λ y. or_else (chain q y) fresh) (name_is n m parts.1)

  pub there-are : (q : Purse) (m : List ℕ) → (same_purse p q && same_name n m) ≡ false → chain' q m ≡ chain q m
  there-are q m e = chains-are q m ∙ ap (λ b. if b then or_else (chain p n) fresh else chain q m) e

  -- a name that had a chain has it still
  pub own-kept : (q : Purse) (m : List ℕ) (d : ℕ) → chain q m ≡ Some d → chain' q m ≡ Some d
  own-kept q m d got = by_test (same_purse p q && same_name n m)
      (λ e. here-are q m e ∙ ap (λ x. or_else x fresh) got)
      (λ e. there-are q m e ∙ got)

  -- a chain that is no name's was open, where the new one is the name's
  pub leaves-opened : (is_some (chain p n) ≡ true → fresh ≡ None) → (c : ℕ) → IsOpen new c → ((q : Purse) (m : List ℕ) → chain' q m ≢ Some c) → IsOpen chains c × ((q : Purse) (m : List ℕ) → chain q m ≢ Some c)
  leaves-opened needed c open' foreign = (of fresh refl, λ q m got. foreign q m (own-kept q m c got))
    where
      here : (d : ℕ) → fresh ≡ Some d → (f : Option ℕ) → chain p n ≡ f → chain' p n ≡ Some d
      here d e None got = here-are p n (rw (purse_self p, name_self n) refl) ∙ ap (λ x. or_else x fresh) got ∙ e
      here d e (Some x) got = let none : None ≡ Some d = sym (needed (ap is_some got)) ∙ e in cc

      of : (f : Option ℕ) → fresh ≡ f → IsOpen chains c
      of None e = subst (λ m. IsOpen m c) (opened ∙ ap (with_chain chains) e) open'
      of (Some d) e = by_test (c == d)
          (λ same. absurd (foreign p n (here d e (chain p n) refl ∙ ap (λ x. Some x) (sym (eqb-true c d same)))))
          (λ other. open-elsewhere chains d [] c other (subst (λ m. IsOpen m c) (opened ∙ ap (with_chain chains) e) open'))

  -- each name keeps its bindings
  pub bindings-kept : (q : Purse) (m : List ℕ) → items_on new (chain' q m) ≡ items_on chains (chain q m)
  bindings-kept q m = by_test (same_purse p q && same_name n m)
      (λ e. ap (items_on new) (here-are q m e) ∙ of (chain q m) refl)
      (λ e. ap (items_on new) (there-are q m e) ∙ old (chain q m) refl)
    where
      old : (f : Option ℕ) → chain q m ≡ f → items_on new f ≡ items_on chains f
      old None got = refl
      old (Some d) got = items-kept d (s.opened q m d got)

      empty : (f : Option ℕ) → items_on (with_chain chains f) f ≡ []
      empty None = refl
      empty (Some c) = items_here chains c []

      of : (f : Option ℕ) → chain q m ≡ f → items_on new (or_else f fresh) ≡ items_on chains f
      of None got = ap (λ m. items_on m fresh) opened ∙ empty fresh
      of (Some d) got = old (Some d) got

  -- a name's chain is its old one, or the new one
  own : (q : Purse) (m : List ℕ) (d : ℕ) → chain' q m ≡ Some d → (chain q m ≡ Some d) ⊎ ((p ≡ q) × (n ≡ m) × (fresh ≡ Some d))
  own q m d got = by_test (same_purse p q && same_name n m)
      (λ e. let parts = both (same_purse p q) (same_name n m) e in of (chain q m) refl (sym (here-are q m e) ∙ got) (purse_is p q parts.0) (name_is n m parts.1))
      (λ e. inl (sym (there-are q m e) ∙ got))
    where
      of : (f : Option ℕ) → chain q m ≡ f → or_else f fresh ≡ Some d → p ≡ q → n ≡ m → (chain q m ≡ Some d) ⊎ ((p ≡ q) × (n ≡ m) × (fresh ≡ Some d))
      of None e is a b = inr (a, b, is)
      of (Some c) e is a b = inl (e ∙ is)

  -- and a chain that was open is an old one
  pub own-old : (q : Purse) (m : List ℕ) (d : ℕ) → chain' q m ≡ Some d → IsOpen chains d → chain q m ≡ Some d
  own-old q m d got open' = of (own q m d got)
    where
      of : (chain q m ≡ Some d) ⊎ ((p ≡ q) × (n ≡ m) × (fresh ≡ Some d)) → chain q m ≡ Some d
      of (inl e) = e
      of (inr e) = absurd (fresh_is_closed chains d (unopened d e.2) open')

  opened-all : (q : Purse) (m : List ℕ) (d : ℕ) → chain' q m ≡ Some d → IsOpen new d
  opened-all q m d got = of (own q m d got)
    where
      of : (chain q m ≡ Some d) ⊎ ((p ≡ q) × (n ≡ m) × (fresh ≡ Some d)) → IsOpen new d
      of (inl e) = still-open d (s.opened q m d e)
      of (inr e) = subst (λ m. IsOpen m d) (sym opened) (subst (λ f. IsOpen (with_chain chains f) d) (sym e.2) (open_here chains d []))

  apart-all : (q o : Purse) (m k : List ℕ) (d : ℕ) → chain' q m ≡ Some d → chain' o k ≡ Some d → (q ≡ o) × (m ≡ k)
  apart-all q o m k d got has = of (own q m d got) (own o k d has)
    where
      of : (chain q m ≡ Some d) ⊎ ((p ≡ q) × (n ≡ m) × (fresh ≡ Some d)) → (chain o k ≡ Some d) ⊎ ((p ≡ o) × (n ≡ k) × (fresh ≡ Some d)) → (q ≡ o) × (m ≡ k)
      of (inl a) (inl b) = s.apart q o m k d a b
      of (inl a) (inr b) = absurd (fresh_is_closed chains d (unopened d b.2) (s.opened q m d a))
      of (inr a) (inl b) = absurd (fresh_is_closed chains d (unopened d a.2) (s.opened o k d b))
      of (inr a) (inr b) = (sym a.0 ∙ b.0, sym a.1 ∙ b.1)

  module _ (names' : Purse → List (List ℕ)) (names-are : (q : Purse) (test : List ℕ → Bool) → (same_purse p q ≡ true → chain p n ≡ None → test n ≡ false) → filter test (names' q) ≡ filter test (names q)) where
    -- the names that have bindings, and a test that fails without any
    pub names-kept : (test : List Version → Bool) → test [] ≡ false → (q : Purse) → filter (λ m. test (items_on new (chain' q m))) (names' q) ≡ filter (λ m. test (items_on chains (chain q m))) (names q)
    names-kept test none q =
        ap (λ f. filter f (names' q)) (λ i m. test (bindings-kept q m i))
        ∙ names-are q (λ m. test (items_on chains (chain q m))) (λ e f. ap (λ x. test (items_on chains (chain x n))) (sym (purse_is p q e)) ∙ ap (λ x. test (items_on chains x)) f ∙ none)

    -- the table stands
    pub holds-opened : (serials' : Purse → List ℕ) → ((q : Purse) (m : List ℕ) → is_some (chain' q m) ≡ list_any (same_name m) (names' q)) → ((q : Purse) → IsStrictlySortedBy name_cmp (names' q)) → ((q : Purse) → serials' q ≡ serials q) → HoldsFor new chain' names' serials'
    holds-opened serials' named sorted same = record {
      opened = opened-all;
      timely = λ q m. subst IsTimely (sym (bindings-kept q m)) (s.timely q m);
      apart = apart-all;
      named = named;
      sorted = sorted;
      known = λ q test. ap (count_by test) (same q) ∙ s.known q test
          ∙ sym (length-filter (λ m. passes test (serial_now (items_on chains (chain q m)))) (names q))
          ∙ ap length (sym (names-kept (λ vs. passes test (serial_now vs)) refl q))
          ∙ length-filter (λ m. passes test (serial_now (items_on new (chain' q m)))) (names' q);
    }
