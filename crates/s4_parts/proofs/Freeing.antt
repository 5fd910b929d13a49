-- The oldest binding of a name is freed, and a name without bindings gives up its chain.
use Rattle.std.proofs.Common.{◌≡◌, ℕ, ◌+◌, Bool, true, false, cond, Option, Some, None, List, [], ◌∷◌, refl, sym, ◌∙◌, ap, subst, filter, length, drop}
use Rattle.std.specs.Prelude.{◌&&◌, ◌==◌, is_some, count_by, if◌then◌else◌}
use Rattle.std.specs.List.{list_any}
use Rattle.std.specs.List.Sorted.{IsStrictlySortedBy}
use Rattle.std.specs.Ordering.{is_eq}
use Rattle.std.specs.Option.{option_map}
use Rattle.std.specs.FinMap as finmap
use Rattle.std.specs.BTreeMap.{get, keys}
use Rattle.std.proofs.lemmas.Bool.{eqb-true, eq-eqb}
use Rattle.std.proofs.lemmas.List.Sums.{length-filter}
use Rattle.s4_parts.specs.Table.{IsTimely}
use Rattle.s4_parts.proofs.Beginning.{timely_rest}
use Rattle.s4_types.specs.declared.object.Purse.{Purse}
use Rattle.s4_types.specs.declared.version.Version.{Version}
use Rattle.s4_types.specs.Names.{same_purse, purse_cmp}
use Rattle.s4_types.specs.Name.{same_name, name_cmp}
use Rattle.s4_types.proofs.Booleans.{by_test, both, not_both}
use Rattle.s4_types.proofs.SameNames.{purse_is, purse_self, name_is, name_self}
use Rattle.s4_store.specs.Chains.{Chains, items_of, IsOpen}
use Rattle.s4_store.specs.Laws.{items_here, items_elsewhere, open_still, items_elsewhere-remove, open_elsewhere-remove}
use Rattle.s4_parts.specs.declared.parts.Parts.{Parts}
use Rattle.s4_parts.specs.declared.shelf.Shelf.{Shelf}
use Rattle.s4_parts.specs.Table.{shelf_of, chain_at, chain_on, names_on, serials_on, items_on, bindings_in, names_in, is_any, serial_now, passes, HoldsFor, Holds, IsForeign, KeepsForeign, LeavesNoChain, GivesUpEmpty}
use Rattle.s4_parts.specs.Shelf.{KeepsName, GivesUp, Frees}
use Rattle.s4_types.proofs.Ordered.{tally, filter-twice}
use Rattle.s4_parts.proofs.Shelving.{alike, shelf-here, shelf-there, found-at, named-on}
use Rattle.s4_parts.proofs.Leaving.{open-changed, open-removed}
use Rattle.s4_parts.proofs.Standing.{changed-at, holds-changed}
use Rattle.s4_parts.proofs.Rebinding.{moved}

pub any-drop : (vs : List Version) → is_any vs ≡ false → is_any (drop 1 vs) ≡ false
any-drop [] e = refl
any-drop (v ∷ vs) e = cc

none-left : (vs : List Version) → is_any vs ≡ false → vs ≡ []
none-left [] e = refl
none-left (v ∷ vs) e = cc

some_is : (x y : ℕ) → Some x ≡ Some y → x ≡ y
some_is x y e = cc

-- A CHAIN WITHOUT BINDINGS IS CLOSED

module _ {chains : Chains Version} {chain : Purse → List ℕ → Option ℕ} {names : Purse → List (List ℕ)} {serials : Purse → List ℕ} (s : HoldsFor chains chain names serials)
    (p : Purse) (n : List ℕ) (c : ℕ) (has : chain p n ≡ Some c) (empty : items_of chains c ≡ []) (new : Chains Version) (closed : new ≡ finmap.remove chains c)
    (chain' : Purse → List ℕ → Option ℕ) (chains-are : (q : Purse) (m : List ℕ) → chain' q m ≡ (if same_purse p q && same_name n m then None else chain q m)) where
  there-are : (q : Purse) (m : List ℕ) → (same_purse p q && same_name n m) ≡ false → chain' q m ≡ chain q m
  there-are q m e = chains-are q m ∙ ap (λ b. if b then None else chain q m) e

  none-here : (q : Purse) (m : List ℕ) → (same_purse p q && same_name n m) ≡ true → chain' q m ≡ None
  none-here q m e = chains-are q m ∙ ap (λ b. if b then None else chain q m) e

  here-was : (q : Purse) (m : List ℕ) → (same_purse p q && same_name n m) ≡ true → chain q m ≡ Some c
  here-was q m e =
      let parts = both (same_purse p q) (same_name n m) e in
      subst (λ x. chain x m ≡ Some c) (purse_is p q parts.0) (subst (λ y. chain p y ≡ Some c) (name_is n m parts.1) has)

  -- another name has another chain
  differs : (q : Purse) (m : List ℕ) (d : ℕ) → (same_purse p q && same_name n m) ≡ false → chain q m ≡ Some d → (d == c) ≡ false
  differs q m d e got = by_test (d == c)
      (λ same. let one = s.apart p q n m c has (got ∙ ap (λ x. Some x) (eqb-true d c same)) in
      absurd (not_both _ (subst (λ x. (same_purse p x && same_name n m) ≡ true) one.0 (subst (λ y. (same_purse p p && same_name n y) ≡ true) one.1 (rw (purse_self p, name_self n) refl))) e))
      (λ other. other)

  pub own-closed : (q : Purse) (m : List ℕ) (d : ℕ) → chain' q m ≡ Some d → chain q m ≡ Some d
  own-closed q m d got = by_test (same_purse p q && same_name n m)
      (λ e. let none : None ≡ Some d = sym (none-here q m e) ∙ got in cc)
      (λ e. sym (there-are q m e) ∙ got)

  opened-closed : (q : Purse) (m : List ℕ) (d : ℕ) → chain' q m ≡ Some d → IsOpen new d
  opened-closed q m d got = by_test (same_purse p q && same_name n m)
      (λ e. let none : None ≡ Some d = sym (none-here q m e) ∙ got in cc)
      (λ e. let was : chain q m ≡ Some d = sym (there-are q m e) ∙ got in
      subst (λ x. IsOpen x d) (sym closed) (open_elsewhere-remove chains c d (differs q m d e was) (s.opened q m d was)))

  -- each name keeps its bindings
  pub bindings-closed : (q : Purse) (m : List ℕ) → items_on new (chain' q m) ≡ items_on chains (chain q m)
  bindings-closed q m = by_test (same_purse p q && same_name n m)
      (λ e. ap (items_on new) (none-here q m e) ∙ sym (ap (items_on chains) (here-was q m e) ∙ empty))
      (λ e. ap (items_on new) (there-are q m e) ∙ of e (chain q m) refl)
    where
      of : (same_purse p q && same_name n m) ≡ false → (f : Option ℕ) → chain q m ≡ f → items_on new f ≡ items_on chains f
      of e None got = refl
      of e (Some d) got = ap (λ x. items_of x d) closed ∙ items_elsewhere-remove chains c d (differs q m d e got)

  module _ (names' : Purse → List (List ℕ)) (names-are : (q : Purse) (test : List ℕ → Bool) → (same_purse p q ≡ true → test n ≡ false) → filter test (names' q) ≡ filter test (names q)) where
    pub names-closed : (test : List Version → Bool) → test [] ≡ false → (q : Purse) → filter (λ m. test (items_on new (chain' q m))) (names' q) ≡ filter (λ m. test (items_on chains (chain q m))) (names q)
    names-closed test none q =
        ap (λ f. filter f (names' q)) (λ i m. test (bindings-closed q m i))
        ∙ names-are q (λ m. test (items_on chains (chain q m))) (λ e. ap (λ x. test (items_on chains x)) (here-was q n (rw (e, name_self n) refl)) ∙ ap test empty ∙ none)

    pub holds-closed : (serials' : Purse → List ℕ) → ((q : Purse) (m : List ℕ) → is_some (chain' q m) ≡ list_any (same_name m) (names' q)) → ((q : Purse) → IsStrictlySortedBy name_cmp (names' q)) → ((q : Purse) → serials' q ≡ serials q) → HoldsFor new chain' names' serials'
    holds-closed serials' named sorted same = record {
      opened = opened-closed;
      timely = λ q m. subst IsTimely (sym (bindings-closed q m)) (s.timely q m);
      apart = λ q o m k d got other. s.apart q o m k d (own-closed q m d got) (own-closed o k d other);
      named = named;
      sorted = sorted;
      known = λ q test. ap (count_by test) (same q) ∙ s.known q test
          ∙ sym (length-filter (λ m. passes test (serial_now (items_on chains (chain q m)))) (names q))
          ∙ ap length (sym (names-closed (λ vs. passes test (serial_now vs)) refl q))
          ∙ length-filter (λ m. passes test (serial_now (items_on new (chain' q m)))) (names' q);
    }

-- THE OLDEST BINDING OF A NAME IS FREED

module _ (chains new : Chains Version) (before after : Parts) (s : Holds chains before) (purse : Purse) (name : List ℕ) (shelf w : Shelf) (found : shelf_of before purse ≡ Some shelf)
    (replaced : (q : Purse) → shelf_of after q ≡ cond (is_eq (purse_cmp purse q)) (Some w) (shelf_of before q)) (g : Frees chains new shelf w name)
    (ended : serial_now (drop 1 (bindings_in chains before purse name)) ≡ serial_now (bindings_in chains before purse name)) where
  abbrev left : List Version
  left = drop 1 (items_of chains g.chain)

  abbrev mid : Chains Version
  mid = finmap.insert chains g.chain left

  has : chain_at before purse name ≡ Some g.chain
  has = ap (λ x. chain_on x name) found ∙ g.found

  old-here : bindings_in chains before purse name ≡ items_of chains g.chain
  old-here = ap (items_on chains) has

  -- the bindings of each name, once the oldest one of this name is gone
  bindings-mid : (q : Purse) (m : List ℕ) → bindings_in mid before q m ≡ (if same_purse purse q && same_name name m then drop 1 (bindings_in chains before q m) else bindings_in chains before q m)
  bindings-mid q m =
      changed-at s purse name g.chain has left mid refl q m ∙ by_test (same_purse purse q && same_name name m)
      (λ e. let parts = both (same_purse purse q) (same_name name m) e in
      ap (λ b. if b then left else bindings_in chains before q m) e
      ∙ ap (drop 1) (sym old-here ∙ ap (λ x. bindings_in chains before x name) (purse_is purse q parts.0) ∙ ap (bindings_in chains before q) (name_is name m parts.1))
      ∙ sym (ap (λ b. if b then drop 1 (bindings_in chains before q m) else bindings_in chains before q m) e))
      (λ e. ap (λ b. if b then left else bindings_in chains before q m) e ∙ sym (ap (λ b. if b then drop 1 (bindings_in chains before q m) else bindings_in chains before q m) e))

  holds-mid : Holds mid before
  holds-mid = holds-changed s purse name g.chain has left mid refl (λ q. serials_on (shelf_of before q))
      (λ test. ap (λ x. count_by test (serials_on (shelf_of before purse)) + tally (passes test x)) (sym ended ∙ ap (λ vs. serial_now (drop 1 vs)) old-here))
      (λ q e. refl)
      (timely_rest (items_of chains g.chain) (subst IsTimely old-here (s.timely purse name)))

  serials-own : (q : Purse) → serials_on (shelf_of after q) ≡ serials_on (shelf_of before q)
  serials-own q = alike before after purse shelf w found replaced serials_on g.serials q

  -- where bindings are left
  module _ (k : KeepsName chains new shelf w g.chain left) where
    own-kept : (q : Purse) (m : List ℕ) → chain_at after q m ≡ chain_at before q m
    own-kept q m = alike before after purse shelf w found replaced (λ x. chain_on x m) (ap (λ t. option_map (λ r. r.chain) (get name_cmp t m)) k.tracks) q

    names-kept : (q : Purse) → names_on (shelf_of after q) ≡ names_on (shelf_of before q)
    names-kept q = alike before after purse shelf w found replaced names_on (ap (λ t. keys t) k.tracks) q

    kept-holds : Holds new after
    kept-holds = subst (λ x. Holds x after) (sym k.chains)
        (moved mid (chain_at before) (chain_at after) (λ q. names_on (shelf_of before q)) (λ q. names_on (shelf_of after q)) (λ q. serials_on (shelf_of before q)) (λ q. serials_on (shelf_of after q)) own-kept names-kept serials-own holds-mid)

    kept-bindings : (q : Purse) (m : List ℕ) → bindings_in new after q m ≡ bindings_in mid before q m
    kept-bindings q m = ap (items_on new) (own-kept q m) ∙ ap (λ x. items_on x (chain_at before q m)) k.chains

    kept-names : (q : Purse) → names_in new after q ≡ names_in mid before q
    kept-names q = λ i. filter (λ m. is_any (kept-bindings q m i)) (names-kept q i)

    kept-others : (d : ℕ) → IsOpen chains d → (d == g.chain) ≡ false → IsOpen new d × (items_of new d ≡ items_of chains d)
    kept-others d open' e = (subst (λ x. IsOpen x d) (sym k.chains) (open_still chains g.chain d left open'), ap (λ x. items_of x d) k.chains ∙ items_elsewhere chains g.chain d left e)

    kept-leaves : LeavesNoChain chains new before after
    kept-leaves d open' foreign = (
      open-changed chains g.chain left (s.opened purse name g.chain has) d (subst (λ x. IsOpen x d) k.chains open'),
      λ q m got. foreign q m (own-kept q m ∙ got),
    )

  -- where none is left
  module _ (k : GivesUp chains new shelf w name g.chain) (none : is_any left ≡ false) where
    closed : new ≡ finmap.remove mid g.chain
    closed = k.chains ∙ ap (λ vs. finmap.remove (finmap.insert chains g.chain vs) g.chain) (sym (none-left left none))

    empty : items_of mid g.chain ≡ []
    empty = items_here chains g.chain left ∙ none-left left none

    chains-gone : (q : Purse) (m : List ℕ) → chain_at after q m ≡ (if same_purse purse q && same_name name m then None else chain_at before q m)
    chains-gone q m = by_test (same_purse purse q)
        (λ e. ap (λ x. chain_on x m) (shelf-here before after purse shelf w found replaced q e) ∙ k.gone m
        ∙ ap (λ x. if same_name name m then None else chain_on x m) (sym (found-at before after purse shelf w found replaced q e))
        ∙ sym (ap (λ b. if b && same_name name m then None else chain_at before q m) e))
        (λ e. ap (λ x. chain_on x m) (shelf-there before after purse shelf w found replaced q e) ∙ sym (ap (λ b. if b && same_name name m then None else chain_at before q m) e))

    names-gone : (q : Purse) (test : List ℕ → Bool) → (same_purse purse q ≡ true → test name ≡ false) → filter test (names_on (shelf_of after q)) ≡ filter test (names_on (shelf_of before q))
    names-gone q test fails = by_test (same_purse purse q)
        (λ e. ap (λ x. filter test (names_on x)) (shelf-here before after purse shelf w found replaced q e) ∙ k.names test (fails e) ∙ sym (ap (λ x. filter test (names_on x)) (found-at before after purse shelf w found replaced q e)))
        (λ e. ap (λ x. filter test (names_on x)) (shelf-there before after purse shelf w found replaced q e))

    sorted-gone : (q : Purse) → IsStrictlySortedBy name_cmp (names_on (shelf_of after q))
    sorted-gone q = by_test (same_purse purse q)
        (λ e. subst (λ x. IsStrictlySortedBy name_cmp (names_on x)) (sym (shelf-here before after purse shelf w found replaced q e)) k.sorted)
        (λ e. subst (λ x. IsStrictlySortedBy name_cmp (names_on x)) (sym (shelf-there before after purse shelf w found replaced q e)) (s.sorted q))

    gone-holds : Holds new after
    gone-holds = holds-closed holds-mid purse name g.chain has empty new closed (chain_at after) chains-gone (λ q. names_on (shelf_of after q)) names-gone (λ q. serials_on (shelf_of after q))
        (λ q m. named-on (shelf_of after q) m) sorted-gone serials-own

    gone-bindings : (q : Purse) (m : List ℕ) → bindings_in new after q m ≡ bindings_in mid before q m
    gone-bindings q m = bindings-closed holds-mid purse name g.chain has empty new closed (chain_at after) chains-gone q m

    gone-names : (q : Purse) → names_in new after q ≡ names_in mid before q
    gone-names q = names-closed holds-mid purse name g.chain has empty new closed (chain_at after) chains-gone (λ x. names_on (shelf_of after x)) names-gone is_any refl q

    gone-own : (q : Purse) (m : List ℕ) (d : ℕ) → chain_at after q m ≡ Some d → chain_at before q m ≡ Some d
    gone-own q m d got = own-closed holds-mid purse name g.chain has empty new closed (chain_at after) chains-gone q m d got

    gone-others : (d : ℕ) → IsOpen chains d → (d == g.chain) ≡ false → IsOpen new d × (items_of new d ≡ items_of chains d)
    gone-others d open' e = (
      subst (λ x. IsOpen x d) (sym closed) (open_elsewhere-remove mid g.chain d e (open_still chains g.chain d left open')),
      ap (λ x. items_of x d) closed ∙ items_elsewhere-remove mid g.chain d e ∙ items_elsewhere chains g.chain d left e,
    )

    gone-leaves : LeavesNoChain chains new before after
    gone-leaves d open' foreign =
        let was = open-removed mid g.chain d (subst (λ x. IsOpen x d) closed open') in (
          open-changed chains g.chain left (s.opened purse name g.chain has) d was.1,
          λ q m got. by_test (same_purse purse q && same_name name m)
              (λ e. let parts = both (same_purse purse q) (same_name name m) e in
              let here : chain_at before q m ≡ Some g.chain = subst (λ x. chain_at before x m ≡ Some g.chain) (purse_is purse q parts.0) (subst (λ y. chain_at before purse y ≡ Some g.chain) (name_is name m parts.1) has) in
              let same : d ≡ g.chain = some_is d g.chain (sym got ∙ here) in
              absurd (not_both (d == g.chain) (eq-eqb d g.chain same) was.0))
              (λ e. foreign q m (chains-gone q m ∙ ap (λ b. if b then None else chain_at before q m) e ∙ got)),
        )

  pub freed-leaves : LeavesNoChain chains new before after
  freed-leaves = by_test (is_any left) (λ e. kept-leaves (g.kept e)) (λ e. gone-leaves (g.given e) e)

  pub freed-holds : Holds new after
  freed-holds = by_test (is_any left) (λ e. kept-holds (g.kept e)) (λ e. gone-holds (g.given e) e)

  freed-mid : (q : Purse) (m : List ℕ) → bindings_in new after q m ≡ bindings_in mid before q m
  freed-mid q m = by_test (is_any left) (λ e. kept-bindings (g.kept e) q m) (λ e. gone-bindings (g.given e) e q m)

  pub freed-bindings : (q : Purse) (m : List ℕ) → bindings_in new after q m ≡ (if same_purse purse q && same_name name m then drop 1 (bindings_in chains before q m) else bindings_in chains before q m)
  freed-bindings q m = freed-mid q m ∙ bindings-mid q m

  freed-none : (q : Purse) (m : List ℕ) → is_any (bindings_in chains before q m) ≡ false → is_any (bindings_in new after q m) ≡ false
  freed-none q m none = ap is_any (freed-bindings q m) ∙ by_test (same_purse purse q && same_name name m)
      (λ e. ap (λ b. is_any (if b then drop 1 (bindings_in chains before q m) else bindings_in chains before q m)) e ∙ any-drop (bindings_in chains before q m) none)
      (λ e. ap (λ b. is_any (if b then drop 1 (bindings_in chains before q m) else bindings_in chains before q m)) e ∙ none)

  pub freed-names : (q : Purse) → names_in new after q ≡ filter (λ m. is_any (bindings_in new after q m)) (names_in chains before q)
  freed-names q =
      by_test (is_any left) (λ e. kept-names (g.kept e) q) (λ e. gone-names (g.given e) e q)
      ∙ ap (λ f. filter f (names_on (shelf_of before q))) (λ i m. is_any (sym (freed-mid q m) i))
      ∙ sym (filter-twice (λ m. is_any (bindings_in new after q m)) (λ m. is_any (bindings_in chains before q m)) (names_on (shelf_of before q)) (freed-none q))

  pub freed-own : (q : Purse) (m : List ℕ) (d : ℕ) → chain_at after q m ≡ Some d → chain_at before q m ≡ Some d
  freed-own q m d got = by_test (is_any left) (λ e. sym (own-kept (g.kept e) q m) ∙ got) (λ e. gone-own (g.given e) e q m d got)

  -- a name without bindings left has no chain
  pub freed-empty : GivesUpEmpty chains new before after
  freed-empty q m had there = ap is_any (freed-bindings q m) ∙ by_test (same_purse purse q && same_name name m)
      (λ e. ap (λ b. is_any (if b then drop 1 (bindings_in chains before q m) else bindings_in chains before q m)) e
      ∙ (let parts = both (same_purse purse q) (same_name name m) e in
      subst (λ x. is_any (drop 1 (bindings_in chains before x m)) ≡ true) (purse_is purse q parts.0) (subst (λ y. is_any (drop 1 (bindings_in chains before purse y)) ≡ true) (name_is name m parts.1)
      (ap (λ vs. is_any (drop 1 vs)) old-here ∙ by_test (is_any left) (λ f. f) (λ f. absurd (not_both _ there (ap is_some (chains-gone (g.given f) f q m ∙ ap (λ b. if b then None else chain_at before q m) e)))))))
      )
      (λ e. ap (λ b. is_any (if b then drop 1 (bindings_in chains before q m) else bindings_in chains before q m)) e ∙ had)

  foreign-differs : (d : ℕ) → IsForeign before d → (d == g.chain) ≡ false
  foreign-differs d foreign = by_test (d == g.chain)
      (λ e. absurd (foreign purse name (has ∙ ap (λ x. Some x) (sym (eqb-true d g.chain e)))))
      (λ e. e)

  others : (d : ℕ) → IsOpen chains d → IsForeign before d → IsOpen new d × (items_of new d ≡ items_of chains d)
  others d open' foreign = by_test (is_any left)
      (λ e. kept-others (g.kept e) d open' (foreign-differs d foreign))
      (λ e. gone-others (g.given e) e d open' (foreign-differs d foreign))

  pub freed-others : KeepsForeign chains new before
  freed-others = record { still = λ d open' foreign. (others d open' foreign).0; items = λ d open' foreign. (others d open' foreign).1 }
