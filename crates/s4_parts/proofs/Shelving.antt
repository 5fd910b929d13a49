-- One shelf of a table was replaced.
use Rattle.std.proofs.Common.{◌≡◌, ℕ, ◌+◌, Bool, true, false, cond, Option, Some, None, List, [], ◌∷◌, ◌++◌, refl, sym, ◌∙◌, ap, subst, arith, filter}
use Rattle.std.specs.Prelude.{◌&&◌, ◌||◌, is_some, count_by, slice_get, if◌then◌else◌}
use Rattle.std.specs.List.{list_any, remove}
use Rattle.std.specs.List.Sorted.{IsStrictlySortedBy}
use Rattle.std.specs.Ordering.{is_eq}
use Rattle.std.specs.Option.{option_map}
use Rattle.std.proofs.lemmas.List.Sums.{sum_by-remove, sum_by-append}
use Rattle.std.proofs.lemmas.Map.Made.{is_some-lookup}
use Rattle.std.proofs.lemmas.Option.{slice_get_within, get_or_from_slice_get}
use Rattle.std.specs.BTreeMap.{get}
use Rattle.s4_types.specs.declared.object.Purse.{Purse}
use Rattle.s4_types.specs.declared.version.Version.{Version}
use Rattle.s4_types.specs.Names.{same_purse, purse_cmp}
use Rattle.s4_types.specs.Name.{same_name, name_cmp}
use Rattle.s4_types.proofs.Booleans.{by_test, ||-true}
use Rattle.s4_types.proofs.SameNames.{purse_is, at_purse, name_is, at_name}
use Rattle.s4_store.specs.Chains.{Chains}
use Rattle.s4_parts.specs.declared.parts.Parts.{Parts}
use Rattle.s4_parts.specs.declared.shelf.Shelf.{Shelf}
use Rattle.s4_parts.specs.Table.{shelf_of, chain_at, chain_on, names_on, serials_on}
use Rattle.s4_parts.specs.Shelf.{or_else, Grows}
use Rattle.s4_types.proofs.Ordered.{tally, count-cons}

-- a name has a chain just where it is among the names
pub named-on : (shelf : Option Shelf) (n : List ℕ) → is_some (chain_on shelf n) ≡ list_any (same_name n) (names_on shelf)
named-on None n = refl
named-on (Some shelf) n =
    of (λ t. t.chain) (get name_cmp shelf.tracks n) ∙ is_some-lookup (λ k. is_eq (name_cmp n k)) shelf.tracks.entries
    ∙ ap (λ f. list_any f (names_on (Some shelf))) (λ i k. at_name n k i)
  where
    of : {A B : Type 0} (f : A → B) (x : Option A) → is_some (option_map f x) ≡ is_some x
    of f None = refl
    of f (Some y) = refl

-- one shelf was put in the place of another
module _ (before after : Parts) (purse : Purse) (shelf new : Shelf) (found : shelf_of before purse ≡ Some shelf) (replaced : (q : Purse) → shelf_of after q ≡ cond (is_eq (purse_cmp purse q)) (Some new) (shelf_of before q)) where
  pub shelf-here : (q : Purse) → same_purse purse q ≡ true → shelf_of after q ≡ Some new
  shelf-here q e = replaced q ∙ ap (λ b. cond b (Some new) (shelf_of before q)) (at_purse purse q ∙ e)

  pub shelf-there : (q : Purse) → same_purse purse q ≡ false → shelf_of after q ≡ shelf_of before q
  shelf-there q e = replaced q ∙ ap (λ b. cond b (Some new) (shelf_of before q)) (at_purse purse q ∙ e)

  pub found-at : (q : Purse) → same_purse purse q ≡ true → shelf_of before q ≡ Some shelf
  found-at q e = ap (shelf_of before) (sym (purse_is purse q e)) ∙ found

  -- what is told of the new one is told of the old one
  pub alike : {A : Type 0} (told : Option Shelf → A) → told (Some new) ≡ told (Some shelf) → (q : Purse) → told (shelf_of after q) ≡ told (shelf_of before q)
  alike told same q = by_test (same_purse purse q)
      (λ e. ap told (shelf-here q e) ∙ same ∙ sym (ap told (found-at q e)))
      (λ e. ap told (shelf-there q e))

  -- a shelf that grew by a name
  pub grown-chains : (old opened : Chains Version) (n : List ℕ) (g : Grows old opened shelf new n) (q : Purse) (m : List ℕ)
      → chain_at after q m ≡ (if same_purse purse q && same_name n m then or_else (chain_at before purse n) g.fresh else chain_at before q m)
  grown-chains old opened n g q m = by_test (same_purse purse q)
      (λ e. ap (λ x. chain_on x m) (shelf-here q e) ∙ g.chains m
      ∙ ap (λ x. if same_name n m then or_else (chain_on (Some shelf) n) g.fresh else chain_on x m) (sym (found-at q e))
      ∙ ap (λ x. if same_name n m then or_else (chain_on x n) g.fresh else chain_at before q m) (sym found)
      ∙ sym (ap (λ b. if b && same_name n m then or_else (chain_at before purse n) g.fresh else chain_at before q m) e))
      (λ e. ap (λ x. chain_on x m) (shelf-there q e) ∙ sym (ap (λ b. if b && same_name n m then or_else (chain_at before purse n) g.fresh else chain_at before q m) e))

  pub grown-names : (old opened : Chains Version) (n : List ℕ) (g : Grows old opened shelf new n) (q : Purse) (test : List ℕ → Bool)
      → (same_purse purse q ≡ true → chain_at before purse n ≡ None → test n ≡ false) → filter test (names_on (shelf_of after q)) ≡ filter test (names_on (shelf_of before q))
  grown-names old opened n g q test fails = by_test (same_purse purse q)
      (λ e. ap (λ x. filter test (names_on x)) (shelf-here q e) ∙ g.names test (λ none. fails e (ap (λ x. chain_on x n) found ∙ none)) ∙ sym (ap (λ x. filter test (names_on x)) (found-at q e)))
      (λ e. ap (λ x. filter test (names_on x)) (shelf-there q e))

  pub grown-sorted : (old opened : Chains Version) (n : List ℕ) (g : Grows old opened shelf new n) → ((q : Purse) → IsStrictlySortedBy name_cmp (names_on (shelf_of before q))) → (q : Purse) → IsStrictlySortedBy name_cmp (names_on (shelf_of after q))
  grown-sorted old opened n g sorted q = by_test (same_purse purse q)
      (λ e. subst (λ x. IsStrictlySortedBy name_cmp (names_on x)) (sym (shelf-here q e)) (g.sorted (subst (λ x. IsStrictlySortedBy name_cmp (names_on x)) (found-at q e) (sorted q))))
      (λ e. subst (λ x. IsStrictlySortedBy name_cmp (names_on x)) (sym (shelf-there q e)) (sorted q))

  pub grown-serials : (old opened : Chains Version) (n : List ℕ) (g : Grows old opened shelf new n) (q : Purse) → serials_on (shelf_of after q) ≡ serials_on (shelf_of before q)
  grown-serials old opened n g q = alike serials_on g.serials q

-- SERIALS

-- one serial more, and one less
pub count-more : (test : ℕ → Bool) (serials : List ℕ) (s : ℕ) → count_by test (serials ++ s ∷ []) ≡ count_by test serials + tally (test s)
count-more test serials s =
    let one : count_by test (s ∷ []) ≡ tally (test s) + count_by test [] = count-cons test s [] in
    let none : count_by test [] ≡ 0 = refl in
    let all : count_by test (serials ++ s ∷ []) ≡ count_by test serials + count_by test (s ∷ []) = sum_by-append (λ y. tally (test y)) serials (s ∷ []) in
    omega arith

pub count-less : (test : ℕ → Bool) (serials : List ℕ) (i s : ℕ) → slice_get serials i ≡ Some s → count_by test (remove serials i) + tally (test s) ≡ count_by test serials
count-less test serials i s e =
    ap (λ y. count_by test (remove serials i) + tally (test y)) (sym (get_or_from_slice_get serials i s s e))
    ∙ sum_by-remove (λ y. tally (test y)) serials i s (slice_get_within serials i s e)

-- NAMES

-- a name that is among others, and a test that it passes
pub any-at : (f : List ℕ → Bool) (n : List ℕ) (ks : List (List ℕ)) → f n ≡ true → list_any (same_name n) ks ≡ true → list_any f ks ≡ true
any-at f n [] e l = cc
any-at f n (k ∷ ks) e l = by_test (same_name n k)
    (λ same. ap (λ b. b || list_any f ks) (ap f (sym (name_is n k same)) ∙ e))
    (λ other. ap (λ b. f k || b) (any-at f n ks e (sym (ap (λ b. b || list_any (same_name n) ks) other) ∙ l)) ∙ ||-true (f k))

-- A SHELF WITHOUT NAMES

module _ (before after : Parts) (purse : Purse) (empty : Shelf) (none : shelf_of before purse ≡ None) (inserted : (q : Purse) → shelf_of after q ≡ cond (is_eq (purse_cmp purse q)) (Some empty) (shelf_of before q)) where
  pub shelved : {A : Type 0} (told : Option Shelf → A) → told (Some empty) ≡ told None → (q : Purse) → told (shelf_of after q) ≡ told (shelf_of before q)
  shelved told same q = by_test (same_purse purse q)
      (λ e. ap told (inserted q ∙ ap (λ b. cond b (Some empty) (shelf_of before q)) (at_purse purse q ∙ e)) ∙ same
      ∙ sym (ap told (ap (shelf_of before) (sym (purse_is purse q e)) ∙ none)))
      (λ e. ap told (inserted q ∙ ap (λ b. cond b (Some empty) (shelf_of before q)) (at_purse purse q ∙ e)))
