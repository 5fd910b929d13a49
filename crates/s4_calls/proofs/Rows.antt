-- A token that takes in the books of all cells, one after the other.
use Rattle.std.proofs.Common.{◌≡◌, ℕ, suc, ◌==◌, List, [], ◌∷◌, length, cond, refl, ap, ◌∙◌, subst, arith}
use Rattle.s4_calls.specs.declared.hand.Hand.{Hand}
use Rattle.s4_calls.specs.Logs.{noted}
use Rattle.s4_calls.specs.Hands.{of_cell, with_call, with_item, widen, place_in}
use Rattle.s4_calls.specs.Tokens.{IsRow}
use Rattle.s4_calls.specs.Books.{BookState, AreInOrder, AreLast, first_count, with_books, wide_place, with_call_of}

module _ {T : Type 0} where
  pub begins : (n : ℕ) (books : List (BookState T)) (hands : List (Hand T)) → AreInOrder books → length books ≡ n → IsRow 0 hands → AreLast n books hands
  begins n books hands order all row = record { before = 0; all = omega (arith, all); order = λ k none lt. order k none lt ∙ omega arith; row = row }

  pub goes_on : (n : ℕ) (b : BookState T) (books : List (BookState T)) (hands : List (Hand T)) → AreLast n (b ∷ books) hands → AreLast n books (of_cell b.cell b.items ∷ hands)
  goes_on n b books hands last = record {
    before = suc last.before;
    all = let e = last.all in omega arith;
    order = λ k none lt. last.order (suc k) none (omega (arith, lt)) ∙ omega arith;
    row = (last.order 0 b (omega arith) ∙ omega arith, refl, last.row);
  }

  pub ends : (n : ℕ) (hands : List (Hand T)) → AreLast n [] hands → IsRow n hands
  ends n hands last = subst (λ (m : ℕ). IsRow m hands) (omega (arith, last.all)) last.row

  at_pass : (place : ℕ) (h : Hand T) (hands : List (Hand T)) → h.shares ≡ 0 → place_in place (h ∷ hands) ≡ place
  at_pass place h hands e = ap (λ (n : ℕ). cond (n == 0) place (place_in (length h.items) hands)) e

  -- the place is that of the first book
  place_is : (place : ℕ) (books : List (BookState T)) (hands : List (Hand T)) → place_in place (with_books books hands) ≡ place_in (first_count place books) hands
  place_is place [] hands = refl
  place_is place (b ∷ books) hands = place_is place books (of_cell b.cell b.items ∷ hands) ∙ any (first_count place books)
    where
      any : (p : ℕ) → place_in p (of_cell b.cell b.items ∷ hands) ≡ place_in (length b.items) hands
      any p = refl

  pub all_noted : (x : T) (books : List (BookState T)) (hands : List (Hand T)) → IsRow 0 hands
      → widen (wide_place books hands) x hands ≡ with_call_of (noted 0 (first_count 0 books) x) hands
  all_noted x books [] row = absurd row
  all_noted x books (h ∷ hands) row =
      ap (λ (n : ℕ). cond (n == 0) (with_call (noted 0 place x) h ∷ hands) (with_item x h ∷ widen place x hands)) row
      ∙ ap (λ (p : ℕ). with_call (noted 0 p x) h ∷ hands) (place_is 0 books (h ∷ hands) ∙ at_pass (first_count 0 books) h hands row)
    where
      place : ℕ
      place = wide_place books (h ∷ hands)
