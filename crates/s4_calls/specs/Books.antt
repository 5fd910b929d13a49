-- The books of cells, and their readers.
use Rattle.std.specs.Prelude.{◌≡◌, ℕ, ◌+◌, ◌<◌, List, [], ◌∷◌, ◌++◌, length, slice_index_or}
use Rattle.s4_calls.specs.declared.hand.Hand.{Hand}
use Rattle.s4_calls.specs.declared.hand.Noted.{Noted}
use Rattle.s4_calls.specs.Hands.{of_cell, with_call, place_in}
use Rattle.s4_calls.specs.Tokens.{IsRow}

-- the cell's number, and all items that were ever recorded there
pub record BookState (T : Type 0) : Type 0 where
  pub cell : ℕ
  pub items : List T

-- the cell's number, and what the reader knows of it
pub record ReaderState (T : Type 0) : Type 0 where
  pub cell : ℕ
  pub items : List T

module _ {T : Type 0} where
  -- what the first hand recorded
  abbrev pub items_by : List (Hand T) → List T
  items_by [] = []
  items_by (h ∷ hands) = h.items

  -- a call more by the first hand
  abbrev pub with_call_of : Noted T → List (Hand T) → List (Hand T)
  with_call_of call [] = []
  with_call_of call (h ∷ hands) = with_call call h ∷ hands

  -- the books are those of the cells from 0 on, and from this one on
  abbrev pub AreInOrder : List (BookState T) → Type 0
  AreInOrder books = (k : ℕ) (none : BookState T) → k < length books → (slice_index_or books k none).cell ≡ k

  abbrev pub AreFrom : ℕ → List (BookState T) → Type 0
  AreFrom cell books = (k : ℕ) (none : BookState T) → k < length books → (slice_index_or books k none).cell ≡ cell + k

  -- the books are those of the last of n cells, and these hands have taken in the others
  pub record AreLast (n : ℕ) (books : List (BookState T)) (hands : List (Hand T)) : Type 0 where
    pub before : ℕ
    pub all : before + length books ≡ n
    pub order : AreFrom before books
    pub row : IsRow before hands

  -- each book has the item more
  abbrev pub all_with : T → List (BookState T) → List (BookState T)
  all_with x [] = []
  all_with x (b ∷ books) = record { cell = b.cell; items = b.items ++ x ∷ [] } ∷ all_with x books

  -- how many items the first book has, or this number where there is none
  abbrev pub first_count : ℕ → List (BookState T) → ℕ
  first_count place [] = place
  first_count place (b ∷ books) = length b.items

  -- what one knows who took in the books
  abbrev pub with_books : List (BookState T) → List (Hand T) → List (Hand T)
  with_books [] hands = hands
  with_books (b ∷ books) hands = with_books books (of_cell b.cell b.items ∷ hands)

  -- the place of a wide item in the first cell, for one who took in the books of the cells before these
  abbrev pub wide_place : List (BookState T) → List (Hand T) → ℕ
  wide_place books hands = place_in 0 (with_books books hands)
