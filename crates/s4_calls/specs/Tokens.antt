-- What is seen of a token.
use Rattle.std.specs.Prelude.{◌≡◌, ℕ, zero, suc, ◌<◌, ◌%◌, Bool, false, List, [], ◌∷◌, ⊤, Option, None, Some}
use Rattle.atomic_table.specs.Seated.{TableId}
use Rattle.s4_calls.specs.declared.hand.Hand.{Hand}
use Rattle.s4_calls.specs.Logs.{IsPrefix}

-- stands where no front is named
abbrev pub no_ledger : TableId
no_ledger = record { words = 0; slots = 0; views_name = 0; atom = 0; block = 0; offset = 0; slot_names = [] }

-- the ledger that it is of, and what it knows, the hand that was taken in last first
pub record Known (T : Type 0) : Type 0 where
  pub ledger : TableId
  pub hands : List (Hand T)

module _ {T : Type 0} where
  -- the first hand has parts enough to be cut; for a cell it has a share, and nothing recorded
  abbrev pub CanCutCell : List (Hand T) → Type 0
  CanCutCell [] = ⊥
  CanCutCell (h ∷ hands) = (1 < h.parts) × (0 < h.shares) × (h.items ≡ [])

  abbrev pub CanCutPass : List (Hand T) → Type 0
  CanCutPass [] = ⊥
  CanCutPass (h ∷ hands) = 1 < h.parts

  -- the item is an ordinary one of the first hand's cell, of n cells, and there is a second hand
  abbrev pub CanNoteItem : (T → Bool) → (T → ℕ) → ℕ → T → List (Hand T) → Type 0
  CanNoteItem is_wide range n x [] = ⊥
  CanNoteItem is_wide range n x (h ∷ []) = ⊥
  CanNoteItem is_wide range n x (h ∷ caller ∷ hands) = (h.shares ≡ 1) × (is_wide x ≡ false) × (range x % n ≡ h.cell)

  -- so is what is told
  abbrev pub CanNote : (T → Bool) → (T → ℕ) → ℕ → Option T → List (Hand T) → Type 0
  CanNote is_wide range n None hands = ⊤
  CanNote is_wide range n (Some x) hands = CanNoteItem is_wide range n x hands

  -- the hands of so many cells from the first on, the last one first, and then the caller's
  abbrev pub IsRow : ℕ → List (Hand T) → Type 0
  IsRow n [] = ⊥
  IsRow zero (h ∷ hands) = h.shares ≡ 0
  IsRow (suc n) (h ∷ hands) = (h.cell ≡ n) × (h.shares ≡ 1) × IsRow n hands

  -- what is told is an ordinary item, or a wide one
  abbrev pub ToldIs : (T → Bool) → Bool → Option T → Type 0
  ToldIs is_wide wide None = ⊤
  ToldIs is_wide wide (Some x) = is_wide x ≡ wide

  -- the first hand is a cell's, and the second that of a reader of the cell
  abbrev pub CanFollow : List (Hand T) → Type 0
  CanFollow [] = ⊥
  CanFollow (h ∷ []) = ⊥
  CanFollow (h ∷ reader ∷ hands) = (h.shares ≡ 1) × (reader.shares ≡ 0) × (reader.parts ≡ 0) × (reader.cell ≡ h.cell)

  -- what the second hand knows is a beginning of what the first does
  abbrev pub SecondIsPrefix : List (Hand T) → Type 0
  SecondIsPrefix [] = ⊤
  SecondIsPrefix (h ∷ []) = ⊤
  SecondIsPrefix (h ∷ reader ∷ hands) = IsPrefix reader.items h.items
