-- What is known of the books beside the cells, and of what is left of a ledger's parts.
use Rattle.std.specs.Prelude.{◌≡◌, ℕ, ◌-◌, ◌<◌, List, [], ◌∷◌, length, slice_index_or}
use Rattle.s4_types.specs.declared.record.Record.{Record}
use Rattle.s4_types.specs.Log.{Log}
use Rattle.s4_calls.specs.declared.hand.Hand.{Hand}
use Rattle.s4_calls.specs.Books.{BookState}
use Rattle.s4_calls.specs.Hands.{hand}

-- each book has all records that its cell ever had
abbrev pub AreKept : List (BookState Record) → List Log → Type 0
AreKept books cells = (k : ℕ) (book : BookState Record) (cell : Log) → k < length books → k < length cells
    → (slice_index_or books k book).items ≡ (slice_index_or cells k cell).history

-- what is left of a ledger's parts once so many cells and passes have theirs, and knows nothing
abbrev pub IsRest : ℕ → ℕ → List (Hand Record) → Type 0
IsRest cells passes hands = hands ≡ hand (64 - cells - passes) 0 cells [] [] ∷ []
