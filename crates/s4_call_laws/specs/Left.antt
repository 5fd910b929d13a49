-- One log of all that several cells ever had, and what is left once each of them was cut at one moment.
use Rattle.std.specs.Prelude.{◌≡◌, ℕ, ◌<◌, ◌==◌, nat_le, false, cond, List, [], ◌∷◌, ◌++◌, filter, slice_get, Some}
use Rattle.s4_types.specs.declared.record.Record.{Record}
use Rattle.s4_types.specs.Base.{opened}
use Rattle.s4_types.specs.Audit.{is_wide_record}
use Rattle.s4_types.specs.Play.{play, InOrder}
use Rattle.s4_types.specs.Strike.{strike, records_of}
use Rattle.s4_cuts.specs.Cut.{before, since}
use Rattle.s4_merge_laws.specs.Cells.{records_in, requests_in, IsPlain}
use Rattle.s4_calls.specs.declared.hand.Noted.{Noted}

-- what each of n cells ever had is plain, and its moments never go down; and the second list is what the cut left of them, merged
pub record AreLeftOf (window n cut : ℕ) (log left : List Record) : Type 0 where
  pub plain : (k : ℕ) → k < n → IsPlain (opened window) (records_in n k log)
  pub rises : (k : ℕ) → k < n → InOrder 0 (records_in n k log)
  pub merge : (k : ℕ) → k < n → records_in n k left ≡ since cut (records_in n k log)

-- the records with this one, before the first whose moment isn't below its own
abbrev pub insert_record : Record → List Record → List Record
insert_record r [] = r ∷ []
insert_record r (x ∷ xs) = cond (nat_le r.moment x.moment) (r ∷ x ∷ xs) (x ∷ insert_record r xs)

-- the records by moment; those of one moment keep their order
abbrev pub by_moment : List Record → List Record
by_moment [] = []
by_moment (r ∷ h) = insert_record r (by_moment h)

-- what went, by moment, and then what is left
abbrev pub whole : ℕ → List Record → List Record → List Record
whole cut log left = by_moment (before cut log) ++ left

-- it has of each cell all that it ever had, is the plain log of its own requests, and shows no principal what its strangers do.
-- Its moments never go down if those of what is left don't
pub record IsOneLog (window n cut : ℕ) (log left : List Record) : Type 0 where
  pub cells : (k : ℕ) → k < n → records_in n k (whole cut log left) ≡ records_in n k log
  pub plain : IsPlain (opened window) (whole cut log left)
  pub isolated : (who : ℕ) → (who == 0) ≡ false
      → records_of who (play (opened window) (strike who (requests_in (whole cut log left)))) ≡ records_of who (whole cut log left)
  pub rises : InOrder 0 left → InOrder 0 (whole cut log left)

-- what the cut leaves of the cell of that number
abbrev pub left_in : ℕ → ℕ → ℕ → List Record → List Record
left_in n cut k log = since cut (records_in n k log)

-- what is left of each cell is of that cell, and has the wide records of the first
pub record BelongTogether (n cut : ℕ) (log : List Record) : Type 0 where
  pub home : (k : ℕ) → records_in n k (left_in n cut k log) ≡ left_in n cut k log
  pub wides : (k : ℕ) → filter is_wide_record (left_in n cut k log) ≡ filter is_wide_record (left_in n cut 0 log)

-- the record of each call stands at its place in its cell
abbrev pub HaveRecords : ℕ → List Record → List (Noted Record) → Type 0
HaveRecords n all calls = (i : ℕ) (c : Noted Record) → slice_get calls i ≡ Some c → slice_get (records_in n c.cell all) c.place ≡ Some c.item
