-- What a closing says: one log of all calls that there ever were, and one history of all records, of which no premise is made: whatever was cut.
use Rattle.std.specs.Prelude.{◌≡◌, ℕ, ◌<◌, ◌==◌, ◌||◌, Bool, false, List, [], ◌∷◌, length, count_by, slice_get, slice_index_or, Some, IsPermutation}
use Rattle.s4_types.specs.declared.record.Record.{Record}
use Rattle.s4_types.specs.Audit.{is_wide_record}
use Rattle.s4_types.specs.Base.{opened}
use Rattle.s4_types.specs.Kinds.{range_of}
use Rattle.s4_types.specs.Play.{replies, InOrder}
use Rattle.s4_types.specs.Strike.{records_of}
use Rattle.s4_types.specs.Log.{Log}
use Rattle.s4_merge_laws.specs.Cells.{records_in, requests_in, IsPlain}
use Rattle.s4_drive.specs.Step.{replies_without_strangers}
use Rattle.s4_cells.specs.Counts.{count_of}
use Rattle.s4_calls.specs.declared.hand.Noted.{Noted}
use Rattle.s4_calls.specs.Hands.{flat}
use Rattle.s4_calls.specs.Logs.{ArePlaced, IsSublist, StandInCells, items_of}
use Rattle.s4_call_laws.specs.Left.{HaveRecords, whole}
use Rattle.s4_passes.specs.Calls.{AllKeepLast, CallList}
use Rattle.s4_closing.specs.Merged.{IsMergeOf, gone}

-- no record of any cell went
abbrev pub NoneWent : List Log → Type 0
NoneWent cells = (k : ℕ) (d : Log) → k < length cells → gone (slice_index_or cells k d) ≡ 0

-- CALLS

-- the number of the record's range
abbrev pub record_range : Record → ℕ
record_range r = range_of r.caller r.request

-- There is one log of all calls that were ever made with these passes: it has those of each pass in their order, and no others. Each call
-- names its cell and its place there; of each cell the log has all that the cell ever had. What a pass still keeps are its last calls
pub record AreLogged (cells : List Log) (passes : List CallList) : Type 0 where
  pub log : List (Noted Record)
  pub placed : ArePlaced is_wide_record record_range (length cells) [] log
  pub even : IsPermutation log (flat (λ (p : CallList). p.ever) passes)
  pub order : (p : ℕ) (pass : CallList) → slice_get passes p ≡ Some pass → IsSublist pass.ever log
  pub kept : AllKeepLast passes
  pub ever : (k : ℕ) (none : Log) → k < length cells → (slice_index_or cells k none).history ≡ records_in (length cells) k (items_of log)

-- whether a call counts in the cell: a wide one does in each, and another where it names the cell
abbrev pub names_cell : ℕ → Noted Record → Bool
names_cell k call = is_wide_record call.item || (call.cell == k)

-- how many calls of all passes count in the cell
abbrev pub all_hits : ℕ → List CallList → ℕ
all_hits k passes = count_by (names_cell k) (flat (λ (p : CallList). p.ever) passes)

-- no call uncounted: each cell ever had as many records as there were calls that count in it
abbrev pub NoneUncounted : List Log → List CallList → Type 0
NoneUncounted cells passes = (k : ℕ) (none : Log) → k < length cells → count_of (slice_index_or cells k none) ≡ all_hits k passes

-- RECORDS

-- the moment at which the cells were cut, all at one
abbrev pub cut_of : List Log → ℕ
cut_of [] = 0
cut_of (cell ∷ cells) = cell.cut

-- all records that there ever were: what went with the cut, by moment, and then the merged history of what is left
abbrev pub all_of : List Log → List (Noted Record) → List Record → List Record
all_of cells log left = whole (cut_of cells) (items_of log) left

-- what the merged history of what is left is to cells and passes
pub record IsClosing (window : ℕ) (cells : List Log) (passes : List CallList) (left : List Record) : Type 0 where
  pub logged : AreLogged cells passes
  pub merge : IsMergeOf (length cells) left cells
  -- all that there ever was has of each cell all that it ever had, and its moments never go down
  pub cells_are : (k : ℕ) (none : Log) → k < length cells
      → records_in (length cells) k (all_of cells logged.log left) ≡ (slice_index_or cells k none).history
  pub rises : InOrder 0 (all_of cells logged.log left)
  -- it is the plain log of its own requests, and shows no principal but the administrator what strangers do
  pub plain : IsPlain (opened window) (all_of cells logged.log left)
  pub isolated : (who : ℕ) → (who == 0) ≡ false → replies (records_of who (all_of cells logged.log left))
      ≡ replies_without_strangers (opened window) who (requests_in (all_of cells logged.log left))
  -- each call that was ever made has its record at its place in its cell, and those of a pass that touch one cell stand in their order
  pub stands : HaveRecords (length cells) (all_of cells logged.log left) logged.log
  pub in_order : (p : ℕ) (pass : CallList) → slice_get passes p ≡ Some pass
      → StandInCells is_wide_record record_range (length cells) (all_of cells logged.log left) pass.ever
