-- Many cells, seen by their logs, and what a request of all purses does to them: facts on the cell of each place.
use Rattle.std.specs.Prelude.{◌≡◌, ℕ, true, ◌<◌, ◌≤◌, min, List, [], map, fold, length, slice_index_or}
use Rattle.s4_types.specs.declared.principal.Caller.{Caller}
use Rattle.s4_types.specs.declared.record.Record.{Record}
use Rattle.s4_types.specs.declared.request.Request.{Request}
use Rattle.s4_types.specs.Base.{opened}
use Rattle.s4_types.specs.Play.{record_of, last_of}
use Rattle.s4_types.specs.Log.{Log, base_of, horizon_in, is_ready_for, with_record}
use Rattle.s4_cuts.specs.CutLog.{cut_log}
use Rattle.s4_drive.specs.Alike.{AnswersAlike}
use Rattle.s4_cells.specs.Counts.{count_of}

-- the histories of the cells, in their order
abbrev pub histories : List Log → List (List Record)
histories cells = map (λ c. c.history) cells

-- the record of a wide request, whose answer depends on no record
abbrev pub wide_record : ℕ → Caller → Request → Record
wide_record t caller request = record_of (opened 0) [] t caller request

-- it holds of each cell
abbrev pub Each : (Log → Type 0) → List Log → Type 0
Each P cells = (k : ℕ) (none : Log) → k < length cells → P (slice_index_or cells k none)

-- the cells have the record more, each of them
pub record AllAdd (r : Record) (old new : List Log) : Type 0 where
  pub count : length new ≡ length old
  pub each : (k : ℕ) (none : Log) → k < length old → slice_index_or new k none ≡ with_record (slice_index_or old k none) r

-- a log as it was, but for what it is made ready for
pub record Stays (old new : Log) : Type 0 where
  pub opened : new.opened ≡ old.opened
  pub cut : new.cut ≡ old.cut
  pub history : new.history ≡ old.history
  pub held : new.held ≡ old.held

-- the cells are as they were, each of them, but for what they are made ready for
pub record AllStay (old new : List Log) : Type 0 where
  pub count : length new ≡ length old
  pub each : (k : ℕ) (none : Log) → Stays (slice_index_or old k none) (slice_index_or new k none)

-- the first i cells are ready for the request
abbrev pub AreReady : Request → ℕ → List Log → Type 0
AreReady request i cells = (k : ℕ) (none : Log) → k < i → k < length cells
    → is_ready_for (slice_index_or cells k none).ready request ≡ true

-- the first i cells have the record more, and the others are as they were
pub record FirstAdd (r : Record) (i : ℕ) (old new : List Log) : Type 0 where
  pub count : length new ≡ length old
  pub first : (k : ℕ) (none : Log) → k < i → k < length old → slice_index_or new k none ≡ with_record (slice_index_or old k none) r
  pub others : (k : ℕ) (none : Log) → i ≤ k → slice_index_or new k none ≡ slice_index_or old k none

-- CUTS

-- the least of the moment and the cells' horizons
abbrev pub least_horizon : ℕ → List Log → ℕ
least_horizon moment cells = fold (λ least c. min least (horizon_in c)) moment cells

-- there are as many cells, and it holds of each as it was and as it is
pub record EachNow (P : Log → Log → Type 0) (old new : List Log) : Type 0 where
  pub count : length new ≡ length old
  pub each : (k : ℕ) (none : Log) → k < length old → P (slice_index_or old k none) (slice_index_or new k none)

-- a cell is cut at the moment, and goes on as it would have
pub record IsCutAlike (moment : ℕ) (old new : Log) : Type 0 where
  pub cut : new ≡ cut_log moment old
  pub replies : AnswersAlike old new
  pub last : last_of new.history ≡ last_of old.history
  pub horizon : horizon_in new ≡ horizon_in old
  pub count : count_of new ≡ count_of old

-- the cells from i on are cut, and the others are as they were
pub record CutFrom (moment i : ℕ) (old new : List Log) : Type 0 where
  pub count : length new ≡ length old
  pub others : (k : ℕ) (none : Log) → k < i → slice_index_or new k none ≡ slice_index_or old k none
  pub cut : (k : ℕ) (none : Log) → i ≤ k → k < length old → IsCutAlike moment (slice_index_or old k none) (slice_index_or new k none)
