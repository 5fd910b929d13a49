-- Which cell a request is of, where the ranges are spread over several, and histories that answer their own requests.
use Rattle.std.specs.Prelude.{◌≡◌, ℕ, Bool, ◌||◌, ◌==◌, ◌%◌, List, map, filter}
use Rattle.s4_types.specs.declared.principal.Caller.{Caller}
use Rattle.s4_types.specs.declared.request.Request as asked
use Rattle.s4_types.specs.declared.record.Record.{Record}
use Rattle.s4_types.specs.declared.record.Step.{Step}
use Rattle.s4_types.specs.declared.record.Step.TheVariants.{Request}
use Rattle.s4_types.specs.Base.{Base}
use Rattle.s4_types.specs.Kinds.{is_wide, range_of}
use Rattle.s4_types.specs.Play.{play}

-- whether the request is one of the cell: it is wide, or the number of its range, modulo the number of cells, is the cell's
abbrev pub is_of_cell : ℕ → ℕ → Caller → asked.Request → Bool
is_of_cell cells cell caller request = is_wide caller request || (range_of caller request % cells == cell)

abbrev pub is_in_cell : ℕ → ℕ → Record → Bool
is_in_cell cells cell r = is_of_cell cells cell r.caller r.request

-- the records of the cell
abbrev pub records_in : ℕ → ℕ → List Record → List Record
records_in cells cell h = filter (is_in_cell cells cell) h

-- the record's request, as a step of a run
abbrev pub step_of : Record → Step
step_of r = Request r.moment r.caller r.request

-- the requests of a history
abbrev pub requests_in : List Record → List Step
requests_in h = map step_of h

-- the history is the plain log of its own requests
abbrev pub IsPlain : Base → List Record → Type 0
IsPlain base h = play base (requests_in h) ≡ h
