use Rattle.std.proofs.Common.{ℕ, ◌<◌, ◌≤◌, get_or}
use Rattle.s4_types.specs.Play.{last_of}
use Rattle.s4_types.specs.Log.{Log}
use Rattle.s4_cell_tests.proofs.cells.latest.Given as goal

abbrev pub invariant-loop-place : goal.invariant-loop-place
invariant-loop-place l = (k : ℕ) (none : Log) → k < l.place → last_of (get_or l.cells k none).history ≤ l.latest
