use Rattle.std.proofs.Common.{ℕ, ◌<◌, ◌≤◌, get_or}
use Rattle.s4_types.specs.Play.{last_of}
use Rattle.s4_types.specs.Log.{Log}
use Rattle.s4_pool.proofs.stepping.latest.Given as goal

abbrev pub invariant-loop-cell : goal.invariant-loop-cell
invariant-loop-cell l = (l.fn.from ≤ l.moment) × ((k : ℕ) (d : Log) → k < l.cell-index → last_of (get_or l.cells k d).history ≤ l.moment)
