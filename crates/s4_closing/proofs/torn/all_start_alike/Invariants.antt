use Rattle.std.proofs.Common.{ℕ, ◌<◌, get_or}
use Rattle.s4_types.specs.Log.{Log}
use Rattle.s4_closing.specs.Merged.{StartAlike}
use Rattle.s4_closing.proofs.torn.all_start_alike.Given as goal

abbrev pub invariant-loop-k : goal.invariant-loop-k
invariant-loop-k l = (j : ℕ) (d : Log) → j < l.k → StartAlike (get_or l.cells j d) (get_or l.cells 0 d)
