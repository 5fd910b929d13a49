use Rattle.std.proofs.Common.{◌≡◌, ℕ, ◌<◌, get_or}
use Rattle.s4_types.specs.Log.{Log}
use Rattle.s4_closing.specs.Merged.{gone}
use Rattle.s4_closing.proofs.torn.none_went.Given as goal

abbrev pub invariant-loop-k : goal.invariant-loop-k
invariant-loop-k l = (j : ℕ) (d : Log) → j < l.k → gone (get_or l.cells j d) ≡ 0
