use Rattle.std.proofs.Common.{◌≡◌, ℕ, ◌<◌, get_or}
use Rattle.s4_types.specs.Log.{Log}
use Rattle.s4_closing.proofs.torn.have_window.Given as goal

abbrev pub invariant-loop-k : goal.invariant-loop-k
invariant-loop-k l = (j : ℕ) (d : Log) → j < l.k → (get_or l.cells j d).opened ≡ l.window
