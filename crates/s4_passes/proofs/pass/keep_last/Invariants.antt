use Rattle.std.proofs.Common.{◌≡◌, ℕ, ◌<◌, Some, slice_get}
use Rattle.s4_passes.specs.Calls.{CallList, KeepsLast}
use Rattle.s4_passes.proofs.pass.keep_last.Given as goal

abbrev pub invariant-loop-i : goal.invariant-loop-i
invariant-loop-i g l = (p : ℕ) (pass : CallList) → p < l.i → slice_get l.passes p ≡ Some pass → KeepsLast pass
