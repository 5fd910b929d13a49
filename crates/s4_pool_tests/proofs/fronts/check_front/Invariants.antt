use Rattle.std.proofs.Common.{◌≡◌}
use Rattle.s4_pool_tests.proofs.fronts.check_front.Given as goal

abbrev pub invariant-loop-line : goal.invariant-loop-line
invariant-loop-line g l = l.front.cells ≡ l.cells
