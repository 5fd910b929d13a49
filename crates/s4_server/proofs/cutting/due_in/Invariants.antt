use Rattle.std.proofs.Common.{◌≤◌}
use Rattle.s4_server.proofs.cutting.due_in.Given as goal

abbrev pub invariant-loop-cell : goal.invariant-loop-cell
invariant-loop-cell g l = l.due ≤ l.kept
