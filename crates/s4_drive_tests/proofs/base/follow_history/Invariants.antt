use Rattle.s4_base.specs.Lists.{base_of_lists}
use Rattle.s4_laws.specs.Bases.{IsBase}
use Rattle.s4_drive_tests.proofs.base.follow_history.Given as goal

abbrev pub invariant-loop-row : goal.invariant-loop-row
invariant-loop-row g l = IsBase (base_of_lists l.base)
