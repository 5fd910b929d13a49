use Rattle.std.proofs.Common.{drop}
use Rattle.std.specs.Prelude.{◌↔◌}
use Rattle.s4_session.specs.Arrivals.{NeverDown}
use Rattle.s4_row_tests.proofs.ways.halls.never_down.Given as goal

abbrev pub invariant-loop-step : goal.invariant-loop-step
invariant-loop-step l = NeverDown 0 l.steps ↔ NeverDown l.last (drop l.step-index l.steps)
