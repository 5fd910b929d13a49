use Rattle.std.proofs.Common.{drop}
use Rattle.std.specs.Prelude.{◌↔◌}
use Rattle.s4_types.specs.Play.{NeverDown}
use Rattle.s4_drive.proofs.moments.never_down.Given as goal

abbrev pub invariant-loop-step : goal.invariant-loop-step
invariant-loop-step l = NeverDown l.fn.from l.steps ↔ NeverDown l.last (drop l.step-index l.steps)
