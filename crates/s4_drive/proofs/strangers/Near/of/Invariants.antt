use Rattle.std.proofs.Common.{take}
use Rattle.s4_drive.specs.Near.{IsNearIn}
use Rattle.s4_drive.proofs.strangers.Near.of.Given as goal

abbrev pub invariant-loop-step : goal.invariant-loop-step
invariant-loop-step l = IsNearIn l.near l.fn.who (take l.step-index l.steps)
