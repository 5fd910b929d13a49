use Rattle.std.proofs.Common.{◌≡◌, filter, take}
use Rattle.s4_types.specs.Strike.{is_near, stays}
use Rattle.s4_drive.proofs.strangers.strike.Given as goal

abbrev pub invariant-loop-step : goal.invariant-loop-step
invariant-loop-step l = l.kept.items ≡ filter (stays l.fn.who (is_near l.fn.who l.steps)) (take l.step-index l.steps)
