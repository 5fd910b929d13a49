use Rattle.std.proofs.Common.{◌≡◌, ◌++◌, take}
use Rattle.s4_causes.specs.Begun.{samples}
use Rattle.s4_causes.proofs.spot.with_samples.Given as goal

-- the samples so far stand behind the text
abbrev pub invariant-loop-slot : goal.invariant-loop-slot
invariant-loop-slot l = l.whole.items ≡ l.text ++ samples (take l.slot-index l.slots)
