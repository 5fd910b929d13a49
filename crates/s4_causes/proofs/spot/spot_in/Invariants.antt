use Rattle.std.proofs.Common.{◌<◌, ◌-◌, take}
use Rattle.s4_causes.specs.Begun.{Begins}
use Rattle.s4_causes.proofs.spot.spot_in.Given as goal

-- a line that is taken begins with the words so far
abbrev pub invariant-loop-before : goal.invariant-loop-before
invariant-loop-before l = 0 < l.start → Begins l.form (take (l.start - 1) l.line)
