use Rattle.s4_script.specs.Lines.{lines}
use Rattle.s4_run.proofs.Reading.{IsGoing}
use Rattle.s4_run.proofs.strike.Script.read.Given as goal

-- the lines so far are in the script
abbrev pub invariant-loop-number : goal.invariant-loop-number
invariant-loop-number l = IsGoing l.fn.who (lines l.fn.text) l.number-iterator l.script
