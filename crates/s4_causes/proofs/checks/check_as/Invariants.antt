use Rattle.std.proofs.Common.{◌≡◌, true}
use Rattle.std.specs.List.{enumerate_from}
use Rattle.s4_script.specs.Lines.{lines}
use Rattle.s4_causes.specs.Checked.{AreTaken}
use Rattle.s4_causes.proofs.checks.check_as.Given as goal

-- where all so far is well and each further line is taken, each line is
abbrev pub invariant-loop-number : goal.invariant-loop-number
invariant-loop-number g l = record {
  kind : l.checker.kind ≡ l.kind;
  version : l.checker.version ≡ l.initial.checker.version;
  taken : l.is_well ≡ true → AreTaken l.kind l.checker.version l.number-iterator → AreTaken l.kind l.checker.version (enumerate_from 1 (lines l.text));
}
