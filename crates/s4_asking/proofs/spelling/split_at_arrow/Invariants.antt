use Rattle.std.proofs.Common.{◌≡◌, ◌++◌, take, drop}
use Rattle.s4_asking.specs.Spelling.{before_arrow, behind_arrow}
use Rattle.s4_asking.proofs.spelling.split_at_arrow.Given as goal

abbrev pub invariant-loop-i : goal.invariant-loop-i
invariant-loop-i l = record {
  front : take l.i l.line ++ before_arrow (drop l.i l.line) ≡ before_arrow l.line;
  rest : behind_arrow (drop l.i l.line) ≡ behind_arrow l.line;
}
