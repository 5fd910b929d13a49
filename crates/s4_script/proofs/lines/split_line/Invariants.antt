use Rattle.std.proofs.Common.{◌≡◌, ◌++◌, take, drop}
use Rattle.s4_script.specs.Lines.{first_line, text_behind}
use Rattle.s4_script.proofs.lines.split_line.Given as goal

abbrev pub invariant-loop-i : goal.invariant-loop-i
invariant-loop-i l = record {
  front : take l.i l.text ++ first_line (drop l.i l.text) ≡ first_line l.text;
  rest : text_behind (drop l.i l.text) ≡ text_behind l.text;
}
