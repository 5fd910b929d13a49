use Rattle.std.proofs.Common.{◌≡◌, ◌++◌, take, drop}
use Rattle.s4_stream.specs.LoginText.{before, behind}
use Rattle.s4_stream.proofs.login_text.split_at_byte.Given as goal

abbrev pub invariant-loop-i : goal.invariant-loop-i
invariant-loop-i l = record {
  front : take l.i l.bytes ++ before l.byte (drop l.i l.bytes) ≡ before l.byte l.bytes;
  rest : behind l.byte (drop l.i l.bytes) ≡ behind l.byte l.bytes;
}
