use Rattle.std.proofs.Common.{◌≡◌, ◌<◌, drop}
use Rattle.s4_stream.specs.LoginText.{number_in, if_principal}
use Rattle.s4_stream.proofs.login_text.number_in.Given as goal

abbrev pub invariant-loop-digit : goal.invariant-loop-digit
invariant-loop-digit l = record {
  small : l.value < 4294967295;
  rest : if_principal (number_in l.value (drop l.digit-index l.word)) ≡ if_principal (number_in 0 l.word);
}
