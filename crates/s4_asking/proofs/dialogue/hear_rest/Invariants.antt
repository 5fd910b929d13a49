use Rattle.std.proofs.Common.{◌≡◌}
use Rattle.s4_asking.specs.Dialogue.{TellsOn}
use Rattle.s4_asking.proofs.dialogue.hear_rest.Given as goal

-- so many replies are told as were to be
abbrev pub invariant-loop-told : goal.invariant-loop-told
invariant-loop-told g l = record {
  on : TellsOn l.version (g.R.Read.remaining l.initial.reader) (g.R.Read.remaining l.reader) (g.O.Write.contents l.initial.output) (g.O.Write.contents l.output) l.initial.ahead.told l.initial.ahead.refused l.ahead.told l.ahead.refused;
  count : l.ahead.told ≡ l.told;
  asked : l.ahead.asked ≡ l.initial.ahead.asked;
  depth : l.ahead.depth ≡ l.initial.ahead.depth;
}
