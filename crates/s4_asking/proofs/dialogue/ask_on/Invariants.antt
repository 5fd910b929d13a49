use Rattle.std.proofs.Common.{◌≡◌}
use Rattle.std.specs.Io.KnownBytes.{prepend_known}
use Rattle.s4_asking.specs.Dialogue.{Asks, Tells}
use Rattle.s4_asking.proofs.dialogue.ask_on.Given as goal

-- the lines that were taken are asked for, and the replies that were heard are told
abbrev pub invariant-loop-asked : goal.invariant-loop-asked
invariant-loop-asked g l = record {
  asks : Asks l.version (g.L.Read.remaining l.initial.input) (prepend_known l.held.items (g.L.Read.remaining l.input)) (g.W.Write.contents l.initial.writer) (g.W.Write.contents l.writer) l.ahead.asked;
  tells : Tells l.version (g.R.Read.remaining l.initial.reader) (g.R.Read.remaining l.reader) (g.O.Write.contents l.initial.output) (g.O.Write.contents l.output) l.ahead.told l.ahead.refused;
  count : l.ahead.asked ≡ l.asked;
}
