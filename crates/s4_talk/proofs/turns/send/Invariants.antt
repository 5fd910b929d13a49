use Rattle.s4_talk.specs.Turning.{Sends}
use Rattle.s4_talk.proofs.turns.send.Given as goal

abbrev pub invariant-loop : goal.invariant-loop
invariant-loop g l = Sends (g.W.Write.contents l.initial.writer) (g.W.Write.contents l.writer) l.initial.waiting.items l.waiting.items
