use Rattle.s4_talk.specs.Turning.{Turns, scene, fresh_talk}
use Rattle.s4_talk.proofs.whole.talk.Given as goal

abbrev pub invariant-loop : goal.invariant-loop
invariant-loop g l = record {
  can : (goal.iterator-loop g).can_next l.iterator';
  finite : (goal.iterator-loop g).is_finite l.iterator';
  so_far : Turns l.logins
      (scene (g.R.Read.remaining l.initial.reader) (g.W.Write.contents l.initial.writer) (g.A.Answer.calls l.initial.answer) fresh_talk)
      (scene (g.R.Read.remaining l.reader) (g.W.Write.contents l.writer) (g.A.Answer.calls l.answer) l.talking);
}
