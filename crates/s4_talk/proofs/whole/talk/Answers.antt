use Rattle.std.proofs.Common.{subst, sym}
use Rattle.s4_talk.specs.Turning.{Turns, Told, scene, fresh_talk}
use Rattle.s4_talk.proofs.Laws.{turns_none, Turns-then, Talked-from}
use Rattle.s4_talk.proofs.whole.talk.Goals as goal

pub loop-init : goal.loop-init
loop-init g c = record {
  can = tt;
  finite = tt;
  so_far = subst (λ (t : Told). Turns c.args.logins.now
      (scene (g.R.Read.remaining c.args.reader.now) (g.W.Write.contents c.args.writer.now) (g.A.Answer.calls c.args.answer.now) fresh_talk)
      (scene (g.R.Read.remaining c.args.reader.now) (g.W.Write.contents c.args.writer.now) (g.A.Answer.calls c.args.answer.now) t))
      (sym c.open-talking.ensures)
      (turns_none c.args.logins.now (scene (g.R.Read.remaining c.args.reader.now) (g.W.Write.contents c.args.writer.now) (g.A.Answer.calls c.args.answer.now) fresh_talk));
}

pub loop-preserved : goal.loop-preserved
loop-preserved g c = record {
  can = tt;
  finite = tt;
  so_far = Turns-then c.args.logins.now
      (scene (g.R.Read.remaining c.args.reader.now) (g.W.Write.contents c.args.writer.now) (g.A.Answer.calls c.args.answer.now) fresh_talk)
      (scene (g.R.Read.remaining c.loop.reader) (g.W.Write.contents c.loop.writer) (g.A.Answer.calls c.loop.answer) c.loop.talking)
      (scene (g.R.Read.remaining c.turn.new.reader) (g.W.Write.contents c.turn.new.writer) (g.A.Answer.calls c.turn.new.answer) c.turn.new.self)
      c.loop.invariant.so_far c.turn.ensures.turns;
}

pub returns-in-Ended : goal.returns-in-Ended
returns-in-Ended g c =
    Talked-from c.in-Ended.end c.args.logins.now (g.R.Read.remaining c.args.reader.now) (g.R.Read.remaining c.turn.new.reader) (g.W.Write.contents c.args.writer.now) (g.W.Write.contents c.turn.new.writer)
    (g.A.Answer.calls c.args.answer.now) (g.A.Answer.calls c.turn.new.answer) c.turn.new.self
    (Turns-then c.args.logins.now
    (scene (g.R.Read.remaining c.args.reader.now) (g.W.Write.contents c.args.writer.now) (g.A.Answer.calls c.args.answer.now) fresh_talk)
    (scene (g.R.Read.remaining c.loop.reader) (g.W.Write.contents c.loop.writer) (g.A.Answer.calls c.loop.answer) c.loop.talking)
    (scene (g.R.Read.remaining c.turn.new.reader) (g.W.Write.contents c.turn.new.writer) (g.A.Answer.calls c.turn.new.answer) c.turn.new.self)
    c.loop.invariant.so_far c.in-Ended.ensures.turns)
    c.in-Ended.ensures.so
