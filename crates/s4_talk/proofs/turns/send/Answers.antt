use Rattle.s4_talk.proofs.Laws.{Sends-more, Sends-kept}
use Rattle.s4_talk.proofs.turns.send.Goals as goal
use Rattle.s4_talk.proofs.turns.send.Goals.{in-Ok, in-Err+in-Interrupted}

pub loop-preserved : goal.loop-preserved
loop-preserved g c =
    elim c.match-write.branch [
      | in-Ok w ↦
          Sends-more (g.W.Write.contents c.args.writer.now) (g.W.Write.contents c.loop.writer) (g.W.Write.contents c.write.new.self) c.args.waiting.now.items c.loop.waiting.items c.match-write.waiting.items
          c.as_slice.result.now w.in-Ok.n c.loop.invariant c.as_slice.ensures w.in-Ok.ensures.bytes (cc)
      | in-Err+in-Interrupted w ↦
          Sends-kept (g.W.Write.contents c.args.writer.now) (g.W.Write.contents c.loop.writer) (g.W.Write.contents c.write.new.self) c.args.waiting.now.items c.loop.waiting.items c.match-write.waiting.items
          c.loop.invariant w.in-Err.ensures.bytes (cc)
    ]
