use Rattle.std.proofs.Common.{arith}
use Rattle.std.proofs.lemmas.List.{length-drop}
use Rattle.s4_client.proofs.Chains.{appends_more}
use Rattle.s4_client.proofs.hearing.send.Goals as goal

pub loop-preserved : goal.loop-preserved
loop-preserved g c = (
  omega (arith, c.loop.invariant.0, c.in_ok-sent.ensures.some.0, length-drop c.loop.sent c.args.bytes.now),
  appends_more (g.W.Write.contents c.args.writer.now) (g.W.Write.contents c.loop.writer) (g.W.Write.contents c.send_some.new.writer) c.loop.sent c.in_ok-sent.field-0 c.args.bytes.now
      c.loop.invariant.1 c.in_ok-sent.ensures.some.1,
)
