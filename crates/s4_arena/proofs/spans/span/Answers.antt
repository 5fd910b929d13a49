use Rattle.std.proofs.Common.{arith}
use Rattle.s4_arena.proofs.Halves.{at_least}
use Rattle.s4_arena.proofs.Trees.{left_at, right_at, last_at}
use Rattle.s4_arena.proofs.spans.span.Goals as goal

pub loop-left-init : goal.loop-left-init
loop-left-init c = at_least c.args.number c.requires (omega arith)

pub loop-left-preserved-then-left-span : goal.loop-left-preserved-then-left-span
loop-left-preserved-then-left-span c = right_at c.args.number c.loop-left.span c.loop-left.left c.loop-left.invariant c.loop-left-test.true c.if-left-span.true

pub loop-left-preserved : goal.loop-left-preserved
loop-left-preserved c = left_at c.args.number c.loop-left.span c.loop-left.left c.loop-left.invariant c.loop-left-test.true c.if-left-span.false

pub returns : goal.returns
returns c = last_at c.args.number c.loop-left.span c.loop-left.left c.loop-left.invariant c.loop-left-test.false
