use Rattle.std.proofs.Common.{◌<◌, arith}
use Rattle.s4_queue.proofs.Laying.{any_there, popped, laid_turned, nothing_seen}
use Rattle.s4_queue.proofs.queue.Queue.pop.Goals as goal

pub returns-then-self-eq0-clause-none : goal.returns-then-self-eq0-clause-none
returns-then-self-eq0-clause-none g c = nothing_seen c.self.invariant _ c.self.view_is c.if-self-eq0.true

pub invariant_of-self : goal.invariant_of-self
invariant_of-self g c =
    let e = c.index_mut.ensures.value in
    let item = c.pop_front-item.ensures in
    let some : 0 < c.self.inside.len = omega arith in
    let p = popped c.index_mut.result.now c.pop_front-item.new.self (any_there c.self.invariant some _ e) c.pop_front-item.result item.variant item.items item.len item.capacity in
    laid_turned c.self.invariant some _ _ p.0 e p.2 c.if-self-eq-BLOCK.true c.rotate_left.new.self.items c.rotate_left.ensures.items
