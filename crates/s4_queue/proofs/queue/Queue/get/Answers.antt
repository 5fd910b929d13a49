use Rattle.std.proofs.Common.{sym, arith}
use Rattle.std.proofs.lemmas.Option.{slice_get_past}
use Rattle.s4_queue.proofs.Laying.{below_lies, len_seen, item_seen}
use Rattle.s4_queue.proofs.queue.Queue.get.Goals as goal

pub returns-then-index-self : goal.returns-then-index-self
returns-then-index-self g c =
    let long = len_seen c.self.invariant _ c.self.view_is in
    sym (slice_get_past c.args.self.now.items c.args.index (omega arith))

pub index-requires : goal.index-requires
index-requires g c =
    let long = c.self.inside.blocks.ok.0 in
    let below = below_lies c.self.invariant _ _ _ c.place_of-block.ensures c.if-index-self.false in
    omega arith

pub returns : goal.returns
returns g c =
    item_seen c.self.invariant _ c.self.view_is c.args.index _ _ c.place_of-block.ensures c.if-index-self.false c.index.result.now c.index.ensures c.get.result c.get.ensures.variant c.get.ensures.lookup
