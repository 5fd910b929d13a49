use Rattle.std.proofs.Common.{◌+◌, ◌-◌, sym, ap, ◌∙◌, arith}
use Rattle.s4_queue.proofs.Moving.{parted_first, parted_next, parted_last}
use Rattle.s4_queue.proofs.Searching.{read_of}
use Rattle.s4_queue.proofs.queue.Queue.insert.Goals as goal

pub loop-free-init : goal.loop-free-init
loop-free-init g c =
    let long = c.len-free.ensures.len in
    record {
      from = omega arith;
      within = omega arith;
      parted = parted_first c.args.self.now.items c.push.new.self.items c.args.item c.len-free.result c.push.ensures.items long;
      room = c.push.ensures.room;
    }

pub loop-free-preserved : goal.loop-free-preserved
loop-free-preserved g c =
    let items = c.loop-free.self.items in
    let before = c.unwrap-before.result.now in
    let is = sym (read_of items (c.loop-free.free - 1) c.get.result c.unwrap-before.result c.get.ensures c.unwrap-before.ensures before) in
    record {
      from = omega arith;
      within = omega arith;
      parted = parted_next c.args.self.now.items items c.set.new.self.items c.loop-free.free before c.loop-free.invariant.parted (omega arith) c.loop-free.invariant.within is c.set.ensures.items;
      room = ap (λ n. n + 1) c.set.ensures.room ∙ c.loop-free.invariant.room;
    }

pub returns-clause-items : goal.returns-clause-items
returns-clause-items g c =
    parted_last c.args.self.now.items c.loop-free.self.items c.set-2.new.self.items c.loop-free.free c.args.index c.args.item c.loop-free.invariant.parted c.loop-free.invariant.within (omega arith) c.set-2.ensures.items
