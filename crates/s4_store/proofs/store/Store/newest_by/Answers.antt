use Rattle.std.proofs.Common.{arith}
use Rattle.s4_store.specs.Chains.{items_of}
use Rattle.s4_store.proofs.Looking.{all, found, on, same_chain}
use Rattle.s4_store.proofs.store.Store.newest_by.Goals as goal

pub loop-at-init : goal.loop-at-init
loop-at-init g c =
    let s = g.Self.Store in
    record {
      place = c.newest_place-at.ensures.place;
      chain = c.newest_place-at.ensures.chain;
      older = all g.K.Key.key c.args.moment (items_of (s.chains c.args.self.now) c.args.chain) _ c.newest_place-at.ensures.reach;
    }

pub returns-then-of-moment : goal.returns-then-of-moment
returns-then-of-moment g c =
    let s = g.Self.Store in let v = c.loop-at.invariant in
    found g.K.Key.key c.args.moment s.index_at s.chain_at c.args.chain (items_of (s.chains c.args.self.now)) c.loop-at.at c.in-Some.place c.item-item.result.now c.in-Some.is v.chain v.older c.item-item.ensures (omega (arith, c.of.ensures))

pub loop-at-preserved : goal.loop-at-preserved
loop-at-preserved g c =
    let s = g.Self.Store in let v = c.loop-at.invariant in let next = c.older-at.result in
    record {
      place = c.older-at.ensures.place;
      chain = same_chain g.K.Key.key c.args.moment s.index_at s.chain_at c.args.chain (items_of (s.chains c.args.self.now)) c.loop-at.at c.in-Some.place c.item-item.result.now c.in-Some.is v.chain v.older c.item-item.ensures next c.older-at.ensures.chain;
      older = on g.K.Key.key c.args.moment s.index_at s.chain_at c.args.chain (items_of (s.chains c.args.self.now)) c.loop-at.at c.in-Some.place c.item-item.result.now c.in-Some.is v.chain v.older c.item-item.ensures (omega (arith, c.of.ensures)) next c.older-at.ensures.reach;
    }
