use Rattle.std.proofs.Common.{◌≡◌, ◌+◌, [], ◌∷◌, ◌++◌, refl, sym, ◌∙◌, ap, subst, arith, length, vec_len, rules, append_assoc}
use Rattle.std.proofs.lemmas.List.{append-nil, length-append}
use Rattle.s4_store.specs.Chains.{items_of, IsOpen}
use Rattle.s4_store.specs.Laws.{insert_same, StillOpen-insert}
use Rattle.s4_tracks.proofs.Walking.{stands_at_first, passed_at_first}
use Rattle.s4_objects.specs.Flushes.{refund_to, refunds_of}
use Rattle.s4_objects.proofs.Flushing.{one_changed, leaves_same, refunds_next, fewer_left, all_flushed, no_refunds}
use Rattle.s4_objects.proofs.flushes.flush_track.Goals as goal

pub loop-told-init : goal.loop-told-init
loop-told-init g c = record {
  chain = c.new-eraser.ensures.chain;
  from = c.new-eraser.ensures.from;
  to = c.new-eraser.ensures.to;
  stands = stands_at_first (g.S.Store.is_place c.args.store.now) g.S.Store.chain_at c.new-eraser.result c.new-eraser.ensures.last;
  passed = passed_at_first g.S.Store.index_at c.new-eraser.result (items_of (g.S.Store.chains c.args.store.now) c.new-eraser.result.chain) c.new-eraser.ensures.last;
  chains = sym (insert_same (g.S.Store.chains c.args.store.now) c.args.track.now.chain c.requires.open);
  flushed = refl;
  refunds = refl;
  fits = c.requires.room;
  capacity = refl;
  room = refl;
}

pub erase_next-requires-clause-open : goal.erase_next-requires-clause-open
erase_next-requires-clause-open g c =
    subst (IsOpen (g.S.Store.chains c.loop-told.store)) (sym c.loop-told.invariant.chain)
    (StillOpen-insert (g.S.Store.chains c.args.store.now) (g.S.Store.chains c.loop-told.store) c.args.track.now.chain _ c.loop-told.invariant.chains c.args.track.now.chain c.requires.open)

pub push_reserved-requires : goal.push_reserved-requires
push_reserved-requires g c =
    let i = c.loop-told.invariant in
    let len : vec_len c.loop-told.refunds ≡ length c.loop-told.refunds.items = search rules in
    let fewer = fewer_left (g.S.Store.chains c.args.store.now) (g.S.Store.chains c.loop-told.store) (g.S.Store.chains c.erase_next.new.store) c.args.track.now.chain c.args.from c.args.to c.loop-told.eraser i.chain i.from i.to i.chains c.in-Some.ensures.chains
    c.in-Some.told c.in-Some.ensures.told in
    omega (arith, i.fits, fewer)

pub loop-told-smaller : goal.loop-told-smaller
loop-told-smaller g c =
    let i = c.loop-told.invariant in
    let fewer = fewer_left (g.S.Store.chains c.args.store.now) (g.S.Store.chains c.loop-told.store) (g.S.Store.chains c.erase_next.new.store) c.args.track.now.chain c.args.from c.args.to c.loop-told.eraser i.chain i.from i.to i.chains c.in-Some.ensures.chains
    c.in-Some.told c.in-Some.ensures.told in
    omega (arith, fewer)

pub loop-told-preserved : goal.loop-told-preserved
loop-told-preserved g c =
    let i = c.loop-told.invariant in
    let m = g.S.Store.chains c.loop-told.store in
    let new = g.S.Store.chains c.erase_next.new.store in
    let t = c.args.track.now.chain in
    let p = c.args.purse.now in
    let fewer = fewer_left (g.S.Store.chains c.args.store.now) m new t c.args.from c.args.to c.loop-told.eraser i.chain i.from i.to i.chains c.in-Some.ensures.chains c.in-Some.told c.in-Some.ensures.told in
    let next = refunds_next (g.S.Store.chains c.args.store.now) m new t c.args.from c.args.to c.loop-told.eraser i.chain i.from i.to i.chains c.in-Some.ensures.chains c.in-Some.told c.in-Some.ensures.told p in
    let pushed : c.push_reserved.new.self.items ≡ c.loop-told.refunds.items ++ refund_to p c.in-Some.told ∷ [] = c.push_reserved.ensures.items in
    let longer : length c.push_reserved.new.self.items ≡ length c.loop-told.refunds.items + 1 = ap length pushed ∙ length-append c.loop-told.refunds.items (refund_to p c.in-Some.told ∷ []) in
    record {
      chain = c.erase_next.ensures.same.chain ∙ i.chain;
      from = c.erase_next.ensures.same.from ∙ i.from;
      to = c.erase_next.ensures.same.to ∙ i.to;
      stands = c.erase_next.ensures.stands;
      passed = c.erase_next.ensures.passed;
      chains = one_changed (g.S.Store.chains c.args.store.now) m new t c.args.from c.args.to c.loop-told.eraser i.chain i.from i.to i.chains c.in-Some.ensures.chains;
      flushed = leaves_same (g.S.Store.chains c.args.store.now) m new t c.args.from c.args.to c.loop-told.eraser i.chain i.from i.to i.chains c.in-Some.ensures.chains ∙ i.flushed;
      refunds = ap (λ rs. rs ++ refunds_of p c.args.from c.args.to (items_of new t)) pushed
          ∙ append_assoc c.loop-told.refunds.items (refund_to p c.in-Some.told ∷ []) (refunds_of p c.args.from c.args.to (items_of new t))
          ∙ ap (λ rs. c.loop-told.refunds.items ++ rs) (sym next) ∙ i.refunds;
      fits = omega (arith, fewer, i.fits, c.push_reserved.ensures.capacity);
      capacity = c.push_reserved.ensures.capacity ∙ i.capacity;
      room = c.erase_next.ensures.room ∙ i.room;
    }

pub returns-clause-chains : goal.returns-clause-chains
returns-clause-chains g c =
    let i = c.loop-told.invariant in
    all_flushed (g.S.Store.chains c.args.store.now) (g.S.Store.chains c.loop-told.store) (g.S.Store.chains c.erase_next.new.store) c.args.track.now.chain c.args.from c.args.to c.loop-told.eraser i.chain i.from i.to i.chains c.in_default.ensures.chains
    c.in_default.ensures.told i.flushed

pub returns-clause-refunds : goal.returns-clause-refunds
returns-clause-refunds g c =
    let i = c.loop-told.invariant in
    sym (append-nil c.loop-told.refunds.items)
    ∙ ap (λ rs. c.loop-told.refunds.items ++ rs) (sym (no_refunds (g.S.Store.chains c.args.store.now) (g.S.Store.chains c.loop-told.store) (g.S.Store.chains c.erase_next.new.store) c.args.track.now.chain c.args.from c.args.to c.loop-told.eraser i.chain i.from i.to i.chains c.in_default.ensures.chains
    c.in_default.ensures.told c.args.purse.now))
    ∙ i.refunds
