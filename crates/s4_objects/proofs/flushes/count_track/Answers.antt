use Rattle.std.proofs.Common.{◌≡◌, ℕ, zero, suc, ◌+◌, cond, sym, ◌∙◌, ap, count_by, take, arith}
use Rattle.s4_store.specs.Chains.{items_of}
use Rattle.s4_tracks.specs.Chain.{is_erasable}
use Rattle.s4_objects.proofs.Counting.{count_all, stepped, same_chain}
use Rattle.s4_objects.proofs.Fitting.{track_fits}
use Rattle.s4_objects.proofs.flushes.count_track.Goals as goal
use Rattle.s4_objects.proofs.flushes.count_track.Goals.{then-is_erasable, else-is_erasable}

pub loop-at-init : goal.loop-at-init
loop-at-init g c =
    let e = c.newest_place-at.ensures in record {
      place = e.place;
      chain = e.chain;
      newer = let all = count_all (is_erasable c.args.from c.args.to) (items_of (g.S.Store.chains c.args.store.now) c.args.track.chain) _ e.reach in omega (arith, all);
    }

pub added-count-requires : goal.added-count-requires
added-count-requires g c =
    let s = g.S.Store in let v = c.loop-at.invariant in let m = s.chains c.args.store.now in
    let p = is_erasable c.args.from c.args.to in
    let one : cond {A = ℕ} (p c.item.result.now) 1 0 ≡ suc zero = ap (λ b. cond {A = ℕ} b 1 0) (sym c.is_erasable.ensures ∙ c.if-is_erasable.true) in
    let more = stepped s.index_at s.chain_at p c.args.track.chain c.loop-at.count (items_of m) c.loop-at.at c.in-Some.place c.item.result.now c.in-Some.is v.chain v.newer c.item.ensures in
    let fits = track_fits m c.args.track.chain p in
    omega (arith, one, more, fits)

pub loop-at-preserved : goal.loop-at-preserved
loop-at-preserved g c =
    let s = g.S.Store in let v = c.loop-at.invariant in let m = s.chains c.args.store.now in
    let p = is_erasable c.args.from c.args.to in let next = c.older-at.result in
    let more = stepped s.index_at s.chain_at p c.args.track.chain c.loop-at.count (items_of m) c.loop-at.at c.in-Some.place c.item.result.now c.in-Some.is v.chain v.newer c.item.ensures in
    record {
      place = c.older-at.ensures.place;
      chain = same_chain s.index_at s.chain_at p c.args.track.chain c.loop-at.count (items_of m) c.loop-at.at c.in-Some.place c.item.result.now c.in-Some.is v.chain v.newer c.item.ensures next c.older-at.ensures.chain;
      newer = ap (λ n. c.if-is_erasable.count + count_by p (take n (items_of m c.args.track.chain))) c.older-at.ensures.reach
          ∙ elim c.if-is_erasable.branch [
            | then-is_erasable w ↦ let one : cond {A = ℕ} (p c.item.result.now) 1 0 ≡ suc zero = ap (λ b. cond {A = ℕ} b 1 0) (sym c.is_erasable.ensures ∙ w.if-is_erasable.true) in omega (arith, one, more, w.count-is, w.added-count.ensures)
            | else-is_erasable w ↦ let none : cond {A = ℕ} (p c.item.result.now) 1 0 ≡ zero = ap (λ b. cond {A = ℕ} b 1 0) (sym c.is_erasable.ensures ∙ w.if-is_erasable.false) in omega (arith, none, more, w.count-is)
          ];
    }
