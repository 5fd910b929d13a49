use Rattle.std.proofs.Common.{◌+◌, ◌-◌, ◌/◌, ℕ, sym, ◌∙◌, arith}
use Rattle.std.proofs.lemmas.List.Sums.{prefix_len-le-length}
use Rattle.s4_store.specs.Chains.{items_of}
use Rattle.s4_tracks.specs.Chain.{ended_before}
use Rattle.s4_tracks.proofs.EndErasing.{before_all, before_none}
use Rattle.s4_tracks.proofs.end_eraser.count_ended.Goals as goal

pub loop-low-init : goal.loop-low-init
loop-low-init g c =
    let within = prefix_len-le-length (ended_before c.args.moment) (items_of (g.S.Store.chains c.args.store.now) c.args.chain) in
    record {
      low = omega arith;
      high = omega (arith, within, c.len-high.ensures);
      within = omega (arith, c.len-high.ensures);
    }

pub loop-low-preserved-then-is_before : goal.loop-low-preserved-then-is_before
loop-low-preserved-then-is_before g c =
    let middle : ℕ = c.loop-low.low + (c.loop-low.high - c.loop-low.low) / 2 in
    record {
      low = before_all c.args.moment (items_of (g.S.Store.chains c.args.store.now) c.args.chain) middle c.get.result.now c.requires.order c.get.ensures (sym c.is_before.ensures ∙ c.if-is_before.true);
      high = c.loop-low.invariant.high;
      within = c.loop-low.invariant.within;
    }

pub loop-low-preserved : goal.loop-low-preserved
loop-low-preserved g c =
    let middle : ℕ = c.loop-low.low + (c.loop-low.high - c.loop-low.low) / 2 in
    record {
      low = c.loop-low.invariant.low;
      high = before_none c.args.moment (items_of (g.S.Store.chains c.args.store.now) c.args.chain) middle c.get.result.now c.get.ensures (sym c.is_before.ensures ∙ c.if-is_before.false);
      within = omega (arith, c.loop-low.invariant.within, c.loop-low-test.true);
    }
