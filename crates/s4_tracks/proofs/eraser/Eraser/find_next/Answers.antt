use Rattle.std.proofs.Common.{sym, ◌∙◌, arith}
use Rattle.s4_store.specs.Chains.{items_of}
use Rattle.s4_tracks.proofs.Walking.{passed_on}
use Rattle.s4_tracks.proofs.eraser.Eraser.find_next.Goals as goal

pub loop-place-preserved : goal.loop-place-preserved
loop-place-preserved g c =
    let s = g.S.Store in let v = c.loop-place.invariant in let e = c.in-Some.ensures in
    record {
      same = record { chain = v.same.chain; from = v.same.from; to = v.same.to };
      stands = record { place = e.place; chain = e.chain };
      passed = passed_on s.index_at s.chain_at (items_of (s.chains c.args.store.now)) c.args.self.now c.loop-place.self c.in-Some.place c.item.result.now v.same e.chain e.index v.passed c.item.ensures (sym c.is_erasable.ensures ∙ c.if-is_erasable.false);
      onward = omega (arith, e.index, v.onward);
    }
