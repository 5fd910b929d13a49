use Rattle.std.proofs.Common.{◌≡◌, length, subst, arith}
use Rattle.std.specs.List.{AllAdjacentBelow}
use Rattle.std.proofs.lemmas.List.Sorted.{IsNonDecreasingBy-from_all_adjacent}
use Rattle.s4_store.specs.Chains.{items_of}
use Rattle.s4_store.specs.PlainStore.{chains_of}
use Rattle.s4_kept_tests.proofs.Ordered.{Follows, adjacent-more, low-more}
use Rattle.s4_kept_tests.proofs.tracks.is_in_order.Goals as goal

pub loop-index-preserved : goal.loop-index-preserved
loop-index-preserved c =
    let items = items_of (chains_of c.args.store.now) c.args.track.now.chain in let v = c.loop-index.invariant in
    record {
      adjacent = adjacent-more items c.loop-index.index c.loop-index.newest c.get.result.now c.get.ensures v.adjacent v.low (omega arith);
      low = λ d some. let low = low-more items c.loop-index.index c.get.result.now c.get.ensures d in omega (arith, low, c.tick-begin.ensures);
    }

pub returns : goal.returns
returns c = λ e.
    let items = items_of (chains_of c.args.store.now) c.args.track.now.chain in
    let at_end : c.loop-index.index ≡ length items = omega (arith, c.len-index-end.ensures) in
    IsNonDecreasingBy-from_all_adjacent (λ v. v.begin) items (subst (AllAdjacentBelow Follows items) at_end c.loop-index.invariant.adjacent)
