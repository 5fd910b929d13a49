use Rattle.std.proofs.Common.{rules, ◌≡◌, ◌+◌, ◌≤◌, List, [], ◌∷◌, refl, sym, ◌∙◌, ap, subst, arith, drop, length, vec_len}
use Rattle.std.proofs.lemmas.List.{drop_more, length-append}
use Rattle.s4_objects.specs.declared.ends.Ended.{Ended}
use Rattle.s4_objects.specs.declared.flushes.Refund.{Refund}
use Rattle.s4_objects.specs.Chains.{held}
use Rattle.s4_objects.specs.Ends.{all_ends, IsRising}
use Rattle.s4_objects.specs.Erasing.{next_refunds}
use Rattle.s4_objects.specs.Table.{found_in}
use Rattle.s4_objects.proofs.Spanning.{rising_drop, end_count_above, queue_fits}
use Rattle.s4_objects.proofs.Nexting.{IsErasing, IsRefunded, next_short, refunded_at_first, refunded_then, erasing_first, erasing_order, erasing_passed, erasing_next, erasing_done}
use Rattle.s4_objects.proofs.flushes.flush.Given.{Over}
use Rattle.s4_objects.proofs.flushes.flush.Goals as goal
use Rattle.s4_objects.proofs.flushes.flush.Goals.{After-index}

-- each end waits for a value that is held
pub returns-in_err-reserve-clause-enough : goal.returns-in_err-reserve-clause-enough
returns-in_err-reserve-clause-enough g c l =
    let h = c.requires.holds in
    let fits = queue_fits c.args.objects.now.ends.items (g.S.Store.chains c.args.store.now) h.chained h.queued in
    let len : vec_len c.args.refunds.now ≡ length c.args.refunds.now.items = search rules in
    let none : length c.args.refunds.now.items ≡ 0 = ap length c.requires.empty in
    absurd (omega (arith, l, fits, len, none, c.in_err-reserve.ensures.full, c.ends_by-behind.ensures.within, c.saturating_sub.ensures))

pub loop-at-init : goal.loop-at-init
loop-at-init g c =
    let m = g.S.Store.chains c.args.store.now in
    let found = found_in c.args.objects.now in
    let still : c.reserve.new.self.items ≡ [] = c.reserve.ensures.items ∙ c.requires.empty in
    let none : length c.reserve.new.self.items ≡ 0 = ap length still in
    let len : vec_len c.reserve.new.self ≡ length c.reserve.new.self.items = search rules in
    record {
      erasing = erasing_first c.requires.holds c.args.from c.args.to c.first_from-first.result (λ f. (c.first_from-first.ensures.timely f).0) c.first_from-first.ensures.reversed;
      refunded = subst (IsRefunded m m found) (sym still) (refunded_at_first m found);
      walk = _;
      told = omega (arith, none);
      space = omega (arith, c.in_ok-reserve.ensures.ok, c.saturating_sub.ensures, none, len);
      capacity = c.reserve.ensures.capacity;
      room = refl;
    }

-- the next end, and those behind it
left-is : (g : Over) (c : After-index g) → drop c.loop-at.at c.args.objects.now.ends.items ≡ c.index.result.now ∷ drop (c.loop-at.at + 1) c.args.objects.now.ends.items
left-is g c =
    let es : List Ended = c.args.objects.now.ends.items in
    drop_more es c.loop-at.at c.index.result.now (omega (arith, c.loop-at-test.true, c.ends_by-behind.ensures.within))
    ∙ ap (λ e. e ∷ drop (c.loop-at.at + 1) es) (sym c.index.ensures)

erasing-here : (g : Over) (c : After-index g) → IsErasing (g.S.Store.chains c.args.store.now) (g.S.Store.chains c.loop-at.store) (found_in c.args.objects.now) c.args.objects.now.ends.items c.args.from c.args.to
    (c.index.result.now ∷ drop (c.loop-at.at + 1) c.args.objects.now.ends.items)
erasing-here g c = subst (IsErasing (g.S.Store.chains c.args.store.now) (g.S.Store.chains c.loop-at.store) (found_in c.args.objects.now) c.args.objects.now.ends.items c.args.from c.args.to) (left-is g c) c.loop-at.invariant.erasing

rising-here : (g : Over) (c : After-index g) → IsRising (all_ends (c.index.result.now ∷ drop (c.loop-at.at + 1) c.args.objects.now.ends.items))
rising-here g c = subst (λ es. IsRising (all_ends es)) (left-is g c) (rising_drop c.loop-at.at c.args.objects.now.ends.items c.requires.holds.rising)

by-here : (g : Over) (c : After-index g) → c.index.result.now.end ≤ c.args.to
by-here g c = subst (λ (e : Ended). e.end ≤ c.args.to) (sym c.index.ensures) (c.ends_by-behind.ensures.point.0 c.loop-at.at c.index.result.now (omega arith) c.loop-at-test.true)

pub erase_ended-eraser-requires-clause-chained : goal.erase_ended-eraser-requires-clause-chained
erase_ended-eraser-requires-clause-chained g c = c.loop-at.invariant.erasing.chained

pub erase_ended-eraser-requires-clause-order : goal.erase_ended-eraser-requires-clause-order
erase_ended-eraser-requires-clause-order g c = erasing_order c.loop-at.invariant.erasing c.requires.holds.rising c.index.result.now.object c.index.result.now.which

pub erase_ended-eraser-requires-clause-passed : goal.erase_ended-eraser-requires-clause-passed
erase_ended-eraser-requires-clause-passed g c =
    let at = (goal.at.erase_ended-eraser-requires-clause-passed g c).After-index in
    erasing_passed (erasing-here g at) (rising-here g at) (by-here g at)

pub loop-at-preserved : goal.loop-at-preserved
loop-at-preserved g c =
    let at = (goal.at.loop-at-preserved g c).After-index in
    let i = c.loop-at.invariant in
    let e : Ended = c.index.result.now in
    let ensures' = c.erase_ended-eraser.ensures in
    let more : List Refund = next_refunds c.args.from e (held (g.S.Store.chains c.loop-at.store) (found_in c.args.objects.now e.object) e.which) in
    let longer : length c.erase_ended-eraser.new.refunds.items ≡ length c.loop-at.refunds.items + length more = ap length ensures'.refunds ∙ length-append c.loop-at.refunds.items more in
    let short = next_short c.args.from e (held (g.S.Store.chains c.loop-at.store) (found_in c.args.objects.now e.object) e.which) in
    record {
      erasing = erasing_next (erasing-here g at) (rising-here g at) (by-here g at) ensures'.erases;
      refunded = subst (IsRefunded (g.S.Store.chains c.args.store.now) (g.S.Store.chains c.erase_ended-eraser.new.store) (found_in c.args.objects.now)) (sym ensures'.refunds) (refunded_then i.refunded ensures'.erases);
      walk = ensures'.walk;
      told = omega (arith, i.told, longer, short);
      space = omega (arith, i.space, ensures'.capacity);
      capacity = omega (arith, i.capacity, ensures'.capacity);
      room = ensures'.room ∙ i.room;
    }

-- the ends that are left are above the span
pub returns-clause-ok : goal.returns-clause-ok
returns-clause-ok g c =
    let i = c.loop-at.invariant in
    erasing_done i.erasing i.refunded (λ o w n l. end_count_above o w n c.args.to c.loop-at.at c.args.objects.now.ends.items (λ k d low high. c.ends_by-behind.ensures.point.1 k d (omega (arith, low, c.loop-at-test.false)) high) l)

pub returns-clause-room : goal.returns-clause-room
returns-clause-room g c = c.loop-at.invariant.room
