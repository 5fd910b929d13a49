use Rattle.std.proofs.Common.{◌≡◌, ◌+◌, ◌-◌, ◌<◌, ◌≤◌, Some, refl, sym, ap, ◌∙◌, arith}
use Rattle.s4_store.specs.Keys.{last_by}
use Rattle.s4_arena.specs.Links.{node}
use Rattle.s4_arena.specs.Leaps.{items_at}
use Rattle.s4_arena.specs.Spans.{span_at, next_index}
use Rattle.s4_arena.proofs.Steps.{steps, either}
use Rattle.s4_arena.proofs.Looking.{wanted, is_wanted, none_found, one_found}
use Rattle.s4_arena.proofs.Finding.{nearer, stepped, at_most}
use Rattle.s4_arena.proofs.Seats.{seat, seat_newest, some_newest, item_seen, none_seen, wanted_within}
use Rattle.s4_arena.proofs.search.Ends+Leap+T.newest_by.Goals as goal

pub returns-in_default-clause-found : goal.returns-in_default-clause-found
returns-in_default-clause-found g c =
    let cs = c.args.heap.now.cells in let e = c.args.self in
    sym (ap (last_by g.K.Key.key c.args.moment) (none_seen cs c.args.chain e c.requires.ends c.in_default.is))

pub item_at-newest-requires : goal.item_at-newest-requires
item_at-newest-requires g c =
    let cs = c.args.heap.now.cells in let e = c.args.self in let n = c.args.chain in
    let s = seat_newest cs n e c.in-Some.at c.requires.ends c.in-Some.is in
    (node n s.prev s.next (Some s.item), s.item, s.there, refl)

pub returns-then-of-moment-clause-found : goal.returns-then-of-moment-clause-found
returns-then-of-moment-clause-found g c =
    let cs = c.args.heap.now.cells in let e = c.args.self in let n = c.args.chain in let key = g.K.Key.key in let xs = items_at cs e in let m = c.args.moment in
    let s = seat_newest cs n e c.in-Some.at c.requires.ends c.in-Some.is in
    let is : s.item.item ≡ c.item_at-newest.result.now = c.item_at-newest.ensures (node n s.prev s.next (Some s.item)) s.item s.there refl in
    ap Some (sym is) ∙ one_found key m xs (e.len - 1) s.item.item c.requires.order (item_seen cs n e (e.len - 1) c.in-Some.at s) (omega (arith, ap key is, c.of.ensures, c.if-of-moment.true))
    (omega (arith, wanted_within cs n e key m c.requires.ends, some_newest cs n e c.in-Some.at c.requires.ends c.in-Some.is))

pub overflow_sub-index : goal.overflow_sub-index
overflow_sub-index g c = omega (arith, some_newest c.args.heap.now.cells c.args.chain c.args.self c.in-Some.at c.requires.ends c.in-Some.is)

pub loop-stop-init : goal.loop-stop-init
loop-stop-init g c =
    let cs = c.args.heap.now.cells in let e = c.args.self in let n = c.args.chain in let key = g.K.Key.key in let xs = items_at cs e in let m = c.args.moment in
    let s = seat_newest cs n e c.in-Some.at c.requires.ends c.in-Some.is in
    let pos : 0 < e.len = some_newest cs n e c.in-Some.at c.requires.ends c.in-Some.is in
    let is : s.item.item ≡ c.item_at-newest.result.now = c.item_at-newest.ensures (node n s.prev s.next (Some s.item)) s.item s.there refl in
    let above : wanted key m xs ≤ e.len - 1 = either (wanted key m xs) (e.len - 1) (λ h. h)
    (λ h. let le : key s.item.item ≤ m = is_wanted key m xs (e.len - 1) s.item.item (item_seen cs n e (e.len - 1) c.in-Some.at s) h in absurd (omega (arith, ap key is, c.of.ensures, c.if-of-moment.false))) in
    record {
      within = omega (arith, pos);
      stands = s.at;
      above = above;
      fewer = omega (arith, pos);
      few = λ k top fits. omega (arith, at_most e.first (e.len - 1) (wanted key m xs) k (omega (arith, pos, fits)) above);
    }

pub item_at-item-requires : goal.item_at-item-requires
item_at-item-requires g c =
    let cs = c.args.heap.now.cells in let e = c.args.self in let n = c.args.chain in let v = c.loop-stop.invariant in
    let on = nearer e.first c.loop-stop.stop.index (wanted g.K.Key.key c.args.moment (items_at cs e)) c.loop-stop-test.true v.above in
    let s = seat cs n e c.earlier-stop.result.index c.earlier-stop.result.at c.requires.ends (omega (arith, on.less, c.earlier-stop.ensures.goes, v.within)) c.earlier-stop.ensures.stands in
    (node n s.prev s.next (Some s.item), s.item, s.there, refl)

pub returns-then-of-moment-2-clause-found : goal.returns-then-of-moment-2-clause-found
returns-then-of-moment-2-clause-found g c =
    let cs = c.args.heap.now.cells in let e = c.args.self in let n = c.args.chain in let v = c.loop-stop.invariant in let key = g.K.Key.key in let xs = items_at cs e in let m = c.args.moment in
    let on = nearer e.first c.loop-stop.stop.index (wanted key m xs) c.loop-stop-test.true v.above in
    let i = c.earlier-stop.result.index in
    let s = seat cs n e i c.earlier-stop.result.at c.requires.ends (omega (arith, on.less, c.earlier-stop.ensures.goes, v.within)) c.earlier-stop.ensures.stands in
    let is : s.item.item ≡ c.item_at-item.result.now = c.item_at-item.ensures (node n s.prev s.next (Some s.item)) s.item s.there refl in
    ap Some (sym is) ∙ one_found key m xs i s.item.item c.requires.order (item_seen cs n e i c.earlier-stop.result.at s) (omega (arith, ap key is, c.of-in-loop-stop.ensures, c.if-of-moment-2.true)) (omega (arith, on.near, c.earlier-stop.ensures.goes))

pub returns-then-of-moment-2-clause-few : goal.returns-then-of-moment-2-clause-few
returns-then-of-moment-2-clause-few g c =
    let cs = c.args.heap.now.cells in let e = c.args.self in let v = c.loop-stop.invariant in let key = g.K.Key.key in let xs = items_at cs e in let m = c.args.moment in
    λ k top fits. omega (arith, v.few k top fits, stepped e.first c.loop-stop.stop.index (wanted key m xs) k top (omega (arith, v.within, fits)) c.loop-stop-test.true v.above)

pub loop-stop-smaller : goal.loop-stop-smaller
loop-stop-smaller g c =
    let cs = c.args.heap.now.cells in let e = c.args.self in let v = c.loop-stop.invariant in
    let on = nearer e.first c.loop-stop.stop.index (wanted g.K.Key.key c.args.moment (items_at cs e)) c.loop-stop-test.true v.above in
    omega (arith, on.less, c.earlier-stop.ensures.goes)

pub loop-stop-preserved : goal.loop-stop-preserved
loop-stop-preserved g c =
    let cs = c.args.heap.now.cells in let e = c.args.self in let n = c.args.chain in let v = c.loop-stop.invariant in let key = g.K.Key.key in let xs = items_at cs e in let m = c.args.moment in
    let on = nearer e.first c.loop-stop.stop.index (wanted key m xs) c.loop-stop-test.true v.above in
    let i = c.earlier-stop.result.index in
    let s = seat cs n e i c.earlier-stop.result.at c.requires.ends (omega (arith, on.less, c.earlier-stop.ensures.goes, v.within)) c.earlier-stop.ensures.stands in
    let is : s.item.item ≡ c.item_at-item.result.now = c.item_at-item.ensures (node n s.prev s.next (Some s.item)) s.item s.there refl in
    let above : wanted key m xs ≤ i = either (wanted key m xs) i (λ h. h)
    (λ h. let le : key s.item.item ≤ m = is_wanted key m xs i s.item.item (item_seen cs n e i c.earlier-stop.result.at s) h in absurd (omega (arith, ap key is, c.of-in-loop-stop.ensures, c.if-of-moment-2.false))) in
    record {
      within = omega (arith, on.less, c.earlier-stop.ensures.goes, v.within);
      stands = c.earlier-stop.ensures.stands;
      above = above;
      fewer = omega (arith, on.less, c.earlier-stop.ensures.goes, v.fewer);
      few = λ k top fits.
          let same : steps k (e.first + i + 1) (e.first + wanted key m xs) ≡ steps k (e.first + next_index (span_at e.first c.loop-stop.stop.index) (wanted key m xs) c.loop-stop.stop.index + 1) (e.first + wanted key m xs)
          = ap (λ j. steps k (e.first + j + 1) (e.first + wanted key m xs)) c.earlier-stop.ensures.goes in
          omega (arith, same, v.few k top fits, stepped e.first c.loop-stop.stop.index (wanted key m xs) k top (omega (arith, v.within, fits)) c.loop-stop-test.true v.above);
    }

pub returns-clause-found : goal.returns-clause-found
returns-clause-found g c =
    let cs = c.args.heap.now.cells in let e = c.args.self in let xs = items_at cs e in
    none_found g.K.Key.key c.args.moment xs c.requires.order (omega (arith, c.loop-stop.invariant.above, c.loop-stop-test.false))
