use Rattle.std.proofs.Common.{◌≡◌, ◌+◌, ◌-◌, ◌<◌, ◌≤◌, ap, ◌∙◌, arith}
use Rattle.s4_arena.specs.Links.{link_at}
use Rattle.s4_arena.specs.Spans.{span_at, next_index}
use Rattle.s4_arena.proofs.Steps.{steps}
use Rattle.s4_arena.proofs.Finding.{nearer, not_past, stepped, at_most}
use Rattle.s4_arena.proofs.Seats.{seat_newest, some_newest, has_newest}
use Rattle.s4_arena.proofs.reach.Ends+Leap+T.reach.Goals as goal

pub unreachable-requires : goal.unreachable-requires
unreachable-requires g c = has_newest c.args.heap.now.cells c.args.chain c.args.self c.requires.ends (omega (arith, c.requires.within)) c.in_default.is

pub loop-stop-init : goal.loop-stop-init
loop-stop-init g c =
    let cs = c.args.heap.now.cells in let e = c.args.self in let n = c.args.chain in
    let pos : 0 < e.len = some_newest cs n e c.in-Some.at c.requires.ends c.in-Some.is in
    let older : c.args.index ≤ e.len - 1 = omega (arith, c.requires.within) in
    record {
      within = omega (arith, pos);
      stands = (seat_newest cs n e c.in-Some.at c.requires.ends c.in-Some.is).at;
      older = older;
      fewer = omega (arith, pos);
      few = λ k top fits. omega (arith, at_most e.first (e.len - 1) c.args.index k (omega (arith, pos, fits)) older);
    }

pub loop-stop-smaller : goal.loop-stop-smaller
loop-stop-smaller g c =
    let v = c.loop-stop.invariant in
    let on = nearer c.args.self.first c.loop-stop.stop.index c.args.index (omega (arith, c.loop-stop-test.true)) v.older in
    omega (arith, on.less, c.nearer-stop.ensures.goes)

pub loop-stop-preserved : goal.loop-stop-preserved
loop-stop-preserved g c =
    let e = c.args.self in let v = c.loop-stop.invariant in let i = c.loop-stop.stop.index in
    let on = nearer e.first i c.args.index (omega (arith, c.loop-stop-test.true)) v.older in
    let kept = not_past (span_at e.first i) c.args.index i c.loop-stop-test.true in
    record {
      within = omega (arith, on.less, c.nearer-stop.ensures.goes, v.within);
      stands = c.nearer-stop.ensures.stands;
      older = omega (arith, kept, c.nearer-stop.ensures.goes);
      fewer = omega (arith, on.less, c.nearer-stop.ensures.goes, v.fewer);
      few = λ k top fits.
          let same : steps k (e.first + c.nearer-stop.result.index + 1) (e.first + c.args.index) ≡ steps k (e.first + next_index (span_at e.first i) c.args.index i + 1) (e.first + c.args.index)
          = ap (λ j. steps k (e.first + j + 1) (e.first + c.args.index)) c.nearer-stop.ensures.goes in
          omega (arith, same, v.few k top fits, stepped e.first i c.args.index k top (omega (arith, v.within, fits)) (omega (arith, c.loop-stop-test.true)) v.older);
    }

pub returns-clause-found : goal.returns-clause-found
returns-clause-found g c =
    let v = c.loop-stop.invariant in let here : c.args.index ≡ c.loop-stop.stop.index = omega (arith, v.older, c.loop-stop-test.false) in
    ap (link_at c.args.heap.now.cells c.args.self.oldest) here ∙ v.stands
