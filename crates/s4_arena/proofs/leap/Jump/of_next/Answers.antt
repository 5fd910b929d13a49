use Rattle.std.proofs.Common.{◌≡◌, ◌+◌, ◌-◌, Some, refl, sym, ap, ◌∙◌, arith, length}
use Rattle.s4_arena.specs.Cells.{look}
use Rattle.s4_arena.specs.declared.leap.Leap.{Leap}
use Rattle.s4_arena.specs.declared.node.Link.{Link}
use Rattle.s4_arena.specs.Links.{node}
use Rattle.s4_arena.specs.Spans.{span_at}
use Rattle.s4_arena.proofs.Counted.{told}
use Rattle.s4_arena.proofs.Leaping.{some_span}
use Rattle.s4_arena.proofs.Linking.{none_last}
use Rattle.s4_arena.proofs.Seats.{seat_newest, some_newest, lies_at, jump_twice}
use Rattle.s4_arena.proofs.leap.Jump.of_next.Goals as goal

pub returns-in_default : goal.returns-in_default
returns-in_default g c =
    let e = c.args.ends in let h = c.requires.ends in
    let none = ap length (none_last c.args.heap.now.cells c.args.chain h.0 e.oldest e.newest c.in_default.is h.1) in
    λ kept. absurd (omega (arith, none, h.2, some_span e.first e.len))

pub returns-then-span-eq1 : goal.returns-then-span-eq1
returns-then-span-eq1 g c =
    let cs = c.args.heap.now.cells in let e = c.args.ends in let n = c.args.chain in let q = c.in-Some.newest in let h = c.requires.ends in
    let s = seat_newest cs n e q h c.in-Some.is in
    λ kept.
    let one : span_at e.first e.len ≡ 1 = sym ((told e.first e.len c.next_span-span.result (c.next_span-span.ensures.fits (e.first + e.len) c.requires.leaps.forest) (c.next_span-span.ensures.one (e.first + e.len) c.requires.leaps.forest)).0 kept) ∙ c.if-span-eq1.true in
    rw one (lies_at cs n e (e.len - 1) q h (omega (arith, some_newest cs n e q h c.in-Some.is)) s.at ∙ ap Some (sym c.to-then-span-eq1.ensures))

pub jump_at-requires : goal.jump_at-requires
jump_at-requires g c =
    let cs = c.args.heap.now.cells in let e = c.args.ends in let n = c.args.chain in let q = c.in-Some.newest in
    let s = seat_newest cs n e q c.requires.ends c.in-Some.is in
    (node n s.prev s.next (Some s.item), s.item, s.there, refl)

pub jump_at-requires-2 : goal.jump_at-requires-2
jump_at-requires-2 g c =
    let cs = c.args.heap.now.cells in let e = c.args.ends in let n = c.args.chain in let q = c.in-Some.newest in
    let s = seat_newest cs n e q c.requires.ends c.in-Some.is in
    let span = (told e.first e.len c.next_span-span.result (c.next_span-span.ensures.fits (e.first + e.len) c.requires.leaps.forest) (c.next_span-span.ensures.one (e.first + e.len) c.requires.leaps.forest)).1 c.if-span-eq1.false in
    let t = jump_twice cs n e c.requires.ends c.requires.leaps q s (omega (arith, span, c.if-span-ends.false)) (λ one. c.if-span-eq1.false (span ∙ one)) in
    rw (c.jump_at.ensures (node n s.prev s.next (Some s.item)) s.item s.there refl) (node n t.seat.prev t.seat.next (Some t.seat.item), t.seat.item, t.seat.there, refl)

pub returns : goal.returns
returns g c =
    let cs = c.args.heap.now.cells in let e = c.args.ends in let n = c.args.chain in let q = c.in-Some.newest in
    let s = seat_newest cs n e q c.requires.ends c.in-Some.is in
    let span = (told e.first e.len c.next_span-span.result (c.next_span-span.ensures.fits (e.first + e.len) c.requires.leaps.forest) (c.next_span-span.ensures.one (e.first + e.len) c.requires.leaps.forest)).1 c.if-span-eq1.false in
    let t = jump_twice cs n e c.requires.ends c.requires.leaps q s (omega (arith, span, c.if-span-ends.false)) (λ one. c.if-span-eq1.false (span ∙ one)) in
    let at = c.jump_at.ensures (node n s.prev s.next (Some s.item)) s.item s.there refl in
    λ kept. t.goes ∙ ap (λ (k : Link (Leap g.row.T.Denot)). Some k.ptr) (sym (c.jump_at-2.ensures (node n t.seat.prev t.seat.next (Some t.seat.item)) t.seat.item (ap (λ (k : Link (Leap g.row.T.Denot)). look cs k.ptr) at ∙ t.seat.there) refl)) ∙ ap Some (sym c.to-2.ensures)
