use Rattle.std.proofs.Common.{◌≡◌, ℕ, ◌-◌, Some, refl, sym, ap, ◌∙◌, arith}
use Rattle.s4_arena.specs.Links.{node, link_at}
use Rattle.s4_arena.specs.Spans.{span_at, next_index}
use Rattle.s4_arena.proofs.Leaping.{some_span}
use Rattle.s4_arena.proofs.Looking.{next-jump, next-back}
use Rattle.s4_arena.proofs.Seats.{seat, seat_jump}
use Rattle.s4_arena.proofs.stop.Stop.nearer.Goals as goal

pub returns-then-span-left-clause-goes : goal.returns-then-span-left-clause-goes
returns-then-span-left-clause-goes g c =
    let i = c.args.self.index in let span : ℕ = span_at c.args.ends.first i in
    let back : next_index span c.args.index i ≡ i - 1 = next-back span c.args.index i (omega (arith, c.index_span-span.ensures, c.if-span-left.true)) in
    omega (arith, back, c.older.ensures.index)

pub jump_at-at-requires : goal.jump_at-at-requires
jump_at-at-requires g c =
    let cs = c.args.heap.now.cells in let e = c.args.ends in let n = c.args.chain in let i = c.args.self.index in
    let s = seat cs n e i c.args.self.at c.requires.ends c.requires.within c.requires.stands in
    (node n s.prev s.next (Some s.item), s.item, s.there, refl)

pub returns-clause-stands : goal.returns-clause-stands
returns-clause-stands g c =
    let cs = c.args.heap.now.cells in let e = c.args.ends in let n = c.args.chain in let i = c.args.self.index in
    let s = seat cs n e i c.args.self.at c.requires.ends c.requires.within c.requires.stands in
    let t = seat_jump cs n e c.requires.ends c.requires.leaps i c.args.self.at s (some_span e.first i) c.requires.within (omega (arith, c.index_span-span.ensures, c.if-span-left.false)) in
    ap (λ k. link_at cs e.oldest (i - k)) c.index_span-span.ensures ∙ t.at ∙ ap Some (sym (c.jump_at-at.ensures (node n s.prev s.next (Some s.item)) s.item s.there refl))

pub returns-clause-goes : goal.returns-clause-goes
returns-clause-goes g c =
    let i = c.args.self.index in let span : ℕ = span_at c.args.ends.first i in
    ap (λ k. i - k) c.index_span-span.ensures ∙ sym (next-jump span c.args.index i (omega (arith, c.index_span-span.ensures, c.if-span-left.false, c.requires.newer)))
