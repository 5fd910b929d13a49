use Rattle.std.proofs.Common.{◌≡◌, ℕ, ◌-◌, ◌<◌, ◌≤◌, Some, refl, sym, ap, ◌∙◌, arith}
use Rattle.s4_arena.specs.Cells.{look}
use Rattle.s4_arena.specs.declared.leap.Leap.{Leap}
use Rattle.s4_arena.specs.declared.node.Link.{Link}
use Rattle.s4_arena.specs.Links.{node, link_at}
use Rattle.s4_arena.specs.Leaps.{goes_to, items_at}
use Rattle.s4_arena.specs.Spans.{span_at, next_index}
use Rattle.s4_arena.proofs.Steps.{either}
use Rattle.s4_arena.proofs.Leaping.{some_span}
use Rattle.s4_arena.proofs.Looking.{wanted, is_wanted, is_above, next-jump, next-back}
use Rattle.s4_arena.proofs.Seats.{seat, seat_jump, item_seen}
use Rattle.s4_arena.proofs.stop.Stop.earlier.Goals as goal
use Rattle.s4_arena.proofs.stop.Stop.earlier.Goals.{then-span-self+else-of-moment, else-span-self}

pub jump_at-at-requires : goal.jump_at-at-requires
jump_at-at-requires g c =
    let cs = c.args.heap.now.cells in let e = c.args.ends in let n = c.args.chain in let i = c.args.self.index in
    let s = seat cs n e i c.args.self.at c.requires.ends c.requires.within c.requires.stands in
    (node n s.prev s.next (Some s.item), s.item, s.there, refl)

pub item_at-requires : goal.item_at-requires
item_at-requires g c =
    let cs = c.args.heap.now.cells in let e = c.args.ends in let n = c.args.chain in let i = c.args.self.index in
    let s = seat cs n e i c.args.self.at c.requires.ends c.requires.within c.requires.stands in
    let t = seat_jump cs n e c.requires.ends c.requires.leaps i c.args.self.at s (some_span e.first i) c.requires.within (omega (arith, c.index_span-span.ensures, c.if-span-self.true)) in
    rw (c.jump_at-at.ensures (node n s.prev s.next (Some s.item)) s.item s.there refl) (node n t.prev t.next (Some t.item), t.item, t.there, refl)

pub returns-then-of-moment-clause-stands : goal.returns-then-of-moment-clause-stands
returns-then-of-moment-clause-stands g c =
    let cs = c.args.heap.now.cells in let e = c.args.ends in let n = c.args.chain in let i = c.args.self.index in
    let s = seat cs n e i c.args.self.at c.requires.ends c.requires.within c.requires.stands in
    let t = seat_jump cs n e c.requires.ends c.requires.leaps i c.args.self.at s (some_span e.first i) c.requires.within (omega (arith, c.index_span-span.ensures, c.if-span-self.true)) in
    ap (λ k. link_at cs e.oldest (i - k)) c.index_span-span.ensures ∙ t.at ∙ ap Some (sym (c.jump_at-at.ensures (node n s.prev s.next (Some s.item)) s.item s.there refl))

pub returns-then-of-moment-clause-goes : goal.returns-then-of-moment-clause-goes
returns-then-of-moment-clause-goes g c =
    let cs = c.args.heap.now.cells in let e = c.args.ends in let n = c.args.chain in let i = c.args.self.index in
    let key = g.K.Key.key in let xs = items_at cs e in let m = c.args.moment in let span : ℕ = span_at e.first i in
    let s = seat cs n e i c.args.self.at c.requires.ends c.requires.within c.requires.stands in
    let t = seat_jump cs n e c.requires.ends c.requires.leaps i c.args.self.at s (some_span e.first i) c.requires.within (omega (arith, c.index_span-span.ensures, c.if-span-self.true)) in
    let seen = item_seen cs n e (i - span) (goes_to s.item) t in
    let is : t.item.item ≡ c.item_at.result.now = c.item_at.ensures (node n t.prev t.next (Some t.item)) t.item (ap (λ (k : Link (Leap g.row.T.Denot)). look cs k.ptr) (c.jump_at-at.ensures (node n s.prev s.next (Some s.item)) s.item s.there refl) ∙ t.there) refl in
    either (wanted key m xs) (i - span)
    (λ h. ap (λ k. i - k) c.index_span-span.ensures ∙ sym (next-jump span (wanted key m xs) i (omega (arith, c.index_span-span.ensures, c.if-span-self.true))))
    (λ h. let le : key t.item.item ≤ m = is_wanted key m xs (i - span) t.item.item seen h in absurd (omega (arith, ap key is, c.of.ensures, c.if-of-moment.true)))

pub returns-clause-goes : goal.returns-clause-goes
returns-clause-goes g c =
    let cs = c.args.heap.now.cells in let e = c.args.ends in let n = c.args.chain in let i = c.args.self.index in
    let key = g.K.Key.key in let xs = items_at cs e in let m = c.args.moment in let span : ℕ = span_at e.first i in
    let s = seat cs n e i c.args.self.at c.requires.ends c.requires.within c.requires.stands in
    elim c.if-span-self.branch [
      | then-span-self+else-of-moment w ↦
          let t = seat_jump cs n e c.requires.ends c.requires.leaps i c.args.self.at s (some_span e.first i) c.requires.within (omega (arith, c.index_span-span.ensures, w.if-span-self.true)) in
          let seen = item_seen cs n e (i - span) (goes_to s.item) t in
          let is : t.item.item ≡ w.item_at.result.now = w.item_at.ensures (node n t.prev t.next (Some t.item)) t.item (ap (λ (k : Link (Leap g.row.T.Denot)). look cs k.ptr) (w.jump_at-at.ensures (node n s.prev s.next (Some s.item)) s.item s.there refl) ∙ t.there) refl in
          either (wanted key m xs) (i - span)
          (λ h. let lt : m < key t.item.item = is_above key m xs (i - span) t.item.item c.requires.order seen h in absurd (omega (arith, ap key is, w.of.ensures, w.if-of-moment.false)))
          (λ h. let back : next_index span (wanted key m xs) i ≡ i - 1 = next-back span (wanted key m xs) i (omega (arith, c.index_span-span.ensures)) in omega (arith, back, c.older.ensures.index))
      | else-span-self w ↦ let back : next_index span (wanted key m xs) i ≡ i - 1 = next-back span (wanted key m xs) i (omega (arith, c.index_span-span.ensures, w.if-span-self.false)) in omega (arith, back, c.older.ensures.index)
    ]
