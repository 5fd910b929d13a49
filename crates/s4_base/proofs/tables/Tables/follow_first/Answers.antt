use Rattle.std.proofs.Common.{◌≡◌, ◌+◌, ◌<◌, ◌≤◌, ℕ, zero, suc, List, [], drop, take, length, ◌∷◌, get_or, sym, ◌∙◌, ap, arith, length-take}
use Rattle.std.proofs.lemmas.List.{drop_all}
use Rattle.s4_types.specs.declared.record.Record.{Record}
use Rattle.s4_base.specs.Tables.{base_in, lists_of}
use Rattle.s4_base.proofs.Going.{goes-first, next-fits, goes-next, goes-done}
use Rattle.s4_base.proofs.OfLists.{lists-bound}
use Rattle.s4_base.proofs.tables.Tables.follow_first.Goals as goal

-- the record at a place of the first ones, and those behind it
at_first : (h : List Record) (count k : ℕ) (r : Record) → k < count → count ≤ length h → r ≡ get_or h k r → drop k (take count h) ≡ r ∷ drop (k + 1) (take count h)
at_first h zero k r low fits is = absurd (omega (arith, low))
at_first [] (suc count) k r low fits is = absurd (omega (arith, fits))
at_first (x ∷ h) (suc count) zero r low fits is = ap (λ (y : Record). y ∷ take count h) (sym is)
at_first (x ∷ h) (suc count) (suc k) r low fits is =
    let more : suc k + 1 ≡ suc (k + 1) = omega arith in
    at_first h count k r (omega (arith, low)) (omega (arith, fits)) is ∙ ap (λ (n : ℕ). r ∷ drop n (x ∷ take count h)) (sym more)

pub loop-at-init : goal.loop-at-init
loop-at-init c = goes-first (base_in c.args.self.now) c.args.cut (take c.args.count c.args.records.now.items) c.requires.is_base c.requires.order c.requires.last c.requires.fits

pub follow-requires-clause-counts : goal.follow-requires-clause-counts
follow-requires-clause-counts c = omega (arith, c.loop-at.invariant.counted)

pub follow-requires-clause-fits : goal.follow-requires-clause-fits
follow-requires-clause-fits c =
    let records = c.args.records.now.items in
    let k = c.loop-at.at in
    let r = c.index.result.now in
    next-fits (base_in c.args.self.now) (base_in c.loop-at.self) c.args.cut (take c.args.count records) k c.loop-at.invariant r (at_first records c.args.count k r c.loop-at-test.true c.requires.within c.index.ensures)

pub loop-at-preserved : goal.loop-at-preserved
loop-at-preserved c =
    let records = c.args.records.now.items in
    let k = c.loop-at.at in
    let r = c.index.result.now in
    goes-next (base_in c.args.self.now) (base_in c.loop-at.self) c.args.cut (take c.args.count records) k c.loop-at.invariant r (at_first records c.args.count k r c.loop-at-test.true c.requires.within c.index.ensures) (base_in c.follow.new.self) c.in_ok-follow.ensures

pub returns : goal.returns
returns c =
    let records = take c.args.count c.args.records.now.items in
    let k = c.loop-at.at in
    c.reach.ensures.value
    ∙ goes-done (base_in c.args.self.now) (base_in c.loop-at.self) (lists-bound (lists_of c.loop-at.self)) c.args.cut records k c.loop-at.invariant (drop_all k records (omega (arith, length-take c.args.count c.args.records.now.items, c.loop-at-test.false)))
