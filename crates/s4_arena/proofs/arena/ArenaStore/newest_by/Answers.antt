use Rattle.std.proofs.Common.{sym, ap, ◌∙◌, subst}
use Rattle.std.specs.List.Sorted.{IsNonDecreasingBy}
use Rattle.s4_store.specs.Chains.{items_of}
use Rattle.s4_store.specs.Keys.{last_by}
use Rattle.s4_arena.specs.declared.table.Row.TheVariants.{Open}
use Rattle.s4_arena.proofs.Tables.{row_of, items_of_row}
use Rattle.s4_arena.proofs.arena.ArenaStore.newest_by.Goals as goal

pub ends_at-ends-requires : goal.ends_at-ends-requires
ends_at-ends-requires g c =
    let inside = c.self.inside in
    row_of inside.heap.cells inside.rows.items c.args.self.now.chains c.args.chain c.number-number.result (ap (λ v. v.chains) c.self.view_is) c.requires.open c.number-number.ensures

pub newest_by-steps-requires-clause-ends : goal.newest_by-steps-requires-clause-ends
newest_by-steps-requires-clause-ends g c = c.self.invariant.nodes.each_row c.number-number.result (Open c.ends_at-ends.result) c.ends_at-ends.ensures

pub newest_by-steps-requires-clause-leaps : goal.newest_by-steps-requires-clause-leaps
newest_by-steps-requires-clause-leaps g c = c.self.invariant.nodes.jumps c.number-number.result c.ends_at-ends.result c.ends_at-ends.ensures

pub newest_by-steps-requires-clause-order : goal.newest_by-steps-requires-clause-order
newest_by-steps-requires-clause-order g c =
    let cs = c.self.inside.heap.cells in let rows = c.self.inside.rows.items in let n = c.number-number.result in let e = c.ends_at-ends.result in
    let items = ap (λ k. items_of c.args.self.now.chains k) (sym c.number-number.ensures) ∙ ap (λ v. items_of v.chains n) (sym c.self.view_is) ∙ items_of_row cs rows n e c.ends_at-ends.ensures in
    subst (IsNonDecreasingBy g.K.Key.key) items c.requires.order

pub returns : goal.returns
returns g c =
    let cs = c.self.inside.heap.cells in let rows = c.self.inside.rows.items in let n = c.number-number.result in let e = c.ends_at-ends.result in
    let items = ap (λ k. items_of c.args.self.now.chains k) (sym c.number-number.ensures) ∙ ap (λ v. items_of v.chains n) (sym c.self.view_is) ∙ items_of_row cs rows n e c.ends_at-ends.ensures in
    c.newest_by-steps.ensures.found ∙ ap (last_by g.K.Key.key c.args.moment) (sym items)
