use Rattle.std.proofs.Common.{◌≡◌, Option, ℕ, Some, sym, ◌∙◌, ap, subst}
use Rattle.s4_parts.specs.Table.{chain_on, chain_at, items_on, IsTimely}
use Rattle.s4_parts.proofs.parts.Parts.mount.Goals as goal

pub bound_object-requires-clause-open : goal.bound_object-requires-clause-open
bound_object-requires-clause-open g c =
    c.requires.opened c.args.purse.now c.args.name.now c.in_ok-track.track.chain (sym (ap (λ x. chain_on x c.args.name.now) c.in_ok-get.ensures.value) ∙ sym c.in_ok-track.ensures)

pub bound_object-requires-clause-order : goal.bound_object-requires-clause-order
bound_object-requires-clause-order g c =
    let at : chain_at c.args.self.now c.args.purse.now c.args.name.now ≡ Some c.in_ok-track.track.chain = sym (ap (λ x. chain_on x c.args.name.now) c.in_ok-get.ensures.value) ∙ sym c.in_ok-track.ensures in
    (subst (λ (o : Option ℕ). IsTimely (items_on (g.S.Store.chains c.args.store.now) o)) at (c.requires.timely c.args.purse.now c.args.name.now)).order
