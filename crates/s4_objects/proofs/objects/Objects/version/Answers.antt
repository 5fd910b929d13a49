use Rattle.std.proofs.Common.{List, sym, ap, ◌∙◌, subst}
use Rattle.std.specs.List.Sorted.{IsNonDecreasingBy}
use Rattle.s4_store.specs.Chains.{IsOpen, items_of}
use Rattle.s4_types.specs.declared.version.Version.{Version}
use Rattle.s4_objects.specs.Chains.{held}
use Rattle.s4_objects.proofs.objects.Objects.version.Goals as goal

pub version-requires-clause-open : goal.version-requires-clause-open
version-requires-clause-open g c = subst (IsOpen (g.S.Store.chains c.args.store.now)) (sym c.track.ensures) (c.requires.chained.opened c.args.object.now c.in-Some.kept.now c.args.which (sym c.in-Some.ensures.value))

pub version-requires-clause-order : goal.version-requires-clause-order
version-requires-clause-order g c =
    let chains = g.S.Store.chains c.args.store.now in
    subst (λ (xs : List Version). IsNonDecreasingBy (λ v. v.begin) xs)
    (ap (λ o. held chains o c.args.which) (sym c.in-Some.ensures.value) ∙ ap (items_of chains) (sym c.track.ensures)) (c.requires.begun c.args.object.now c.args.which)
