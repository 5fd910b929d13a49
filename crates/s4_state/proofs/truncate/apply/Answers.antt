use Rattle.std.proofs.Common.{sym, ap, subst, refl, ◌∙◌}
use Rattle.s4_types.specs.declared.version.Item.TheVariants as item
use Rattle.s4_types.specs.Versions.{of_length}
use Rattle.s4_objects.specs.declared.kept.Which.TheVariants as which
use Rattle.s4_state.specs.Stands.{base_in, PutsOn}
use Rattle.s4_state.proofs.Effects.{truncate_puts, changed_lives}
use Rattle.s4_state.proofs.truncate.apply.Goals as goal

pub put-requires-clause-lives : goal.put-requires-clause-lives
put-requires-clause-lives g c = changed_lives c.requires.kept.sound c.requires.next c.requires.granted c.args.object.now _ c.requires.asked refl

pub put-requires-clause-puts : goal.put-requires-clause-puts
put-requires-clause-puts g c =
    let h = c.args.parts.now.history.records in
    let old = c.current_data.ensures c.args.added.now.moment c.requires.next.later in
    subst (λ bytes. PutsOn (base_in c.args.parts.now) h c.args.added.now c.args.object.now which.Data (item.Data bytes))
    (sym (c.in_ok-new.ensures ∙ ap (of_length c.args.length) old))
    (truncate_puts c.requires.kept.sound c.requires.next c.requires.granted c.args.object.now c.args.length c.requires.asked)
