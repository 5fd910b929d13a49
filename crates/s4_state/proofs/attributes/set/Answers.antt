use Rattle.std.proofs.Common.{sym, subst, refl}
use Rattle.s4_types.specs.declared.version.Item.TheVariants as item
use Rattle.s4_objects.specs.declared.kept.Which.TheVariants as which
use Rattle.s4_state.specs.Stands.{base_in, PutsOn}
use Rattle.s4_state.proofs.Effects.{set_attributes_puts, changed_lives}
use Rattle.s4_state.proofs.attributes.set.Goals as goal

pub put-requires-clause-lives : goal.put-requires-clause-lives
put-requires-clause-lives g c = changed_lives c.requires.kept.sound c.requires.next c.requires.granted c.args.object.now _ c.requires.asked refl

pub put-requires-clause-puts : goal.put-requires-clause-puts
put-requires-clause-puts g c =
    subst (λ bytes. PutsOn (base_in c.args.parts.now) c.args.parts.now.history.records c.args.added.now c.args.object.now which.Attributes (item.Attr bytes)) (sym c.in_ok-copy.ensures)
    (set_attributes_puts c.requires.kept.sound c.requires.next c.requires.granted c.args.object.now c.args.bytes.now c.requires.asked)
