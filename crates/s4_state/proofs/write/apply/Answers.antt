use Rattle.std.proofs.Common.{◌≡◌, ◌≤◌, length, arith, sym, ap, subst, refl, ◌∙◌}
use Rattle.s4_types.specs.Contents.{data_of}
use Rattle.s4_types.specs.declared.version.Item.TheVariants as item
use Rattle.s4_types.specs.Versions.{written}
use Rattle.s4_objects.specs.declared.kept.Which.TheVariants as which
use Rattle.s4_state.specs.Stands.{base_in, PutsOn}
use Rattle.s4_state.proofs.Effects.{write_puts, write_fits, changed_lives}
use Rattle.s4_state.proofs.write.apply.Goals as goal

pub put-requires-clause-lives : goal.put-requires-clause-lives
put-requires-clause-lives g c = changed_lives c.requires.kept.sound c.requires.next c.requires.granted c.args.object.now _ c.requires.asked refl

pub put-requires-clause-small : goal.put-requires-clause-small
put-requires-clause-small g c =
    let old = c.current_data.ensures c.args.added.now.moment c.requires.next.later in
    let is = c.in_ok-new.ensures ∙ ap (written c.args.offset c.args.bytes.now) old in
    let fits : length (written c.args.offset c.args.bytes.now (data_of (base_in c.args.parts.now) c.args.object.now c.args.added.now.moment c.args.parts.now.history.records)) ≤ 65536
    = write_fits c.requires.kept.sound c.requires.next c.requires.granted c.args.object.now c.args.offset c.args.bytes.now c.requires.asked in
    let len : length c.in_ok-new.new ≡ length (written c.args.offset c.args.bytes.now (data_of (base_in c.args.parts.now) c.args.object.now c.args.added.now.moment c.args.parts.now.history.records)) = ap length is in
    record { small = omega arith }

pub put-requires-clause-puts : goal.put-requires-clause-puts
put-requires-clause-puts g c =
    let old = c.current_data.ensures c.args.added.now.moment c.requires.next.later in
    subst (λ bytes. PutsOn (base_in c.args.parts.now) c.args.parts.now.history.records c.args.added.now c.args.object.now which.Data (item.Data bytes))
    (sym (c.in_ok-new.ensures ∙ ap (written c.args.offset c.args.bytes.now) old))
    (write_puts c.requires.kept.sound c.requires.next c.requires.granted c.args.object.now c.args.offset c.args.bytes.now c.requires.asked)
