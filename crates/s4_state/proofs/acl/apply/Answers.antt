use Rattle.std.proofs.Common.{◌≡◌, true, sym, ap, subst, refl, ◌∙◌}
use Rattle.std.specs.Prelude.{is_ok, Result, Ok, Err}
use Rattle.s4_types.specs.declared.reply.Refusal.{Refusal}
use Rattle.s4_types.specs.declared.version.Item.TheVariants as item
use Rattle.s4_types.specs.Acl.{acl_with}
use Rattle.s4_types.specs.Answer.{settable}
use Rattle.s4_objects.specs.declared.kept.Which.TheVariants as which
use Rattle.s4_state.specs.Stands.{base_in, PutsOn}
use Rattle.s4_state.proofs.Effects.{set_acl_puts, set_acl_settable, changed_lives}
use Rattle.s4_state.proofs.acl.apply.Goals as goal
use Rattle.s4_types.specs.Contents.{acl_of}

passes : (test : Result (Unit {0}) Refusal) → is_ok test ≡ true → test ≡ Ok tt
passes (Ok x) e = refl
passes (Err r) e = cc

pub set-requires-clause-settable : goal.set-requires-clause-settable
set-requires-clause-settable g c =
    let user = c.args.user in
    let rights = c.args.rights in
    let acl = acl_of (base_in c.args.parts.now) c.args.object.now c.args.added.now.moment c.args.parts.now.history.records in
    ap (settable user rights) (c.acl.ensures.value c.args.added.now.moment c.requires.next.later)
    ∙ passes (settable user rights acl) (set_acl_settable c.requires.kept.sound c.requires.next c.requires.granted c.args.object.now user rights c.requires.asked)

pub put-requires-clause-lives : goal.put-requires-clause-lives
put-requires-clause-lives g c = changed_lives c.requires.kept.sound c.requires.next c.requires.granted c.args.object.now _ c.requires.asked refl

pub put-requires-clause-puts : goal.put-requires-clause-puts
put-requires-clause-puts g c =
    let user = c.args.user in
    let rights = c.args.rights in
    subst (λ x. PutsOn (base_in c.args.parts.now) c.args.parts.now.history.records c.args.added.now c.args.object.now which.Acl (item.Acl x))
    (sym (c.in_ok-acl.ensures ∙ ap (acl_with user rights) (c.acl.ensures.value c.args.added.now.moment c.requires.next.later)))
    (set_acl_puts c.requires.kept.sound c.requires.next c.requires.granted c.args.object.now user rights c.requires.asked)
