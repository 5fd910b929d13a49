use Rattle.std.proofs.Common.{◌≡◌, ◌++◌, ◌∷◌, [], cond, sym, ap, subst, ◌∙◌, take}
use Rattle.s4_types.specs.Acl.{IsAcl, replaced}
use Rattle.s4_acl.proofs.Acls.{in_place, is_acl-replaced-next}
use Rattle.s4_acl.proofs.change.replacing.Goals.{then-eq, else-eq}
use Rattle.s4_acl.proofs.change.replacing.Goals as goal

pub push-requires : goal.push-requires
push-requires c =
    let new = c.args.new.now in
    let x = c.entry-item.result in
    let pushed : c.if-eq.push ≡ in_place new x = elim c.if-eq.branch [
      | then-eq w ↦ w.push-is ∙ sym (ap (λ b. cond b new x) (sym c.eq.ensures ∙ w.if-eq.true))
      | else-eq w ↦ w.push-is ∙ sym (ap (λ b. cond b new x) (sym c.eq.ensures ∙ w.if-eq.false))
    ] in
    subst (λ xs. IsAcl (xs ++ c.if-eq.push ∷ [])) (sym c.loop-entry.invariant)
    (subst (λ y. IsAcl (replaced new (take c.loop-entry.entry-index c.args.acl.now) ++ y ∷ [])) (sym pushed)
    (is_acl-replaced-next c.args.acl.now c.loop-entry.entry-index x c.loop-entry-test.true c.entry-item.is new c.requires.given c.requires.is_acl))
