use Rattle.std.proofs.Common.{◌++◌, ◌∷◌, [], sym, subst}
use Rattle.s4_types.specs.Acl.{IsAcl}
use Rattle.s4_acl.proofs.Acls.{is_acl-front, is_acl-next}
use Rattle.s4_acl.proofs.change.adding.Goals as goal

pub push-requires : goal.push-requires
push-requires c =
    subst (λ xs. IsAcl (xs ++ c.entry-item.result ∷ [])) (sym c.loop-entry.invariant)
    (is_acl-next c.args.acl.now c.loop-entry.entry-index c.entry-item.result c.loop-entry-test.true c.entry-item.is (is_acl-front c.args.acl.now (c.args.new ∷ []) c.requires))
