use Rattle.std.proofs.Common.{sym, ◌∙◌}
use Rattle.s4_acl.proofs.Acls.{some-to-take, is_acl-added}
use Rattle.s4_acl.proofs.change.set.Goals as goal

pub without-requires-clause-some : goal.without-requires-clause-some
without-requires-clause-some c = some-to-take c.args.user c.args.rights c.args.acl.now (sym c.is_empty.ensures ∙ c.if-is_empty.true) c.requires.settable

pub adding-requires : goal.adding-requires
adding-requires c =
    is_acl-added c.args.user c.args.rights c.args.acl.now (sym c.is_empty.ensures ∙ c.if-is_empty.false) (sym c.names.ensures ∙ c.if-names.false) c.requires.settable c.requires.is_acl
