use Rattle.std.proofs.Common.{sym, ◌∙◌, arith}
use Rattle.s4_acl.proofs.Acls.{none-to-take, full}
use Rattle.s4_acl.proofs.change.settable.Goals as goal

pub returns-then-is_empty : goal.returns-then-is_empty
returns-then-is_empty c = none-to-take c.args.user c.args.rights c.args.acl.now (sym c.names.ensures ∙ c.if-names.false) (sym c.is_empty.ensures ∙ c.if-is_empty.true)

pub returns-then-acl-ge-LIMIT : goal.returns-then-acl-ge-LIMIT
returns-then-acl-ge-LIMIT c =
    full c.args.user c.args.rights c.args.acl.now (sym c.names.ensures ∙ c.if-names.false) (sym c.is_empty.ensures ∙ c.if-is_empty.false) (omega arith)
