use Rattle.std.proofs.Common.{◌≡◌, take}
use Rattle.s4_types.specs.Acl.{without_entry}
use Rattle.s4_acl.proofs.change.without.Given as goal

abbrev pub invariant-loop-entry : goal.invariant-loop-entry
invariant-loop-entry l = l.shorter ≡ without_entry l.user (take l.entry-index l.acl)
