use Rattle.std.proofs.Common.{◌≡◌, take}
use Rattle.s4_types.specs.Acl.{replaced}
use Rattle.s4_acl.proofs.change.replacing.Given as goal

abbrev pub invariant-loop-entry : goal.invariant-loop-entry
invariant-loop-entry l = l.changed ≡ replaced l.new (take l.entry-index l.acl)
