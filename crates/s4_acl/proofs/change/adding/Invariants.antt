use Rattle.std.proofs.Common.{◌≡◌, take}
use Rattle.s4_acl.proofs.change.adding.Given as goal

abbrev pub invariant-loop-entry : goal.invariant-loop-entry
invariant-loop-entry l = l.longer ≡ take l.entry-index l.acl
