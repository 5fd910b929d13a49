use Rattle.std.proofs.Common.{◌≡◌, drop}
use Rattle.s4_types.specs.Judgement.{found_from}
use Rattle.s4_acl.proofs.look.entry_of.Given as goal

abbrev pub invariant-loop-index : goal.invariant-loop-index
invariant-loop-index l = found_from 0 l.user l.acl ≡ found_from l.index l.user (drop l.index l.acl)
