use Rattle.std.proofs.Common.{◌≡◌, take, drop}
use Rattle.s4_types.specs.Judgement.{everyone, found_from}
use Rattle.s4_acl.specs.Found.{shown_entry}
use Rattle.s4_acl.proofs.look.asked_entry.Given as goal

abbrev pub invariant-loop-index : goal.invariant-loop-index
invariant-loop-index l = record {
  own : found_from 0 l.who l.acl ≡ found_from l.index l.who (drop l.index l.acl);
  everyones : shown_entry l.of_everyone ≡ found_from 0 everyone (take l.index l.acl);
}
