use Rattle.std.proofs.lemmas.List.{map-append}
use Rattle.s4_run.specs.Struck.{steps_of}
use Rattle.s4_run.proofs.strike.Script.keep.Goals as goal

pub invariant_of-self-in-Break-branch-2 : goal.invariant_of-self-in-Break-branch-2
invariant_of-self-in-Break-branch-2 c = record {
  near_is = rw c.reserve.ensures.items (c.in_err-add.ensures.err c.args.self.now.who (steps_of c.args.self.now.requests.items) c.args.self.now.near_is);
}

pub invariant_of-self-2 : goal.invariant_of-self-2
invariant_of-self-2 c = record {
  near_is = rw (c.push_reserved.ensures.items, c.reserve.ensures.items, map-append) (c.in_ok-add.ensures.ok c.args.self.now.who (steps_of c.args.self.now.requests.items) c.args.self.now.near_is);
}
