use Rattle.std.proofs.Common.{◌≡◌, ◌+◌, ◌-◌, ◌≤◌, length}
use Rattle.s4_ledger.specs.Queue.{charges_of}
use Rattle.std.proofs.Common.{drop}
use Rattle.s4_ledger.specs.Books.{spending, lasting}
use Rattle.s4_ledger.proofs.charges.Charges.ended.Given as goal

-- what was passed has ended, and is summed up
abbrev pub invariant-loop-index : goal.invariant-loop-index
invariant-loop-index l = record {
  within : l.index ≤ length l.self-inside.queue.items;
  sum : l.ended + spending l.purse (charges_of (drop l.index l.self-inside.queue.items)) ≡ spending l.purse (charges_of l.self-inside.queue.items);
  last : lasting l.horizon (charges_of (drop l.index l.self-inside.queue.items)) ≡ lasting l.horizon (charges_of l.self-inside.queue.items);
}

abbrev pub decreases-loop-index : goal.decreases-loop-index
decreases-loop-index l = length l.self-inside.queue.items - l.index
