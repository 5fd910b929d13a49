use Rattle.std.proofs.Common.{◌≡◌, ◌-◌, ◌≤◌, false, length}
use Rattle.std.specs.List.{AllWithin}
use Rattle.s4_ledger.specs.Queue.{counts_as}
use Rattle.s4_ledger.proofs.charges.Charges.find.Given as goal

-- what was passed counts as no such charge
abbrev pub invariant-loop-index : goal.invariant-loop-index
invariant-loop-index l = record {
  within : l.index ≤ length l.self-inside.queue.items;
  skipped : AllWithin (λ e. counts_as l.charge e ≡ false) l.self-inside.queue.items 0 l.index;
}

abbrev pub decreases-loop-index : goal.decreases-loop-index
decreases-loop-index l = length l.self-inside.queue.items - l.index
