use Rattle.std.proofs.Common.{◌≤◌, ◌-◌, length}
use Rattle.s4_store.specs.Chains.{items_of}
use Rattle.s4_tracks.specs.EndEraser.{chain_of, next_of, HasPassed, SameSpan}
use Rattle.s4_tracks.proofs.end_eraser.EndEraser.find_next.Given as goal

-- none of those behind it is yet to be erased
abbrev pub invariant-loop-self : goal.invariant-loop-self
invariant-loop-self g l = record {
  same : SameSpan l.fn.self l.self;
  passed : HasPassed l.self (items_of (g.S.Store.chains l.store) (chain_of l.fn.self));
  onward : next_of l.fn.self ≤ next_of l.self;
}

abbrev pub decreases-loop-self : goal.decreases-loop-self
decreases-loop-self g l = length (items_of (g.S.Store.chains l.store) (chain_of l.fn.self)) - next_of l.self
