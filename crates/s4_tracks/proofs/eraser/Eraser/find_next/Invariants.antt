use Rattle.std.proofs.Common.{◌≤◌, ◌-◌, length}
use Rattle.s4_store.specs.Chains.{items_of}
use Rattle.s4_tracks.specs.Eraser.{chain_of, looked, Stands, IsPassed, SameWalk}
use Rattle.s4_tracks.proofs.eraser.Eraser.find_next.Given as goal

-- none of those that it has looked at is yet to be erased
abbrev pub invariant-loop-place : goal.invariant-loop-place
invariant-loop-place g l =
    let s = g.S.Store in
    record {
      same : SameWalk l.fn.self l.self;
      stands : Stands (s.is_place l.store) s.chain_at l.self;
      passed : IsPassed s.index_at l.self (items_of (s.chains l.store) (chain_of l.fn.self));
      onward : looked s.index_at l.fn.self ≤ looked s.index_at l.self;
    }

abbrev pub decreases-loop-place : goal.decreases-loop-place
decreases-loop-place g l = length (items_of (g.S.Store.chains l.store) (chain_of l.fn.self)) - looked g.S.Store.index_at l.self
