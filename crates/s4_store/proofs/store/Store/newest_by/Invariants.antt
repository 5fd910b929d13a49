use Rattle.std.proofs.Common.{◌≡◌, take}
use Rattle.std.specs.Prelude.{IfSome}
use Rattle.s4_store.specs.Chains.{items_of, reach}
use Rattle.s4_store.specs.Keys.{last_by}
use Rattle.s4_store.proofs.store.Store.newest_by.Given as goal

-- no item newer than the one at this place is one by the moment
abbrev pub invariant-loop-at : goal.invariant-loop-at
invariant-loop-at g l =
    let s = g.Self.Store in let items = items_of (s.chains l.self) l.fn.chain in
    record {
      place : IfSome l.at (λ p. s.is_place l.self p);
      chain : IfSome l.at (λ p. s.chain_at p ≡ l.fn.chain);
      older : last_by g.K.Key.key l.moment items ≡ last_by g.K.Key.key l.moment (take (reach s.index_at l.at) items);
    }

abbrev pub decreases-loop-at : goal.decreases-loop-at
decreases-loop-at g l = reach g.Self.Store.index_at l.at
