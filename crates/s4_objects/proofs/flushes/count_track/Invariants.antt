use Rattle.std.proofs.Common.{◌≡◌, ◌+◌, count_by, take}
use Rattle.std.specs.Prelude.{IfSome}
use Rattle.s4_store.specs.Chains.{items_of, reach}
use Rattle.s4_tracks.specs.Chain.{is_erasable}
use Rattle.s4_objects.proofs.flushes.count_track.Given as goal

-- so many of the values that are newer than the one at this place
abbrev pub invariant-loop-at : goal.invariant-loop-at
invariant-loop-at g l =
    let s = g.S.Store in let items = items_of (s.chains l.store) l.fn.track.chain in
    record {
      place : IfSome l.at (λ p. s.is_place l.store p);
      chain : IfSome l.at (λ p. s.chain_at p ≡ l.fn.track.chain);
      newer : l.count + count_by (is_erasable l.from l.to) (take (reach s.index_at l.at) items) ≡ count_by (is_erasable l.from l.to) items;
    }

abbrev pub decreases-loop-at : goal.decreases-loop-at
decreases-loop-at g l = reach g.S.Store.index_at l.at
