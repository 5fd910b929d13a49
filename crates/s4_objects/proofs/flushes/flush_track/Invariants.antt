use Rattle.std.proofs.Common.{◌≡◌, ◌+◌, ◌≤◌, ◌++◌, length, count_by, vec_capacity}
use Rattle.std.specs.FinMap as finmap
use Rattle.s4_store.specs.Chains.{items_of}
use Rattle.s4_tracks.specs.Chain.{flushed, is_erasable}
use Rattle.s4_tracks.specs.Eraser.{Stands, IsPassed}
use Rattle.s4_objects.specs.Flushes.{refunds_of}
use Rattle.s4_objects.proofs.flushes.flush_track.Given as goal

-- what was told so far, and what is yet to be told, is what the whole flush tells
abbrev pub invariant-loop-told : goal.invariant-loop-told
invariant-loop-told g l =
    let before = items_of (g.S.Store.chains l.fn.store) l.track.chain in
    let now = items_of (g.S.Store.chains l.store) l.track.chain in
    record {
      chain : l.eraser.chain ≡ l.track.chain;
      from : l.eraser.from ≡ l.fn.from;
      to : l.eraser.to ≡ l.fn.to;
      stands : Stands (g.S.Store.is_place l.store) g.S.Store.chain_at l.eraser;
      passed : IsPassed g.S.Store.index_at l.eraser (items_of (g.S.Store.chains l.store) l.eraser.chain);
      chains : g.S.Store.chains l.store ≡ finmap.insert (g.S.Store.chains l.fn.store) l.track.chain now;
      flushed : flushed l.fn.from l.fn.to now ≡ flushed l.fn.from l.fn.to before;
      refunds : l.refunds.items ++ refunds_of l.purse l.fn.from l.fn.to now ≡ l.fn.refunds.items ++ refunds_of l.purse l.fn.from l.fn.to before;
      fits : length l.refunds.items + count_by (is_erasable l.fn.from l.fn.to) now ≤ vec_capacity l.refunds;
      capacity : vec_capacity l.refunds ≡ vec_capacity l.fn.refunds;
      room : g.S.Store.room l.store ≡ g.S.Store.room l.fn.store;
    }

abbrev pub decreases-loop-told : goal.decreases-loop-told
decreases-loop-told g l = count_by (is_erasable l.fn.from l.fn.to) (items_of (g.S.Store.chains l.store) l.track.chain)
