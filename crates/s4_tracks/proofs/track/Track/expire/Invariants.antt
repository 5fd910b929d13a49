use Rattle.std.proofs.Common.{◌≡◌, ◌+◌, ◌≤◌, drop}
use Rattle.std.specs.List.{prefix_len}
use Rattle.std.specs.FinMap as finmap
use Rattle.s4_store.specs.Chains.{items_of}
use Rattle.s4_tracks.specs.Chain.{is_expired}
use Rattle.s4_tracks.proofs.track.Track.expire.Given as goal

-- so many are gone, all of them expired
abbrev pub invariant-loop-freed : goal.invariant-loop-freed
invariant-loop-freed g l =
    let items = items_of (g.S.Store.chains l.fn.store) l.self.chain in
    record {
      chains : g.S.Store.chains l.store ≡ finmap.insert (g.S.Store.chains l.fn.store) l.self.chain (drop l.freed items);
      expired : l.freed ≤ prefix_len (is_expired l.horizon) items;
      room : g.S.Store.room l.store ≡ g.S.Store.room l.fn.store + l.freed;
    }
