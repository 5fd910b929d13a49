use Rattle.std.proofs.Common.{◌-◌, ◌≤◌, length}
use Rattle.std.specs.List.{prefix_len}
use Rattle.s4_store.specs.Chains.{items_of}
use Rattle.s4_tracks.specs.Chain.{ended_before}
use Rattle.s4_tracks.proofs.end_eraser.count_ended.Given as goal

-- the part in between is yet to be halved
abbrev pub invariant-loop-low : goal.invariant-loop-low
invariant-loop-low g l =
    let items = items_of (g.S.Store.chains l.store) l.chain in
    record {
      low : l.low ≤ prefix_len (ended_before l.moment) items;
      high : prefix_len (ended_before l.moment) items ≤ l.high;
      within : l.high ≤ length items;
    }

abbrev pub decreases-loop-low : goal.decreases-loop-low
decreases-loop-low g l = l.high - l.low
