use Rattle.std.proofs.Common.{ℕ, ◌-◌, ◌<◌, ◌≤◌, get_or}
use Rattle.std.specs.List.{AllAdjacentBelow}
use Rattle.s4_types.specs.declared.version.Version.{Version}
use Rattle.s4_store.specs.Chains.{items_of}
use Rattle.s4_store.specs.PlainStore.{chains_of}
use Rattle.s4_kept_tests.proofs.Ordered.{Follows}
use Rattle.s4_kept_tests.proofs.tracks.is_in_order.Given as goal

-- those before this index are in order, and the newest of them began no later than this
abbrev pub invariant-loop-index : goal.invariant-loop-index
invariant-loop-index l = record {
  adjacent : AllAdjacentBelow Follows (items_of (chains_of l.fn.store) l.fn.track.chain) l.index;
  low : (d : Version) → 0 < l.index → (get_or (items_of (chains_of l.fn.store) l.fn.track.chain) (l.index - 1) d).begin ≤ l.newest;
}
