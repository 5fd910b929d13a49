-- What a flush does at one end.
use Rattle.std.specs.Prelude.{◌≡◌, ℕ, ◌==◌, false, Option, Some, List, [], map, take, if◌then◌else◌}
use Rattle.std.specs.List.{cons_option, list_any, prefix_len}
use Rattle.s4_types.specs.declared.object.ObjectId.{ObjectId}
use Rattle.s4_types.specs.declared.version.Version.{Version}
use Rattle.s4_store.specs.Chains.{Chains, items_of, item_count, StillOpen}
use Rattle.s4_tracks.specs.declared.end_eraser.EndEraser.{EndEraser}
use Rattle.s4_tracks.specs.Chain.{is_erasable, ended_before, first_told, with_first_erased}
use Rattle.s4_tracks.specs.EndEraser as eraser
use Rattle.s4_objects.specs.declared.kept.Which.{Which}
use Rattle.s4_objects.specs.declared.kept.Kept.{Kept}
use Rattle.s4_objects.specs.declared.ends.Ended.{Ended}
use Rattle.s4_objects.specs.declared.flushes.Refund.{Refund}
use Rattle.s4_objects.specs.Chains.{chain_of, held}
use Rattle.s4_objects.specs.Ends.{is_of}
use Rattle.s4_objects.specs.Flushes.{is_flushed_on, refund_to}

-- none of the values that ended before the moment is yet to be erased
pub record IsPassedBefore (from end : ℕ) (vs : List Version) : Type 0 where
  pub passed : list_any (is_erasable from end) (take (prefix_len (ended_before end) vs) vs) ≡ false

-- the walk erases what begins at that moment or later, and has left out no such value
pub record IsOnItsWay (chains : Chains Version) (first : ℕ) (walk : EndEraser) : Type 0 where
  pub from : eraser.from_of walk ≡ first
  pub passed : eraser.HasPassed walk (items_of chains (eraser.chain_of walk))

-- the values of a track, the oldest one without its item that is yet to be erased and ended by then
abbrev pub next_erased : ℕ → Ended → List Version → List Version
next_erased from e vs = if is_flushed_on e.which then with_first_erased from e.end vs else vs

-- its refund
abbrev pub next_refunds : ℕ → Ended → List Version → List Refund
next_refunds from e vs = if is_flushed_on e.which then map (refund_to e.object.purse) (cons_option (first_told from e.end vs) []) else []

-- on the track of this end the oldest value is erased that is left, and nothing else changes
pub record ErasesNext (before after : Chains Version) (found : ObjectId → Option Kept) (from : ℕ) (e : Ended) : Type 0 where
  pub tracks : (o : ObjectId) (w : Which) → held after (found o) w
      ≡ (if is_of o w e then next_erased from e (held before (found o) w) else held before (found o) w)
  -- a chain that is none of an object's
  pub others : (c : ℕ) → ((o : ObjectId) (k : Kept) (w : Which) → found o ≡ Some k → (c == chain_of w k) ≡ false)
      → items_of after c ≡ items_of before c
  pub still : StillOpen before after
  pub unopened : StillOpen after before
  pub used : item_count after ≡ item_count before
