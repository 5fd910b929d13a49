-- What a flush does to the values of objects, and what it takes back of the charges.
use Rattle.std.specs.Prelude.{◌≡◌, ℕ, ◌+◌, ◌≤◌, ◌==◌, Bool, true, false, Option, Some, None, is_some, List, map, sum_by, count_by, if◌then◌else◌}
use Rattle.s4_types.specs.declared.object.Purse.{Purse}
use Rattle.s4_types.specs.declared.object.ObjectId.{ObjectId}
use Rattle.s4_types.specs.declared.version.Version.{Version}
use Rattle.s4_types.specs.Names.{same_purse, object_in}
use Rattle.s4_types.specs.Spending.{sum_to}
use Rattle.s4_store.specs.Chains.{Chains, items_of, item_count, StillOpen}
use Rattle.s4_tracks.specs.Chain.{flushed, is_erasable, told}
use Rattle.s4_objects.specs.declared.kept.Which.{Which}
use Rattle.s4_objects.specs.declared.kept.Which.TheVariants as which
use Rattle.s4_objects.specs.declared.kept.Kept.{Kept}
use Rattle.s4_objects.specs.declared.flushes.Refund.{Refund}
use Rattle.s4_objects.specs.Chains.{chain_of, held}

-- whether a flush reaches the track
abbrev pub is_flushed_on : Which → Bool
is_flushed_on which.Data = true
is_flushed_on which.Attributes = true
is_flushed_on which.Acl = false

-- the values of a track as a flush of these moments leaves them
abbrev pub flushed_on : ℕ → ℕ → Which → List Version → List Version
flushed_on from to w vs = if is_flushed_on w then flushed from to vs else vs

-- WHAT THE PAST WEIGHS, BY ANY WEIGHT OF AN END AND A COST

abbrev pub weight_by : (ℕ → ℕ → ℕ) → Option ℕ → ℕ → ℕ
weight_by weight None cost = 0
weight_by weight (Some end) cost = weight end cost

-- what a value weighs: nothing where it has no end, or was erased
abbrev pub weight_of : (ℕ → ℕ → ℕ) → Version → ℕ
weight_of weight v = if is_some v.item then weight_by weight v.end v.cost else 0

abbrev pub track_weight : (ℕ → ℕ → ℕ) → List Version → ℕ
track_weight weight vs = sum_by (weight_of weight) vs

-- what is held of an object's past weighs, on its three tracks
abbrev pub past_weight : (ℕ → ℕ → ℕ) → Chains Version → Option Kept → ℕ
past_weight weight chains found =
    track_weight weight (held chains found which.Data)
    + track_weight weight (held chains found which.Attributes)
    + track_weight weight (held chains found which.Acl)

abbrev pub refund_weight : (ℕ → ℕ → ℕ) → Purse → Refund → ℕ
refund_weight weight p r = if same_purse r.purse p then weight r.end r.cost else 0

-- what the refunds of a purse weigh
abbrev pub refunded : (ℕ → ℕ → ℕ) → Purse → List Refund → ℕ
refunded weight p refunds = sum_by (refund_weight weight p) refunds

-- WHAT A FLUSH DOES

-- the refund of what was told of an erased value
abbrev pub refund_to : Purse → ℕ × ℕ → Refund
refund_to p t = record { purse = p; end = t.0; cost = t.1 }

-- the refunds of all values of a track that are yet to be erased, oldest first
abbrev pub refunds_of : Purse → ℕ → ℕ → List Version → List Refund
refunds_of p from to vs = map (refund_to p) (told from to vs)

-- how many values of an object a flush erases
abbrev pub erasable_count : Chains Version → ℕ → ℕ → Kept → ℕ
erasable_count chains from to k =
    count_by (is_erasable from to) (items_of chains k.data.chain) + count_by (is_erasable from to) (items_of chains k.attributes.chain)

-- how many values of an object a flush erases, where one is kept
abbrev pub erasable_of : Chains Version → ℕ → ℕ → Option Kept → ℕ
erasable_of chains from to None = 0
erasable_of chains from to (Some k) = erasable_count chains from to k

-- the objects that are asked for are flushed of what lies between the moments, and nothing else changes
pub record Flushes (before after : Chains Version) (found : ObjectId → Option Kept) (asked : ObjectId → Bool) (from to : ℕ)
    (refunds : List Refund) : Type 0 where
  pub tracks : (o : ObjectId) (w : Which) → held after (found o) w
      ≡ (if asked o then flushed_on from to w (held before (found o) w) else held before (found o) w)
  -- a chain that is none of an object's
  pub others : (c : ℕ) → ((o : ObjectId) (k : Kept) (w : Which) → found o ≡ Some k → (c == chain_of w k) ≡ false)
      → items_of after c ≡ items_of before c
  pub still : StillOpen before after
  -- no chain was opened
  pub unopened : StillOpen after before
  -- an erased value is held still
  pub used : item_count after ≡ item_count before
  -- what a purse's past weighs less is what is refunded
  pub weights : (weight : ℕ → ℕ → ℕ) (p : Purse) (n : ℕ) → ((o : ObjectId) → is_some (found o) ≡ true → o.purse ≡ p → o.serial ≤ n)
      → sum_to n (λ s. past_weight weight after (found (object_in p s))) + refunded weight p refunds
      ≡ sum_to n (λ s. past_weight weight before (found (object_in p s)))
