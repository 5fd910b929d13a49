-- What is kept of objects, as its callers see it.
use Rattle.std.specs.Prelude.{◌≡◌, ℕ, Bool, true, false, ◌||◌, ◌&&◌, ◌==◌, is_some, Option, Some, List, drop, if◌then◌else◌}
use Rattle.std.specs.BTreeMap.{get}
use Rattle.std.specs.List.{list_all}
use Rattle.std.specs.List.Sorted.{IsNonDecreasingBy}
use Rattle.s4_store.specs.Chains.{Chains, items_of, IsOpen}
use Rattle.s4_types.specs.declared.object.ObjectId.{ObjectId}
use Rattle.s4_types.specs.declared.version.Version.{Version}
use Rattle.s4_types.specs.Names.{same_object}
use Rattle.s4_objects.specs.declared.kept.Which.{Which}
use Rattle.s4_objects.specs.declared.kept.Kept.{Kept}
use Rattle.s4_objects.specs.declared.ends.Ended.{Ended}
use Rattle.s4_objects.specs.declared.objects.Objects.{Objects}
use Rattle.s4_objects.specs.Keys.{object_cmp}
use Rattle.s4_objects.specs.Chains.{same_which, chain_of, held, Chained}
use Rattle.s4_objects.specs.Ends.{ends_of, all_ends, IsRising, HasEnds, is_any, is_timely}

-- WHAT IS KEPT

abbrev pub found_in : Objects → ObjectId → Option Kept
found_in objects o = get object_cmp objects.kept o

-- whether the object is kept
abbrev pub kept_in : Objects → ObjectId → Bool
kept_in objects o = is_some (found_in objects o)

-- the values that are held of a track, oldest first, and none where the object isn't kept
abbrev pub held_in : Chains Version → Objects → ObjectId → Which → List Version
held_in chains objects o w = held chains (found_in objects o) w

-- the ends of the past values that are held, in the order in which they came
abbrev pub ends_in : Objects → List ℕ
ends_in objects = all_ends objects.ends.items

-- for how many more ends there is room
abbrev pub room_in : Objects → ℕ
room_in objects = objects.ends.room

-- WHAT HOLDS OVER A STORE

-- whether a value is held on some track
abbrev pub holds_any : Chains Version → Kept → Bool
holds_any chains k = is_any (items_of chains k.data.chain) || is_any (items_of chains k.attributes.chain)
    || is_any (items_of chains k.acl.chain)

pub record HoldsFor (chains : Chains Version) (found : ObjectId → Option Kept) (queue : List Ended) (reversed : Bool) : Type 0 where
  pub chained : Chained chains found
  -- the ends of a track's past values wait in their order, and only its newest value may have none
  pub queued : (o : ObjectId) (w : Which) → HasEnds (ends_of o w queue) (held chains (found o) w)
  pub rising : IsRising (all_ends queue)
  -- no value of a track begins before an older one
  pub begun : (o : ObjectId) (w : Which) → IsNonDecreasingBy (λ v. v.begin) (held chains (found o) w)
  -- an object without values isn't kept
  pub living : (o : ObjectId) (k : Kept) → found o ≡ Some k → holds_any chains k ≡ true
  -- no value ended before it began, unless it is told that one did
  pub timely : reversed ≡ false → (o : ObjectId) (w : Which) → list_all is_timely (held chains (found o) w) ≡ true

abbrev pub Holds : Chains Version → Objects → Type 0
Holds chains objects = HoldsFor chains (found_in objects) objects.ends.items objects.has_reversed

-- no track has the chain
abbrev pub IsUnused : (ObjectId → Option Kept) → ℕ → Type 0
IsUnused found c = (o : ObjectId) (k : Kept) (w : Which) → found o ≡ Some k → (c == chain_of w k) ≡ false

abbrev pub IsForeign : Objects → ℕ → Type 0
IsForeign objects c = IsUnused (found_in objects) c

-- open chains that were no track's are open and as before, and no track's still
pub record SparesOthers (old new : Chains Version) (before after : ObjectId → Option Kept) : Type 0 where
  pub still : (c : ℕ) → IsOpen old c → IsUnused before c → IsOpen new c
  pub items : (c : ℕ) → IsOpen old c → IsUnused before c → items_of new c ≡ items_of old c
  pub foreign : (c : ℕ) → IsOpen old c → IsUnused before c → IsUnused after c

abbrev pub KeepsOthers : Chains Version → Chains Version → Objects → Objects → Type 0
KeepsOthers old new before after = SparesOthers old new (found_in before) (found_in after)

-- a chain that is open then and no track's was open before, and no track's: so no chain is left behind
abbrev pub LeavesNone : Chains Version → Chains Version → (ObjectId → Option Kept) → (ObjectId → Option Kept) → Type 0
LeavesNone old new before after = (c : ℕ) → IsOpen new c → IsUnused after c → IsOpen old c × IsUnused before c

abbrev pub LeavesNoChain : Chains Version → Chains Version → Objects → Objects → Type 0
LeavesNoChain old new before after = LeavesNone old new (found_in before) (found_in after)

-- WHAT FREEING A VALUE DOES

-- the oldest value of a track is gone, and an object without values too
pub record Frees (old new : Chains Version) (before after : ObjectId → Option Kept) (o : ObjectId) (w : Which) : Type 0 where
  pub chained : Chained new after
  pub tracks : (q : ObjectId) (u : Which) → held new (after q) u
      ≡ (if same_object o q && same_which w u then drop 1 (held old (before q) u) else held old (before q) u)
  pub kept : (q : ObjectId) (k : Kept) → after q ≡ Some k → before q ≡ Some k
  pub living : (k : Kept) → after o ≡ Some k → holds_any new k ≡ true
  pub others : SparesOthers old new before after
  -- so the chains of an object that goes are closed
  pub leaves : LeavesNone old new before after
