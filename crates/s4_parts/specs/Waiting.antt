-- The bindings that ended and are still held, in the order in which they ended.
use Rattle.std.specs.Prelude.{◌≡◌, ℕ, ◌+◌, Bool, true, ◌&&◌, nat_le, Some, None, is_some, List, [], ◌∷◌, length, drop, filter, sum_by, if◌then◌else◌}
use Rattle.std.specs.List.{list_all}
use Rattle.s4_types.specs.declared.object.Purse.{Purse}
use Rattle.s4_types.specs.declared.version.Version.{Version}
use Rattle.s4_types.specs.Names.{same_purse}
use Rattle.s4_types.specs.Name.{same_name}
use Rattle.s4_store.specs.Chains.{Chains, item_count}
use Rattle.s4_tracks.specs.Swept.{IsSwept}
use Rattle.s4_parts.specs.declared.ends.Ended.{Ended}
use Rattle.s4_parts.specs.declared.shelf.Shelf.{Shelf}
use Rattle.s4_parts.specs.declared.parts.Parts.{Parts}
use Rattle.s4_parts.specs.Table.{bindings_in, names_in, chain_at, is_any, object_of, KeepsForeign, LeavesNoChain, GivesUpEmpty}

-- whether the binding was one of that name in the purse
abbrev pub is_of : Purse → List ℕ → Ended → Bool
is_of p n e = same_purse e.purse p && same_name e.name n

-- the ends of those that were bindings of the name in the purse
abbrev pub ends_of : Purse → List ℕ → List Ended → List ℕ
ends_of p n [] = []
ends_of p n (e ∷ es) = if is_of p n e then e.end ∷ ends_of p n es else ends_of p n es

-- whether the end is at most the horizon
abbrev pub is_gone : ℕ → Ended → Bool
is_gone horizon e = nat_le e.end horizon

-- whether no end is above the moment
abbrev pub all_by : ℕ → List Ended → Bool
all_by m es = list_all (λ e. nat_le e.end m) es

-- the ends never go down
abbrev pub IsRising : List Ended → Type 0
IsRising [] = Unit {0}
IsRising (e ∷ es) = (list_all (λ f. nat_le e.end f.end) es ≡ true) × IsRising es

-- a binding to an object, which has no end
pub record IsBound (v : Version) : Type 0 where
  pub endless : v.end ≡ None
  pub object : is_some (object_of (Some v)) ≡ true

-- at most one binding, which has no end
abbrev pub IsAtMostBound : List Version → Type 0
IsAtMostBound [] = Unit {0}
IsAtMostBound (v ∷ []) = IsBound v
IsAtMostBound (v ∷ w ∷ vs) = ⊥

-- the bindings have these ends, and at most one more is there, which has none
abbrev pub HasEnds : List ℕ → List Version → Type 0
HasEnds [] vs = IsAtMostBound vs
HasEnds (e ∷ es) [] = ⊥
HasEnds (e ∷ es) (v ∷ vs) = (v.end ≡ Some e) × HasEnds es vs

-- the bindings that ended and are still held
abbrev pub waiting_in : Parts → List Ended
waiting_in parts = parts.ends.ended

-- how many names are bound in all purses
abbrev pub bound_on : List (Purse × Shelf) → ℕ
bound_on es = sum_by (λ e. length e.1.bound.items) es

abbrev pub bound_in : Parts → ℕ
bound_in parts = bound_on parts.shelves.entries

-- each binding that ended and is held waits to be freed, and for the end of each that is bound there is room
pub record Waits (chains : Chains Version) (parts : Parts) : Type 0 where
  pub queued : (p : Purse) (n : List ℕ) → HasEnds (ends_of p n (waiting_in parts)) (bindings_in chains parts p n)
  pub rising : IsRising (waiting_in parts)
  pub awaited : bound_in parts ≡ parts.ends.awaited

-- WHAT A SWEEP DOES

-- the first so many of those that wait are gone, and nothing else
pub record Sweeps (horizon : ℕ) (old new : Chains Version) (before after : Parts) (freed : ℕ) : Type 0 where
  pub waiting : waiting_in after ≡ drop freed (waiting_in before)
  -- each name has its bindings but for some of the oldest, which are expired
  pub bindings : (p : Purse) (n : List ℕ) → IsSwept horizon (bindings_in new after p n) (bindings_in old before p n)
  -- the names that have bindings left are there
  pub names : (p : Purse) → names_in new after p ≡ filter (λ n. is_any (bindings_in new after p n)) (names_in old before p)
  -- a name's chain is the one that it had
  pub own : (p : Purse) (n : List ℕ) (c : ℕ) → chain_at after p n ≡ Some c → chain_at before p n ≡ Some c
  -- and a name without bindings left gave it up
  pub given_up : GivesUpEmpty old new before after
  pub others : KeepsForeign old new before
  pub leaves : LeavesNoChain old new before after
  pub used : item_count new + freed ≡ item_count old
