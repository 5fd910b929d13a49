-- What making room for a name, and freeing a binding of it, does to its shelf and to the store.
use Rattle.std.specs.Prelude.{◌≡◌, ℕ, Bool, true, false, is_some, Option, Some, None, List, [], drop, filter, if◌then◌else◌}
use Rattle.std.specs.List.Sorted.{IsStrictlySortedBy}
use Rattle.std.specs.FinMap as finmap
use Rattle.s4_types.specs.declared.version.Version.{Version}
use Rattle.s4_types.specs.Name.{same_name, name_cmp}
use Rattle.s4_store.specs.Chains.{Chains, items_of}
use Rattle.s4_parts.specs.declared.shelf.Shelf.{Shelf}
use Rattle.s4_parts.specs.Table.{chain_on, names_on, is_any}

-- the first, or else the second
abbrev pub or_else : Option ℕ → Option ℕ → Option ℕ
or_else None other = other
or_else (Some c) other = Some c

-- the chains, with one more that holds nothing
abbrev pub with_chain : Chains Version → Option ℕ → Chains Version
with_chain chains None = chains
with_chain chains (Some c) = finmap.insert chains c []

pub record Grows (old new : Chains Version) (before after : Shelf) (name : List ℕ) : Type 0 where
  -- the chain that was opened, if any
  pub fresh : Option ℕ
  -- none is where the name had one
  pub needed : is_some (chain_on (Some before) name) ≡ true → fresh ≡ None
  pub unopened : (c : ℕ) → fresh ≡ Some c → finmap.get old c ≡ None
  pub opened : new ≡ with_chain old fresh
  pub chains : (n : List ℕ) → chain_on (Some after) n
      ≡ (if same_name name n then or_else (chain_on (Some before) name) fresh else chain_on (Some before) n)
  -- but for the name, where it had no chain, the names are as before
  pub names : (test : List ℕ → Bool) → (chain_on (Some before) name ≡ None → test name ≡ false)
      → filter test (names_on (Some after)) ≡ filter test (names_on (Some before))
  pub sorted : IsStrictlySortedBy name_cmp (names_on (Some before)) → IsStrictlySortedBy name_cmp (names_on (Some after))
  pub serials : after.bound.items ≡ before.bound.items

-- the chain of the name has these bindings, and the names have the chains that they had
pub record KeepsName (old new : Chains Version) (before after : Shelf) (chain : ℕ) (left : List Version) : Type 0 where
  pub chains : new ≡ finmap.insert old chain left
  pub tracks : after.tracks ≡ before.tracks

-- the chain of the name is closed, and the name has none
pub record GivesUp (old new : Chains Version) (before after : Shelf) (name : List ℕ) (chain : ℕ) : Type 0 where
  pub chains : new ≡ finmap.remove (finmap.insert old chain []) chain
  pub gone : (n : List ℕ) → chain_on (Some after) n ≡ (if same_name name n then None else chain_on (Some before) n)
  -- but for the name, the names are as before
  pub names : (test : List ℕ → Bool) → test name ≡ false → filter test (names_on (Some after)) ≡ filter test (names_on (Some before))
  pub sorted : IsStrictlySortedBy name_cmp (names_on (Some after))

-- the oldest binding of a name is gone, and where it was the last, its chain is too
pub record Frees (old new : Chains Version) (before after : Shelf) (name : List ℕ) : Type 0 where
  pub chain : ℕ
  pub found : chain_on (Some before) name ≡ Some chain
  pub kept : is_any (drop 1 (items_of old chain)) ≡ true → KeepsName old new before after chain (drop 1 (items_of old chain))
  pub given : is_any (drop 1 (items_of old chain)) ≡ false → GivesUp old new before after name chain
  pub serials : after.bound.items ≡ before.bound.items
