-- The table of partitions, as its callers see it: the names of each purse, and the bindings of each name.
use Rattle.std.specs.Prelude.{◌≡◌, ◌≢◌, ℕ, Bool, true, false, ◌+◌, ◌-◌, ◌<◌, ◌≤◌, ◌&&◌, is_some, IfSome, Option, Some, None, List, [], ◌∷◌, length, filter, count_by}
use Rattle.std.specs.List.{list_any}
use Rattle.std.specs.List.Sorted.{IsStrictlySortedBy, IsNonDecreasingBy}
use Rattle.std.specs.Option.{option_map}
use Rattle.std.specs.Vec.{vec_len, vec_capacity}
use Rattle.std.specs.BTreeMap.{get, keys}
use Rattle.s4_types.specs.declared.object.Purse.{Purse}
use Rattle.s4_types.specs.declared.object.ObjectId.{ObjectId}
use Rattle.s4_types.specs.declared.version.Version.{Version}
use Rattle.s4_types.specs.declared.version.Item.{Item}
use Rattle.s4_types.specs.declared.version.Item.TheVariants.{Bind}
use Rattle.s4_types.specs.Names.{same_purse, purse_cmp}
use Rattle.s4_types.specs.Name.{same_name, name_cmp}
use Rattle.s4_store.specs.Chains.{Chains, items_of, IsOpen, StillOpen}
use Rattle.s4_tracks.specs.Chain.{current_of}
use Rattle.s4_parts.specs.declared.shelf.Shelf.{Shelf}
use Rattle.s4_parts.specs.declared.parts.Parts.{Parts}

-- WHAT A SHELF HOLDS

-- the chain that a name has on a shelf
abbrev pub chain_on : Option Shelf → List ℕ → Option ℕ
chain_on None name = None
chain_on (Some shelf) name = option_map (λ t. t.chain) (get name_cmp shelf.tracks name)

-- the names that have a chain on a shelf
abbrev pub names_on : Option Shelf → List (List ℕ)
names_on None = []
names_on (Some shelf) = keys shelf.tracks

-- for each name that is bound now the serial of its object
abbrev pub serials_on : Option Shelf → List ℕ
serials_on None = []
serials_on (Some shelf) = shelf.bound.items

-- WHAT THE TABLE HOLDS

abbrev pub shelf_of : Parts → Purse → Option Shelf
shelf_of parts purse = get purse_cmp parts.shelves purse

-- the chain that a name in the purse has
abbrev pub chain_at : Parts → Purse → List ℕ → Option ℕ
chain_at parts purse name = chain_on (shelf_of parts purse) name

abbrev pub items_on : Chains Version → Option ℕ → List Version
items_on chains None = []
items_on chains (Some c) = items_of chains c

-- all bindings of a name in the purse, the oldest first
abbrev pub bindings_in : Chains Version → Parts → Purse → List ℕ → List Version
bindings_in chains parts purse name = items_on chains (chain_at parts purse name)

abbrev pub is_any : List Version → Bool
is_any [] = false
is_any (v ∷ vs) = true

-- the names in the purse that have bindings, in their order
abbrev pub names_in : Chains Version → Parts → Purse → List (List ℕ)
names_in chains parts purse = filter (λ name. is_any (bindings_in chains parts purse name)) (names_on (shelf_of parts purse))

-- WHAT A NAME IS BOUND TO

abbrev pub object_of_item : Option Item → Option ObjectId
object_of_item (Some (Bind object)) = Some object
object_of_item _ = None

-- the object that a binding is to
abbrev pub object_of : Option Version → Option ObjectId
object_of None = None
object_of (Some v) = object_of_item v.item

-- of bindings, the serial of the object that is bound now
abbrev pub serial_now : List Version → Option ℕ
serial_now bindings = option_map (λ o. o.serial) (object_of (current_of bindings))

-- whether there is a serial, and it passes the test
abbrev pub passes : (ℕ → Bool) → Option ℕ → Bool
passes test None = false
passes test (Some serial) = test serial

-- a binding that begins at the moment
abbrev pub binding : ℕ → List ℕ → ObjectId → Version
binding m name object = record { begin = m; end = None; item = Some (Bind object); cost = 64 + length name }

-- WHAT HOLDS OF A TABLE OVER A STORE

-- each name has an open chain of its own, the names are in order, and what is bound now is known
-- none of the values ends before it begins
abbrev pub AreLasting : List Version → Type 0
AreLasting [] = Unit {0}
AreLasting (v ∷ vs) = IfSome v.end (λ e. v.begin ≤ e) × AreLasting vs

-- the values stand in the order of their begins, and none ends before it begins
pub record IsTimely (vs : List Version) : Type 0 where
  pub order : IsNonDecreasingBy (λ v. v.begin) vs
  pub lasting : AreLasting vs

pub record HoldsFor (chains : Chains Version) (chain : Purse → List ℕ → Option ℕ) (names : Purse → List (List ℕ))
    (serials : Purse → List ℕ) : Type 0 where
  pub opened : (p : Purse) (n : List ℕ) (c : ℕ) → chain p n ≡ Some c → IsOpen chains c
  pub apart : (p q : Purse) (n m : List ℕ) (c : ℕ) → chain p n ≡ Some c → chain q m ≡ Some c → (p ≡ q) × (n ≡ m)
  pub named : (p : Purse) (n : List ℕ) → is_some (chain p n) ≡ list_any (same_name n) (names p)
  pub sorted : (p : Purse) → IsStrictlySortedBy name_cmp (names p)
  -- no binding of a name begins before an older one, or ends before it begins
  pub timely : (p : Purse) (n : List ℕ) → IsTimely (items_on chains (chain p n))
  pub known : (p : Purse) (test : ℕ → Bool) → count_by test (serials p)
      ≡ count_by (λ n. passes test (serial_now (items_on chains (chain p n)))) (names p)

abbrev pub Holds : Chains Version → Parts → Type 0
Holds chains parts = HoldsFor chains (chain_at parts) (λ p. names_on (shelf_of parts p)) (λ p. serials_on (shelf_of parts p))

-- a name in the purse has a chain, and there is room to know what it is bound to, and for the end of that
pub record HasRoom (parts : Parts) (p : Purse) (name : List ℕ) : Type 0 where
  pub chain : is_some (chain_at parts p name) ≡ true
  pub shelf : Shelf
  pub found : shelf_of parts p ≡ Some shelf
  pub serials : vec_len shelf.bound < vec_capacity shelf.bound
  pub ends : 0 < parts.ends.spare

-- for how many more serials there is room on a shelf
abbrev pub serials_spare : Option Shelf → ℕ
serials_spare None = 0
serials_spare (Some shelf) = vec_capacity shelf.bound - vec_len shelf.bound

-- how many more names of the purse can be bound in the room that its shelf has
abbrev pub names_room : Parts → Purse → ℕ
names_room parts p = serials_spare (shelf_of parts p)

-- how many more names of all purses can be bound in the room that there is for the ends of their bindings
abbrev pub ends_room : Parts → ℕ
ends_room parts = parts.ends.spare

-- no room is lost
pub record KeepsRoom (before after : Parts) : Type 0 where
  pub names : (p : Purse) → names_room before p ≤ names_room after p
  pub ends : ends_room before ≤ ends_room after

-- a name of the purse was bound: the room for one on its shelf is taken, and the room for one end
pub record TakesRoom (before after : Parts) (p : Purse) : Type 0 where
  pub here : names_room after p + 1 ≡ names_room before p
  pub others : (q : Purse) → same_purse p q ≡ false → names_room after q ≡ names_room before q
  pub ends : ends_room after + 1 ≡ ends_room before
  -- a name that had room has it still, where there was room for two
  pub rooms : (q : Purse) (n : List ℕ) → HasRoom before q n → 1 < ends_room before
      → (same_purse p q ≡ true → 1 < names_room before q) → HasRoom after q n

-- each name has the chain that it had, and none where it had none
abbrev pub KeepsChains : Parts → Parts → Type 0
KeepsChains before after = (p : Purse) (n : List ℕ) → chain_at after p n ≡ chain_at before p n

-- each name that has a chain has a binding
abbrev pub NoneIsEmpty : Chains Version → Parts → Type 0
NoneIsEmpty chains parts = (p : Purse) (n : List ℕ) → is_some (chain_at parts p n) ≡ true → is_any (bindings_in chains parts p n) ≡ true

-- a name that lost its last binding has no chain: where it had bindings and has a chain, it has bindings
abbrev pub GivesUpEmpty : Chains Version → Chains Version → Parts → Parts → Type 0
GivesUpEmpty old new before after = (p : Purse) (n : List ℕ) → is_any (bindings_in old before p n) ≡ true
    → is_some (chain_at after p n) ≡ true → is_any (bindings_in new after p n) ≡ true

-- only the name has another chain than before, and only where it had none
pub record OpensFor (before after : Parts) (p : Purse) (name : List ℕ) : Type 0 where
  pub others : (q : Purse) (n : List ℕ) → (same_purse p q && same_name name n) ≡ false → chain_at after q n ≡ chain_at before q n
  pub kept : is_some (chain_at before p name) ≡ true → chain_at after p name ≡ chain_at before p name

-- no name has the chain
abbrev pub IsForeign : Parts → ℕ → Type 0
IsForeign parts c = (p : Purse) (n : List ℕ) → chain_at parts p n ≢ Some c

-- the chains of others, which were open, are as before
pub record KeepsOthers (old new : Chains Version) (parts : Parts) : Type 0 where
  pub still : StillOpen old new
  pub items : (c : ℕ) → IsOpen old c → IsForeign parts c → items_of new c ≡ items_of old c

-- the chains of others, which were open, are open and as before
pub record KeepsForeign (old new : Chains Version) (parts : Parts) : Type 0 where
  pub still : (c : ℕ) → IsOpen old c → IsForeign parts c → IsOpen new c
  pub items : (c : ℕ) → IsOpen old c → IsForeign parts c → items_of new c ≡ items_of old c

-- a chain that is open after the call and no name's was open before it, and no name's then
abbrev pub LeavesNoChain : Chains Version → Chains Version → Parts → Parts → Type 0
LeavesNoChain old new before after = (c : ℕ) → IsOpen new c → IsForeign after c → IsOpen old c × IsForeign before c
