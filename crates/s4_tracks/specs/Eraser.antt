-- How far a walk that erases has come.
use Rattle.std.specs.Prelude.{◌≡◌, ℕ, true, false, Option, Some, IfSome, List, take, slice_get}
use Rattle.std.specs.List.{list_any}
use Rattle.s4_types.specs.declared.version.Version.{Version}
use Rattle.s4_store.specs.Chains.{reach}
use Rattle.s4_tracks.specs.declared.eraser.Eraser.{Eraser}
use Rattle.s4_tracks.specs.Chain.{is_erasable}

-- the chain that the walk goes along
abbrev pub chain_of : {P : Type 0} → Eraser P → ℕ
chain_of walk = walk.chain

-- the moments between which it erases
abbrev pub from_of : {P : Type 0} → Eraser P → ℕ
from_of walk = walk.from

abbrev pub to_of : {P : Type 0} → Eraser P → ℕ
to_of walk = walk.to

-- where the value stands that it looked at last, none before the first
abbrev pub last_of : {P : Type 0} → Eraser P → Option P
last_of walk = walk.last

-- how many values the walk has looked at
abbrev pub looked : {P : Type 0} → (P → ℕ) → Eraser P → ℕ
looked index walk = reach index walk.last

-- the value that the walk looked at last stands in the store, on the walk's chain
pub record Stands {P : Type 0} (is_place : P → Type 0) (chain_at : P → ℕ) (walk : Eraser P) : Type 0 where
  pub place : IfSome walk.last is_place
  pub chain : IfSome walk.last (λ place. chain_at place ≡ walk.chain)

-- none of the values that the walk has looked at is yet to be erased
pub record IsPassed {P : Type 0} (index : P → ℕ) (walk : Eraser P) (vs : List Version) : Type 0 where
  pub passed : list_any (is_erasable walk.from walk.to) (take (looked index walk) vs) ≡ false

-- the first value that is yet to be erased has that index
pub record IsNext (from to : ℕ) (vs : List Version) (index : ℕ) : Type 0 where
  pub value : Version
  pub there : slice_get vs index ≡ Some value
  pub erasable : is_erasable from to value ≡ true
  pub passed : list_any (is_erasable from to) (take index vs) ≡ false

-- the walk goes on along the same track, between the same moments
pub record SameWalk {P : Type 0} (old new : Eraser P) : Type 0 where
  pub chain : new.chain ≡ old.chain
  pub from : new.from ≡ old.from
  pub to : new.to ≡ old.to
