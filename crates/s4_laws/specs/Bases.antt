-- What holds of every base that records leave.
use Rattle.std.specs.Prelude.{◌≡◌, ℕ, ◌≤◌, is_some, Some, List, filter}
use Rattle.std.specs.List.Sorted.{IsStrictlySortedBy}
use Rattle.s4_types.specs.declared.object.Purse.{Purse}
use Rattle.s4_types.specs.declared.object.ObjectId.{ObjectId}
use Rattle.s4_types.specs.Base.{Base, Standing, KeptObject}
use Rattle.s4_types.specs.Name.{name_cmp}

-- the object's values began by the moment
pub record BeganBy (m : ℕ) (object : KeptObject) : Type 0 where
  pub bytes : object.bytes.begin ≤ m
  pub attributes : object.attributes.begin ≤ m
  pub acl : object.acl.begin ≤ m

pub record IsBase (base : Base) : Type 0 where
  -- what is kept began by the cut
  pub objects : (o : ObjectId) (kept : KeptObject) → base.object o ≡ Some kept → BeganBy base.cut kept
  pub bindings : (purse : Purse) (name : List ℕ) (kept : Standing ℕ) → base.binding purse name ≡ Some kept → kept.begin ≤ base.cut
  -- the names stand in their order, and all are bound
  pub sorted : (purse : Purse) → IsStrictlySortedBy name_cmp (base.names purse)
  pub bound : (purse : Purse) → filter (λ name. is_some (base.binding purse name)) (base.names purse) ≡ base.names purse
  -- the floor isn't to come
  pub floor : base.floor ≤ base.cut
