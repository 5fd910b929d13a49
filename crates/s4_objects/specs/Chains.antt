-- The chains of objects.
use Rattle.std.specs.Prelude.{◌≡◌, ℕ, Bool, true, false, Option, Some, None, List, []}
use Rattle.s4_store.specs.Chains.{Chains, items_of, IsOpen}
use Rattle.s4_types.specs.declared.object.ObjectId.{ObjectId}
use Rattle.s4_types.specs.declared.version.Version.{Version}
use Rattle.s4_objects.specs.declared.kept.Which.{Which}
use Rattle.s4_objects.specs.declared.kept.Which.TheVariants as which
use Rattle.s4_objects.specs.declared.kept.Kept.{Kept}

abbrev pub same_which : Which → Which → Bool
same_which which.Data which.Data = true
same_which which.Attributes which.Attributes = true
same_which which.Acl which.Acl = true
same_which _ _ = false

abbrev pub chain_of : Which → Kept → ℕ
chain_of which.Data kept = kept.data.chain
chain_of which.Attributes kept = kept.attributes.chain
chain_of which.Acl kept = kept.acl.chain

-- what is held of one of an object's tracks, nothing where the object isn't kept
abbrev pub held : Chains Version → Option Kept → Which → List Version
held chains None w = []
held chains (Some kept) w = items_of chains (chain_of w kept)

-- each track has an open chain, and no two tracks share one
pub record Chained (chains : Chains Version) (found : ObjectId → Option Kept) : Type 0 where
  pub opened : (o : ObjectId) (k : Kept) (w : Which) → found o ≡ Some k → IsOpen chains (chain_of w k)
  pub apart : (o q : ObjectId) (k l : Kept) (w u : Which) → found o ≡ Some k → found q ≡ Some l → chain_of w k ≡ chain_of u l
      → (o ≡ q) × (w ≡ u)
