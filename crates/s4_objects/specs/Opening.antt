-- The chains of a new object.
use Rattle.std.specs.Prelude.{◌≡◌, ℕ, false, ◌==◌, None, [], ◌∷◌}
use Rattle.std.specs.FinMap as finmap
use Rattle.s4_store.specs.Chains.{Chains, items_of, IsOpen, StillOpen}
use Rattle.s4_types.specs.declared.version.Version.{Version}
use Rattle.s4_types.specs.declared.version.Item.TheVariants as item
use Rattle.s4_types.specs.Acl.{first_acl}
use Rattle.s4_tracks.specs.Chain.{begun}
use Rattle.s4_objects.specs.declared.kept.Which.{Which}
use Rattle.s4_objects.specs.declared.kept.Which.TheVariants as which
use Rattle.s4_objects.specs.declared.kept.Kept.{Kept}
use Rattle.s4_objects.specs.Chains.{chain_of}

-- two chains were opened
pub record OpensTwo (old new : Chains Version) (first second : ℕ) : Type 0 where
  pub first_fresh : finmap.get old first ≡ None
  pub second_fresh : finmap.get (finmap.insert old first []) second ≡ None
  pub opened : new ≡ finmap.insert (finmap.insert old first []) second []

-- three chains were opened, for the tracks of an object
pub record Opens (old new : Chains Version) (k : Kept) : Type 0 where
  pub fresh : finmap.get old k.data.chain ≡ None
  pub two : OpensTwo (finmap.insert old k.data.chain []) new k.attributes.chain k.acl.chain

-- the first version of a track
abbrev pub first_on : Which → ℕ → ℕ → Version
first_on which.Data m creator = begun m (item.Data [])
first_on which.Attributes m creator = begun m (item.Attr [])
first_on which.Acl m creator = begun m (item.Acl (first_acl creator))

-- the tracks of a new object have chains of their own, each with its first version
pub record Begins (old new : Chains Version) (k : Kept) (m creator : ℕ) : Type 0 where
  pub apart : (w u : Which) → chain_of w k ≡ chain_of u k → w ≡ u
  pub fresh : (w : Which) (c : ℕ) → IsOpen old c → (c == chain_of w k) ≡ false
  pub items : (w : Which) → items_of new (chain_of w k) ≡ first_on w m creator ∷ []
  pub opened : (w : Which) → IsOpen new (chain_of w k)
  pub others : (c : ℕ) → IsOpen old c → items_of new c ≡ items_of old c
  pub still : StillOpen old new
  -- no other chain was opened
  pub only : (c : ℕ) → IsOpen new c → ((w : Which) → (c == chain_of w k) ≡ false) → IsOpen old c

-- the tracks' chains are open, hold nothing, and are three
pub record IsHollow (chains : Chains Version) (k : Kept) : Type 0 where
  pub opened : (w : Which) → IsOpen chains (chain_of w k)
  pub empty : (w : Which) → items_of chains (chain_of w k) ≡ []
  pub apart : (w u : Which) → chain_of w k ≡ chain_of u k → w ≡ u

-- the chains without those of the tracks
abbrev pub without : Kept → Chains Version → Chains Version
without k chains = finmap.remove (finmap.remove (finmap.remove chains k.acl.chain) k.attributes.chain) k.data.chain
