-- What is held once one chain was changed.
use Rattle.std.proofs.Common.{◌≡◌, ℕ, true, false, Option, Some, None, List, refl, sym, ◌∙◌, ap, subst}
use Rattle.std.specs.Prelude.{◌&&◌, ◌==◌, is_some, if◌then◌else◌}
use Rattle.std.specs.FinMap as finmap
use Rattle.std.proofs.lemmas.Bool.{eqb-true}
use Rattle.s4_types.specs.declared.object.ObjectId.{ObjectId}
use Rattle.s4_types.specs.declared.version.Version.{Version}
use Rattle.s4_types.specs.Names.{same_object}
use Rattle.s4_types.proofs.Booleans.{by_test, both, not_both}
use Rattle.s4_types.proofs.SameNames.{object_is, object_self}
use Rattle.s4_store.specs.Chains.{Chains, items_of, IsOpen, StillOpen}
use Rattle.s4_store.specs.Laws.{get_elsewhere, items_here, items_elsewhere, StillOpen-insert}
use Rattle.s4_objects.specs.declared.kept.Which.{Which}
use Rattle.s4_objects.specs.declared.kept.Which.TheVariants as which
use Rattle.s4_objects.specs.declared.kept.Kept.{Kept}
use Rattle.s4_objects.specs.Chains.{same_which, chain_of, held, Chained}

pub which_self : (w : Which) → same_which w w ≡ true
which_self which.Data = refl
which_self which.Attributes = refl
which_self which.Acl = refl

pub which_is : (w u : Which) → same_which w u ≡ true → w ≡ u
which_is which.Data which.Data e = refl
which_is which.Attributes which.Attributes e = refl
which_is which.Acl which.Acl e = refl
which_is which.Data which.Attributes e = cc
which_is which.Data which.Acl e = cc
which_is which.Attributes which.Data e = cc
which_is which.Attributes which.Acl e = cc
which_is which.Acl which.Data e = cc
which_is which.Acl which.Attributes e = cc

-- a change of an open chain opens none
pub open_before : (m n : Chains Version) (c : ℕ) (xs : List Version) → n ≡ finmap.insert m c xs → IsOpen m c → StillOpen n m
open_before m n c xs changed opened d o = by_test (d == c)
    (λ e. subst (IsOpen m) (sym (eqb-true d c e)) opened)
    (λ e. let now : IsOpen (finmap.insert m c xs) d = subst (λ x. IsOpen x d) changed o in record { is_open = ap is_some (sym (get_elsewhere m c d xs e)) ∙ now.is_open })

-- the chains of the objects that are kept, once one chain was changed
module _ {chains new : Chains Version} {found : ObjectId → Option Kept} (c : Chained chains found) (o : ObjectId) (k : Kept) (kept : found o ≡ Some k) (w : Which) (xs : List Version) (changed : new ≡ finmap.insert chains (chain_of w k) xs) where
  pub chained_still : Chained new found
  chained_still = record {
    opened = λ q l u got. StillOpen-insert chains new (chain_of w k) xs changed (chain_of u l) (c.opened q l u got);
    apart = c.apart;
  }

  pub held_here : held new (found o) w ≡ xs
  held_here = ap (λ f. held new f w) kept ∙ ap (λ m. items_of m (chain_of w k)) changed ∙ items_here chains (chain_of w k) xs

  pub held_elsewhere : (q : ObjectId) (u : Which) → (same_object o q && same_which w u) ≡ false → held new (found q) u ≡ held chains (found q) u
  held_elsewhere q u e = of (found q) refl
    where
      of : (f : Option Kept) → found q ≡ f → held new f u ≡ held chains f u
      of None got = refl
      of (Some l) got = ap (λ m. items_of m (chain_of u l)) changed ∙ items_elsewhere chains (chain_of w k) (chain_of u l) xs (by_test (chain_of u l == chain_of w k)
          (λ same. let one = c.apart o q k l w u kept got (sym (eqb-true (chain_of u l) (chain_of w k) same)) in
          let is : (same_object o q && same_which w u) ≡ true = subst (λ x. (same_object o x && same_which w u) ≡ true) one.0 (subst (λ v. (same_object o o && same_which w v) ≡ true) one.1 (rw (object_self o, which_self w) refl)) in
          absurd (not_both _ is e))
          (λ other. other))

  -- on each track
  pub held_now : (q : ObjectId) (u : Which) → held new (found q) u ≡ (if same_object o q && same_which w u then xs else held chains (found q) u)
  held_now q u = by_test (same_object o q && same_which w u)
      (λ e. let parts = both (same_object o q) (same_which w u) e in
      subst (λ x. held new (found x) u ≡ xs) (object_is o q parts.0) (subst (λ v. held new (found o) v ≡ xs) (which_is w u parts.1) held_here)
      ∙ sym (ap (λ b. if b then xs else held chains (found q) u) e))
      (λ e. held_elsewhere q u e ∙ sym (ap (λ b. if b then xs else held chains (found q) u) e))
