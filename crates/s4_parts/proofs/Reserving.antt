-- A name was given a chain, where it had none, and its shelf has room.
use Rattle.std.proofs.Common.{◌≡◌, ℕ, ◌<◌, true, false, cond, Option, Some, None, List, refl, sym, ◌∙◌, ap, filter, vec_len, vec_capacity}
use Rattle.std.specs.Prelude.{is_some}
use Rattle.std.specs.Ordering.{is_eq}
use Rattle.s4_types.specs.declared.object.Purse.{Purse}
use Rattle.s4_types.specs.declared.version.Version.{Version}
use Rattle.s4_types.specs.Names.{purse_cmp}
use Rattle.s4_types.proofs.SameNames.{purse_self}
use Rattle.s4_store.specs.Chains.{Chains, items_of, item_count, IsOpen, StillOpen}
use Rattle.s4_store.specs.Counts.{item_count-open}
use Rattle.s4_parts.specs.declared.parts.Parts.{Parts}
use Rattle.s4_parts.specs.declared.shelf.Shelf.{Shelf}
use Rattle.s4_parts.specs.Table.{shelf_of, chain_at, chain_on, names_on, serials_on, items_on, bindings_in, names_in, is_any, Holds, HasRoom, KeepsChains, LeavesNoChain, OpensFor}
use Rattle.s4_parts.specs.Shelf.{Grows, with_chain}
use Rattle.s4_parts.proofs.Shelving.{shelf-here, named-on, alike, grown-chains, grown-names, grown-sorted, grown-serials}
use Rattle.s4_parts.proofs.Standing.{items-kept, still-open, bindings-kept, own-old, own-kept, there-are, leaves-opened, names-kept, holds-opened}
use Rattle.s4_parts.proofs.Rebinding.{moved}

module _ (chains new : Chains Version) (before mid after : Parts) (s : Holds chains before)
    (chains-are : (p : Purse) (n : List ℕ) → chain_at mid p n ≡ chain_at before p n) (names-are : (p : Purse) → names_on (shelf_of mid p) ≡ names_on (shelf_of before p)) (serials-are : (p : Purse) → serials_on (shelf_of mid p) ≡ serials_on (shelf_of before p))
    (purse : Purse) (name : List ℕ) (shelf w : Shelf) (found : shelf_of mid purse ≡ Some shelf) (replaced : (q : Purse) → shelf_of after q ≡ cond (is_eq (purse_cmp purse q)) (Some w) (shelf_of mid q)) (g : Grows chains new shelf w name) where
  at-mid : Holds chains mid
  at-mid = moved chains (chain_at before) (chain_at mid) (λ p. names_on (shelf_of before p)) (λ p. names_on (shelf_of mid p)) (λ p. serials_on (shelf_of before p)) (λ p. serials_on (shelf_of mid p)) chains-are names-are serials-are s

  pub reserved-holds : Holds new after
  reserved-holds = holds-opened at-mid purse name g.fresh g.unopened new g.opened (chain_at after) (grown-chains mid after purse shelf w found replaced chains new name g)
      (λ p. names_on (shelf_of after p)) (grown-names mid after purse shelf w found replaced chains new name g) (λ p. serials_on (shelf_of after p))
      (λ p n. named-on (shelf_of after p) n) (grown-sorted mid after purse shelf w found replaced chains new name g at-mid.sorted) (grown-serials mid after purse shelf w found replaced chains new name g)

  pub reserved-bindings : (p : Purse) (n : List ℕ) → bindings_in new after p n ≡ bindings_in chains before p n
  reserved-bindings p n = bindings-kept at-mid purse name g.fresh g.unopened new g.opened (chain_at after) (grown-chains mid after purse shelf w found replaced chains new name g) p n ∙ ap (items_on chains) (chains-are p n)

  pub reserved-names : (p : Purse) → names_in new after p ≡ names_in chains before p
  reserved-names p =
      names-kept at-mid purse name g.fresh g.unopened new g.opened (chain_at after) (grown-chains mid after purse shelf w found replaced chains new name g)
      (λ q. names_on (shelf_of after q)) (grown-names mid after purse shelf w found replaced chains new name g) is_any refl p
      ∙ (λ i. filter (λ n. is_any (items_on chains (chains-are p n i))) (names-are p i))

  pub reserved-items : (c : ℕ) → IsOpen chains c → items_of new c ≡ items_of chains c
  reserved-items = items-kept at-mid purse name g.fresh g.unopened new g.opened (chain_at after) (grown-chains mid after purse shelf w found replaced chains new name g)

  pub reserved-still : StillOpen chains new
  reserved-still = still-open at-mid purse name g.fresh g.unopened new g.opened (chain_at after) (grown-chains mid after purse shelf w found replaced chains new name g)

  pub reserved-own : (p : Purse) (n : List ℕ) (c : ℕ) → chain_at after p n ≡ Some c → IsOpen chains c → chain_at before p n ≡ Some c
  reserved-own p n c got open' = sym (chains-are p n) ∙ own-old at-mid purse name g.fresh g.unopened new g.opened (chain_at after) (grown-chains mid after purse shelf w found replaced chains new name g) p n c got open'

  pub reserved-asked : OpensFor before after purse name
  reserved-asked = record {
    others = λ q n e. there-are at-mid purse name g.fresh g.unopened new g.opened (chain_at after) (grown-chains mid after purse shelf w found replaced chains new name g) q n e ∙ chains-are q n;
    kept = λ some. of some (chain_at mid purse name) refl;
  }
    where
      of : is_some (chain_at before purse name) ≡ true → (f : Option ℕ) → chain_at mid purse name ≡ f → chain_at after purse name ≡ chain_at before purse name
      of some None got = let none : is_some (chain_at before purse name) ≡ false = ap is_some (sym (chains-are purse name) ∙ got) in cc
      of some (Some c) got = own-kept at-mid purse name g.fresh g.unopened new g.opened (chain_at after) (grown-chains mid after purse shelf w found replaced chains new name g) purse name c got ∙ sym got ∙ chains-are purse name

  -- a name that had a chain has one
  pub reserved-chain : (q : Purse) (n : List ℕ) → is_some (chain_at before q n) ≡ true → is_some (chain_at after q n) ≡ true
  reserved-chain q n some = of (chain_at mid q n) refl
    where
      of : (f : Option ℕ) → chain_at mid q n ≡ f → is_some (chain_at after q n) ≡ true
      of None got = let none : is_some (chain_at before q n) ≡ false = ap is_some (sym (chains-are q n) ∙ got) in cc
      of (Some c) got = ap is_some (own-kept at-mid purse name g.fresh g.unopened new g.opened (chain_at after) (grown-chains mid after purse shelf w found replaced chains new name g) q n c got)

  -- where the shelf gave the name none
  pub reserved-none : ((n : List ℕ) → chain_on (Some w) n ≡ chain_on (Some shelf) n) → KeepsChains before after
  reserved-none same p n = alike mid after purse shelf w found replaced (λ x. chain_on x n) (same n) p ∙ chains-are p n

  pub reserved-leaves : LeavesNoChain chains new before after
  reserved-leaves c open' foreign =
      let was = leaves-opened at-mid purse name g.fresh g.unopened new g.opened (chain_at after) (grown-chains mid after purse shelf w found replaced chains new name g)
      (λ some. g.needed (ap (λ x. is_some (chain_on x name)) (sym found) ∙ some)) c open' foreign in
      (was.0, λ q n got. was.1 q n (chains-are q n ∙ got))

  pub reserved-room : 0 < after.ends.spare → is_some (chain_on (Some w) name) ≡ true → vec_len w.bound < vec_capacity w.bound → HasRoom after purse name
  reserved-room ends there room =
      let here : shelf_of after purse ≡ Some w = shelf-here mid after purse shelf w found replaced purse (purse_self purse) in
      record { chain = ap (λ x. is_some (chain_on x name)) here ∙ there; shelf = w; found = here; serials = room; ends = ends }

-- the store holds as many items as before
pub reserved-used : {old new : Chains Version} {before after : Shelf} {name : List ℕ} → Grows old new before after name → item_count new ≡ item_count old
reserved-used {old} g = ap item_count g.opened ∙ of g.fresh refl
  where
    of : (fresh : Option ℕ) → g.fresh ≡ fresh → item_count (with_chain old fresh) ≡ item_count old
    of None e = refl
    of (Some c) e = item_count-open old c (g.unopened c e)
