-- The chains of a new object.
use Rattle.std.proofs.Common.{◌≡◌, ℕ, false, cond, None, List, [], ◌∷◌, ◌++◌, refl, sym, ◌∙◌, ap, subst}
use Rattle.std.specs.Prelude.{◌==◌, is_some}
use Rattle.std.specs.FinMap as finmap
use Rattle.std.proofs.lemmas.Bool.{eqb-true, eq-eqb}
use Rattle.s4_types.specs.declared.acl.AclEntry.{AclEntry}
use Rattle.s4_types.specs.declared.version.Version.{Version}
use Rattle.s4_types.specs.declared.version.Item.TheVariants as item
use Rattle.s4_types.specs.Acl.{first_acl}
use Rattle.s4_types.proofs.Booleans.{by_test, not_both}
use Rattle.s4_store.specs.Chains.{Chains, items_of, IsOpen}
use Rattle.s4_store.specs.Laws.{get-remove, get_elsewhere, get_elsewhere-remove, fresh_is_closed, items_here, open_here, items_elsewhere, open_still, fresh_differs, remove-insert, open_elsewhere-remove, items_elsewhere-remove}
use Rattle.s4_tracks.specs.Chain.{begun}
use Rattle.s4_objects.specs.declared.kept.Which.{Which}
use Rattle.s4_objects.specs.declared.kept.Which.TheVariants as which
use Rattle.s4_objects.specs.declared.kept.Kept.{Kept}
use Rattle.s4_objects.specs.Chains.{chain_of}
use Rattle.s4_objects.specs.Opening.{Opens, Begins, first_on, IsHollow, without}

turned : (a b : ℕ) → (a == b) ≡ false → (b == a) ≡ false
turned a b e = by_test (b == a) (λ f. absurd (not_both _ (eq-eqb a b (sym (eqb-true b a f))) e)) (λ f. f)

-- a change of one chain opens no other, nor does closing one
before_insert : (m : Chains Version) (c d : ℕ) (xs : List Version) → (d == c) ≡ false → IsOpen (finmap.insert m c xs) d → IsOpen m d
before_insert m c d xs e o = record { is_open = ap is_some (sym (get_elsewhere m c d xs e)) ∙ o.is_open }

before_remove : (m : Chains Version) (c d : ℕ) → IsOpen (finmap.remove m c) d → ((d == c) ≡ false) × IsOpen m d
before_remove m c d o = by_test (d == c)
    (λ e. absurd (fresh_is_closed (finmap.remove m c) d (get-remove m c d ∙ ap (λ b. cond b None (finmap.get m d)) e) o))
    (λ e. (e, record { is_open = ap is_some (sym (get_elsewhere-remove m c d e)) ∙ o.is_open }))

module _ {chains new : Chains Version} {k : Kept} (p : Opens chains new k) where
  one : Chains Version
  one = finmap.insert chains k.data.chain []

  -- no two of the chains are one
  attributes_apart : (k.attributes.chain == k.data.chain) ≡ false
  attributes_apart = turned k.data.chain k.attributes.chain (fresh_differs (finmap.insert chains k.data.chain []) k.attributes.chain k.data.chain p.two.first_fresh (open_here chains k.data.chain []))

  acl_apart : (k.data.chain == k.acl.chain) ≡ false
  acl_apart = fresh_differs _ k.acl.chain k.data.chain p.two.second_fresh (open_still _ k.attributes.chain k.data.chain [] (open_here chains k.data.chain []))

  acl_apart_too : (k.attributes.chain == k.acl.chain) ≡ false
  acl_apart_too = fresh_differs _ k.acl.chain k.attributes.chain p.two.second_fresh (open_here _ k.attributes.chain [])

  -- a chain that was open is none of them
  pub isnt_new : (w : Which) (c : ℕ) → IsOpen chains c → (c == chain_of w k) ≡ false
  isnt_new which.Data c o = fresh_differs chains k.data.chain c p.fresh o
  isnt_new which.Attributes c o = fresh_differs _ k.attributes.chain c p.two.first_fresh (open_still chains k.data.chain c [] o)
  isnt_new which.Acl c o = fresh_differs _ k.acl.chain c p.two.second_fresh (open_still _ k.attributes.chain c [] (open_still chains k.data.chain c [] o))

  apart_chains : (w u : Which) → chain_of w k ≡ chain_of u k → w ≡ u
  apart_chains which.Data which.Data e = refl
  apart_chains which.Attributes which.Attributes e = refl
  apart_chains which.Acl which.Acl e = refl
  apart_chains which.Attributes which.Data e = absurd (not_both _ (eq-eqb _ _ e) attributes_apart)
  apart_chains which.Data which.Attributes e = absurd (not_both _ (eq-eqb _ _ (sym e)) attributes_apart)
  apart_chains which.Data which.Acl e = absurd (not_both _ (eq-eqb _ _ e) acl_apart)
  apart_chains which.Acl which.Data e = absurd (not_both _ (eq-eqb _ _ (sym e)) acl_apart)
  apart_chains which.Attributes which.Acl e = absurd (not_both _ (eq-eqb _ _ e) acl_apart_too)
  apart_chains which.Acl which.Attributes e = absurd (not_both _ (eq-eqb _ _ (sym e)) acl_apart_too)

  -- each is open, and holds nothing
  pub new_open : (w : Which) → IsOpen new (chain_of w k)
  new_open which.Data = subst (λ m. IsOpen m k.data.chain) (sym p.two.opened) (open_still _ k.acl.chain k.data.chain [] (open_still _ k.attributes.chain k.data.chain [] (open_here chains k.data.chain [])))
  new_open which.Attributes = subst (λ m. IsOpen m k.attributes.chain) (sym p.two.opened) (open_still _ k.acl.chain k.attributes.chain [] (open_here _ k.attributes.chain []))
  new_open which.Acl = subst (λ m. IsOpen m k.acl.chain) (sym p.two.opened) (open_here _ k.acl.chain [])

  pub new_empty : (w : Which) → items_of new (chain_of w k) ≡ []
  new_empty which.Data = ap (λ m. items_of m k.data.chain) p.two.opened ∙ items_elsewhere _ k.acl.chain k.data.chain [] acl_apart
      ∙ items_elsewhere _ k.attributes.chain k.data.chain [] (turned _ _ attributes_apart) ∙ items_here chains k.data.chain []
  new_empty which.Attributes = ap (λ m. items_of m k.attributes.chain) p.two.opened ∙ items_elsewhere _ k.acl.chain k.attributes.chain [] acl_apart_too ∙ items_here _ k.attributes.chain []
  new_empty which.Acl = ap (λ m. items_of m k.acl.chain) p.two.opened ∙ items_here _ k.acl.chain []

  pub old_open : (c : ℕ) → IsOpen chains c → IsOpen new c
  old_open c o = subst (λ m. IsOpen m c) (sym p.two.opened) (open_still _ k.acl.chain c [] (open_still _ k.attributes.chain c [] (open_still chains k.data.chain c [] o)))

  -- a chain that is open and none of them was open
  was_open : (c : ℕ) → IsOpen new c → ((w : Which) → (c == chain_of w k) ≡ false) → IsOpen chains c
  was_open c o apart = before_insert chains k.data.chain c [] (apart which.Data) (before_insert _ k.attributes.chain c [] (apart which.Attributes)
      (before_insert _ k.acl.chain c [] (apart which.Acl) (subst (λ m. IsOpen m c) p.two.opened o)))

  old_items : (c : ℕ) → IsOpen chains c → items_of new c ≡ items_of chains c
  old_items c o = ap (λ m. items_of m c) p.two.opened ∙ items_elsewhere _ k.acl.chain c [] (isnt_new which.Acl c o)
      ∙ items_elsewhere _ k.attributes.chain c [] (isnt_new which.Attributes c o) ∙ items_elsewhere chains k.data.chain c [] (isnt_new which.Data c o)

  -- CLOSING

  -- they can be closed again
  pub hollow : IsHollow new k
  hollow = record { opened = new_open; empty = new_empty; apart = apart_chains }

  -- and then all is as before
  pub closed : without k new ≡ chains
  closed = ap (without k) p.two.opened
      ∙ ap (λ x. finmap.remove (finmap.remove x k.attributes.chain) k.data.chain) (remove-insert _ k.acl.chain [] p.two.second_fresh)
      ∙ ap (λ x. finmap.remove x k.data.chain) (remove-insert _ k.attributes.chain [] p.two.first_fresh)
      ∙ remove-insert chains k.data.chain [] p.fresh

  -- BEGINNING

  -- a first value on each track, one after the other
  module _ (t creator : ℕ) (a b c : Chains Version) (bytes attributes : List ℕ) (acl : List AclEntry) (no_bytes : bytes ≡ []) (no_attributes : attributes ≡ []) (one_entry : acl ≡ first_acl creator)
      (e : a ≡ finmap.insert new k.data.chain (items_of new k.data.chain ++ begun t (item.Data bytes) ∷ []))
      (f : b ≡ finmap.insert a k.attributes.chain (items_of a k.attributes.chain ++ begun t (item.Attr attributes) ∷ []))
      (g : c ≡ finmap.insert b k.acl.chain (items_of b k.acl.chain ++ begun t (item.Acl acl) ∷ [])) where
    -- what a chain holds that isn't one of them
    through : (d : ℕ) → (d == k.data.chain) ≡ false → (d == k.attributes.chain) ≡ false → (d == k.acl.chain) ≡ false → items_of c d ≡ items_of new d
    through d x y z = ap (λ m. items_of m d) g ∙ items_elsewhere b k.acl.chain d _ z ∙ ap (λ m. items_of m d) f ∙ items_elsewhere a k.attributes.chain d _ y ∙ ap (λ m. items_of m d) e ∙ items_elsewhere new k.data.chain d _ x

    still : (d : ℕ) → IsOpen new d → IsOpen c d
    still d o = subst (λ m. IsOpen m d) (sym g) (open_still b k.acl.chain d _ (subst (λ m. IsOpen m d) (sym f) (open_still a k.attributes.chain d _ (subst (λ m. IsOpen m d) (sym e) (open_still new k.data.chain d _ o)))))

    first_items : (w : Which) → items_of c (chain_of w k) ≡ first_on w t creator ∷ []
    first_items which.Data = ap (λ m. items_of m k.data.chain) g ∙ items_elsewhere b k.acl.chain k.data.chain _ acl_apart
        ∙ ap (λ m. items_of m k.data.chain) f ∙ items_elsewhere a k.attributes.chain k.data.chain _ (turned _ _ attributes_apart)
        ∙ ap (λ m. items_of m k.data.chain) e ∙ items_here new k.data.chain _ ∙ ap (λ vs. vs ++ begun t (item.Data bytes) ∷ []) (new_empty which.Data) ∙ ap (λ x. begun t (item.Data x) ∷ []) no_bytes
    first_items which.Attributes = ap (λ m. items_of m k.attributes.chain) g ∙ items_elsewhere b k.acl.chain k.attributes.chain _ acl_apart_too
        ∙ ap (λ m. items_of m k.attributes.chain) f ∙ items_here a k.attributes.chain _
        ∙ ap (λ vs. vs ++ begun t (item.Attr attributes) ∷ []) (ap (λ m. items_of m k.attributes.chain) e ∙ items_elsewhere new k.data.chain k.attributes.chain _ attributes_apart ∙ new_empty which.Attributes) ∙ ap (λ x. begun t (item.Attr x) ∷ []) no_attributes
    first_items which.Acl = ap (λ m. items_of m k.acl.chain) g ∙ items_here b k.acl.chain _
        ∙ ap (λ vs. vs ++ begun t (item.Acl acl) ∷ []) (ap (λ m. items_of m k.acl.chain) f ∙ items_elsewhere a k.attributes.chain k.acl.chain _ (turned _ _ acl_apart_too)
        ∙ ap (λ m. items_of m k.acl.chain) e ∙ items_elsewhere new k.data.chain k.acl.chain _ (turned _ _ acl_apart) ∙ new_empty which.Acl)
        ∙ ap (λ x. begun t (item.Acl x) ∷ []) one_entry

    pub begins : Begins chains c k t creator
    begins = record {
      apart = apart_chains;
      fresh = isnt_new;
      items = first_items;
      opened = λ w. still (chain_of w k) (new_open w);
      others = λ d o. through d (isnt_new which.Data d o) (isnt_new which.Attributes d o) (isnt_new which.Acl d o) ∙ old_items d o;
      still = λ d o. still d (old_open d o);
      only = λ d o apart. was_open d (begun-only d o apart) apart;
    }
      where
        begun-only : (d : ℕ) → IsOpen c d → ((w : Which) → (d == chain_of w k) ≡ false) → IsOpen new d
        begun-only d o apart = before_insert new k.data.chain d _ (apart which.Data) (subst (λ m. IsOpen m d) e (before_insert a k.attributes.chain d _ (apart which.Attributes)
            (subst (λ m. IsOpen m d) f (before_insert b k.acl.chain d _ (apart which.Acl) (subst (λ m. IsOpen m d) g o)))))

-- CHAINS THAT HOLD NOTHING ARE CLOSED

module _ {chains : Chains Version} {k : Kept} (h : IsHollow chains k) where
  others-apart : (w u : Which) → (w ≡ u → ⊥) → (chain_of w k == chain_of u k) ≡ false
  others-apart w u ne = by_test (chain_of w k == chain_of u k) (λ e. absurd (ne (h.apart w u (eqb-true (chain_of w k) (chain_of u k) e)))) (λ e. e)

  attributes-acl : (k.attributes.chain == k.acl.chain) ≡ false
  attributes-acl = others-apart which.Attributes which.Acl (λ e. differ e)
    where
      differ : which.Attributes ≡ which.Acl → ⊥
      differ e = cc

  data-acl : (k.data.chain == k.acl.chain) ≡ false
  data-acl = others-apart which.Data which.Acl (λ e. differ e)
    where
      differ : which.Data ≡ which.Acl → ⊥
      differ e = cc

  data-attributes : (k.data.chain == k.attributes.chain) ≡ false
  data-attributes = others-apart which.Data which.Attributes (λ e. differ e)
    where
      differ : which.Data ≡ which.Attributes → ⊥
      differ e = cc

  module _ (m : Chains Version) (first : m ≡ finmap.remove chains k.acl.chain) where
    pub attributes_open : IsOpen m k.attributes.chain
    attributes_open = subst (λ x. IsOpen x k.attributes.chain) (sym first) (open_elsewhere-remove chains k.acl.chain k.attributes.chain attributes-acl (h.opened which.Attributes))

    pub attributes_empty : items_of m k.attributes.chain ≡ []
    attributes_empty = ap (λ x. items_of x k.attributes.chain) first ∙ items_elsewhere-remove chains k.acl.chain k.attributes.chain attributes-acl ∙ h.empty which.Attributes

    module _ (n : Chains Version) (second : n ≡ finmap.remove m k.attributes.chain) where
      pub data_open : IsOpen n k.data.chain
      data_open = subst (λ x. IsOpen x k.data.chain) (sym second) (open_elsewhere-remove m k.attributes.chain k.data.chain data-attributes
          (subst (λ x. IsOpen x k.data.chain) (sym first) (open_elsewhere-remove chains k.acl.chain k.data.chain data-acl (h.opened which.Data))))

      pub data_empty : items_of n k.data.chain ≡ []
      data_empty = ap (λ x. items_of x k.data.chain) second ∙ items_elsewhere-remove m k.attributes.chain k.data.chain data-attributes
          ∙ ap (λ x. items_of x k.data.chain) first ∙ items_elsewhere-remove chains k.acl.chain k.data.chain data-acl ∙ h.empty which.Data

-- a chain that is open still is none of those that were closed, and was open
pub open_within : (chains : Chains Version) (k : Kept) (c : ℕ) → IsOpen (without k chains) c → ((w : Which) → (c == chain_of w k) ≡ false) × IsOpen chains c
open_within chains k c o =
    let third = before_remove (finmap.remove (finmap.remove chains k.acl.chain) k.attributes.chain) k.data.chain c o in
    let second = before_remove (finmap.remove chains k.acl.chain) k.attributes.chain c third.1 in
    let first = before_remove chains k.acl.chain c second.1 in
    (apart third.0 second.0 first.0, first.1)
  where
    apart : (c == k.data.chain) ≡ false → (c == k.attributes.chain) ≡ false → (c == k.acl.chain) ≡ false → (w : Which) → (c == chain_of w k) ≡ false
    apart d a l which.Data = d
    apart d a l which.Attributes = a
    apart d a l which.Acl = l

-- what a chain holds that is none of those that were closed
module _ (chains : Chains Version) (k : Kept) (c : ℕ) (apart : (w : Which) → (c == chain_of w k) ≡ false) where
  pub items_without : items_of (without k chains) c ≡ items_of chains c
  items_without = items_elsewhere-remove (finmap.remove (finmap.remove chains k.acl.chain) k.attributes.chain) k.data.chain c (apart which.Data)
      ∙ items_elsewhere-remove (finmap.remove chains k.acl.chain) k.attributes.chain c (apart which.Attributes) ∙ items_elsewhere-remove chains k.acl.chain c (apart which.Acl)

  pub open_without : IsOpen chains c → IsOpen (without k chains) c
  open_without opened = open_elsewhere-remove (finmap.remove (finmap.remove chains k.acl.chain) k.attributes.chain) k.data.chain c (apart which.Data)
      (open_elsewhere-remove (finmap.remove chains k.acl.chain) k.attributes.chain c (apart which.Attributes) (open_elsewhere-remove chains k.acl.chain c (apart which.Acl) opened))
