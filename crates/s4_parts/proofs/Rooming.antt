-- The room for bindings, as shelves and the queue of ends change.
use Rattle.std.proofs.Common.{◌≡◌, ℕ, ◌+◌, ◌<◌, ◌≤◌, true, false, cond, Option, Some, None, List, refl, sym, ◌∙◌, ap, subst, arith}
use Rattle.std.specs.Prelude.{is_some}
use Rattle.std.specs.Ordering.{is_eq}
use Rattle.s4_types.specs.declared.object.Purse.{Purse}
use Rattle.s4_types.specs.Names.{same_purse, purse_cmp}
use Rattle.s4_types.proofs.Booleans.{by_test}
use Rattle.s4_types.proofs.SameNames.{purse_is, purse_self, at_purse}
use Rattle.s4_parts.specs.declared.parts.Parts.{Parts}
use Rattle.s4_parts.specs.declared.shelf.Shelf.{Shelf}
use Rattle.s4_parts.specs.Table.{shelf_of, chain_at, serials_spare, names_room, ends_room, HasRoom, KeepsRoom, TakesRoom}
use Rattle.s4_parts.proofs.Shelving.{shelf-here, shelf-there, found-at}

-- what a name's room is
pub names-of : {parts : Parts} {p : Purse} {n : List ℕ} → HasRoom parts p n → 0 < names_room parts p
names-of r = subst (λ x. 0 < serials_spare x) (sym r.found) (omega (arith, r.serials))

pub room-from : (parts : Parts) (p : Purse) (n : List ℕ) → is_some (chain_at parts p n) ≡ true → 0 < names_room parts p → 0 < ends_room parts → HasRoom parts p n
room-from parts p n chain names ends = of (shelf_of parts p) refl
  where
    of : (o : Option Shelf) → shelf_of parts p ≡ o → HasRoom parts p n
    of None e = let none : 0 < 0 = subst (λ x. 0 < serials_spare x) e names in absurd (omega arith)
    of (Some shelf) e = let some : 0 < serials_spare (Some shelf) = subst (λ x. 0 < serials_spare x) e names in record { chain = chain; shelf = shelf; found = e; serials = omega (arith, some); ends = ends }

-- NO ROOM IS LOST

pub room-kept : {before after : Parts} → KeepsRoom before after → (p : Purse) (n : List ℕ) → is_some (chain_at after p n) ≡ true → HasRoom before p n → HasRoom after p n
room-kept {before} {after} k p n chain r = room-from after p n chain (omega (arith, k.names p, names-of r)) (omega (arith, k.ends, r.ends))

pub keeps-through : {a b c : Parts} → KeepsRoom a b → KeepsRoom b c → KeepsRoom a c
keeps-through k l = record { names = λ p. omega (arith, k.names p, l.names p); ends = omega (arith, k.ends, l.ends) }

-- one shelf was put in the place of another
module _ (before after : Parts) (purse : Purse) (shelf new : Shelf) (found : shelf_of before purse ≡ Some shelf) (replaced : (q : Purse) → shelf_of after q ≡ cond (is_eq (purse_cmp purse q)) (Some new) (shelf_of before q)) where
  pub room-replaced : serials_spare (Some shelf) ≤ serials_spare (Some new) → (q : Purse) → names_room before q ≤ names_room after q
  room-replaced more q = by_test (same_purse purse q)
      (λ e. omega (arith, more, ap serials_spare (found-at before after purse shelf new found replaced q e), ap serials_spare (shelf-here before after purse shelf new found replaced q e)))
      (λ e. omega (arith, ap serials_spare (shelf-there before after purse shelf new found replaced q e)))

  -- and a name was bound in its room
  pub room-taken : serials_spare (Some new) + 1 ≡ serials_spare (Some shelf) → ends_room after + 1 ≡ ends_room before → ((q : Purse) (n : List ℕ) → chain_at after q n ≡ chain_at before q n) → TakesRoom before after purse
  room-taken one ends own = record {
    here = here purse (purse_self purse);
    others = others;
    ends = ends;
    rooms = λ q n r two more. room-from after q n (ap is_some (own q n) ∙ r.chain)
        (by_test (same_purse purse q) (λ e. omega (arith, more e, here q e)) (λ e. omega (arith, names-of r, others q e)))
        (omega (arith, two, ends));
  }
    where
      here : (q : Purse) → same_purse purse q ≡ true → names_room after q + 1 ≡ names_room before q
      here q e = omega (arith, one, ap serials_spare (found-at before after purse shelf new found replaced q e), ap serials_spare (shelf-here before after purse shelf new found replaced q e))

      others : (q : Purse) → same_purse purse q ≡ false → names_room after q ≡ names_room before q
      others q e = ap serials_spare (shelf-there before after purse shelf new found replaced q e)

-- a purse that had none was given a shelf
pub room-shelved : (before after : Parts) (purse : Purse) (empty : Shelf) → shelf_of before purse ≡ None → ((q : Purse) → shelf_of after q ≡ cond (is_eq (purse_cmp purse q)) (Some empty) (shelf_of before q)) → (q : Purse) → names_room before q ≤ names_room after q
room-shelved before after purse empty none inserted q = by_test (same_purse purse q)
    (λ e. let nothing : names_room before q ≡ 0 = ap serials_spare (ap (shelf_of before) (sym (purse_is purse q e)) ∙ none) in omega arith)
    (λ e. omega (arith, ap serials_spare (inserted q ∙ ap (λ b. cond b (Some empty) (shelf_of before q)) (at_purse purse q ∙ e))))
