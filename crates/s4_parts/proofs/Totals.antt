-- How many names are bound in all purses, as one shelf is added or replaced.
use Rattle.std.proofs.Common.{◌≡◌, ◌+◌, Bool, cond, Some, None, List, [], ◌∷◌, refl, sym, ◌∙◌, ap, arith, length}
use Rattle.std.specs.declared.cmp.Ordering.{Ordering}
use Rattle.std.specs.declared.cmp.Ordering.TheVariants.{Less, Equal, Greater}
use Rattle.std.specs.Ordering.{is_eq, match_ordering}
use Rattle.std.specs.Map.{lookup, set_value}
use Rattle.std.specs.BTreeMap.{is_at, insert_entry}
use Rattle.std.proofs.lemmas.List.Sums.{sum_by-cons}
use Rattle.s4_types.specs.declared.object.Purse.{Purse}
use Rattle.s4_types.specs.Names.{purse_cmp}
use Rattle.s4_types.proofs.Booleans.{by_test}
use Rattle.s4_parts.specs.declared.shelf.Shelf.{Shelf}
use Rattle.s4_parts.specs.Waiting.{bound_on}

some_is : (x y : Shelf) → Some x ≡ Some y → x ≡ y
some_is x y e = cc

bound-cons : (e : Purse × Shelf) (es : List (Purse × Shelf)) → bound_on (e ∷ es) ≡ length e.1.bound.items + bound_on es
bound-cons e es = sum_by-cons (λ (x : Purse × Shelf). length x.1.bound.items) e es

-- one shelf in the place of another
pub bound-set : (test : Purse → Bool) (es : List (Purse × Shelf)) (old w : Shelf) → lookup test es ≡ Some old → bound_on (set_value test es w) + length old.bound.items ≡ bound_on es + length w.bound.items
bound-set test [] old w got = cc
bound-set test (e ∷ es) old w got =
    let before : bound_on (e ∷ es) ≡ length e.1.bound.items + bound_on es = bound-cons e es in
    by_test (test e.0)
    (λ f. let is : e.1 ≡ old = some_is e.1 old (sym (ap (λ b. cond b (Some e.1) (lookup test es)) f) ∙ got) in
    let same : length e.1.bound.items ≡ length old.bound.items = ap (λ (x : Shelf). length x.bound.items) is in
    let after : bound_on ((e.0, w) ∷ es) ≡ length w.bound.items + bound_on es = bound-cons (e.0, w) es in
    let now : bound_on (set_value test (e ∷ es) w) ≡ bound_on ((e.0, w) ∷ es) = ap (λ b. bound_on (cond b ((e.0, w) ∷ es) (e ∷ set_value test es w))) f in
    omega arith)
    (λ f. let rest : bound_on (set_value test es w) + length old.bound.items ≡ bound_on es + length w.bound.items = bound-set test es old w (sym (ap (λ b. cond b (Some e.1) (lookup test es)) f) ∙ got) in
    let after : bound_on (e ∷ set_value test es w) ≡ length e.1.bound.items + bound_on (set_value test es w) = bound-cons e (set_value test es w) in
    let now : bound_on (set_value test (e ∷ es) w) ≡ bound_on (e ∷ set_value test es w) = ap (λ b. bound_on (cond b ((e.0, w) ∷ es) (e ∷ set_value test es w))) f in
    omega arith)

-- a shelf more
pub bound-insert : (es : List (Purse × Shelf)) (p : Purse) (w : Shelf) → lookup (is_at (purse_cmp p)) es ≡ None → bound_on (insert_entry purse_cmp es p w) ≡ bound_on es + length w.bound.items
bound-insert [] p w none = let one : bound_on ((p, w) ∷ []) ≡ length w.bound.items + bound_on [] = bound-cons (p, w) [] in let nothing : bound_on [] ≡ 0 = refl in omega arith
bound-insert (e ∷ es) p w none = of (purse_cmp p e.0) none (bound-insert es p w)
  where
    of : (o : Ordering) → cond (is_eq o) (Some e.1) (lookup (is_at (purse_cmp p)) es) ≡ None
        → (lookup (is_at (purse_cmp p)) es ≡ None → bound_on (insert_entry purse_cmp es p w) ≡ bound_on es + length w.bound.items)
        → bound_on (match_ordering o ((p, w) ∷ e ∷ es) ((e.0, w) ∷ es) (e ∷ insert_entry purse_cmp es p w)) ≡ bound_on (e ∷ es) + length w.bound.items
    of Less none' rest = let one : bound_on ((p, w) ∷ e ∷ es) ≡ length w.bound.items + bound_on (e ∷ es) = bound-cons (p, w) (e ∷ es) in omega arith
    of Equal none' rest = cc
    of Greater none' rest =
        let more : bound_on (insert_entry purse_cmp es p w) ≡ bound_on es + length w.bound.items = rest none' in
        let one : bound_on (e ∷ insert_entry purse_cmp es p w) ≡ length e.1.bound.items + bound_on (insert_entry purse_cmp es p w) = bound-cons e (insert_entry purse_cmp es p w) in
        let two : bound_on (e ∷ es) ≡ length e.1.bound.items + bound_on es = bound-cons e es in
        omega arith
