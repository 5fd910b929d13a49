-- A name that is put among a map's entries, in their order.
use Rattle.std.proofs.Common.{◌≡◌, ℕ, Bool, false, cond, List, [], ◌∷◌, refl, ap, filter}
use Rattle.std.specs.declared.cmp.Ordering.{Ordering}
use Rattle.std.specs.declared.cmp.Ordering.TheVariants.{Less, Equal, Greater}
use Rattle.std.specs.Ordering.{match_ordering}
use Rattle.std.specs.BTreeMap.{insert_entry}
use Rattle.std.specs.Map.{keys_of}
use Rattle.s4_types.specs.Name.{name_cmp}

-- a name that fails the test, put among the entries
pub filter-inserted : {X : Type 0} (test : List ℕ → Bool) (k : List ℕ) (v : X) → test k ≡ false → (es : List (List ℕ × X)) → filter test (keys_of (insert_entry name_cmp es k v)) ≡ filter test (keys_of es)
filter-inserted test k v fails [] = ap (λ b. cond b (k ∷ []) []) fails
filter-inserted {X} test k v fails (e ∷ es) = of (name_cmp k e.0) (filter-inserted test k v fails es)
  where
    of : (o : Ordering) → filter test (keys_of (insert_entry name_cmp es k v)) ≡ filter test (keys_of es)
        → filter test (keys_of (match_ordering o ((k, v) ∷ e ∷ es) ((e.0, v) ∷ es) (e ∷ insert_entry name_cmp es k v))) ≡ filter test (keys_of (e ∷ es))
    of Less rest = ap (λ b. cond b (k ∷ filter test (keys_of (e ∷ es))) (filter test (keys_of (e ∷ es)))) fails
    of Equal rest = refl
    of Greater rest = ap (λ xs. cond (test e.0) (e.0 ∷ xs) xs) rest
