-- The base that lists tell, once one of the lists was changed.
use Rattle.std.proofs.Common.{◌≡◌, ℕ, Bool, true, false, cond, Option, Some, List, [], ◌∷◌, refl, ◌∙◌, ap, is_some}
use Rattle.std.specs.Map.{lookup, keys_of}
use Rattle.std.specs.BTreeMap.{is_at}
use Rattle.s4_types.specs.Base.{Standing}
use Rattle.s4_types.specs.Name.{name_cmp}
use Rattle.s4_types.proofs.SameNames.{name_self, at_name}
use Rattle.s4_base.specs.Lists.{Lists, base_of_lists, bounds_among}
use Rattle.s4_base.specs.Tables.{bound_among}
use Rattle.s4_base.proofs.OneName.{AllPass, AllBound}

-- ALL NAMES ARE BOUND

more_pass : (p q : List ℕ → Bool) → ((n : List ℕ) → p n ≡ true → q n ≡ true) → (ns : List (List ℕ)) → AllPass p ns → AllPass q ns
more_pass p q more [] all = tt
more_pass p q more (n ∷ ns) all = (more n all.0, more_pass p q more ns all.1)

keys-bound : (es : List (List ℕ × Standing ℕ)) → AllPass (λ n. is_some (bound_among es n)) (keys_of es)
keys-bound [] = tt
keys-bound (e ∷ es) = (
  ap (λ b. is_some (cond b (Some e.1) (lookup (is_at (name_cmp e.0)) es))) (at_name e.0 e.0 ∙ name_self e.0),
  more_pass (λ n. is_some (bound_among es n)) (λ n. is_some (bound_among (e ∷ es) n)) (λ n f. of (is_at (name_cmp n) e.0) (lookup (is_at (name_cmp n)) es) f) (keys_of es) (keys-bound es),
)
  where
    of : (b : Bool) (x : Option (Standing ℕ)) → is_some x ≡ true → is_some (cond b (Some e.1) x) ≡ true
    of true x f = refl
    of false x f = f

pub lists-bound : (l : Lists) → AllBound (base_of_lists l)
lists-bound l p = keys-bound (bounds_among l.names p)
