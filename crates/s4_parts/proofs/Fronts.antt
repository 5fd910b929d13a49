-- The first end of those that wait.
use Rattle.std.proofs.Common.{◌≡◌, ℕ, Bool, true, false, Option, Some, None, List, [], ◌∷◌, refl, sym, ◌∙◌, ap, take}
use Rattle.std.specs.Prelude.{◌||◌, nat_le, slice_get}
use Rattle.std.specs.List.{list_any}
use Rattle.s4_parts.specs.declared.ends.Ended.{Ended}
use Rattle.s4_parts.specs.Waiting.{is_gone}

or-false : (b : Bool) → (b || false) ≡ b
or-false true = refl
or-false false = refl

some_is : (x y : Ended) → Some x ≡ Some y → x ≡ y
some_is x y e = cc

-- whether it is gone
pub first_gone : (horizon : ℕ) (es : List Ended) (e : Ended) → slice_get es 0 ≡ Some e → nat_le e.end horizon ≡ list_any (is_gone horizon) (take 1 es)
first_gone horizon [] e first = absurd cc
first_gone horizon (x ∷ es) e first = sym (or-false (nat_le e.end horizon)) ∙ ap (λ (y : Ended). nat_le y.end horizon || false) (sym (some_is x e first))

pub none_gone : (horizon : ℕ) (es : List Ended) → slice_get es 0 ≡ None → false ≡ list_any (is_gone horizon) (take 1 es)
none_gone horizon [] none = refl
none_gone horizon (x ∷ es) none = absurd cc
