-- Keys that are numbers.
use Rattle.std.proofs.Common.{◌≡◌, ℕ, ◌<◌, Bool, true, false, cond, eqb, ltb, refl, sym, ap, ◌∙◌, arith}
use Rattle.std.specs.Ordering.{is_eq, nat_cmp}
use Rattle.std.specs.declared.cmp.Ordering.TheVariants.{Less, Equal, Greater}
use Rattle.std.proofs.lemmas.Bool.{ltb-true, ne_eqb}
use Rattle.s4_types.proofs.Booleans.{by_test}

eq_by : (b : Bool) → is_eq (cond b Equal Greater) ≡ b
eq_by true = refl
eq_by false = refl

pub eq_is : (a b : ℕ) → is_eq (nat_cmp a b) ≡ eqb a b
eq_is a b = by_test (ltb a b)
    (λ e. let lt : a < b = ltb-true a b e in
    ap (λ (x : Bool). is_eq (cond x Less (cond (eqb a b) Equal Greater))) e ∙ sym (ne_eqb a b (λ same. omega (arith, lt, same))))
    (λ e. ap (λ (x : Bool). is_eq (cond x Less (cond (eqb a b) Equal Greater))) e ∙ eq_by (eqb a b))
