-- What each number has is its own.
use Rattle.std.proofs.Common.{◌≡◌, ℕ, ◌<◌, Bool, true, false, cond, eqb, ltb, Option, Some, refl, sym, ap, ◌∙◌, arith}
use Rattle.std.specs.Prelude.{unwrap_or, Result, Ok, Err, OnOk, OnErr}
use Rattle.std.specs.BTreeMap.{BTreeMap, get, Updates, IsUnchanged}
use Rattle.std.specs.Map.{lookup}
use Rattle.std.specs.Ordering.{is_eq, nat_cmp}
use Rattle.std.specs.declared.cmp.Ordering.TheVariants.{Less, Equal, Greater}
use Rattle.std.proofs.lemmas.Bool.{eqb-true, ltb-true, ne_eqb}
use Rattle.s4_types.proofs.Booleans.{by_test}

eq_by : (b : Bool) → is_eq (cond b Equal Greater) ≡ b
eq_by true = refl
eq_by false = refl

eq_is : (a b : ℕ) → is_eq (nat_cmp a b) ≡ eqb a b
eq_is a b = by_test (ltb a b)
    (λ e. let lt : a < b = ltb-true a b e in
    ap (λ (x : Bool). is_eq (cond x Less (cond (eqb a b) Equal Greater))) e ∙ sym (ne_eqb a b (λ same. omega (arith, lt, same))))
    (λ e. ap (λ (x : Bool). is_eq (cond x Less (cond (eqb a b) Equal Greater))) e ∙ eq_by (eqb a b))

-- each number's value says that it is that number's
abbrev pub AreOwned : {X : Type 0} → (X → ℕ) → BTreeMap ℕ X → Type 0
AreOwned {X} owner m = (who : ℕ) (x : X) → get nat_cmp m who ≡ Some x → owner x ≡ who

-- so it is with one more that is put under its own number, and where there was no room for that
pub owned_put : {X T E : Type 0} (owner : X → ℕ) (result : Result T E) (old new : BTreeMap ℕ X) (key : ℕ) (value : X) → owner value ≡ key
    → OnOk result (Updates nat_cmp old new key (Some value)) → OnErr result (IsUnchanged old new) → AreOwned owner old → AreOwned owner new
owned_put owner (Ok t) old new key value own put same owned who x at =
    by_test (is_eq (nat_cmp key who))
    (λ here.
    let is : Some value ≡ Some x = ap (λ (b : Bool). cond b (Some value) (get nat_cmp old who)) (sym here) ∙ sym (put.0 who) ∙ at in
    ap owner (sym (ap (λ o. unwrap_or o value) is)) ∙ own ∙ eqb-true key who (sym (eq_is key who) ∙ here))
    (λ there. owned who x (ap (λ (b : Bool). cond b (Some value) (get nat_cmp old who)) (sym there) ∙ sym (put.0 who) ∙ at))
owned_put owner (Err e) old new key value own put same owned who x at = owned who x (ap (lookup (λ k. is_eq (nat_cmp who k))) (sym same) ∙ at)
