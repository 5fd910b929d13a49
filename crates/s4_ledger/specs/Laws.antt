-- What follows for every weight of charges. The other steps are `sum_by_pushed`, for `charge`, and `sum_by_popped`, for `forgive`.
use Rattle.std.proofs.Common.{◌≡◌, ℕ, ◌≤◌, true, cond, List, [], ◌∷◌, refl, sym, ◌∙◌, ap, arith}
use Rattle.std.specs.Prelude.{sum_by, if◌then◌else◌}
use Rattle.std.proofs.lemmas.Bool.{ltb-true, lt-ltb}
use Rattle.std.proofs.lemmas.List.Sums.{sum_by-cons}
use Rattle.s4_types.proofs.Booleans.{by_test}
use Rattle.s4_ledger.specs.declared.charge.Charge.{Charge}
use Rattle.s4_ledger.specs.Books.{lasts_above, lasting}

-- what the charges that last weigh, summed up over all
pub sum_by-lasting : (weight : Charge → ℕ) (horizon : ℕ) (charges : List Charge)
    → sum_by weight (lasting horizon charges) ≡ sum_by (λ c. if lasts_above horizon c then weight c else 0) charges
sum_by-lasting weight horizon [] = refl
sum_by-lasting weight horizon (c ∷ charges) =
    let rest = sum_by-lasting weight horizon charges in
    let counts : Charge → ℕ = λ x. cond (lasts_above horizon x) (weight x) 0 in
    by_test (lasts_above horizon c)
    (λ e. ap (λ b. sum_by weight (cond b (c ∷ lasting horizon charges) (lasting horizon charges))) e
    ∙ omega (arith, rest, sum_by-cons weight c (lasting horizon charges), sum_by-cons counts c charges, ap (λ b. cond b (weight c) 0) e))
    (λ e. ap (λ b. sum_by weight (cond b (c ∷ lasting horizon charges) (lasting horizon charges))) e
    ∙ omega (arith, rest, sum_by-cons counts c charges, ap (λ b. cond b (weight c) 0) e))

-- of charges that last above one horizon, those that last above a later one
pub lasting-lasting : (early late : ℕ) (charges : List Charge) → early ≤ late → lasting late (lasting early charges) ≡ lasting late charges
lasting-lasting early late [] le = refl
lasting-lasting early late (c ∷ charges) le =
    let rest = lasting-lasting early late charges le in
    by_test (lasts_above late c)
    (λ e. let before : lasts_above early c ≡ true = lt-ltb early c.end (omega (arith, ltb-true late c.end e)) in
    ap (λ b. lasting late (cond b (c ∷ lasting early charges) (lasting early charges))) before
    ∙ ap (λ xs. cond (lasts_above late c) (c ∷ xs) xs) rest)
    (λ e. by_test (lasts_above early c)
    (λ f. ap (λ b. lasting late (cond b (c ∷ lasting early charges) (lasting early charges))) f ∙ ap (λ xs. cond (lasts_above late c) (c ∷ xs) xs) rest)
    (λ f. ap (λ b. lasting late (cond b (c ∷ lasting early charges) (lasting early charges))) f ∙ rest ∙ sym (ap (λ b. cond b (c ∷ lasting late charges) (lasting late charges)) e)))
