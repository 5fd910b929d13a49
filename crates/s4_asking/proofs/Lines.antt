-- Lines and their line feeds.
use Rattle.std.proofs.Common.{◌≡◌, ◌<◌, ℕ, suc, ◌+◌, Bool, eqb, List, [], ◌∷◌, ◌++◌, length, drop, sym, ap, ◌∙◌, subst, arith, eqb-true}
use Rattle.std.specs.Prelude.{if◌then◌else◌}
use Rattle.s4_types.proofs.Booleans.{by_test}
use Rattle.s4_stream.specs.LoginText.{before}

-- bytes that have such a byte are those before it, it, and those behind it
pub whole_front : (byte : ℕ) (bytes : List ℕ) → length (before byte bytes) < length bytes → bytes ≡ (before byte bytes ++ byte ∷ []) ++ drop (length (before byte bytes) + 1) bytes
whole_front byte [] lt = absurd (omega (arith, lt))
whole_front byte (x ∷ xs) lt =
    let told : Bool → List ℕ = λ b. if b then [] else x ∷ before byte xs in
    let Whole : List ℕ → Type 0 = λ front. x ∷ xs ≡ (front ++ byte ∷ []) ++ drop (length front + 1) (x ∷ xs) in
    by_test (eqb x byte)
    (λ e. subst Whole (sym (ap told e)) (ap (λ (b : ℕ). b ∷ xs) (eqb-true x byte e)))
    (λ e.
    let n : ℕ = length (before byte xs) in
    let longer : length (x ∷ before byte xs) < length (x ∷ xs) = subst (λ (front : List ℕ). length front < length (x ∷ xs)) (ap told e) lt in
    let count : length (x ∷ before byte xs) + 1 ≡ suc (n + 1) = omega arith in
    let rest : drop (length (x ∷ before byte xs) + 1) (x ∷ xs) ≡ drop (n + 1) xs = ap (λ (k : ℕ). drop k (x ∷ xs)) count in
    subst Whole (sym (ap told e))
    (ap (λ (bs : List ℕ). x ∷ bs) (whole_front byte xs (omega (arith, longer)))
    ∙ ap (λ (w : List ℕ). ((x ∷ before byte xs) ++ byte ∷ []) ++ w) (sym rest)))
