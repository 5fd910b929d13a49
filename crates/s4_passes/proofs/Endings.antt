-- Lists that end with another.
use Rattle.std.proofs.Common.{◌≡◌, ℕ, ◌-◌, List, [], ◌∷◌, ◌++◌, length, take, drop, take-append-drop, append_assoc, length-append, sym, ap, ◌∙◌, arith}
use Rattle.std.proofs.Math.Seq.{take-append_seam}
use Rattle.s4_passes.specs.Calls.{Ends}

module _ {A : Type 0} where
  -- so does each list that has something before the other
  pub ends_with : (all went left : List A) → all ≡ went ++ left → Ends all left
  ends_with all went left is =
      let many : length all - length left ≡ length went = omega (arith, ap (λ (l : List A). length l) is, length-append went left) in
      let first : take (length all - length left) all ≡ went = ap (λ (n : ℕ). take n all) many ∙ ap (λ (l : List A). take (length went) l) is ∙ take-append_seam went left in
      is ∙ ap (λ (l : List A). l ++ left) (sym first)

  pub ends_add : (all left : List A) (x : A) → Ends all left → Ends (all ++ x ∷ []) (left ++ x ∷ [])
  ends_add all left x e =
      let went = take (length all - length left) all in
      ends_with (all ++ x ∷ []) went (left ++ x ∷ []) (ap (λ (l : List A). l ++ x ∷ []) e ∙ append_assoc went left (x ∷ []))

  pub ends_drop : (count : ℕ) (all left : List A) → Ends all left → Ends all (drop count left)
  ends_drop count all left e =
      let went = take (length all - length left) all in
      ends_with all (went ++ take count left) (drop count left)
      (e ∙ ap (λ (l : List A). went ++ l) (sym (take-append-drop count left)) ∙ sym (append_assoc went (take count left) (drop count left)))
