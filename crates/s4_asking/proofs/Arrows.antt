-- Lines with an arrow.
use Rattle.std.proofs.Common.{◌≡◌, ◌<◌, ℕ, ◌+◌, Bool, true, false, Option, Some, List, [], ◌∷◌, ◌++◌, length, take, drop, get_or, refl, sym, ap, ◌∙◌, subst, append_assoc}
use Rattle.std.specs.Prelude.{if◌then◌else◌}
use Rattle.std.proofs.lemmas.List.{append-nil, drop-drop, drop_more, take_more}
use Rattle.s4_asking.specs.Spelling.{before_arrow, behind_arrow, is_arrow}

pub arrow_here : (text : List ℕ) → is_arrow text ≡ true → (before_arrow text ≡ []) × (behind_arrow text ≡ Some (drop 4 text))
arrow_here [] is = cc
arrow_here (b ∷ bs) is =
    (ap (λ (t : Bool). if t then [] else b ∷ before_arrow bs) is, ap (λ (t : Bool). if t then Some (drop 4 (b ∷ bs)) else behind_arrow bs) is)

no_arrow_here : (b : ℕ) (bs : List ℕ) → is_arrow (b ∷ bs) ≡ false → (before_arrow (b ∷ bs) ≡ b ∷ before_arrow bs) × (behind_arrow (b ∷ bs) ≡ behind_arrow bs)
no_arrow_here b bs isnt =
    (ap (λ (t : Bool). if t then [] else b ∷ before_arrow bs) isnt, ap (λ (t : Bool). if t then Some (drop 4 (b ∷ bs)) else behind_arrow bs) isnt)

-- where there is none at a byte it is looked for behind that
pub arrow_later : (line : List ℕ) (i : ℕ) → i < length line → is_arrow (drop i line) ≡ false → take i line ++ before_arrow (drop i line) ≡ before_arrow line → behind_arrow (drop i line) ≡ behind_arrow line → (take (i + 1) line ++ before_arrow (drop (i + 1) line) ≡ before_arrow line) × (behind_arrow (drop (i + 1) line) ≡ behind_arrow line)
arrow_later line i within isnt front rest =
    let b : ℕ = get_or line i 0 in
    let after : List ℕ = drop (i + 1) line in
    let split : drop i line ≡ b ∷ after = drop_more line i 0 within in
    let here = no_arrow_here b after (subst (λ (w : List ℕ). is_arrow w ≡ false) split isnt) in (
      ap (λ (w : List ℕ). w ++ before_arrow after) (take_more line i 0 within)
          ∙ (append_assoc (take i line) (b ∷ []) (before_arrow after)
          ∙ (ap (λ (w : List ℕ). take i line ++ w) (sym here.0 ∙ sym (ap (λ (w : List ℕ). before_arrow w) split)) ∙ front)),
      sym here.1 ∙ (sym (ap (λ (w : List ℕ). behind_arrow w) split) ∙ rest),
    )

-- what stands behind the arrow at a byte, where there is none before it
pub behind_here : (line : List ℕ) (i : ℕ) → is_arrow (drop i line) ≡ true → behind_arrow (drop i line) ≡ behind_arrow line → behind_arrow line ≡ Some (drop (i + 4) line)
behind_here line i is rest = let here = arrow_here (drop i line) is in sym rest ∙ (here.1 ∙ ap (λ (w : List ℕ). Some w) (drop-drop 4 i line))

-- and before it
pub before_here : (line : List ℕ) (i : ℕ) → is_arrow (drop i line) ≡ true → take i line ++ before_arrow (drop i line) ≡ before_arrow line → before_arrow line ≡ take i line
before_here line i is front = let here = arrow_here (drop i line) is in sym front ∙ (ap (λ (w : List ℕ). take i line ++ w) here.0 ∙ append-nil (take i line))
