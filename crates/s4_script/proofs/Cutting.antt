-- The first line of a text, and those behind it.
use Rattle.std.proofs.Common.{◌≡◌, ℕ, ◌+◌, ◌<◌, ◌≤◌, Bool, true, false, eqb, List, [], ◌∷◌, length, refl, sym, ap, ◌∙◌, arith}
use Rattle.std.specs.Prelude.{if◌then◌else◌}
use Rattle.std.specs.List.{enumerate_from}
use Rattle.s4_script.specs.Lines.{first_line, lines, longer, text_behind}

longer_cut : (b : Bool) (x : ℕ) (xs front rest : List ℕ) → lines xs ≡ front ∷ lines rest → (if b then [] ∷ lines xs else longer x (lines xs)) ≡ (if b then [] else x ∷ front) ∷ lines (if b then xs else rest)
longer_cut true x xs front rest e = refl
longer_cut false x xs front rest e = ap (longer x) e

lines_one : (b : Bool) (x : ℕ) → (if b then [] ∷ [] else (x ∷ []) ∷ []) ≡ (if b then [] else x ∷ []) ∷ lines (if b then [] else [])
lines_one true x = refl
lines_one false x = refl

lines_cut : (x : ℕ) (xs : List ℕ) → lines (x ∷ xs) ≡ first_line (x ∷ xs) ∷ lines (text_behind (x ∷ xs))
lines_cut x [] = lines_one (eqb x 10) x
lines_cut x (y ∷ ys) = longer_cut (eqb x 10) x (y ∷ ys) (first_line (y ∷ ys)) (text_behind (y ∷ ys)) (lines_cut y ys)

-- a text that isn't empty has its first line, and the lines behind it
pub first_and_others : (text : List ℕ) → eqb (length text) 0 ≡ false → lines text ≡ first_line text ∷ lines (text_behind text)
first_and_others [] some = cc
first_and_others (x ∷ xs) some = lines_cut x xs

behind_by : (b : Bool) (xs ys : List ℕ) → length ys ≤ length xs → length (if b then xs else ys) ≤ length xs
behind_by true xs ys le = omega arith
behind_by false xs ys le = le

behind_few : (text : List ℕ) → length (text_behind text) ≤ length text
behind_few [] = omega arith
behind_few (x ∷ xs) = let le = behind_by (eqb x 10) xs (text_behind xs) (behind_few xs) in omega (arith, le)

-- the text behind the first line is shorter
pub less_behind : (text : List ℕ) → eqb (length text) 0 ≡ false → length (text_behind text) < length text
less_behind [] some = cc
less_behind (x ∷ xs) some = let le = behind_by (eqb x 10) xs (text_behind xs) (behind_few xs) in omega (arith, le)

-- a line is told, and the lines of the rest are left
pub told : (number : ℕ) (text line rest : List ℕ) → eqb (length text) 0 ≡ false → line ≡ first_line text → rest ≡ text_behind text
    → enumerate_from number (lines text) ≡ (number, line) ∷ enumerate_from (number + 1) (lines rest)
told number text line rest some is-line is-rest =
    ap (enumerate_from number) (first_and_others text some)
    ∙ ap (λ (l : List ℕ). (number, l) ∷ enumerate_from (number + 1) (lines (text_behind text))) (sym is-line)
    ∙ ap (λ (r : List ℕ). (number, line) ∷ enumerate_from (number + 1) (lines r)) (sym is-rest)
