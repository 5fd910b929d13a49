-- Lines and words of a text of logins.
use Rattle.std.proofs.Common.{◌≡◌, ℕ, ◌+◌, ◌-◌, ◌*◌, ◌<◌, ◌≤◌, Bool, true, false, eqb, Some, None, List, [], ◌∷◌, length, drop, get_or, refl, ap, ◌∙◌, arith}
use Rattle.std.specs.Prelude.{if◌then◌else◌, Result, Ok, Err}
use Rattle.std.proofs.lemmas.Bool.{le-ltb}
use Rattle.std.proofs.lemmas.List.{drop_more}
use Rattle.s4_types.proofs.Booleans.{by_test}
use Rattle.std.specs.Char.{is_ascii_digit}
use Rattle.s4_stream.specs.declared.logins.LoginFault.{LoginFault}
use Rattle.s4_stream.specs.declared.logins.LoginFault.TheVariants.{BadLine, Doubled, NoMemory}
use Rattle.s4_stream.specs.Logins.{Logins}
use Rattle.s4_stream.specs.LoginText.{before, behind, number_in, if_principal, login_of, longer, lines, entered, table_of, IsTable}

-- a number stays above what its first digits spell
pub too_big : (value : ℕ) (ds : List ℕ) → 4294967295 ≤ value → if_principal (number_in value ds) ≡ None
too_big value [] le = ap (λ (b : Bool). if b then Some value else None) (le-ltb value 4294967295 le)
too_big value (d ∷ ds) le = by_test (is_ascii_digit d)
    (λ e. ap (λ (b : Bool). if_principal (if b then number_in (value * 10 + (d - 48)) ds else None)) e ∙ too_big (value * 10 + (d - 48)) ds (omega (arith, le)))
    (λ e. ap (λ (b : Bool). if_principal (if b then number_in (value * 10 + (d - 48)) ds else None)) e)

-- one digit more makes the number too big
pub grown_too_big : (word : List ℕ) (i value : ℕ) → i < length word → is_ascii_digit (get_or word i 0) ≡ true → 4294967295 ≤ value * 10 + (get_or word i 0 - 48) → if_principal (number_in value (drop i word)) ≡ None
grown_too_big word i value within digit le =
    let new : ℕ = value * 10 + (get_or word i 0 - 48) in
    let rest : List ℕ = drop (i + 1) word in
    ap (λ (ds : List ℕ). if_principal (number_in value ds)) (drop_more word i 0 within)
    ∙ ap (λ (b : Bool). if_principal (if b then number_in new rest else None)) digit
    ∙ too_big new rest le

-- the first line, and those behind it
longer_cut : (b : Bool) (x : ℕ) (xs front rest : List ℕ) → lines xs ≡ front ∷ lines rest → (if b then [] ∷ lines xs else longer x (lines xs)) ≡ (if b then [] else x ∷ front) ∷ lines (if b then xs else rest)
longer_cut true x xs front rest e = refl
longer_cut false x xs front rest e = ap (longer x) e

lines_one : (b : Bool) (x : ℕ) → (if b then [] ∷ [] else (x ∷ []) ∷ []) ≡ (if b then [] else x ∷ []) ∷ lines (if b then [] else [])
lines_one true x = refl
lines_one false x = refl

pub lines_cut : (x : ℕ) (xs : List ℕ) → lines (x ∷ xs) ≡ before 10 (x ∷ xs) ∷ lines (behind 10 (x ∷ xs))
lines_cut x [] = lines_one (eqb x 10) x
lines_cut x (y ∷ ys) = longer_cut (eqb x 10) x (y ∷ ys) (before 10 (y ∷ ys)) (behind 10 (y ∷ ys)) (lines_cut y ys)

behind_by : (b : Bool) (xs ys : List ℕ) → length ys ≤ length xs → length (if b then xs else ys) ≤ length xs
behind_by true xs ys le = omega arith
behind_by false xs ys le = le

behind_few : (b : ℕ) (xs : List ℕ) → length (behind b xs) ≤ length xs
behind_few b [] = omega arith
behind_few b (x ∷ xs) = let le = behind_by (eqb x b) xs (behind b xs) (behind_few b xs) in omega (arith, le)

pub behind_fewer : (b x : ℕ) (xs : List ℕ) → length (behind b (x ∷ xs)) ≤ length xs
behind_fewer b x xs = behind_by (eqb x b) xs (behind b xs) (behind_few b xs)

---- ---- a line more

-- the first line that is left goes into the table
pub first_line : (n : ℕ) (table : Logins) (left : List ℕ) → eqb (length left) 0 ≡ false → table_of n (Ok table) (lines left) ≡ table_of (n + 1) (entered n table (login_of (before 10 left))) (lines (behind 10 left))
first_line n table [] some = cc
first_line n table (x ∷ xs) some = ap (table_of n (Ok table)) (lines_cut x xs)

pub fewer_left : (left : List ℕ) → eqb (length left) 0 ≡ false → length (behind 10 left) < length left
fewer_left [] some = cc
fewer_left (x ∷ xs) some = let le = behind_fewer 10 x xs in omega (arith, le)

module _ (n : ℕ) (one whole : Result Logins LoginFault) (rest : List (List ℕ)) (so_far : table_of n one rest ≡ whole) where
  -- the line's table is the one to go on from
  pub goes_on : (table : Logins) → IsTable (Ok table) one → table_of n (Ok table) rest ≡ whole
  goes_on table is = ap (λ (t : Result Logins LoginFault). table_of n t rest) is ∙ so_far

  -- the line's fault is the text's
  pub faulty : (fault : LoginFault) → IsTable (Err fault) one → IsTable (Err fault) whole
  faulty NoMemory is = tt
  faulty (BadLine k) is = ap (λ (t : Result Logins LoginFault). table_of n t rest) is ∙ so_far
  faulty (Doubled k) is = ap (λ (t : Result Logins LoginFault). table_of n t rest) is ∙ so_far
