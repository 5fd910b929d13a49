-- Numbers that digits make, and their units.
use Rattle.std.proofs.Common.{◌≡◌, ◌≤◌, ◌<◌, ◌^◌, ◌+◌, ◌-◌, ◌*◌, ℕ, Bool, true, false, eqb, Option, Some, None, List, [], ◌∷◌, length, drop, get_or, refl, sym, ap, ◌∙◌, arith}
use Rattle.std.specs.Prelude.{if◌then◌else◌, ◌&&◌}
use Rattle.std.specs.Option.{option_map}
use Rattle.std.specs.Char.{is_ascii_digit}
use Rattle.std.proofs.lemmas.Bool.{le-ltb, lt-ltb}
use Rattle.std.proofs.lemmas.List.{drop_all, drop_more}
use Rattle.std.proofs.lemmas.Nat.{mul-le}
use Rattle.s4_types.proofs.Booleans.{by_test}
use Rattle.s4_command_line.specs.Durations.{begins_well, counted, duration_in, fitting, of_letter, unit_of}

pub too_big : (n : ℕ) → 2 ^ 64 ≤ n → fitting (Some n) ≡ None
too_big n le = ap (λ (b : Bool). if b then Some n else None) (le-ltb n (2 ^ 64) le)

-- a number above all stays so, whatever unit it has
scaled : (n : ℕ) (unit : Option ℕ) → ((m : ℕ) → unit ≡ Some m → 1 ≤ m) → 2 ^ 64 ≤ n → fitting (option_map (λ m. n * m) unit) ≡ None
scaled n None some le = refl
scaled n (Some m) some le = let more : n * 1 ≤ n * m = mul-le n 1 n m (omega arith) (some m refl) in too_big (n * m) (omega (arith, le, more))

pick : (b : Bool) (n : ℕ) (rest : Option ℕ) (m : ℕ) → 1 ≤ n → ((k : ℕ) → rest ≡ Some k → 1 ≤ k) → (if b then Some n else rest) ≡ Some m → 1 ≤ m
pick true n rest m le more is = let same : n ≡ m = cc in omega (arith, le, same)
pick false n rest m le more is = more m is

letter_some : (letter m : ℕ) → of_letter letter ≡ Some m → 1 ≤ m
letter_some letter m is =
    pick (eqb letter 115) 1000 (if eqb letter 109 then Some 60000 else if eqb letter 104 then Some 3600000 else if eqb letter 100 then Some 86400000 else None) m (omega arith)
    (λ k. pick (eqb letter 109) 60000 (if eqb letter 104 then Some 3600000 else if eqb letter 100 then Some 86400000 else None) k (omega arith)
    (λ k. pick (eqb letter 104) 3600000 (if eqb letter 100 then Some 86400000 else None) k (omega arith)
    (λ k. pick (eqb letter 100) 86400000 None k (omega arith) (λ k e. cc)))) is

-- each unit has a millisecond at least
unit_some : (unit : List ℕ) (m : ℕ) → unit_of unit ≡ Some m → 1 ≤ m
unit_some [] m is = cc
unit_some (l ∷ []) m is = letter_some l m is
unit_some (a ∷ b ∷ []) m is = pick ((eqb a 109) && (eqb b 115)) 1 None m (omega arith) (λ k e. cc) is
unit_some (a ∷ b ∷ c ∷ rest) m is = cc

-- a number above all stays so
pub stays_big : (n : ℕ) (rest : List ℕ) → 2 ^ 64 ≤ n → fitting (counted n rest) ≡ None
stays_big n [] le = too_big n le
stays_big n (d ∷ ds) le =
    let told : Bool → Option ℕ = λ b. fitting (if b then counted (n * 10 + (d - 48)) ds else option_map (λ unit. n * unit) (unit_of (d ∷ ds))) in
    by_test (is_ascii_digit d)
    (λ e. ap told e ∙ stays_big (n * 10 + (d - 48)) ds (omega (arith, le)))
    (λ e. ap told e ∙ scaled n (unit_of (d ∷ ds)) (unit_some (d ∷ ds)) le)

-- one digit more makes the number too big
pub grown_too_big : (word : List ℕ) (i n : ℕ) → i < length word → is_ascii_digit (get_or word i 0) ≡ true → 2 ^ 64 ≤ n * 10 + (get_or word i 0 - 48) → fitting (counted n (drop i word)) ≡ None
grown_too_big word i n within digit le =
    let new : ℕ = n * 10 + (get_or word i 0 - 48) in
    let rest : List ℕ = drop (i + 1) word in
    ap (λ (ds : List ℕ). fitting (counted n ds)) (drop_more word i 0 within)
    ∙ ap (λ (b : Bool). fitting (if b then counted new rest else option_map (λ unit. n * unit) (unit_of (get_or word i 0 ∷ rest)))) digit
    ∙ stays_big new rest le

-- of a word that begins well nothing else is asked
pub of_good : (word : List ℕ) (told : Option ℕ) → begins_well word ≡ true → told ≡ fitting (counted 0 word) → told ≡ duration_in word
of_good word told good is = is ∙ sym (ap (λ (b : Bool). if b then fitting (counted 0 word) else None) good)

fits : (n : ℕ) → n < 2 ^ 64 → Some n ≡ fitting (Some n)
fits n lt = sym (ap (λ (b : Bool). if b then Some n else None) (lt-ltb n (2 ^ 64) lt))

-- once no byte is left the number is whole
pub at_end : (word : List ℕ) (i n : ℕ) → length word ≤ i → n < 2 ^ 64 → fitting (counted n (drop i word)) ≡ fitting (counted 0 word) → begins_well word ≡ true → Some n ≡ duration_in word
at_end word i n end small rest good =
    of_good word (Some n) good (fits n small ∙ (ap (λ (ds : List ℕ). fitting (counted n ds)) (sym (drop_all i word end)) ∙ rest))
