-- Decimal texts, and the numbers that are read of them.
use Rattle.std.proofs.Common.{◌≡◌, ℕ, ◌<◌, ◌≤◌, ◌^◌, Bool, true, false, eqb, ltb, leb, ◌&&◌, ◌||◌, not, if◌then◌else◌, List, [], ◌∷◌, length, get_or, Some, None, Result, Ok, Err, refl, sym, ap, ◌∙◌, subst, inl, inr, arith, rules}
use Rattle.std.specs.Char.{is_ascii_digit}
use Rattle.std.specs.Fmt.{decimal}
use Rattle.std.specs.List.{list_all}
use Rattle.std.specs.Result.{result_ok}
use Rattle.std.specs.Str.{bytes_eq}
use Rattle.std.specs.Str.Parse.{ParsesUnsigned, digits_value}
use Rattle.std.proofs.lemmas.Bool.{false≢true, cases_lt}
use Rattle.std.proofs.lemmas.Bool.Decides.{nat_tests}
use Rattle.std.proofs.lemmas.Fmt.{decimal-digits_value, decimal_digit, decimal_nonempty, digits_decimal, digits_value-decimal, first_decimal}
use Rattle.std.proofs.lemmas.Slice.Eq.{bytes_eq-Decides}
use Rattle.std.proofs.lemmas.Str.Parse.{IsNumeralModel, numerals_by_value, parse_digits}
use Rattle.s4_script.specs.Readings.{is_plain, number_below, number_in, number_of_text}

-- digits alone, as a test
pub digits_model : IsNumeralModel (λ ds. list_all is_ascii_digit ds ≡ true) (digits_value 10)
digits_model = numerals_by_value _ (search rules)

pub digits_of_decimal : (n : ℕ) → n < 2 ^ 64 → list_all is_ascii_digit (decimal n) ≡ true
digits_of_decimal n small = digits_decimal digits_model n small

-- the number's own text
picked : (n : ℕ) (text : List ℕ) → decimal n ≡ text → n < 2 ^ 64 → number_of_text n text ≡ Some n
picked n text same small =
    let t : bytes_eq (decimal n) text ≡ true = (bytes_eq-Decides (decimal n) text).1 same in
    let l : ltb n (2 ^ 64) ≡ true = grind (arith, nat_tests, small) in
    rw (t, l) refl

by_test : (b : Bool) (n : ℕ) → (b ≡ true → ⊥) → (if b then Some n else None) ≡ None
by_test true n never = absurd (never refl)
by_test false n never = refl

and_parts : (a b : Bool) → (a && b) ≡ true → (a ≡ true) × (b ≡ true)
and_parts true b both = (refl, both)
and_parts false b both = absurd (false≢true both)

-- another text, or a number that doesn't fit
not_picked : (n : ℕ) (text : List ℕ) → (decimal n ≡ text → n < 2 ^ 64 → ⊥) → number_of_text n text ≡ None
not_picked n text never = by_test (bytes_eq (decimal n) text && ltb n (2 ^ 64)) n
    (λ passes. let both = and_parts (bytes_eq (decimal n) text) (ltb n (2 ^ 64)) passes in
    let l : n < 2 ^ 64 = grind (arith, nat_tests, both.1) in
    never ((bytes_eq-Decides (decimal n) text).0 both.0) l)

-- a number is read of its text
pub number_back : (n : ℕ) → n < 2 ^ 64 → number_in (decimal n) ≡ Some n
unfolding number_in
number_back n small =
    let P : ℕ → Type 0 = λ v. number_of_text v (decimal n) ≡ Some n in
    subst P (sym (digits_value-decimal digits_model n small)) (picked n (decimal n) refl small)

-- the same below a limit
pub number_below_back : (limit n : ℕ) → n < limit → limit ≤ 2 ^ 64 → number_below limit (decimal n) ≡ Some n
number_below_back limit n below most =
    let small : n < 2 ^ 64 = omega arith in
    let l : ltb n limit ≡ true = grind (arith, nat_tests, below) in
    rw (number_back n small, l) refl

no_leading : (n : ℕ) → n < 2 ^ 64 → (leb (length (decimal n)) 1 || not (eqb (get_or (decimal n) 0 0) 48)) ≡ true
no_leading n small = elim (cases_lt 0 n) [
  | inl positive ↦ (let f : 48 < get_or (decimal n) 0 0 = first_decimal n positive small in grind (arith, nat_tests, f))
  | inr low ↦ (let d : decimal n ≡ 48 ∷ [] = (let z : n ≡ 0 = omega (arith, low) in ap decimal z ∙ decimal_digit 0 (omega arith)) in rw d refl)
]

-- a decimal text is plain
pub plain_decimal : (n : ℕ) → n < 2 ^ 64 → is_plain (decimal n) ≡ true
plain_decimal n small = rw (no_leading n small, digits_of_decimal n small) refl

-- nothing is read of a text that isn't plain
pub not_plain : (text : List ℕ) → is_plain text ≡ false → number_in text ≡ None
unfolding number_in
not_plain text odd = not_picked (digits_value 10 text) text
    (λ same small. false≢true (sym odd ∙ ap is_plain (sym same) ∙ plain_decimal (digits_value 10 text) small))

leading_from : (text : List ℕ) → (leb (length text) 1 || not (eqb (get_or text 0 0) 48)) ≡ true → 0 < length text → get_or text 0 0 ≡ 48 → length text ≡ 1
leading_from text t some first = grind (arith, nat_tests, t, some, first)

at_no_digits : (text : List ℕ) → length text ≡ 0 → decimal (digits_value 10 text) ≡ text → digits_value 10 text < 2 ^ 64 → ⊥
at_no_digits text none same small = let d = decimal_nonempty (digits_value 10 text) small in let e = ap length same in omega (arith, d, e, none)

-- what is read of a plain text is what parses
pub plain_parsed : {E : Type 0} (text : List ℕ) (r : Result ℕ E) → is_plain text ≡ true → ParsesUnsigned 64 10 text r → number_in text ≡ result_ok r
unfolding number_in
plain_parsed {E} text (Ok x) plain parses =
    let parts = and_parts _ _ plain in
    let gives = parse_digits digits_model {E = E} 64 text (Ok x) parses parts.1 in
    let same = decimal-digits_value digits_model text parts.1 gives.0.0 (leading_from text parts.0 gives.0.0) gives.0.1 in
    picked (digits_value 10 text) text same gives.0.1 ∙ ap Some (sym gives.1)
plain_parsed {E} text (Err e) plain parses =
    let parts = and_parts _ _ plain in
    let fails = parse_digits digits_model {E = E} 64 text (Err e) parses parts.1 in
    not_picked (digits_value 10 text) text
    (λ same small. elim (cases_lt 0 (length text)) [ inl some ↦ fails (some, small) | inr none ↦ at_no_digits text (omega (arith, none)) same small ])
