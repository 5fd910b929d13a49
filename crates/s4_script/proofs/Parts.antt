-- What stands before and behind the first of some byte.
use Rattle.std.proofs.Common.{◌≡◌, ◌≢◌, ℕ, suc, ◌<◌, true, false, eqb, List, [], ◌∷◌, ◌++◌, length, get_or, Option, Some, None, Bor, refl, sym, ap, ◌∙◌, arith}
use Rattle.std.specs.Option.{option_map}
use Rattle.std.proofs.lemmas.Bool.Decides.{nat_tests}
use Rattle.std.proofs.lemmas.Str.Pattern.{IsSplitOnceResult, split_parts}
use Rattle.s4_script.specs.Readings.{parts_at}

-- no byte of the text is that one
abbrev pub HasNone : ℕ → List ℕ → Type 0
HasNone byte text = (i : ℕ) → i < length text → get_or text i 0 ≢ byte

none_behind : (byte b : ℕ) (text : List ℕ) → HasNone byte (b ∷ text) → HasNone byte text
none_behind byte b text none = λ i within. none (suc i) (omega (arith, within))

not_first : (byte b : ℕ) (text : List ℕ) → HasNone byte (b ∷ text) → eqb b byte ≡ false
not_first byte b text none = let n : b ≢ byte = none 0 (omega arith) in grind (arith, nat_tests, n)

same_byte : (byte : ℕ) → eqb byte byte ≡ true
same_byte byte = grind (arith, nat_tests)

-- there are no parts of a text without that byte
pub no_parts : (byte : ℕ) (text : List ℕ) → HasNone byte text → parts_at byte text ≡ None
unfolding parts_at
no_parts byte [] none = refl
no_parts byte (b ∷ text) none = rw (not_first byte b text none, no_parts byte text (none_behind byte b text none)) refl

-- the first such byte stands behind a text without any
pub parts_between : (byte : ℕ) (front back : List ℕ) → HasNone byte front → parts_at byte (front ++ byte ∷ back) ≡ Some (front, back)
unfolding parts_at
parts_between byte [] back none = rw (same_byte byte) refl
parts_between byte (b ∷ front) back none = rw (not_first byte b front none, parts_between byte front back (none_behind byte b front none)) refl

-- what `split_once` gives
pub parts_split : (byte : ℕ) (text : List ℕ) (r : Option (Bor (List ℕ) × Bor (List ℕ))) → byte < 128 → IsSplitOnceResult byte text r
    → option_map (λ parts. (parts.0.now, parts.1.now)) r ≡ parts_at byte text
parts_split byte text None small given = sym (no_parts byte text (split_parts byte text None given small))
parts_split byte text (Some parts) small given =
    let cut = split_parts byte text (Some parts) given small in
    sym (ap (parts_at byte) cut.0 ∙ parts_between byte parts.0.now parts.1.now cut.1)
