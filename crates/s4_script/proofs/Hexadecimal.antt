-- Bytes as hexadecimal digits, one byte after another.
use Rattle.std.proofs.Common.{◌≡◌, ℕ, ◌+◌, ◌/◌, ◌%◌, ◌==◌, ◌^◌, ◌<◌, ◌-◌, true, false, List, [], ◌∷◌, ◌++◌, length, take, slice_index, refl, ap, arith}
use Rattle.std.proofs.lemmas.Bool.{agree_below_at, eqb-true}
use Rattle.std.proofs.lemmas.Fmt.{hex_byte}
use Rattle.std.proofs.lemmas.List.{take_more}
use Rattle.std.specs.Fmt.{digit_glyph, digits, format_spec, padded_integral}
use Rattle.hex.specs.Hex.{encode_lower, encode_with, lower_digits}

-- no bytes have no digits
pub encode_lower_nil : encode_lower [] ≡ []
unfolding encode_with
encode_lower_nil = refl

-- the digits of one byte more
pub encode_with_more : (table bytes : List ℕ) (byte : ℕ) → encode_with table bytes ++ slice_index table (byte / 16) ∷ slice_index table (byte % 16) ∷ [] ≡ encode_with table (bytes ++ byte ∷ [])
unfolding encode_with
encode_with_more table [] byte = refl
encode_with_more table (first ∷ bytes) byte = ap (λ rest. slice_index table (first / 16) ∷ slice_index table (first % 16) ∷ rest) (encode_with_more table bytes byte)

-- a digit of the table is the one that is printed
lower_digit : (n : ℕ) → n < 16 → digit_glyph false n ≡ slice_index lower_digits n
lower_digit n small = eqb-true _ _ (agree_below_at (λ k. digit_glyph false k == slice_index lower_digits k) (λ k. true) 16 n refl small)

-- what is printed of one byte more
pub encode_lower_more : (bytes : List ℕ) (i : ℕ) → i < length bytes → slice_index bytes i < 256 → encode_lower (take i bytes) ++ padded_integral (format_spec 32 0 4 2 (2 ^ 64 - 1)) false [] (digits 16 false (slice_index bytes i)) ≡ encode_lower (take (i + 1) bytes)
encode_lower_more bytes i within in_range =
    let n = slice_index bytes i in
    let high = lower_digit (n / 16) (omega (arith, in_range)) in
    let low = lower_digit (n % 16) (omega (arith, in_range)) in
    rw (hex_byte false n in_range, high, low, take_more bytes i 0 within) (encode_with_more lower_digits (take i bytes) n)
