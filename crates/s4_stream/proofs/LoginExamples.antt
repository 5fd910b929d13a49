-- Worked texts of logins, each computed.
use Rattle.std.proofs.Common.{◌≡◌, [], ◌∷◌, refl}
use Rattle.std.specs.Prelude.{codes, Ok, Err}
use Rattle.hex.specs.Hex.{decode_pairs}
use Rattle.s4_stream.specs.declared.logins.LoginFault.TheVariants.{BadLine, Doubled}
use Rattle.s4_stream.specs.LoginText.{table_in}

pub an_empty_text_is_a_table : table_in [] ≡ Ok []
an_empty_text_is_a_table = refl

-- the last line lacks its line feed, and its digits are upper case
pub two_logins : table_in (codes "9 000102030405060708090a0b0c0d0e0f\n7 00000000000000000000000000000AFF")
    ≡ Ok ((7, (0 ∷ 0 ∷ 0 ∷ 0 ∷ 0 ∷ 0 ∷ 0 ∷ 0 ∷ 0 ∷ 0 ∷ 0 ∷ 0 ∷ 0 ∷ 0 ∷ 10 ∷ 255 ∷ []))
    ∷ (9, (0 ∷ 1 ∷ 2 ∷ 3 ∷ 4 ∷ 5 ∷ 6 ∷ 7 ∷ 8 ∷ 9 ∷ 10 ∷ 11 ∷ 12 ∷ 13 ∷ 14 ∷ 15 ∷ [])) ∷ [])
unfolding decode_pairs
two_logins = refl

pub the_last_principal : table_in (codes "4294967294 00000000000000000000000000000000") ≡ Ok ((4294967294, (0 ∷ 0 ∷ 0 ∷ 0 ∷ 0 ∷ 0 ∷ 0 ∷ 0 ∷ 0 ∷ 0 ∷ 0 ∷ 0 ∷ 0 ∷ 0 ∷ 0 ∷ 0 ∷ [])) ∷ [])
unfolding decode_pairs
the_last_principal = refl

pub no_principal_behind_it : table_in (codes "4294967295 00000000000000000000000000000000") ≡ Err (BadLine 1)
unfolding decode_pairs
no_principal_behind_it = refl

-- the secret lacks a digit
pub a_short_secret_is_bad : table_in (codes "7 0000000000000000000000000000000") ≡ Err (BadLine 1)
unfolding decode_pairs
a_short_secret_is_bad = refl

-- two spaces
pub a_second_space_is_bad : table_in (codes "7  00000000000000000000000000000000") ≡ Err (BadLine 1)
unfolding decode_pairs
a_second_space_is_bad = refl

-- the second number has a leading zero
pub a_bad_second_line : table_in (codes "7 000102030405060708090a0b0c0d0e0f\n08 000102030405060708090a0b0c0d0e0f\n") ≡ Err (BadLine 2)
unfolding decode_pairs
a_bad_second_line = refl

-- the line after the doubled one is bad too
pub a_doubled_principal : table_in (codes "7 000102030405060708090a0b0c0d0e0f\n7 00000000000000000000000000000aff\n8\n") ≡ Err (Doubled 2)
unfolding decode_pairs
a_doubled_principal = refl

pub an_empty_line_is_bad : table_in (codes "\n") ≡ Err (BadLine 1)
unfolding decode_pairs
an_empty_line_is_bad = refl

pub a_carriage_return_is_bad : table_in (codes "7 000102030405060708090a0b0c0d0e0f\r\n") ≡ Err (BadLine 1)
unfolding decode_pairs
a_carriage_return_is_bad = refl
