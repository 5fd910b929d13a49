-- The bytes of a name are text.
use Rattle.std.proofs.Common.{◌≡◌, ℕ, true, List, ◌<◌, arith}
use Rattle.std.specs.Prelude.{All, IsTrue}
use Rattle.std.specs.List.{AllPass, list_all}
use Rattle.std.specs.Str.{IsUtf8}
use Rattle.std.proofs.lemmas.Bool.Decides.{nat_tests}
use Rattle.std.proofs.lemmas.List.Sums.{AllPass-from_list_all}
use Rattle.std.proofs.lemmas.Str.{IsUtf8-from_ascii}
use Rattle.std.proofs.lemmas.Str.Ascii.{IsAscii-from_all}
use Rattle.s4_types.specs.Name.{is_name, is_name_byte}

-- a byte of a name is ASCII
byte_below : (byte : ℕ) → is_name_byte byte ≡ true → byte < 128
byte_below byte spells = grind (arith, nat_tests)

bytes_below : (bytes : List ℕ) → AllPass is_name_byte bytes → All (λ byte. byte < 128) bytes
bytes_below bytes spell = λ k d within. byte_below _ (spell k d within)

all_spell : (bytes : List ℕ) → IsTrue (is_name bytes) → list_all is_name_byte bytes ≡ true
all_spell bytes named = grind (arith, nat_tests)

-- the bytes of a name are UTF-8
pub names_are_text : (bytes : List ℕ) → IsTrue (is_name bytes) → IsUtf8 bytes
names_are_text bytes named =
    IsUtf8-from_ascii bytes (IsAscii-from_all bytes (bytes_below bytes (AllPass-from_list_all is_name_byte bytes (all_spell bytes named))))
