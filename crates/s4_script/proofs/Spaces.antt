-- Words with a space between each two are split into these words, and are text.
use Rattle.std.proofs.Common.{◌≡◌, ℕ, ◌<◌, ◌^◌, ◌/◌, ◌%◌, Bool, true, false, eqb, ltb, ◌&&◌, List, [], ◌∷◌, ◌++◌, slice_index, suc, refl, ap, ◌∙◌, arith}
use Rattle.std.specs.Prelude.{All, IsTrue}
use Rattle.std.specs.Char.{is_ascii_digit}
use Rattle.std.specs.Fmt.{decimal}
use Rattle.std.specs.List.{join_with_byte, list_all}
use Rattle.std.specs.Str.{is_utf8}
use Rattle.std.proofs.lemmas.Bool.{agree_below_at, and_parts}
use Rattle.std.proofs.lemmas.Bool.Decides.{nat_tests}
use Rattle.std.proofs.lemmas.List.Folds.{list_all-append}
use Rattle.std.proofs.lemmas.List.Splits.{slice_split_at, slice_split_none}
use Rattle.std.proofs.lemmas.List.Sums.{AllPass-from_list_all}
use Rattle.std.proofs.lemmas.Str.{IsUtf8-from_ascii, is_utf8-from_IsUtf8}
use Rattle.std.proofs.lemmas.Str.Ascii.{IsAscii-from_all}
use Rattle.hex.specs.Hex.{IsBytes, encode_lower, encode_with, lower_digits}
use Rattle.s4_types.specs.Name.{is_name, is_name_byte}
use Rattle.s4_script.specs.Readings.{words_in}
use Rattle.s4_script.proofs.Numbers.{digits_of_decimal}

-- whether a byte is ASCII, and neither a control character nor a space
abbrev pub is_mark : ℕ → Bool
is_mark byte = ltb 32 byte && ltb byte 128

-- every byte of the text is one
abbrev pub IsWord : List ℕ → Type 0
IsWord text = list_all is_mark text ≡ true

abbrev pub AreWords : List (List ℕ) → Type 0
AreWords words = list_all (λ word. list_all is_mark word) words ≡ true

pub one_more : (word : List ℕ) (words : List (List ℕ)) → IsWord word → AreWords words → AreWords (word ∷ words)
one_more word words first others = rw (first, others) refl

pub joined_word : (front back : List ℕ) → IsWord front → IsWord back → IsWord (front ++ back)
joined_word front back first second = list_all-append is_mark front back ∙ rw (first, second) refl

-- bytes that pass a test that only marks pass
marks_of : (test : ℕ → Bool) → ((byte : ℕ) → test byte ≡ true → is_mark byte ≡ true) → (text : List ℕ) → list_all test text ≡ true → IsWord text
marks_of test are [] pass = refl
marks_of test are (byte ∷ text) pass =
    let parts = and_parts (test byte) (list_all test text) pass in
    rw (are byte parts.0, marks_of test are text parts.1) refl

digit_mark : (byte : ℕ) → is_ascii_digit byte ≡ true → is_mark byte ≡ true
digit_mark byte digit = grind (arith, nat_tests, digit)

name_mark : (byte : ℕ) → is_name_byte byte ≡ true → is_mark byte ≡ true
name_mark byte named = grind (arith, nat_tests, named)

pub decimal_word : (n : ℕ) → n < 2 ^ 64 → IsWord (decimal n)
decimal_word n small = marks_of is_ascii_digit digit_mark (decimal n) (digits_of_decimal n small)

name_bytes : (name : List ℕ) → IsTrue (is_name name) → list_all is_name_byte name ≡ true
name_bytes name named = grind (arith, nat_tests)

pub name_word : (name : List ℕ) → IsTrue (is_name name) → IsWord name
name_word name named = marks_of is_name_byte name_mark name (name_bytes name named)

hex_mark : (n : ℕ) → n < 16 → is_mark (slice_index lower_digits n) ≡ true
hex_mark n small = agree_below_at (λ k. is_mark (slice_index lower_digits k)) (λ k. true) 16 n refl small

tail_bytes : (byte : ℕ) (bytes : List ℕ) → IsBytes (byte ∷ bytes) → IsBytes bytes
tail_bytes byte bytes are = λ i. are (suc i)

pub hexadecimal_word : (bytes : List ℕ) → IsBytes bytes → IsWord (encode_lower bytes)
unfolding encode_with
hexadecimal_word [] are = refl
hexadecimal_word (byte ∷ bytes) are =
    let small : byte < 256 = are 0 in
    let high = hex_mark (byte / 16) (omega (arith, small)) in
    let low = hex_mark (byte % 16) (omega (arith, small)) in
    rw (high, low, hexadecimal_word bytes (tail_bytes byte bytes are)) refl

-- SPLITTING

no_space : (byte : ℕ) → is_mark byte ≡ true → eqb byte 32 ≡ false
no_space byte mark = grind (arith, nat_tests, mark)

without_space : (word : List ℕ) → IsWord word → All (λ byte. eqb byte 32 ≡ false) word
without_space word is = λ k d within. no_space _ (AllPass-from_list_all is_mark word is k d within)

-- the words are those that were joined
pub split_joined : (word : List ℕ) (words : List (List ℕ)) → AreWords (word ∷ words) → words_in (join_with_byte 32 (word ∷ words)) ≡ word ∷ words
split_joined word [] are =
    let parts = and_parts (list_all is_mark word) true are in
    slice_split_none (λ byte. eqb byte 32) word (without_space word parts.0)
split_joined word (next ∷ words) are =
    let parts = and_parts (list_all is_mark word) (list_all (λ w. list_all is_mark w) (next ∷ words)) are in
    slice_split_at (λ byte. eqb byte 32) word 32 (join_with_byte 32 (next ∷ words)) (without_space word parts.0) refl
    ∙ ap (λ (rest : List (List ℕ)). word ∷ rest) (split_joined next words parts.1)

-- TEXT

abbrev is_low : ℕ → Bool
is_low byte = ltb byte 128

low_mark : (byte : ℕ) → is_mark byte ≡ true → is_low byte ≡ true
low_mark byte mark = grind (arith, nat_tests, mark)

low_word : (word : List ℕ) → IsWord word → list_all is_low word ≡ true
low_word [] is = refl
low_word (byte ∷ word) is =
    let parts = and_parts (is_mark byte) (list_all is_mark word) is in
    rw (low_mark byte parts.0, low_word word parts.1) refl

low_joined : (words : List (List ℕ)) → AreWords words → list_all is_low (join_with_byte 32 words) ≡ true
low_joined [] are = refl
low_joined (word ∷ []) are = low_word word (and_parts (list_all is_mark word) true are).0
low_joined (word ∷ next ∷ words) are =
    let parts = and_parts (list_all is_mark word) (list_all (λ w. list_all is_mark w) (next ∷ words)) are in
    list_all-append is_low word (32 ∷ join_with_byte 32 (next ∷ words))
    ∙ rw (low_word word parts.0, low_joined (next ∷ words) parts.1) refl

low : (byte : ℕ) → is_low byte ≡ true → byte < 128
low byte passes = grind (arith, nat_tests, passes)

-- words with spaces between them are text
pub joined_is_text : (words : List (List ℕ)) → AreWords words → is_utf8 (join_with_byte 32 words) ≡ true
joined_is_text words are =
    let all = AllPass-from_list_all is_low _ (low_joined words are) in
    is_utf8-from_IsUtf8 _ (IsUtf8-from_ascii _ (IsAscii-from_all _ (λ k d within. low _ (all k d within))))
