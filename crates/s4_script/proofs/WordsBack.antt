-- Each word of a request is read back as what it was written for.
use Rattle.std.proofs.Common.{◌≡◌, ◌≢◌, ℕ, ◌<◌, ◌^◌, Bool, true, false, eqb, ltb, List, [], ◌∷◌, ◌++◌, length, Option, Some, None, refl, sym, ap, subst, ◌∙◌, append_assoc, append-nil, arith}
use Rattle.std.specs.Prelude.{codes, if◌then◌else◌}
use Rattle.std.specs.Char.{is_ascii_digit}
use Rattle.std.specs.Fmt.{decimal}
use Rattle.std.specs.List.{list_all}
use Rattle.std.specs.Result.{result_ok}
use Rattle.std.specs.Str.{bytes_eq}
use Rattle.std.proofs.lemmas.Bool.{false≢true}
use Rattle.std.proofs.lemmas.Bool.Decides.{nat_tests}
use Rattle.std.proofs.lemmas.List.Sums.{AllPass-from_list_all}
use Rattle.std.proofs.lemmas.Slice.Eq.{bytes_eq-Decides}
use Rattle.hex.specs.Hex.{IsBytes, encode_lower, encode_with, lower_digits}
use Rattle.hex.proofs.HexLemmas.{decode_of-encode_lower, length-encode_with}
use Rattle.s4_types.specs.declared.object.ObjectId.{ObjectId}
use Rattle.s4_types.specs.declared.object.Purse.{Purse}
use Rattle.s4_types.specs.declared.request.After.{After}
use Rattle.s4_types.specs.Judgement.{everyone}
use Rattle.s4_types.specs.declared.principal.Caller.{Caller}
use Rattle.s4_types.specs.declared.principal.WireVersion.{WireVersion}
use Rattle.s4_types.specs.declared.principal.WireVersion.TheVariants.{One, Two}
use Rattle.s4_script.specs.Readings.{after_in, at_in, bytes_in, caller_in, caller_of, name_in, other_in, number_below, object_in, principal_in, purse_in, serial_in, user_in}
use Rattle.s4_script.specs.Requests.{at_words, caller_text, mark_text, purse_text}
use Rattle.s4_script.specs.Scripted.{IsMomentIfAny, IsName, IsObject, IsPlace, IsPrincipal, IsPurse, IsPurseNumber, IsSerial, IsUser}
use Rattle.s4_script.specs.Texts.{bytes_text, object_text, user_text}
use Rattle.s4_script.proofs.Parts.{HasNone, no_parts, parts_between}
use Rattle.s4_script.proofs.Numbers.{digits_of_decimal, number_back, number_below_back}
use Rattle.s4_script.proofs.Spaces.{IsWord, AreWords, one_more, joined_word, decimal_word, hexadecimal_word}

-- texts that are not the same
pub other_text : (a b : List ℕ) → a ≢ b → bytes_eq a b ≡ false
other_text a b other = let d = bytes_eq-Decides a b in grind (arith, d, other)

pub same_text : (a : List ℕ) → bytes_eq a a ≡ true
same_text a = (bytes_eq-Decides a a).1 refl

-- NUMBERS

pub principal_back : (n : ℕ) → IsPrincipal n → principal_in (decimal n) ≡ Some n
principal_back n is = number_below_back 4294967295 n is (omega arith)

pub purse_number_back : (n : ℕ) → IsPurseNumber n → number_below 16 (decimal n) ≡ Some n
purse_number_back n is = number_below_back 16 n is (omega arith)

pub serial_back : (n : ℕ) → IsSerial n → serial_in (decimal n) ≡ Some n
unfolding serial_in
serial_back n is =
    let positive : ltb 0 n ≡ true = grind (arith, nat_tests, is.0) in
    rw (number_below_back 65536 n is.1 (omega arith), positive) refl

no_word : (n : ℕ) → n < 2 ^ 64 → decimal n ≢ codes "everyone"
no_word n small same = false≢true (sym (ap (list_all is_ascii_digit) same) ∙ digits_of_decimal n small)

user_by : (b : Bool) (n : ℕ) → eqb n everyone ≡ b → IsUser n → user_in (if b then codes "everyone" else decimal n) ≡ Some n
unfolding user_in
user_by true n same is = let e : n ≡ everyone = grind (arith, nat_tests, same) in rw e refl
user_by false n other is =
    let below : n < everyone = grind (arith, nat_tests, other, is) in
    rw (other_text (decimal n) (codes "everyone") (no_word n (omega (arith, is)))) (principal_back n below)

pub user_back : (n : ℕ) → IsUser n → user_in (user_text n) ≡ Some n
user_back n is = user_by (eqb n everyone) n refl is

user_word_by : (b : Bool) (n : ℕ) → n < 2 ^ 64 → IsWord (if b then codes "everyone" else decimal n)
user_word_by true n small = refl
user_word_by false n small = decimal_word n small

pub user_word : (n : ℕ) → IsUser n → IsWord (user_text n)
user_word n is = user_word_by (eqb n everyone) n (omega (arith, is))

-- PURSES AND OBJECTS

digit_no_dot : (byte : ℕ) → is_ascii_digit byte ≡ true → byte ≢ 46
digit_no_dot byte digit = grind (arith, nat_tests, digit)

decimal_no_dot : (n : ℕ) → n < 2 ^ 64 → HasNone 46 (decimal n)
decimal_no_dot n small = λ i within. digit_no_dot _ (AllPass-from_list_all is_ascii_digit (decimal n) (digits_of_decimal n small) i 0 within)

-- three texts with a byte between each two
pub parted : (byte : ℕ) (one two three : List ℕ) → one ++ (byte ∷ []) ++ two ++ (byte ∷ []) ++ three ≡ one ++ byte ∷ (two ++ byte ∷ three)
parted byte [] two three = ap (λ (rest : List ℕ). byte ∷ rest) (append_assoc two (byte ∷ []) three)
parted byte (first ∷ one) two three = ap (λ (rest : List ℕ). first ∷ rest) (parted byte one two three)

purse_is : (purse : Purse) → purse_text purse ≡ decimal purse.creator ++ 46 ∷ decimal purse.number
purse_is purse = append_assoc (decimal purse.creator) (46 ∷ []) (decimal purse.number)

parts_of_purse : (purse : Purse) → IsPurse purse → purse_in (decimal purse.creator ++ 46 ∷ decimal purse.number) ≡ Some purse
unfolding purse_in
parts_of_purse purse is =
    rw (parts_between 46 (decimal purse.creator) (decimal purse.number) (decimal_no_dot purse.creator (omega (arith, is.0))), principal_back purse.creator is.0, purse_number_back purse.number is.1) refl

pub purse_back : (purse : Purse) → IsPurse purse → purse_in (purse_text purse) ≡ Some purse
purse_back purse is = ap purse_in (purse_is purse) ∙ parts_of_purse purse is

pub purse_word : (purse : Purse) → IsPurse purse → IsWord (purse_text purse)
purse_word purse is =
    subst IsWord (sym (purse_is purse))
    (joined_word (decimal purse.creator) (46 ∷ decimal purse.number) (decimal_word purse.creator (omega (arith, is.0)))
    (joined_word (46 ∷ []) (decimal purse.number) refl (decimal_word purse.number (omega (arith, is.1)))))

object_is : (object : ObjectId) → object_text object ≡ decimal object.purse.creator ++ 46 ∷ (decimal object.purse.number ++ 46 ∷ decimal object.serial)
object_is object = parted 46 (decimal object.purse.creator) (decimal object.purse.number) (decimal object.serial)

parts_of_object : (object : ObjectId) → IsObject object → object_in (decimal object.purse.creator ++ 46 ∷ (decimal object.purse.number ++ 46 ∷ decimal object.serial)) ≡ Some object
unfolding object_in
parts_of_object object is =
    let p : Purse = object.purse in
    let first = parts_between 46 (decimal p.creator) (decimal p.number ++ 46 ∷ decimal object.serial) (decimal_no_dot p.creator (omega (arith, is.0.0))) in
    let second = parts_between 46 (decimal p.number) (decimal object.serial) (decimal_no_dot p.number (omega (arith, is.0.1))) in
    rw (first, principal_back p.creator is.0.0, second, purse_number_back p.number is.0.1, serial_back object.serial is.1) refl

pub object_back : (object : ObjectId) → IsObject object → object_in (object_text object) ≡ Some object
object_back object is = ap object_in (object_is object) ∙ parts_of_object object is

pub object_word : (object : ObjectId) → IsObject object → IsWord (object_text object)
object_word object is =
    let p : Purse = object.purse in
    let last : IsWord (46 ∷ decimal object.serial) = joined_word (46 ∷ []) (decimal object.serial) refl (decimal_word object.serial (omega (arith, is.1.1))) in
    let middle : IsWord (46 ∷ (decimal p.number ++ 46 ∷ decimal object.serial)) =
    joined_word (46 ∷ []) (decimal p.number ++ 46 ∷ decimal object.serial) refl
    (joined_word (decimal p.number) (46 ∷ decimal object.serial) (decimal_word p.number (omega (arith, is.0.1))) last) in
    subst IsWord (sym (object_is object))
    (joined_word (decimal p.creator) (46 ∷ (decimal p.number ++ 46 ∷ decimal object.serial)) (decimal_word p.creator (omega (arith, is.0.0))) middle)

-- CALLERS

digit_no_slash : (byte : ℕ) → is_ascii_digit byte ≡ true → byte ≢ 47
digit_no_slash byte digit = grind (arith, nat_tests, digit)

decimal_no_slash : (n : ℕ) → n < 2 ^ 64 → HasNone 47 (decimal n)
decimal_no_slash n small = λ i within. digit_no_slash _ (AllPass-from_list_all is_ascii_digit (decimal n) (digits_of_decimal n small) i 0 within)

plain_caller : (version : WireVersion) (who : ℕ) → IsPrincipal who → caller_in version (decimal who) ≡ Some (caller_of version who)
unfolding caller_in
plain_caller version who is = rw (no_parts 47 (decimal who) (decimal_no_slash who (omega (arith, is))), principal_back who is) refl

marked_caller : (version spoken : WireVersion) (who : ℕ) (number : List ℕ) → IsPrincipal who → other_in version number ≡ Some spoken
    → caller_in version (decimal who ++ 47 ∷ number) ≡ Some (caller_of spoken who)
unfolding caller_in
marked_caller version spoken who number is other =
    rw (parts_between 47 (decimal who) number (decimal_no_slash who (omega (arith, is))), other, principal_back who is) refl

caller_read : (version spoken : WireVersion) (who : ℕ) → IsPrincipal who → caller_in version (decimal who ++ mark_text version spoken) ≡ Some (caller_of spoken who)
caller_read One One who is = ap (caller_in One) (append-nil (decimal who)) ∙ plain_caller One who is
caller_read Two Two who is = ap (caller_in Two) (append-nil (decimal who)) ∙ plain_caller Two who is
caller_read One Two who is = marked_caller One Two who (codes "2") is refl
caller_read Two One who is = marked_caller Two One who (codes "1") is refl

pub caller_back : (version : WireVersion) (caller : Caller) → IsPrincipal caller.who
    → caller_in version (caller_text version caller) ≡ Some (caller_of caller.version caller.who)
caller_back version caller is = caller_read version caller.version caller.who is

mark_word : (version spoken : WireVersion) → IsWord (mark_text version spoken)
mark_word One One = refl
mark_word Two Two = refl
mark_word One Two = refl
mark_word Two One = refl

pub caller_word : (version : WireVersion) (caller : Caller) → IsPrincipal caller.who → IsWord (caller_text version caller)
caller_word version caller is =
    joined_word (decimal caller.who) (mark_text version caller.version) (decimal_word caller.who (omega (arith, is))) (mark_word version caller.version)

-- NAMES AND BYTES

pub name_back : (name : List ℕ) → IsName name → name_in name ≡ Some name
unfolding name_in
name_back name is = rw is refl

no_empty : (bytes : List ℕ) → encode_lower bytes ≢ codes "empty"
no_empty bytes same = let l = length-encode_with lower_digits bytes in let e = ap length same in omega (arith, l, e)

pub bytes_back : (bytes : List ℕ) → IsBytes bytes → bytes_in (bytes_text bytes) ≡ Some bytes
unfolding bytes_in encode_with
bytes_back [] are = refl
bytes_back (byte ∷ bytes) are =
    rw (other_text (encode_lower (byte ∷ bytes)) (codes "empty") (no_empty (byte ∷ bytes)))
    (ap result_ok (decode_of-encode_lower (byte ∷ bytes) are))

pub bytes_word : (bytes : List ℕ) → IsBytes bytes → IsWord (bytes_text bytes)
bytes_word [] are = refl
bytes_word (byte ∷ bytes) are = hexadecimal_word (byte ∷ bytes) are

-- MOMENTS AND PLACES

pub at_back : (at : Option ℕ) → IsMomentIfAny at → at_in (at_words at) ≡ Some at
unfolding at_in
at_back None is = refl
at_back (Some moment) is = rw (number_back moment is) refl

pub at_are_words : (at : Option ℕ) → IsMomentIfAny at → AreWords (at_words at)
at_are_words None is = refl
at_are_words (Some moment) is = one_more (decimal moment) [] (decimal_word moment is) refl

pub after_back : (after : After) → IsPlace after → after_in (decimal after.number) after.name ≡ Some after
unfolding after_in
after_back after is = rw (purse_number_back after.number is.0, name_back after.name is.1) refl
