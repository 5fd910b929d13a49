-- The line of a request is read back as that request.
use Rattle.std.proofs.Common.{◌≡◌, ℕ, ◌<◌, ◌^◌, List, [], ◌∷◌, ◌++◌, Option, Some, None, refl, ap, ◌∙◌, arith}
use Rattle.std.specs.Prelude.{codes}
use Rattle.std.specs.Fmt.{decimal}
use Rattle.std.proofs.lemmas.List.{append-nil}
use Rattle.std.specs.List.{join_with_byte}
use Rattle.std.specs.Option.{IfSome}
use Rattle.s4_types.specs.declared.request.After.{After}
use Rattle.s4_types.specs.declared.request.Request.{Request}
use Rattle.s4_types.specs.declared.request.Request.TheVariants as request
use Rattle.s4_types.specs.declared.principal.Caller.{Caller}
use Rattle.s4_types.specs.declared.principal.WireVersion.{WireVersion}
use Rattle.s4_types.specs.declared.principal.WireVersion.TheVariants.{One, Two}
use Rattle.s4_script.specs.Readings.{in_text, line_in_text, number_below, opening_in_text, place_in, request_in, request_in_words, step_of}
use Rattle.s4_script.specs.Requests.{after_words, at_words, caller_text, opening_text, request_line_text, request_text, words_of}
use Rattle.s4_script.specs.Scripted.{IsMoment, IsMomentIfAny, IsPlace, IsPrincipal, IsScriptable}
use Rattle.s4_script.specs.declared.opening.Opening.{Opening}
use Rattle.s4_script.proofs.Numbers.{number_back, number_below_back}
use Rattle.s4_script.proofs.Spaces.{AreWords, IsWord, decimal_word, joined_is_text, name_word, one_more, split_joined}
use Rattle.s4_script.proofs.WordsBack.{after_back, at_are_words, at_back, bytes_back, bytes_word, caller_back, caller_word, name_back, object_back, object_word, parted, principal_back, purse_back, purse_number_back, purse_word, user_back, user_word}

-- PAGES

place_back : (range : ℕ) (after : Option After) (at : Option ℕ) → IfSome after IsPlace → IsMomentIfAny at
    → place_in range (after_words after ++ at_words at) ≡ Some (request.PList range after at)
place_back range None None place moment = rw (at_back None moment) refl
place_back range None (Some tick) place moment = rw (at_back (Some tick) moment) refl
place_back range (Some after) at place moment = rw (after_back after place, at_back at moment) refl

place_words : (after : Option After) (at : Option ℕ) → IfSome after IsPlace → IsMomentIfAny at → AreWords (after_words after ++ at_words at)
place_words None at place moment = at_are_words at moment
place_words (Some after) at place moment =
    one_more (decimal after.number) (after.name ∷ at_words at) (decimal_word after.number (omega (arith, place.0)))
    (one_more after.name (at_words at) (name_word after.name place.1) (at_are_words at moment))

-- EACH KIND

count_back : (n : ℕ) → n < 2 ^ 32 → number_below (2 ^ 32) (decimal n) ≡ Some n
count_back n small = number_below_back (2 ^ 32) n small (omega arith)

-- the words of a request spell it
pub words_back : (asked : Request) → IsScriptable asked → request_in_words (words_of asked) ≡ Some asked
unfolding request_in
words_back (request.Create number) is = rw (purse_number_back number is) refl
words_back (request.Delete object) is = rw (object_back object is) refl
words_back (request.Read object offset length at) is =
    rw (object_back object is.0, count_back offset is.1, count_back length is.2, at_back at is.3) refl
words_back (request.Write object offset bytes) is =
    rw (object_back object is.0, count_back offset is.1, bytes_back bytes is.2) refl
words_back (request.Append object bytes) is = rw (object_back object is.0, bytes_back bytes is.1) refl
words_back (request.Truncate object length) is = rw (object_back object is.0, count_back length is.1) refl
words_back (request.GetAttr object at) is = rw (object_back object is.0, at_back at is.1) refl
words_back (request.SetAttr object bytes) is = rw (object_back object is.0, bytes_back bytes is.1) refl
words_back (request.GetAclByUser object user at) is = rw (object_back object is.0, user_back user is.1, at_back at is.2) refl
words_back (request.GetAclByIndex object index at) is =
    rw (object_back object is.0, number_below_back (2 ^ 8) index is.1 (omega arith), at_back at is.2) refl
words_back (request.SetAcl object user rights) is =
    rw (object_back object is.0, user_back user is.1, number_below_back 32 rights is.2 (omega arith)) refl
words_back (request.PCreate name object) is = rw (name_back name is.0, object_back object is.1) refl
words_back (request.PDelete purse name) is = rw (purse_back purse is.0, name_back name is.1) refl
words_back (request.PList range after at) is = rw (principal_back range is.0) (place_back range after at is.1 is.2)
words_back (request.PMount purse name at) is = rw (purse_back purse is.0, name_back name is.1, at_back at is.2) refl
words_back (request.Flush from to) is = rw (number_back from is.0, number_back to is.1) refl
words_back (request.FlushO object from to) is = rw (object_back object is.0, number_back from is.1, number_back to is.2) refl
words_back (request.SetWindow ticks) is = rw (number_back ticks is) refl
words_back (request.SetBudget purse budget) is = rw (purse_back purse is.0, count_back budget is.1) refl
words_back (request.ReadAudit range skip) is = rw (principal_back range is.0, count_back skip is.1) refl

number_word : (n : ℕ) → n < 4294967296 → IsWord (decimal n)
number_word n small = decimal_word n (omega (arith, small))

-- each of these is a word
words_are : (asked : Request) → IsScriptable asked → AreWords (words_of asked)
words_are (request.Create number) is = rw (number_word number (omega (arith, is))) refl
words_are (request.Delete object) is = rw (object_word object is) refl
words_are (request.Read object offset length at) is =
    rw (object_word object is.0, number_word offset is.1, number_word length is.2, at_are_words at is.3) refl
words_are (request.Write object offset bytes) is = rw (object_word object is.0, number_word offset is.1, bytes_word bytes is.2) refl
words_are (request.Append object bytes) is = rw (object_word object is.0, bytes_word bytes is.1) refl
words_are (request.Truncate object length) is = rw (object_word object is.0, number_word length is.1) refl
words_are (request.GetAttr object at) is = rw (object_word object is.0, at_are_words at is.1) refl
words_are (request.SetAttr object bytes) is = rw (object_word object is.0, bytes_word bytes is.1) refl
words_are (request.GetAclByUser object user at) is = rw (object_word object is.0, user_word user is.1, at_are_words at is.2) refl
words_are (request.GetAclByIndex object index at) is =
    rw (object_word object is.0, number_word index (omega (arith, is.1)), at_are_words at is.2) refl
words_are (request.SetAcl object user rights) is =
    rw (object_word object is.0, user_word user is.1, number_word rights (omega (arith, is.2))) refl
words_are (request.PCreate name object) is = rw (name_word name is.0, object_word object is.1) refl
words_are (request.PDelete purse name) is = rw (purse_word purse is.0, name_word name is.1) refl
words_are (request.PList range after at) is = rw (number_word range (omega (arith, is.0)), place_words after at is.1 is.2) refl
words_are (request.PMount purse name at) is = rw (purse_word purse is.0, name_word name is.1, at_are_words at is.2) refl
words_are (request.Flush from to) is = rw (decimal_word from is.0, decimal_word to is.1) refl
words_are (request.FlushO object from to) is = rw (object_word object is.0, decimal_word from is.1, decimal_word to is.2) refl
words_are (request.SetWindow ticks) is = rw (decimal_word ticks is) refl
words_are (request.SetBudget purse budget) is = rw (purse_word purse is.0, number_word budget is.1) refl
words_are (request.ReadAudit range skip) is = rw (number_word range (omega (arith, is.0)), number_word skip is.1) refl

-- LINES

line_back : (version : WireVersion) (moment : ℕ) (caller : Caller) (words : List (List ℕ)) (asked : Request) → IsMoment moment → IsPrincipal caller.who
    → AreWords words → request_in_words words ≡ Some asked
    → line_in_text version (decimal moment ++ 32 ∷ (caller_text version caller ++ 32 ∷ join_with_byte 32 words))
    ≡ Some (step_of caller.version moment caller.who asked)
unfolding in_text
line_back version moment caller [] asked when by are spelled = absurd cc
line_back version moment caller (verb ∷ words) asked when by are spelled =
    let all : List (List ℕ) = caller_text version caller ∷ verb ∷ words in
    let behind : AreWords all = one_more (caller_text version caller) (verb ∷ words) (caller_word version caller by) are in
    let every : AreWords (decimal moment ∷ all) = one_more (decimal moment) all (decimal_word moment when) behind in
    rw (
      joined_is_text (decimal moment ∷ all) every,
      split_joined (decimal moment) all every,
      number_back moment when,
      caller_back version caller by,
      spelled,
    ) refl

-- the line of a request is read back
pub request_line_back : (version : WireVersion) (moment : ℕ) (caller : Caller) (asked : Request) → IsMoment moment → IsPrincipal caller.who → IsScriptable asked
    → line_in_text version (request_line_text version moment caller asked) ≡ Some (step_of caller.version moment caller.who asked)
request_line_back version moment caller asked when by is =
    ap (line_in_text version) (parted 32 (decimal moment) (caller_text version caller) (request_text asked))
    ∙ line_back version moment caller (words_of asked) asked when by (words_are asked is) (words_back asked is)

-- the words of a first line
abbrev opening_words : WireVersion → ℕ → List (List ℕ)
opening_words One window = codes "window" ∷ decimal window ∷ []
opening_words Two window = codes "window" ∷ decimal window ∷ codes "wire" ∷ codes "2" ∷ []

opening_joined : (version : WireVersion) (window : ℕ) → opening_text (record { window = window; version = version }) ≡ join_with_byte 32 (opening_words version window)
opening_joined One window = ap (λ text. codes "window " ++ text) (append-nil (decimal window))
opening_joined Two window = refl

opening_are_words : (version : WireVersion) (window : ℕ) → IsMoment window → AreWords (opening_words version window)
opening_are_words One window is = rw (decimal_word window is) refl
opening_are_words Two window is = rw (decimal_word window is) refl

opening_read : (version : WireVersion) (window : ℕ) → IsMoment window
    → opening_in_text (join_with_byte 32 (opening_words version window)) ≡ Some (record { window = window; version = version })
unfolding in_text
opening_read One window is =
    rw (
      joined_is_text (opening_words One window) (opening_are_words One window is),
      split_joined (codes "window") (decimal window ∷ []) (opening_are_words One window is),
      number_back window is,
    ) refl
opening_read Two window is =
    rw (
      joined_is_text (opening_words Two window) (opening_are_words Two window is),
      split_joined (codes "window") (decimal window ∷ codes "wire" ∷ codes "2" ∷ []) (opening_are_words Two window is),
      number_back window is,
    ) refl

-- the first line of a script is read back
pub opening_back : (opening : Opening) → IsMoment opening.window → opening_in_text (opening_text opening) ≡ Some opening
opening_back opening is = ap opening_in_text (opening_joined opening.version opening.window) ∙ opening_read opening.version opening.window is
