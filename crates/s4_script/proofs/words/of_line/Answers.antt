use Rattle.std.proofs.Common.{◌≡◌, ℕ, Bool, true, false, List, lit<, refl, ap, ◌∙◌, take}
use Rattle.std.specs.Str.{IsUtf8, is_utf8}
use Rattle.std.proofs.lemmas.Iterator.{YieldsList-from_take}
use Rattle.std.proofs.lemmas.Iterator.Consumers.{YieldsList-at, map_from_collect}
use Rattle.std.proofs.lemmas.Iterator.Splits.{YieldsList-from_str_split}
use Rattle.std.proofs.lemmas.Result.{IfOk-at_ok}
use Rattle.std.proofs.lemmas.Str.{IsUtf8-from_is_utf8, is_utf8-from_IsUtf8}
use Rattle.s4_script.specs.Readings.{texts, words_in}
use Rattle.s4_script.proofs.words.of_line.Goals as goal

never_true : (b : Bool) → (b ≡ true → ⊥) → b ≡ false
never_true true never = absurd (never refl)
never_true false never = refl

no_text : (bytes : List ℕ) → (IsUtf8 bytes → ⊥) → is_utf8 bytes ≡ false
no_text bytes never = never_true (is_utf8 bytes) (λ yes. never (IsUtf8-from_is_utf8 bytes yes))

pub returns-in_default-clause-bad : goal.returns-in_default-clause-bad
returns-in_default-clause-bad c = λ same. no_text c.args.line.now c.in_default.ensures.cases.0

pub returns-clause-text : goal.returns-clause-text
returns-clause-text c = λ ok. is_utf8-from_IsUtf8 c.args.line.now c.in-Ok.ensures.cases.1

pub returns-clause-words : goal.returns-clause-words
returns-clause-words c =
    let parts = YieldsList-from_str_split {s = c.split.result} 32 c.in-Ok.text.now (lit< tt) c.split.ensures.text c.split.ensures.has_more c.split.ensures.pattern in
    let few = YieldsList-from_take {s = c.take.result} 10 (YieldsList-at c.take.ensures.source parts) c.take.ensures.count in
    let all : texts c.in_ok-words.words.items ≡ take 10 (words_in c.in-Ok.text.now) = IfOk-at_ok _ c.in_ok-words.was (map_from_collect _ c.collect.ensures.ran few) in
    all ∙ ap (λ line. take 10 (words_in line)) c.in-Ok.ensures.cases.0
