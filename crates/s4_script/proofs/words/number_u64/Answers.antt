use Rattle.std.proofs.Common.{◌≡◌, true, false, sym, ap, ◌∙◌, arith}
use Rattle.s4_script.specs.Readings.{is_plain, spelled}
use Rattle.s4_script.proofs.Numbers.{not_plain, plain_parsed}
use Rattle.s4_script.proofs.words.number_u64.Goals as goal

pub returns-then-not-is_plain : goal.returns-then-not-is_plain
returns-then-not-is_plain c =
    let odd : is_plain c.args.word.now ≡ false = grind arith in
    ap spelled (sym (not_plain c.args.word.now odd))

pub returns : goal.returns
returns c =
    let plain : is_plain c.args.word.now ≡ true = grind arith in
    c.ok_or.ensures.value ∙ ap spelled (c.ok.ensures.value ∙ sym (plain_parsed c.args.word.now c.parse.result plain c.parse.ensures.value.0))
