use Rattle.std.proofs.Common.{Err, refl, ap, ◌∙◌, subst}
use Rattle.s4_script.specs.Readings.{line_in, texts, Gives}
use Rattle.s4_script.proofs.FewWords.{first_ten_tell, of_bad_text, of_text}
use Rattle.s4_script.proofs.line.parse_line.Goals as goal

pub returns : goal.returns
returns c =
    let told = of_text (line_in c.args.version) (first_ten_tell c.args.version) c.args.line.now (texts c.in_ok-of_line.field-0.items) (c.in_ok-of_line.ensures.text refl) c.in_ok-of_line.ensures.words in
    subst (Gives c.of_words.result) (ap (λ words. line_in c.args.version (texts words)) c.as_slice.ensures.value ∙ told) c.of_words.ensures

pub returns-in_err-of_line : goal.returns-in_err-of_line
returns-in_err-of_line c =
    of_bad_text (line_in c.args.version) c.args.line.now c.in_err-of_line.field-0.0 c.from_residual.result c.from_residual.ensures.1
    (λ e. c.in_err-of_line.ensures.bad (ap Err e))
