use Rattle.std.proofs.Common.{Err, refl, ap, ◌∙◌, subst}
use Rattle.s4_script.specs.Readings.{window_in, texts, Gives}
use Rattle.s4_script.proofs.FewWords.{first_ten_window, of_bad_text, of_text}
use Rattle.s4_script.proofs.opening.parse_window.Goals as goal

pub returns : goal.returns
returns c =
    let told = of_text window_in first_ten_window c.args.line.now (texts c.in_ok-of_line.field-0.items) (c.in_ok-of_line.ensures.text refl) c.in_ok-of_line.ensures.words in
    subst (Gives c.window.result) (ap (λ words. window_in (texts words)) c.as_slice.ensures.value ∙ told) c.window.ensures

pub returns-in_err-of_line : goal.returns-in_err-of_line
returns-in_err-of_line c =
    of_bad_text window_in c.args.line.now c.in_err-of_line.field-0.0 c.from_residual.result c.from_residual.ensures.1
    (λ e. c.in_err-of_line.ensures.bad (ap Err e))
