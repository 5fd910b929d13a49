use Rattle.std.proofs.Common.{rules, ◌≡◌, ℕ, List, get_or, true, sym, arith, ◌∙◌}
use Rattle.std.specs.Char.{is_ascii_digit}
use Rattle.s4_stream.proofs.LoginLines.{grown_too_big}
use Rattle.s4_stream.proofs.login_text.number_in.Goals as goal

pub returns-then-value-from : goal.returns-then-value-from
returns-then-value-from c =
    let word : List ℕ = c.args.word.now in
    let i : ℕ = c.loop-digit.digit-index in
    let value : ℕ = c.loop-digit.value in
    let digit : is_ascii_digit (get_or word i 0) ≡ true = search rules in
    sym (grown_too_big word i value (omega arith) digit (omega arith)) ∙ c.loop-digit.invariant.rest
