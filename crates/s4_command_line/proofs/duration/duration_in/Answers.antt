use Rattle.std.proofs.Common.{rules, ◌≡◌, ◌≤◌, ◌^◌, ◌+◌, ◌-◌, ◌*◌, ℕ, List, get_or, true, sym, arith, ◌∙◌}
use Rattle.std.specs.Char.{is_ascii_digit}
use Rattle.s4_command_line.specs.Durations.{begins_well}
use Rattle.s4_command_line.proofs.Counting.{at_end, grown_too_big, of_good}
use Rattle.s4_command_line.proofs.duration.duration_in.Goals as goal

pub returns-in-None : goal.returns-in-None
returns-in-None c =
    let word : List ℕ = c.args.word.now in
    let i : ℕ = c.loop-place.place in
    let n : ℕ = c.loop-place.count in
    let good : begins_well word ≡ true = search rules in
    let digit : is_ascii_digit (get_or word i 0) ≡ true = search rules in
    let big : 2 ^ 64 ≤ n * 10 + (get_or word i 0 - 48) = search rules in
    of_good word _ good (sym (grown_too_big word i n (omega arith) digit big) ∙ c.loop-place.invariant.rest)

pub returns : goal.returns
returns c =
    let word : List ℕ = c.args.word.now in
    let good : begins_well word ≡ true = search rules in
    at_end word c.loop-place.place c.loop-place.count (omega (arith, c.loop-place-test.false)) c.loop-place.invariant.small c.loop-place.invariant.rest good
