use Rattle.std.proofs.Common.{◌≡◌, ◌∷◌, ◌∙◌, ℕ, List, ap, subst, sym}
use Rattle.s4_script.specs.Lines.{lines}
use Rattle.s4_run.proofs.Reading.{going_first, going_on, unnumbered, unnumbered-enumerate, IsGoing}
use Rattle.s4_run.proofs.strike.Script.read.Goals as goal

pub loop-number-init : goal.loop-number-init
loop-number-init c =
    let first : ℕ × List ℕ = (c.in-Some.number, c.in-Some.first.now) in
    let steps : c.of-lines.result ≡ first ∷ c.next.new.self = c.in-Some.ensures.steps in
    let left : c.next.new.self ≡ c.into_iter-number-iterator.result = sym c.into_iter-number-iterator.ensures.into_iter_gives in
    going_first c.args.who (lines c.args.text.now) c.of-lines.result first c.into_iter-number-iterator.result c.in_ok-script.script
    (steps ∙ ap (λ (l : List (ℕ × List ℕ)). first ∷ l) left)
    (ap unnumbered c.of-lines.ensures ∙ unnumbered-enumerate 1 (lines c.args.text.now))
    c.in_ok-script.ensures

pub loop-number-preserved : goal.loop-number-preserved
loop-number-preserved c =
    let line : ℕ × List ℕ = (c.in-Some-2.number, c.in-Some-2.line.now) in
    let steps : c.loop-number.number-iterator ≡ line ∷ c.next-in-loop-number.new.self = c.in-Some-2.ensures.steps in
    going_on c.args.who (lines c.args.text.now) line c.next-in-loop-number.new.self c.loop-number.script c.take.new.self
    (subst (λ (l : List (ℕ × List ℕ)). IsGoing c.args.who (lines c.args.text.now) l c.loop-number.script) steps c.loop-number.invariant)
    c.take.ensures.who c.take.ensures.version c.take.ensures.window c.in_ok-take.ensures.kept
