use Rattle.std.proofs.Common.{◌≡◌, ℕ, ◌+◌, ◌-◌, true, false, Some, List, length, take, drop, arith, sym, ap, ◌∙◌, subst}
use Rattle.std.proofs.lemmas.List.{length-drop, take_all}
use Rattle.s4_asking.specs.Spelling.{is_arrow}
use Rattle.s4_asking.proofs.Arrows.{arrow_later, behind_here}
use Rattle.s4_asking.proofs.spelling.split_at_arrow.Goals as goal

pub returns-then-starts_with-clause-rest : goal.returns-then-starts_with-clause-rest
returns-then-starts_with-clause-rest c =
    let line : List ℕ = c.args.line.now in
    let i : ℕ = c.loop-i.i in
    let sliced : take (length line - i) (drop i line) ≡ drop i line = take_all (length line - i) (drop i line) (omega (arith, length-drop i line)) in
    let yes : is_arrow (drop i line) ≡ true = subst (λ (w : List ℕ). is_arrow w ≡ true) sliced (sym c.starts_with.ensures.value ∙ c.if-starts_with.true) in
    ap (λ (w : List ℕ). Some w) (take_all (length line - (i + 4)) (drop (i + 4) line) (omega (arith, length-drop (i + 4) line)))
    ∙ sym (behind_here line i yes c.loop-i.invariant.rest)

pub loop-i-preserved : goal.loop-i-preserved
loop-i-preserved c =
    let line : List ℕ = c.args.line.now in
    let i : ℕ = c.loop-i.i in
    let sliced : take (length line - i) (drop i line) ≡ drop i line = take_all (length line - i) (drop i line) (omega (arith, length-drop i line)) in
    let no : is_arrow (drop i line) ≡ false = subst (λ (w : List ℕ). is_arrow w ≡ false) sliced (sym c.starts_with.ensures.value ∙ c.if-starts_with.false) in
    let later = arrow_later line i (omega (arith, c.loop-i-test.true)) no c.loop-i.invariant.front c.loop-i.invariant.rest in
    record { front = later.0; rest = later.1 }
