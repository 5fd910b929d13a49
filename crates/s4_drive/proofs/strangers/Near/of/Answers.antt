use Rattle.std.proofs.Common.{◌≡◌, ◌+◌, ◌<◌, ◌++◌, ◌∷◌, [], length, take, sym, ◌∙◌, ap, subst, arith}
use Rattle.std.proofs.lemmas.List.{take_more}
use Rattle.s4_types.specs.declared.record.Step.{Step}
use Rattle.s4_drive.specs.Near.{IsNearIn}
use Rattle.s4_drive.proofs.strangers.Near.of.Goals as goal

pub loop-step-preserved : goal.loop-step-preserved
loop-step-preserved c =
    let steps = c.args.steps.now in
    let i = c.loop-step.step-index in
    let within : i < length steps = omega arith in
    let front : take (i + 1) steps ≡ take i steps ++ c.step-item.result ∷ []
    = take_more steps i c.step-item.result within ∙ ap (λ (s : Step). take i steps ++ s ∷ []) (sym c.step-item.is) in
    subst (λ xs. IsNearIn c.add.new.self c.args.who xs) (sym front) (c.in_ok-add.ensures.ok c.args.who (take i steps) c.loop-step.invariant)
