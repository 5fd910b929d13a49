use Rattle.std.proofs.Common.{◌≡◌, ◌+◌, ◌<◌, ◌++◌, ◌∷◌, [], Bool, cond, length, List, take, filter, sym, ◌∙◌, ap, arith}
use Rattle.std.proofs.lemmas.List.{append-nil, take_more}
use Rattle.std.proofs.lemmas.List.Elements.{filter-append}
use Rattle.s4_types.specs.declared.record.Step.{Step}
use Rattle.s4_types.specs.Strike.{is_near, stays}
use Rattle.s4_drive.proofs.strangers.strike.Goals as goal
use Rattle.s4_drive.proofs.strangers.strike.Goals.{then-keeps+in_ok-copy+in_ok-push, else-keeps}

-- one step more is kept where it stays
pub loop-step-preserved : goal.loop-step-preserved
loop-step-preserved c =
    let who = c.args.who in
    let steps = c.args.steps.now in
    let i = c.loop-step.step-index in
    let step : Step = c.step-item.result in
    let test : Step → Bool = stays who (is_near who steps) in
    let within : i < length steps = omega arith in
    let front : take (i + 1) steps ≡ take i steps ++ step ∷ [] = take_more steps i step within ∙ ap (λ (s : Step). take i steps ++ s ∷ []) (sym c.step-item.is) in
    let kept : List Step = filter test (take i steps) in
    let before : c.loop-step.kept.items ≡ kept = c.loop-step.invariant in
    let told : c.keeps.result ≡ test step = c.keeps.ensures who steps c.in_ok-near.ensures in
    let after : filter test (take (i + 1) steps) ≡ kept ++ cond c.keeps.result (step ∷ []) []
    = ap (filter test) front ∙ filter-append test (take i steps) (step ∷ []) ∙ ap (λ b. kept ++ cond b (step ∷ []) []) (sym told) in
    elim c.if-keeps.branch [
      | then-keeps+in_ok-copy+in_ok-push w ↦
          rw w.kept-is
          (w.in_ok-push.ensures.items ∙ ap (λ xs. xs ++ w.in_ok-copy.field-0 ∷ []) before ∙ ap (λ (s : Step). kept ++ s ∷ []) w.in_ok-copy.ensures
          ∙ sym (after ∙ ap (λ b. kept ++ cond b (step ∷ []) []) w.if-keeps.true))
      | else-keeps w ↦ rw w.kept-is (before ∙ sym (after ∙ ap (λ b. kept ++ cond b (step ∷ []) []) w.if-keeps.false ∙ append-nil kept))
    ]
