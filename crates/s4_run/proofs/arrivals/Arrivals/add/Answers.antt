use Rattle.std.proofs.Common.{◌≡◌, ◌≤◌, ◌++◌, ◌∷◌, [], ℕ, List, sym, ap, subst, ◌∙◌, arith}
use Rattle.s4_session.specs.declared.hall_step.HallStep.{HallStep}
use Rattle.s4_session.specs.declared.hall_step.HallStep.TheVariants.{Arrive, Sweep}
use Rattle.s4_session.specs.Arrivals.{NeverDown}
use Rattle.s4_run.specs.Arrivals.{newest_of}
use Rattle.s4_run.proofs.Arriving.{never_down-arrive, never_down-sweep, newest-arrive, newest-sweep}
use Rattle.s4_run.proofs.arrivals.Arrivals.add.Goals as goal

pub invariant_of-self-in-Arrive : goal.invariant_of-self-in-Arrive
invariant_of-self-in-Arrive c =
    let steps : List HallStep = c.self.inside.steps.items in
    let conn : ℕ = c.in-Arrive.conn in
    let moment : ℕ = c.in-Arrive.moment in
    let piece : List ℕ = c.in-Arrive.piece in
    let more : c.push.new.self.items ≡ steps ++ Arrive conn moment piece ∷ [] = c.in_ok-push-in-Arrive.ensures.items in
    let ordered : c.self.inside.newest ≤ moment = grind (arith, c.lt.ensures, c.if-lt.false) in
    let later : newest_of steps ≤ moment = omega (arith, ordered, c.self.invariant.1) in (
      subst (NeverDown 0) (sym more) (never_down-arrive 0 conn moment piece steps c.self.invariant.0 later),
      sym (newest-arrive 0 conn moment piece steps) ∙ ap newest_of (sym more),
    )

pub invariant_of-self-in-Continue-branch-2 : goal.invariant_of-self-in-Continue-branch-2
invariant_of-self-in-Continue-branch-2 c =
    let steps : List HallStep = c.self.inside.steps.items in
    let n : ℕ = c.in-Sweep.n in
    let more : c.push-in-Sweep.new.self.items ≡ steps ++ Sweep n ∷ [] = c.in_ok-push-in-Sweep.ensures.items in (
      subst (NeverDown 0) (sym more) (never_down-sweep 0 n steps c.self.invariant.0),
      c.self.invariant.1 ∙ sym (newest-sweep 0 n steps) ∙ ap newest_of (sym more),
    )
