use Rattle.std.proofs.Common.{◌≡◌, ◌∙◌, ℕ, List, ap, subst, IfOk}
use Rattle.s4_types.specs.Base.{opened}
use Rattle.s4_session.specs.declared.hall_step.HallStep.{HallStep}
use Rattle.s4_session.specs.Halls.{Hall}
use Rattle.s4_session.specs.Sent.{IsSent, lists_of}
use Rattle.s4_run.specs.Arrivals.{Arrivals}
use Rattle.s4_run.proofs.arrivals.Arrivals.run.Goals as goal

pub returns : goal.returns
returns c =
    let window : c.self.inside.window ≡ c.args.self.now.window = ap (λ (a : Arrivals). a.window) c.self.view_is in
    let steps : c.deref.result.now ≡ c.args.self.now.steps = c.deref.ensures.value ∙ ap (λ (a : Arrivals). a.steps) c.self.view_is in
    let by_hall = subst (λ (hall : Hall). IfOk c.run.result (λ sent. IsSent (opened hall.log.opened) hall.logins c.deref.result.now (lists_of sent.items))) c.open.ensures c.run.ensures.sent in
    let by_window = subst (λ (w : ℕ). IfOk c.run.result (λ sent. IsSent (opened w) c.args.logins c.deref.result.now (lists_of sent.items))) window by_hall in
    subst (λ (arrivals : List HallStep). IfOk c.run.result (λ sent. IsSent (opened c.args.self.now.window) c.args.logins arrivals (lists_of sent.items))) steps by_window
