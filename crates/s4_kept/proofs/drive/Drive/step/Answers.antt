use Rattle.std.proofs.Common.{◌≡◌, ◌≤◌, subst, sym}
use Rattle.s4_types.specs.Answer.{answer}
use Rattle.s4_types.specs.Play.{last_of}
use Rattle.s4_types.specs.Log.{Log}
use Rattle.s4_cuts.specs.CutLog.{left_of, base_left}
use Rattle.s4_kept.proofs.Keeping.{kept_step, rest_told}
use Rattle.s4_kept.proofs.drive.Drive.step.Goals as goal

pub invariant_of-self : goal.invariant_of-self
invariant_of-self g c =
    let log : Log = c.self.inside.plain in
    let later : last_of log.history ≤ c.args.moment = subst (λ (l : Log). last_of l.history ≤ c.args.moment) (sym c.self.view_is) c.requires in
    kept_step log c.self.inside.base c.self.invariant c.step.new.self c.args.moment c.args.caller c.args.request.now c.step.result c.step.ensures.steps later

pub returns-clause-rest : goal.returns-clause-rest
returns-clause-rest g c told =
    let log : Log = c.self.inside.plain in
    let later : last_of log.history ≤ c.args.moment = subst (λ (l : Log). last_of l.history ≤ c.args.moment) (sym c.self.view_is) c.requires in
    subst (λ (l : Log). c.step.result ≡ answer (base_left l) (left_of l) c.args.moment c.args.caller c.args.request.now) c.self.view_is
    (rest_told log c.self.inside.base c.self.invariant c.step.new.self c.args.moment c.args.caller c.args.request.now c.step.result c.step.ensures.steps later told)
