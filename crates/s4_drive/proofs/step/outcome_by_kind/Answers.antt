use Rattle.std.proofs.Common.{sym, ◌∙◌, ap}
use Rattle.s4_types.specs.Answer.{outcome_by_kind}
use Rattle.s4_types.specs.Log.{base_of}
use Rattle.s4_drive.proofs.Told.{exactly}
use Rattle.s4_drive.proofs.step.outcome_by_kind.Goals as goal

pub returns-in-PCreate-clause-value : goal.returns-in-PCreate-clause-value
returns-in-PCreate-clause-value g c =
    exactly c.bind_outcome.result _ (c.bind_outcome.ensures ∙ ap (outcome_by_kind (base_of c.args.state.now) c.args.state.now.history c.args.moment c.args.caller) (sym c.in-PCreate.is))
