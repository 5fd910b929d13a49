use Rattle.std.proofs.Common.{ap, min, ◌∙◌}
use Rattle.s4_types.specs.Log.{Log, expired_in}
use Rattle.s4_kept.proofs.drive.Drive.sweep.Goals as goal

pub returns-clause-freed : goal.returns-clause-freed
returns-clause-freed g c = c.sweep.ensures.freed ∙ ap (λ (l : Log). min c.args.most (expired_in l)) c.self.view_is
