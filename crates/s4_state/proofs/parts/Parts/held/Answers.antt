use Rattle.std.proofs.Common.{ap, ◌∙◌}
use Rattle.s4_types.specs.Answer.{moment_of}
use Rattle.s4_state.specs.Held.{held_in}
use Rattle.s4_state.specs.Stands.{base_in}
use Rattle.s4_state.proofs.Reading.{held_in-acl}
use Rattle.s4_state.proofs.parts.Parts.held.Goals as goal

pub returns : goal.returns
returns g c t later =
    c.held_of.ensures ∙ ap held_in (c.version.ensures t later) ∙ held_in-acl c.args.object.now (moment_of t c.args.at) (base_in c.args.self.now) c.args.self.now.history.records
