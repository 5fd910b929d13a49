use Rattle.std.proofs.Common.{◌∙◌}
use Rattle.s4_state.proofs.Reading.{held-told}
use Rattle.s4_state.proofs.parts.Parts.version.Goals as goal

pub returns : goal.returns
returns g c t later = c.version.ensures ∙ held-told c.requires.kept c.args.object.now t later c.args.at c.requires.told c.args.which
