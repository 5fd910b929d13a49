use Rattle.std.proofs.Common.{◌∙◌}
use Rattle.s4_state.proofs.Binding.{bound-in}
use Rattle.s4_state.proofs.parts.Parts.bound.Goals as goal

pub returns : goal.returns
returns g c t later = c.mount.ensures ∙ bound-in c.requires.kept c.args.purse.now c.args.name.now t later c.args.at c.requires.told
