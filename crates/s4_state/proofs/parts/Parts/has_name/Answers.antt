use Rattle.std.proofs.Common.{◌∙◌}
use Rattle.s4_state.proofs.Binding.{named-now}
use Rattle.s4_state.proofs.parts.Parts.has_name.Goals as goal

pub returns : goal.returns
returns g c t later = c.named.ensures (g.S.Store.chains c.args.self.now.store) c.requires.partitions.holds ∙ named-now c.requires c.args.object.now t later
