use Rattle.std.proofs.Common.{◌∙◌}
use Rattle.s4_state.proofs.Binding.{count-now}
use Rattle.s4_state.proofs.parts.Parts.bound_count.Goals as goal

pub returns : goal.returns
returns g c t later = c.bound_names.ensures (g.S.Store.chains c.args.self.now.store) c.requires.partitions.holds ∙ count-now c.requires c.args.purse.now t later
