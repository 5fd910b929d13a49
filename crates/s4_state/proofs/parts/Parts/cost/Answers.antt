use Rattle.std.proofs.Common.{Some, None}
use Rattle.s4_state.specs.Stands.{base_in}
use Rattle.s4_state.proofs.Costs.{cost-told}
use Rattle.s4_state.proofs.parts.Parts.cost.Goals as goal

pub returns-in-Some : goal.returns-in-Some
returns-in-Some g c t later = cost-told (Some c.in-Some.version.now) c.args.which c.args.object.now t (base_in c.args.self.now) c.args.self.now.history.records (c.in-Some.ensures t later)

pub returns-in-None : goal.returns-in-None
returns-in-None g c t later = cost-told None c.args.which c.args.object.now t (base_in c.args.self.now) c.args.self.now.history.records (c.in-None.ensures t later)
