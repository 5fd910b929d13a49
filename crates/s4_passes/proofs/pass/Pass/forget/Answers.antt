use Rattle.s4_passes.proofs.Keeping.{keeps_less}
use Rattle.s4_passes.proofs.pass.Pass.forget.Goals as goal

pub invariant_of-self : goal.invariant_of-self
invariant_of-self g c = (c.self.invariant.0, keeps_less c.args.count c.self.inside.token.hands c.self.inside.calls c.forget.new.self c.forget.ensures.last c.forget.ensures.calls c.self.invariant.1)
