use Rattle.s4_passes.proofs.Keeping.{keeps_more}
use Rattle.s4_passes.proofs.pass.Pass.add.Goals as goal

pub invariant_of-self : goal.invariant_of-self
invariant_of-self g c =
    (c.note.ensures.ledger_of_caller, keeps_more _ _ c.args.call c.self.inside.token.hands c.note.new.caller.hands c.self.inside.calls c.add.new.self c.requires.cell c.requires.place c.note.ensures.calls c.add.ensures.last c.add.ensures.calls c.self.invariant.1)
