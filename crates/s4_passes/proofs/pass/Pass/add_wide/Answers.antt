use Rattle.s4_passes.proofs.Keeping.{keeps_more}
use Rattle.s4_passes.proofs.pass.Pass.add_wide.Goals as goal

pub invariant_of-self : goal.invariant_of-self
invariant_of-self g c =
    (c.note_all.ensures.ledger_of_caller, keeps_more _ _ c.args.call c.self.inside.token.hands c.note_all.new.caller.hands c.self.inside.calls c.add.new.self c.requires.cell c.requires.place c.note_all.ensures.calls c.add.ensures.last c.add.ensures.calls c.self.invariant.1)
