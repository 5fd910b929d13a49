use Rattle.s4_drive.proofs.limits.Limits.accept.Goals as goal

pub charge-requires-clause-ready : goal.charge-requires-clause-ready
charge-requires-clause-ready c = c.requires.ready c.in-Some.payer c.in-Some.is
