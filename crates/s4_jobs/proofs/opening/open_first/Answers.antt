use Rattle.s4_jobs.proofs.Moves.{begins}
use Rattle.s4_jobs.proofs.opening.open_first.Goals as goal

pub ruled-requires-clause-rule : goal.ruled-requires-clause-rule
ruled-requires-clause-rule g c = begins g.J.Numbered.numbered
