use Rattle.s4_jobs.proofs.Moves.{leaves, settles}
use Rattle.s4_jobs.proofs.closing.take_left.Goals as goal

pub pop_as-requires-clause-rule : goal.pop_as-requires-clause-rule
pop_as-requires-clause-rule g c = (leaves g.J.Numbered.numbered _ _ c.requires.whole, settles g.J.Numbered.numbered _ _ c.requires.whole)
