use Rattle.s4_jobs.proofs.Moves.{puts, learns}
use Rattle.s4_jobs.proofs.queue.Jobs.put.Goals as goal

pub push_as-requires-clause-rule : goal.push_as-requires-clause-rule
push_as-requires-clause-rule g c =
    let seated = c.seat.invariant.0 in (puts g.J.Numbered.numbered _ _ _ _ seated.live seated.seat, learns g.J.Numbered.numbered _ _ seated.live seated.left)
