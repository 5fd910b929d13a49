use Rattle.std.proofs.Common.{ap, ◌∙◌}
use Rattle.s4_jobs.specs.Seats.{Seat}
use Rattle.s4_jobs.proofs.Moves.{merges}
use Rattle.s4_jobs.proofs.closing.end_seat.Goals as goal

pub absorb-requires-clause-rule : goal.absorb-requires-clause-rule
absorb-requires-clause-rule g c = merges g.J.Numbered.numbered _ _ _ _ c.requires.first c.seat.invariant.0.live (ap (λ (s : Seat). s.number) c.seat.view_is ∙ c.requires.next)
