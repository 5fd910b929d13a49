use Rattle.std.proofs.Common.{ap, ◌∙◌}
use Rattle.s4_jobs.specs.Seats.{Seat}
use Rattle.s4_jobs.proofs.Moves.{forks}
use Rattle.s4_jobs.proofs.opening.add_seat.Goals as goal

pub another-pass-requires-clause-rule : goal.another-pass-requires-clause-rule
another-pass-requires-clause-rule g c =
    let seated = c.first.invariant.0 in forks g.J.Numbered.numbered _ _ seated.live (ap (λ (s : Seat). s.number) (c.first.view_is ∙ c.requires)) seated.closed seated.left
