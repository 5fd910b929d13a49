use Rattle.std.proofs.Common.{◌∙◌, ap}
use Rattle.s4_jobs.specs.Log.{tag}
use Rattle.s4_jobs.specs.Seats.{Seat, seat_of, having_taken}
use Rattle.s4_jobs.proofs.Moves.{takes, learns}
use Rattle.s4_jobs.proofs.queue.Jobs.take.Goals as goal

pub pop_as-requires-clause-rule : goal.pop_as-requires-clause-rule
pop_as-requires-clause-rule g c =
    let seated = c.seat.invariant.0 in (takes g.J.Numbered.numbered _ _ seated.live seated.left, learns g.J.Numbered.numbered _ _ seated.live seated.left)

pub returns-clause-taken : goal.returns-clause-taken
returns-clause-taken g c =
    let posted = c.in_ok-posted.posted in
    let queue = c.in_ok-posted.ensures.queue in
    let rule = c.in_ok-posted.ensures.rule in
    let t = tag posted.from (g.J.Numbered.numbered posted.job) in (posted.from, (λ i. seat_of (queue.0 i) (rule i)) ∙ ap (λ (s : Seat). having_taken s t) c.seat.view_is)
