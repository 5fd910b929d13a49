use Rattle.std.proofs.Common.{◌≡◌}
use Rattle.std.specs.Prelude.{All}
use Rattle.s4_jobs.specs.Seats.{Seat}
use Rattle.s4_calls_for_tests.proofs.places.places.Given as goal

abbrev pub invariant-loop : goal.invariant-loop
invariant-loop l = All (λ (s : Seat). s.queue ≡ l.jobs.queue) l.seats.items
