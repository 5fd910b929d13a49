use Rattle.std.proofs.Common.{◌≡◌, ◌<◌, ◌++◌}
use Rattle.s4_sockets.specs.Accepted.{numbers_to}
use Rattle.s4_sockets.proofs.accepting.accept_all.Given as goal

abbrev pub invariant-loop : goal.invariant-loop
invariant-loop g l =
    (l.seat.queue ≡ l.initial.seat.queue)
    × (0 < l.connections → (l.number < l.connections) × (l.seat.put ≡ l.initial.seat.put ++ numbers_to l.number))
