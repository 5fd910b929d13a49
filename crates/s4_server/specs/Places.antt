-- The places of a queue of connections.
use Rattle.std.specs.Prelude.{◌≡◌, List, All}
use Rattle.atomic_table.specs.Seated.{TableId}
use Rattle.s4_jobs.specs.Seats.{Seat}

-- each seat is one of this queue's
abbrev pub AreOf : TableId → List Seat → Type 0
AreOf queue seats = All (λ (s : Seat). s.queue ≡ queue) seats
