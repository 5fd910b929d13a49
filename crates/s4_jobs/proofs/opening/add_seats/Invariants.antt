use Rattle.std.proofs.Common.{◌≡◌, ◌+◌, length}
use Rattle.s4_jobs.specs.Seats.{AreNewcomers, beginner}
use Rattle.s4_jobs.proofs.opening.add_seats.Given as goal

abbrev pub invariant-loop-number : goal.invariant-loop-number
invariant-loop-number g l = (l.first ≡ beginner l.jobs.queue 0 (l.number + 1)) × (length l.rest.items ≡ l.number) × AreNewcomers l.jobs.queue l.rest.items
