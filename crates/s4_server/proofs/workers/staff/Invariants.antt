use Rattle.s4_server.specs.Places.{AreOf}
use Rattle.s4_server.proofs.workers.staff.Given as goal

abbrev pub invariant-loop-pass : goal.invariant-loop-pass
invariant-loop-pass g l = AreOf l.jobs.queue l.seats.items
