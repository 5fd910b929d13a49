use Rattle.std.proofs.Common.{◌≡◌}
use Rattle.s4_jobs.proofs.worker.next_job.Given as goal

abbrev pub invariant-loop-try : goal.invariant-loop-try
invariant-loop-try g l = l.seat ≡ l.initial.seat
