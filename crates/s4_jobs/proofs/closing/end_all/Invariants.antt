use Rattle.std.proofs.Common.{◌≡◌}
use Rattle.crossbeam_queue.specs.Passes.{view, IsPassOf}
use Rattle.s4_jobs.specs.Rule.{with_all_ended}
use Rattle.s4_jobs.specs.Seats.{hands_of}
use Rattle.s4_jobs.proofs.closing.end_all.Given as goal

abbrev pub invariant-loop-seat : goal.invariant-loop-seat
invariant-loop-seat g l = IsPassOf l.line l.first × (view l.first ≡ with_all_ended (view l.initial.first) (hands_of l.yielded))
