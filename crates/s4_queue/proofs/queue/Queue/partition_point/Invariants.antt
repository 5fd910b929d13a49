use Rattle.std.proofs.Common.{Bool, ◌+◌, ◌≤◌, ◌<◌, length}
use Rattle.std.specs.Fn.{ComputesKey}
use Rattle.s4_queue.proofs.Searching.{Halved}
use Rattle.s4_queue.proofs.queue.Queue.partition_point.Given as goal

abbrev pub invariant-loop-size : goal.invariant-loop-size
invariant-loop-size g l = record {
  some : 0 < l.size;
  within : l.base + l.size ≤ length l.self.items;
  callable : goal.P-IsAlwaysCallable g l.pred;
  halved : (p : g.row.T.Denot → Bool) → ComputesKey g.P.FnMut p l.initial.pred → ComputesKey g.P.FnMut p l.pred × Halved p l.self.items l.base l.size;
}

abbrev pub decreases-loop-size : goal.decreases-loop-size
decreases-loop-size g l = l.size
