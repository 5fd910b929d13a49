use Rattle.std.proofs.Common.{◌≡◌, ◌+◌, ◌≤◌, length}
use Rattle.s4_queue.proofs.Moving.{IsParted}
use Rattle.s4_queue.proofs.queue.Queue.insert.Given as goal

abbrev pub invariant-loop-free : goal.invariant-loop-free
invariant-loop-free g l = record {
  from : l.index ≤ l.free;
  within : l.free ≤ length l.fn.self.items;
  parted : IsParted l.fn.self.items l.self.items l.free;
  room : l.self.room + 1 ≡ l.fn.self.room;
}

abbrev pub decreases-loop-free : goal.decreases-loop-free
decreases-loop-free g l = l.free
