use Rattle.std.proofs.Common.{◌≡◌, ◌≤◌, ◌+◌, length}
use Rattle.std.specs.VecDeque.{deque_capacity}
use Rattle.s4_sockets.specs.Records.{left_at, span_bytes}
use Rattle.s4_sockets.proofs.left.Left.cut.Given as goal

-- the records of the spans that went are counted no more
abbrev pub invariant-loop-gone : goal.invariant-loop-gone
invariant-loop-gone l = record {
  older : left_at l.cut l.self.older.items ≡ left_at l.cut l.initial.self.older.items;
  newest : l.self.newest ≡ l.initial.self.newest;
  bytes : l.self.bytes ≡ span_bytes l.self.older.items + l.self.newest.bytes;
  room : 128 ≤ deque_capacity l.self.older;
}

-- one span less each time
abbrev pub decreases-loop-gone : goal.decreases-loop-gone
decreases-loop-gone l = length l.self.older.items
