use Rattle.std.proofs.Common.{◌≡◌, ◌++◌}
use Rattle.std.specs.Vec.Iter.{into_iter_items}
use Rattle.s4_drive_tests.proofs.base.queued.Given as goal

abbrev pub invariant-loop-record : goal.invariant-loop-record
invariant-loop-record l = l.queue.items ++ into_iter_items l.record-iterator ≡ l.fn.records.items
