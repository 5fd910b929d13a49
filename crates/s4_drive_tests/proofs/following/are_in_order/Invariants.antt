use Rattle.std.proofs.Common.{drop}
use Rattle.s4_types.specs.Play.{InOrder}
use Rattle.s4_drive_tests.proofs.following.are_in_order.Given as goal

abbrev pub invariant-loop-record : goal.invariant-loop-record
invariant-loop-record l = InOrder l.last (drop l.record-index l.records) → InOrder l.fn.from l.records
