use Rattle.std.proofs.Common.{drop}
use Rattle.s4_drive_tests.specs.Plain.{ArePlain}
use Rattle.s4_drive_tests.proofs.following.are_plain.Given as goal

abbrev pub invariant-loop-record : goal.invariant-loop-record
invariant-loop-record l = ArePlain (drop l.record-index l.records) → ArePlain l.records
