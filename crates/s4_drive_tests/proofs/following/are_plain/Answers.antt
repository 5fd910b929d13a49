use Rattle.std.proofs.Common.{sym, subst, arith}
use Rattle.std.proofs.lemmas.List.{drop_all}
use Rattle.s4_drive_tests.specs.Plain.{ArePlain}
use Rattle.s4_drive_tests.proofs.Follows.{all-follow}
use Rattle.s4_drive_tests.proofs.following.are_plain.Goals as goal

pub returns : goal.returns
returns c =
    λ e base. all-follow base c.args.records.now
    (c.loop-record.invariant (subst ArePlain (sym (drop_all c.loop-record.record-index c.args.records.now (omega arith))) tt))
