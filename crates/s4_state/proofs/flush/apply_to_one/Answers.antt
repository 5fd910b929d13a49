use Rattle.std.proofs.lemmas.Result.{IfOk-weaker}
use Rattle.s4_state.proofs.Flushing.{stands_flush_one}
use Rattle.s4_state.proofs.Refunding.{flush_one_charged}
use Rattle.s4_state.proofs.flush.apply_to_one.Goals as goal

pub returns-clause-ok : goal.returns-clause-ok
returns-clause-ok g c =
    IfOk-weaker c.flush_object.result _ _ (λ refunds flushed. stands_flush_one c.requires.kept c.requires.next c.requires.granted c.args.object.now c.requires.asked flushed c.flush_object.ensures.holds c.flush_object.ensures.leaves c.requires.sound) c.flush_object.ensures.ok

pub returns-clause-charged : goal.returns-clause-charged
returns-clause-charged g c =
    IfOk-weaker c.flush_object.result _ _ (λ refunds flushed weight p nothing. flush_one_charged c.requires.kept c.requires.next c.requires.granted c.args.object.now c.requires.asked flushed weight p nothing) c.flush_object.ensures.ok
