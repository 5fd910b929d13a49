use Rattle.std.proofs.lemmas.Result.{IfOk-weaker}
use Rattle.s4_state.proofs.Flushing.{stands_flush}
use Rattle.s4_state.proofs.Refunding.{flush_charged}
use Rattle.s4_state.proofs.flush.apply.Goals as goal

pub returns-clause-ok : goal.returns-clause-ok
returns-clause-ok g c =
    IfOk-weaker c.flush.result _ _ (λ refunds flushed. stands_flush c.requires.kept c.requires.next c.requires.granted c.requires.asked flushed c.flush.ensures.holds c.flush.ensures.leaves c.requires.sound) c.flush.ensures.ok

pub returns-clause-charged : goal.returns-clause-charged
returns-clause-charged g c =
    IfOk-weaker c.flush.result _ _ (λ refunds flushed weight p nothing. flush_charged c.requires.kept c.requires.next c.requires.granted c.requires.asked flushed weight p nothing) c.flush.ensures.ok
