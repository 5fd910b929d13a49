use Rattle.s4_asking.proofs.Known.{keeps_same}
use Rattle.s4_asking.proofs.Turns.{tells_some, untold_holds}
use Rattle.s4_asking.proofs.dialogue.ask_over.Goals as goal

pub returns-in-Some-clause-told : goal.returns-in-Some-clause-told
returns-in-Some-clause-told g c =
    untold_holds c.in-Some.fault _
    (tells_some c.args.version _ _ _ _ _ _ _ (c.in_ok-hear_rest.ensures.on _ _ c.in_ok-asked.ensures.tells) (keeps_same _))
