-- And any thread may share it.
use denote.RattleType.{RattleType}
use denote.Param.Send.{IsSend, IsSync, part_keyless}
use Rattle.s4_gone.specs.contracts.Gone.{the_row}

keyless : (A : RattleType) → IsSend (the_row A)
keyless A = record { owned = λ d vs. ((λ vss. (tt, ((λ uss. (tt, tt)), tt))), tt); leaving = λ k f vs. tt }

pub sync : (A : RattleType) → IsSync (the_row A)
sync A = record { shared = λ d b o κ q. part_keyless (the_row A) (keyless A) q d b o }
