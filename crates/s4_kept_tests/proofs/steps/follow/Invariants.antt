use Rattle.std.specs.Prelude.{All}
use Rattle.s4_store.specs.Chains.{IsOpen, StillOpen}
use Rattle.s4_kept_tests.proofs.steps.follow.Given as goal

abbrev pub invariant-loop-index : goal.invariant-loop-index
invariant-loop-index g l =
    record { opened : All (IsOpen (g.S.Store.chains l.store)) l.chains; still : StillOpen (g.S.Store.chains l.initial.store) (g.S.Store.chains l.store) }
