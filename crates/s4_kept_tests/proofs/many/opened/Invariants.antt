use Rattle.std.specs.Prelude.{All}
use Rattle.s4_store.specs.Chains.{IsOpen}
use Rattle.s4_kept_tests.proofs.many.opened.Given as goal

abbrev pub invariant-loop-opened : goal.invariant-loop-opened
invariant-loop-opened l = All (IsOpen l.arena.chains) l.chains.items
