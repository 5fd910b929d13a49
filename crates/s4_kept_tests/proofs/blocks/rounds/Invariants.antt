use Rattle.s4_store.specs.Chains.{IsOpen}
use Rattle.s4_kept_tests.proofs.blocks.rounds.Given as goal

abbrev pub invariant-loop-round : goal.invariant-loop-round
invariant-loop-round l = IsOpen l.arena.chains l.chain
