use Rattle.s4_store.specs.Chains.{IsOpen}
use Rattle.s4_kept_tests.proofs.blocks.add_items.Given as goal

abbrev pub invariant-loop-item : goal.invariant-loop-item
invariant-loop-item l = IsOpen l.arena.chains l.chain
