use Rattle.s4_store.specs.PlainStore.{chains_of}
use Rattle.s4_parts.specs.Table.{Holds}
use Rattle.s4_parts.specs.Waiting.{Waits}
use Rattle.s4_kept_tests.proofs.parts.expire.Given as goal

abbrev pub invariant-loop-horizon : goal.invariant-loop-horizon
invariant-loop-horizon g l = Holds (chains_of l.store) l.parts × Waits (chains_of l.store) l.parts
