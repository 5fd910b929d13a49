use Rattle.s4_store.specs.Chains.{IsOpen}
use Rattle.s4_store.specs.PlainStore.{chains_of}
use Rattle.s4_kept_tests.proofs.tracks.follow.Given as goal

abbrev pub invariant-loop-index : goal.invariant-loop-index
invariant-loop-index g l = IsOpen (chains_of l.store) l.track.chain
