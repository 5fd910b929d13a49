use Rattle.s4_types.specs.Bindings.{bindings}
use Rattle.s4_types.specs.Play.{play}
use Rattle.s4_laws.proofs.Turns.{bounds, only-in_force}
use Rattle.s4_laws.proofs.BoundInTurn.{bindings-turn}
use Rattle.s4_laws.proofs.values.bindings_are_in_force_from_begin_to_end.Goals as goal

pub returns : goal.returns
returns c = record {
  found = λ base purse name m h. bounds m (bindings base purse name h);
  only = λ base purse name m steps is d. only-in_force m (bindings base purse name (play base steps)) (bindings-turn base purse name steps is d);
}
