use Rattle.s4_laws.proofs.BoundApplied.{bound_at-in-turn}
use Rattle.s4_laws.proofs.values.bindings_are_carried_out_in_order.Goals as goal

pub returns : goal.returns
returns c = bound_at-in-turn
