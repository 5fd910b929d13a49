use Rattle.s4_calls.proofs.Orders.{stand_in_order}
use Rattle.s4_calls.proofs.laws.calls_stand_in_their_order.Goals as goal

pub returns : goal.returns
returns g c = λ n log calls placed sub. stand_in_order g.T.Item.is_wide g.T.Item.range n log calls placed sub
