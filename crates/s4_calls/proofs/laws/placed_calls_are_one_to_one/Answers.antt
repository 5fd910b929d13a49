use Rattle.s4_calls.proofs.Ones.{one-to-one}
use Rattle.s4_calls.proofs.laws.placed_calls_are_one_to_one.Goals as goal

pub returns : goal.returns
returns g c = λ n log placed. one-to-one g.T.Item.is_wide g.T.Item.range n log placed
