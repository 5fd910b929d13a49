use Rattle.s4_calls.proofs.Merges.{stand_there, in_cells}
use Rattle.s4_calls.proofs.laws.merges_keep_the_order_of_calls.Goals as goal

pub returns : goal.returns
returns g c = record {
  there = λ n log all some_cell placed merge. stand_there g.T.Item.is_wide g.T.Item.range n log all some_cell placed merge;
  order = λ n log calls all some_cell placed merge sub. in_cells g.T.Item.is_wide g.T.Item.range n log all some_cell placed merge calls sub;
}
