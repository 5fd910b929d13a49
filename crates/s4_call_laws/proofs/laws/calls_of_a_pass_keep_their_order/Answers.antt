use Rattle.s4_call_laws.proofs.Joined.{have-order}
use Rattle.s4_call_laws.proofs.laws.calls_of_a_pass_keep_their_order.Goals as goal

pub returns : goal.returns
returns c = λ window n cut log calls left some_cell placed parts sub. have-order window n cut log left some_cell placed parts calls sub
