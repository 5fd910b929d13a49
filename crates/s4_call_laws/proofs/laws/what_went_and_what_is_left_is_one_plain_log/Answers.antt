use Rattle.s4_call_laws.proofs.Joined.{one-log}
use Rattle.s4_call_laws.proofs.laws.what_went_and_what_is_left_is_one_plain_log.Goals as goal

pub returns : goal.returns
returns c = λ window n cut log left some_cell parts. one-log window n cut log left some_cell parts
