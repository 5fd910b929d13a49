use Rattle.s4_call_laws.proofs.Joined.{together}
use Rattle.s4_call_laws.proofs.laws.what_is_left_belongs_together.Goals as goal

pub returns : goal.returns
returns c = λ n cut log. together n cut log
