use Rattle.s4_call_laws.proofs.Joined.{have-records}
use Rattle.s4_call_laws.proofs.laws.each_call_has_its_record.Goals as goal

pub returns : goal.returns
returns c = λ window n cut log left some_cell placed parts. have-records window n cut log left some_cell placed parts
