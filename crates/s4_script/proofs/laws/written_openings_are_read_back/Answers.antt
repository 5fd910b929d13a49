use Rattle.s4_script.proofs.RequestsBack.{opening_back}
use Rattle.s4_script.proofs.laws.written_openings_are_read_back.Goals as goal

pub returns : goal.returns
returns c = opening_back
