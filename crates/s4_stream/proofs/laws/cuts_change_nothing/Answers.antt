use Rattle.s4_stream.proofs.Cuts.{hear_cut}
use Rattle.s4_stream.proofs.laws.cuts_change_nothing.Goals as goal

pub returns : goal.returns
returns c = hear_cut
