use Rattle.s4_types.proofs.Windows.{horizon_at-later}
use Rattle.s4_laws.proofs.horizons.horizons_never_go_back.Goals as goal

pub returns : goal.returns
returns c = horizon_at-later
