use Rattle.s4_laws.proofs.OfHorizon.{horizon_at-agree}
use Rattle.s4_laws.proofs.horizons.horizons_depend_on_wide_changes.Goals as goal

pub returns : goal.returns
returns c = horizon_at-agree
