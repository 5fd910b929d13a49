use Rattle.s4_laws.proofs.Ruled.{horizon_at-rule}
use Rattle.s4_laws.proofs.horizons.horizons_are_by_rule.Goals as goal

pub returns : goal.returns
returns c = horizon_at-rule
