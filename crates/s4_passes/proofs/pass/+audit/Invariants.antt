use Rattle.std.proofs.Common.{length}
use Rattle.s4_passes.proofs.pass.+audit.Given as goal

abbrev pub decreases-audit : goal.decreases-audit
decreases-audit g a = length a.passes.now
