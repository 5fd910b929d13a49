use Rattle.std.proofs.Common.{subst, sym}
use Rattle.s4_kept.specs.Kept.{IsKept}
use Rattle.s4_kept.proofs.Keeping.{kept_fresh}
use Rattle.s4_kept.proofs.drive.Drive.new.Goals as goal

pub invariant_of-result : goal.invariant_of-result
invariant_of-result g c = subst (λ l. IsKept l c.fresh.result) (sym c.new.ensures) (kept_fresh c.args.window c.fresh.result c.fresh.ensures.opened)
