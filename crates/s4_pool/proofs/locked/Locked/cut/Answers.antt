use Rattle.std.proofs.Common.{arith}
use Rattle.s4_pool.proofs.Beside.{least_below}
use Rattle.s4_pool.proofs.locked.Locked.cut.Goals as goal

pub returns-clause-bound : goal.returns-clause-bound
returns-clause-bound g c = omega (arith, c.cut_all.ensures.least, least_below c.args.moment c.from_mut.result.now)
