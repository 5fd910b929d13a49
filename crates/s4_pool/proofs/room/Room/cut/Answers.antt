use Rattle.std.proofs.Common.{arith}
use Rattle.s4_pool.proofs.Beside.{least_below}
use Rattle.s4_pool.proofs.room.Room.cut.Goals as goal

pub returns-clause-bound : goal.returns-clause-bound
returns-clause-bound g c = omega (arith, c.cut_all-at.ensures.least, least_below c.args.moment c.as_mut_slice.result.now)
