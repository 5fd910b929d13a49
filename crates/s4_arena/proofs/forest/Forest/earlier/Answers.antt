use Rattle.std.proofs.Common.{arith}
use Rattle.s4_arena.proofs.Marks.{but_lowest}
use Rattle.s4_arena.proofs.forest.Forest.earlier.Goals as goal

pub returns-clause-some : goal.returns-clause-some
returns-clause-some c = λ h q is. but_lowest c.args.self.bits h q is (omega (arith, c.well_formed))
