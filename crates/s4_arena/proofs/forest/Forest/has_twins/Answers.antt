use Rattle.std.proofs.Common.{arith}
use Rattle.s4_arena.proofs.Marks.{next_bit}
use Rattle.s4_arena.proofs.forest.Forest.has_twins.Goals as goal

pub returns-clause-some : goal.returns-clause-some
returns-clause-some c = λ h q is. next_bit c.args.self.bits h q c.earlier.result c.last.result is (omega (arith, c.well_formed)) (c.earlier.ensures.some h q is) (c.last.ensures.some h q is)
