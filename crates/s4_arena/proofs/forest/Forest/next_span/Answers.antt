use Rattle.std.proofs.Common.{arith, sym}
use Rattle.s4_arena.proofs.Marks.{joined, alone}
use Rattle.s4_arena.proofs.forest.Forest.next_span.Goals as goal

pub overflow_mul-span : goal.overflow_mul-span
overflow_mul-span c = let j = joined c.requires.0 c.args.self.bits c.last.result c.has_twins.result c.requires.1 c.if-has_twins.true c.has_twins.ensures.none c.has_twins.ensures.some c.last.ensures.some in omega (arith, j.size)

pub overflow_sub-span : goal.overflow_sub-span
overflow_sub-span c = let j = joined c.requires.0 c.args.self.bits c.last.result c.has_twins.result c.requires.1 c.if-has_twins.true c.has_twins.ensures.none c.has_twins.ensures.some c.last.ensures.some in omega (arith, j.some)

pub overflow_mul-result : goal.overflow_mul-result
overflow_mul-result c = let j = joined c.requires.0 c.args.self.bits c.last.result c.has_twins.result c.requires.1 c.if-has_twins.true c.has_twins.ensures.none c.has_twins.ensures.some c.last.ensures.some in omega (arith, j.size)

pub overflow_add-result : goal.overflow_add-result
overflow_add-result c = let j = joined c.requires.0 c.args.self.bits c.last.result c.has_twins.result c.requires.1 c.if-has_twins.true c.has_twins.ensures.none c.has_twins.ensures.some c.last.ensures.some in omega (arith, j.size)

pub returns-then-has_twins-clause-fits : goal.returns-then-has_twins-clause-fits
returns-then-has_twins-clause-fits c = λ n is fits. sym (joined n c.args.self.bits c.last.result c.has_twins.result is c.if-has_twins.true c.has_twins.ensures.none c.has_twins.ensures.some c.last.ensures.some).span

pub returns-then-has_twins-clause-one : goal.returns-then-has_twins-clause-one
returns-then-has_twins-clause-one c = λ n is past. let j = joined n c.args.self.bits c.last.result c.has_twins.result is c.if-has_twins.true c.has_twins.ensures.none c.has_twins.ensures.some c.last.ensures.some in absurd (omega (arith, j.fits))

pub returns-clause-fits : goal.returns-clause-fits
returns-clause-fits c = λ n is fits. sym (alone n c.args.self.bits c.has_twins.result is c.if-has_twins.false c.has_twins.ensures.some fits)
