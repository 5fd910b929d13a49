use Rattle.std.proofs.Common.{arith, ◌+◌, ◌^◌}
use Rattle.s4_arena.proofs.Steps.{either}
use Rattle.s4_arena.proofs.Marks.{joined_marks, single}
use Rattle.s4_arena.proofs.forest.Forest.grown.Goals as goal

pub returns-then-has_twins : goal.returns-then-has_twins
returns-then-has_twins c = λ n is. joined_marks n c.args.self.bits c.earlier-bits.result c.has_twins.result is c.if-has_twins.true c.has_twins.ensures.none c.has_twins.ensures.some c.earlier-bits.ensures.some

pub overflow_add-result : goal.overflow_add-result
overflow_add-result c =
    let s = single c.requires.0 c.args.self.bits c.last.result c.has_twins.result c.requires.1 c.if-has_twins.false c.last.ensures.none c.has_twins.ensures.some c.last.ensures.some in
    let sum = c.in-Some.ensures in omega (arith, s.small sum.0, sum.1)

pub returns-in-Some : goal.returns-in-Some
returns-in-Some c = λ n is.
    let s = single n c.args.self.bits c.last.result c.has_twins.result is c.if-has_twins.false c.last.ensures.none c.has_twins.ensures.some c.last.ensures.some in
    let sum = c.in-Some.ensures in omega (arith, s.marks sum.0, sum.1)

pub returns-in-None : goal.returns-in-None
returns-in-None c = λ n is.
    let s = single n c.args.self.bits c.last.result c.has_twins.result is c.if-has_twins.false c.last.ensures.none c.has_twins.ensures.some c.last.ensures.some in
    s.all (either (2 ^ 64) (c.args.self.bits + c.last.result) (λ h. h) (λ h. absurd (c.in-None.ensures h)))
