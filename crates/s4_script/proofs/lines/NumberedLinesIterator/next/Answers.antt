use Rattle.std.proofs.Common.{rules, ◌≡◌, ℕ, length, false, eqb, List, sym, ap, ◌∙◌, arith}
use Rattle.s4_script.proofs.Cutting.{less_behind, told}
use Rattle.s4_script.proofs.lines.NumberedLinesIterator.next.Goals as goal

pub invariant_of-self : goal.invariant_of-self
invariant_of-self c =
    let text : List ℕ = c.self.inside.left.now in
    let some : eqb (length text) 0 ≡ false = sym c.is_empty.ensures ∙ c.if-is_empty.false in
    let less = less_behind text some in
    let same = ap length c.split_line.ensures.rest in
    omega (arith, c.self.invariant, less, same)

pub returns-clause-steps : goal.returns-clause-steps
returns-clause-steps c =
    let s = c.self.inside in
    let some : eqb (length s.left.now) 0 ≡ false = sym c.is_empty.ensures ∙ c.if-is_empty.false in
    sym c.self.view_is ∙ told s.number s.left.now c.split_line.result.0.now c.split_line.result.1.now some c.split_line.ensures.line c.split_line.ensures.rest

pub returns-clause-goes : goal.returns-clause-goes
returns-clause-goes c =
    let s = c.self.inside in
    let some : eqb (length s.left.now) 0 ≡ false = sym c.is_empty.ensures ∙ c.if-is_empty.false in
    let shorter = ap length (sym c.self.view_is ∙ told s.number s.left.now c.split_line.result.0.now c.split_line.result.1.now some c.split_line.ensures.line c.split_line.ensures.rest) in
    search rules
