use Rattle.s4_pool.specs.Numbers.{HasAll}
use Rattle.s4_pool.proofs.closing.has_all.Given as goal

abbrev pub invariant-loop-number : goal.invariant-loop-number
invariant-loop-number g l = HasAll l.number l.passes
