use Rattle.s4_arena.proofs.Trees.{IsAt}
use Rattle.s4_arena.proofs.spans.span.Given as goal

abbrev pub invariant-loop-left : goal.invariant-loop-left
invariant-loop-left l = IsAt l.number l.span l.left

abbrev pub decreases-loop-left : goal.decreases-loop-left
decreases-loop-left l = l.span
