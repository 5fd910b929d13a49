use Rattle.std.proofs.Common.{◌≡◌, ◌+◌, ◌-◌, ◌≤◌, List, map, length, deque_capacity}
use Rattle.crossbeam_queue.specs.Passes.{view, IsPassOf}
use Rattle.s4_jobs.specs.Log.{numbers_of}
use Rattle.s4_jobs.specs.Rule.{with_left, puts_of, takes_of}
use Rattle.s4_jobs.specs.declared.rule.Tag.{Tag}
use Rattle.s4_jobs.proofs.closing.drain.Given as goal

abbrev pub invariant-loop-job : goal.invariant-loop-job
invariant-loop-job g l =
    IsPassOf l.line l.first
    × (l.line.cap ≤ deque_capacity l.left)
    × (puts_of (view l.fn.first) ≤ takes_of (view l.fn.first) + l.line.cap)
    × ((rest : List Tag) × (view l.first ≡ with_left (view l.fn.first) rest) × (numbers_of rest ≡ map g.J.Numbered.numbered l.left.items))

abbrev pub decreases-loop-job : goal.decreases-loop-job
decreases-loop-job g l = puts_of (view l.first) - length (view l.first).left
