use Rattle.std.proofs.Common.{◌≤◌, length}
use Rattle.s4_cells.specs.Many.{CutFrom}
use Rattle.s4_cells.proofs.cuts.cut_each.Given as goal

-- the cells from here on are cut
abbrev pub invariant-loop-left : goal.invariant-loop-left
invariant-loop-left l = record {
  few : l.left ≤ length l.initial.cells;
  cut : CutFrom l.moment l.left l.initial.cells l.cells;
}

abbrev pub decreases-loop-left : goal.decreases-loop-left
decreases-loop-left l = l.left
