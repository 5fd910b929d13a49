use Rattle.s4_cells.specs.Many.{AllStay, AreReady}
use Rattle.s4_cells.proofs.all_cells.make_ready.Given as goal

abbrev pub invariant-loop-place : goal.invariant-loop-place
invariant-loop-place l = AllStay l.initial.cells l.cells × AreReady l.request l.place l.cells
