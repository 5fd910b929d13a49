use Rattle.std.proofs.Common.{take}
use Rattle.s4_base.specs.Through.{GoesOn}
use Rattle.s4_base.specs.Tables.{base_in}
use Rattle.s4_base.proofs.tables.Tables.follow_first.Given as goal

abbrev pub invariant-loop-at : goal.invariant-loop-at
invariant-loop-at l = GoesOn (base_in l.fn.self) (base_in l.self) l.cut (take l.count l.records.items) l.at
