use Rattle.std.proofs.Common.{take}
use Rattle.std.specs.Fmt.{HasWritten, IsPlainFormatter}
use Rattle.s4_commands.specs.Serving.{counts_text}
use Rattle.s4_commands.proofs.ending.write_counts.Given as goal

-- the counts so far are written
abbrev pub invariant-loop-cell : goal.invariant-loop-cell
invariant-loop-cell g l =
    IsPlainFormatter l.initial.f → HasWritten g.W.Write.write_str_gives l.initial.f (counts_text (take l.cell-index l.cells)) l.f
