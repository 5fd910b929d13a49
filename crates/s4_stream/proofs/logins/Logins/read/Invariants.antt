use Rattle.std.proofs.Common.{◌≡◌, ◌+◌, ◌≤◌, length}
use Rattle.std.specs.Prelude.{Ok}
use Rattle.s4_stream.specs.LoginText.{lines, table_of, table_in}
use Rattle.s4_stream.proofs.logins.Logins.read.Given as goal

abbrev pub invariant-loop-left : goal.invariant-loop-left
invariant-loop-left l = record {
  within : l.number + length l.left ≤ length l.text;
  so_far : table_of (l.number + 1) (Ok l.logins) (lines l.left) ≡ table_in l.text;
}

abbrev pub decreases-loop-left : goal.decreases-loop-left
decreases-loop-left l = length l.left
