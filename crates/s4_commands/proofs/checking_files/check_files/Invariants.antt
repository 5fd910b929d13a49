use Rattle.std.proofs.Common.{◌≤◌}
use Rattle.s4_commands.proofs.checking_files.check_files.Given as goal

-- no more files are bad than were looked at
abbrev pub invariant-loop-path : goal.invariant-loop-path
invariant-loop-path g l = l.bad ≤ l.path-index
