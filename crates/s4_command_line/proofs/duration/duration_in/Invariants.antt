use Rattle.std.proofs.Common.{◌≡◌, ◌<◌, ◌^◌, drop}
use Rattle.s4_command_line.specs.Durations.{counted, fitting}
use Rattle.s4_command_line.proofs.duration.duration_in.Given as goal

abbrev pub invariant-loop-place : goal.invariant-loop-place
invariant-loop-place l = record {
  small : l.count < 2 ^ 64;
  rest : fitting (counted l.count (drop l.place l.word)) ≡ fitting (counted 0 l.word);
}
