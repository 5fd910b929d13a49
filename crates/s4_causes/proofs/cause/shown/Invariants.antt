use Rattle.std.proofs.Common.{◌≤◌, length}
use Rattle.s4_causes.proofs.cause.shown.Given as goal

-- each byte is shown as one
abbrev pub invariant-loop-byte : goal.invariant-loop-byte
invariant-loop-byte l = length l.text.items ≤ l.byte-index
