use Rattle.std.proofs.Common.{◌≡◌}
use Rattle.s4_sockets.proofs.accepting.put.Given as goal

abbrev pub invariant-loop : goal.invariant-loop
invariant-loop g l = (l.seat ≡ l.initial.seat) × (l.job ≡ l.initial.job)
