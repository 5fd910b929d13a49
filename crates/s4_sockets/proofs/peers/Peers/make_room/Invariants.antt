use Rattle.std.proofs.Common.{◌≡◌}
use Rattle.s4_sockets.proofs.peers.Peers.make_room.Given as goal

abbrev pub invariant-loop : goal.invariant-loop
invariant-loop g l = l.self.looked ≡ l.fn.self.looked
