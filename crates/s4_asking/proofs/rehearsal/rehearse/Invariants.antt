use Rattle.std.specs.Io.KnownBytes.{prepend_known}
use Rattle.s4_asking.specs.Rehearsal.{Rehearses}
use Rattle.s4_asking.proofs.rehearsal.rehearse.Given as goal

-- the lines that were taken are carried out
abbrev pub invariant-loop-before : goal.invariant-loop-before
invariant-loop-before g l = Rehearses l.version l.client (g.L.Read.remaining l.initial.input) (prepend_known l.held.items (g.L.Read.remaining l.input)) (g.P.Peers.exchanges l.initial.peers) (g.P.Peers.exchanges l.peers) (g.O.Write.contents l.initial.output) (g.O.Write.contents l.output) l.refused
