use Rattle.std.specs.Io.KnownBytes.{Keeps, prepend_known}
use Rattle.s4_asking.proofs.line_reader.next_line.Given as goal

-- what is left stays as it was
abbrev pub invariant-loop : goal.invariant-loop
invariant-loop g l = Keeps (prepend_known l.initial.held.items (g.L.Read.remaining l.initial.input)) (prepend_known l.held.items (g.L.Read.remaining l.input))
