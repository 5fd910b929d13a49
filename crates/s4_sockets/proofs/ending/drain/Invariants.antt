use Rattle.std.proofs.Common.{◌*◌}
use Rattle.s4_sockets.specs.Drains.{Drains}
use Rattle.s4_sockets.proofs.ending.drain.Given as goal

abbrev pub invariant-loop-done : goal.invariant-loop-done
invariant-loop-done g l = Drains (1024 * l.done) (g.R.Read.remaining l.initial.reader) (g.R.Read.remaining l.reader)
