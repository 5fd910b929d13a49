use Rattle.std.proofs.Common.{ℕ, List, subst}
use Rattle.std.specs.Io.KnownBytes.{Appends}
use Rattle.s4_commands.proofs.calling.call_over.Goals as goal

pub returns-clause-all_sent : goal.returns-clause-all_sent
returns-clause-all_sent g c =
    subst (λ (m : List ℕ). Appends (g.W.Write.contents c.args.writer.now) (g.W.Write.contents c.call.new.writer) m) c.message.ensures c.in_ok-reply.ensures.all_sent
