use Rattle.std.proofs.Common.{ap, ◌∙◌}
use Rattle.s4_session.specs.Halls.{session_of}
use Rattle.s4_session.proofs.Numbers.{eq_is}
use Rattle.s4_session.proofs.sessions.Sessions.open.Goals as goal

pub returns-clause-others : goal.returns-clause-others
returns-clause-others c d apart = c.in_ok-insert.ensures.updates.2 d (eq_is c.args.conn d ∙ apart) ∙ ap (session_of d) c.self.view_is
