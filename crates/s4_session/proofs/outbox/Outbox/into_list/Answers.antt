use Rattle.std.proofs.Common.{rules}
use Rattle.s4_session.proofs.Outboxes.{rising_list}
use Rattle.s4_session.proofs.outbox.Outbox.into_list.Goals as goal

pub returns-clause-rising : goal.returns-clause-rising
returns-clause-rising c = rising_list c.self.inside.sent.entries c.args.self c.collect.result c.self.view_is c.into_iter.ensures.into_iter_gives.5 (search rules)
