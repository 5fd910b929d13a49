use Rattle.s4_session.proofs.Determining.{one_reply_each}
use Rattle.s4_session.proofs.laws.each_request_has_one_reply.Goals as goal

pub returns : goal.returns
returns c = one_reply_each
