use Rattle.std.proofs.Common.{◌++◌, List, ℕ, ap, ◌∙◌}
use Rattle.s4_stream.specs.Talk.{reply_frame}
use Rattle.s4_session.proofs.Answering.{answered_request, step_last}
use Rattle.s4_session.proofs.answer.answer.Goals as goal

pub returns-in-Request-clause-answered : goal.returns-in-Request-clause-answered
returns-in-Request-clause-answered c =
    rw c.in-Request.is (answered_request c.args.moment c.in-Request.caller c.in-Request.request c.args.drive.now c.step-reply.new.self c.step-reply.result c.args.out.now.items c.put_reply.new.out.items
    (c.put_reply.ensures.added ∙ ap (λ (z : List ℕ). z ++ reply_frame c.in-Request.caller.version c.step-reply.result) c.reserve_answer.ensures.bytes) c.put_reply.ensures.body c.step-reply.ensures.steps)

pub returns-in-Request-clause-last : goal.returns-in-Request-clause-last
returns-in-Request-clause-last c =
    step_last c.args.moment c.in-Request.caller c.in-Request.request c.args.drive.now c.step-reply.new.self c.step-reply.result c.requires.later c.step-reply.ensures.steps
