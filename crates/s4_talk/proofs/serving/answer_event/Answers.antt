use Rattle.s4_talk.proofs.Laws.{Serves-request}
use Rattle.s4_talk.proofs.serving.answer_event.Goals as goal

pub returns-in-Request : goal.returns-in-Request
returns-in-Request g c =
    rw c.in-Request.is (Serves-request c.in-Request.caller c.in-Request.request c.answer-reply.result _ _ _ _ _ c.answer-reply.ensures.called c.put_reply.ensures.body c.put_reply.ensures.added)
