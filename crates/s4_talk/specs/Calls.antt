-- What an answer was asked, and what it replied.
use Rattle.std.specs.Prelude.{List, [], ◌∷◌, ◌++◌, cond}
use Rattle.s4_types.specs.declared.principal.Caller.{Caller}
use Rattle.s4_types.specs.declared.request.Request as asked
use Rattle.s4_types.specs.declared.reply.Reply.{Reply}
use Rattle.s4_types.specs.Play.{is_no_memory}
use Rattle.s4_stream.specs.declared.event.Event.{Event}
use Rattle.s4_stream.specs.declared.event.Event.TheVariants.{Welcome, Request, Fault}

-- a request that was carried out
pub record Call : Type 0 where
  pub caller : Caller
  pub request : asked.Request
  pub reply : Reply

-- the call that a request with this reply is: none where the reply is NoMemory
abbrev pub call_made : Caller → asked.Request → Reply → List Call
call_made caller request reply = cond (is_no_memory reply) [] (record { caller = caller; request = request; reply = reply } ∷ [])

-- the calls of events whose requests have these replies, in order and each once
abbrev pub calls_for : List Event → List Reply → List Call
calls_for [] replies = []
calls_for (Welcome caller ∷ events) replies = calls_for events replies
calls_for (Request caller r ∷ events) [] = []
calls_for (Request caller r ∷ events) (x ∷ replies) = call_made caller r x ++ calls_for events replies
calls_for (Fault f ∷ events) replies = calls_for events replies
