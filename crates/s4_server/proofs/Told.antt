-- What a request that was served adds to the calls that are told.
use Rattle.std.proofs.Common.{◌≡◌, ℕ, Bool, true, false, cond, List, [], ◌∷◌, ◌++◌, refl, sym, ap, ◌∙◌, append-nil}
use Rattle.std.specs.Prelude.{MatchBool}
use Rattle.s4_types.specs.declared.principal.Caller.{Caller}
use Rattle.s4_types.specs.declared.request.Request as asked_for
use Rattle.s4_types.specs.declared.reply.Reply.{Reply}
use Rattle.s4_passes.specs.Calls.{CallList, call_of}
use Rattle.s4_passes.specs.Changes.{KeepsCalls}
use Rattle.s4_passes.specs.declared.call.Call as kept
use Rattle.s4_talk.specs.Calls.{Call}
use Rattle.s4_pool.specs.Serving.{Serves}
use Rattle.s4_server.specs.Desks.{call_told, calls_told}

told_append : (calls : List kept.Call) (call : kept.Call) → calls_told (calls ++ call ∷ []) ≡ calls_told calls ++ call_told call ∷ []
told_append [] call = refl
told_append (first ∷ calls) call = ap (λ rest. call_told first ∷ rest) (told_append calls call)

-- its call, or none where the reply is NoMemory
pub told_served : (refused : Bool) (old new : CallList) (caller : Caller) (clock : ℕ) (request : asked_for.Request) (reply : Reply)
    → MatchBool refused (KeepsCalls old new) (Serves old new caller clock request reply)
    → calls_told new.calls ≡ calls_told old.calls ++ cond refused [] (record { caller = caller; request = request; reply = reply } ∷ [])
told_served true old new caller clock request reply same = ap calls_told same.calls ∙ sym (append-nil (calls_told old.calls))
told_served false old new caller clock request reply served =
    let told : Reply → List Call = λ r. calls_told old.calls ++ record { caller = caller; request = request; reply = r } ∷ [] in
    ap calls_told served.adds.calls ∙ told_append old.calls (call_of (record { caller = caller; clock = clock; request = request }) served.receipt) ∙ ap told served.reply_is
