use Rattle.std.proofs.Common.{◌≡◌, ◌+◌, ◌<◌, ◌++◌, ◌∷◌, [], List, ℕ, length, take, sym, ap, subst, ◌∙◌, arith}
use Rattle.std.proofs.lemmas.List.{take_more}
use Rattle.s4_stream.specs.declared.event.Event.{Event}
use Rattle.s4_session.specs.Answered.{Answered}
use Rattle.s4_session.proofs.Answering.{answered_then}
use Rattle.s4_session.proofs.answer.answer_all.Goals as goal

pub loop-event-preserved : goal.loop-event-preserved
loop-event-preserved c =
    let i : ℕ = c.loop-event.event-index in
    let events : List Event = c.args.events.now in
    let within : i < length events = omega arith in
    let next : take (i + 1) events ≡ take i events ++ c.event-item.result ∷ []
    = take_more events i c.event-item.result within ∙ ap (λ (e : Event). take i events ++ e ∷ []) (sym c.event-item.is) in
    record {
      answered = subst (λ (es : List Event). Answered c.args.moment es c.args.drive.now c.answer.new.drive [] c.answer.new.out.items) (sym next)
          (answered_then c.args.moment (take i events) (c.event-item.result ∷ []) c.args.drive.now c.loop-event.drive c.answer.new.drive [] c.loop-event.sent.items c.answer.new.out.items
          c.loop-event.invariant.answered c.in_ok-answer.ensures.answered);
      last = c.answer.ensures.last;
    }
