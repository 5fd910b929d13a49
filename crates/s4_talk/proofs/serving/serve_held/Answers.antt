use Rattle.std.proofs.Common.{rules, [], Some, arith}
use Rattle.s4_stream.specs.Feeding.{TakesNext}
use Rattle.s4_talk.specs.Turning.{told}
use Rattle.s4_talk.proofs.Laws.{Takes-then, Takes-next, met_next}
use Rattle.s4_talk.proofs.serving.serve_held.Goals as goal

pub returns-then-len-ge-BYTES-clause-takes : goal.returns-then-len-ge-BYTES-clause-takes
returns-then-len-ge-BYTES-clause-takes g c =
    let logins = c.args.logins.now in
    let next : TakesNext logins c.loop-served.session c.next.new.self (Some c.in-Some.event) = search rules in
    Takes-then logins [] [] _ _ _ (told c.args.session.now c.args.fault.now c.args.waiting.now.items) (told c.loop-served.session c.loop-served.fault c.loop-served.waiting.items)
    (told c.next.new.self c.answer_event.new.fault c.answer_event.new.waiting.items) c.loop-served.invariant.takes
    (Takes-next logins _ _ c.loop-served.session c.next.new.self c.loop-served.fault c.answer_event.new.fault c.loop-served.waiting.items c.answer_event.new.waiting.items c.in-Some.event next
    (rw c.in_ok-event.ensures.out at c.answer_event.ensures))

pub returns-then-len-ge-BYTES-clause-met : goal.returns-then-len-ge-BYTES-clause-met
returns-then-len-ge-BYTES-clause-met g c =
    let next : TakesNext c.args.logins.now c.loop-served.session c.next.new.self (Some c.in-Some.event) = search rules in
    met_next c.args.logins.now c.loop-served.session c.next.new.self c.loop-served.fault c.answer_event.new.fault c.in-Some.event c.loop-served.invariant.met next c.answer_event.ensures.faulted

pub loop-served-preserved : goal.loop-served-preserved
loop-served-preserved g c =
    let logins = c.args.logins.now in
    let next : TakesNext logins c.loop-served.session c.next.new.self (Some c.in-Some.event) = search rules in
    record {
      met = met_next logins c.loop-served.session c.next.new.self c.loop-served.fault c.answer_event.new.fault c.in-Some.event c.loop-served.invariant.met next c.answer_event.ensures.faulted;
      takes = Takes-then logins [] [] _ _ _ (told c.args.session.now c.args.fault.now c.args.waiting.now.items) (told c.loop-served.session c.loop-served.fault c.loop-served.waiting.items)
          (told c.next.new.self c.answer_event.new.fault c.answer_event.new.waiting.items) c.loop-served.invariant.takes
          (Takes-next logins _ _ c.loop-served.session c.next.new.self c.loop-served.fault c.answer_event.new.fault c.loop-served.waiting.items c.answer_event.new.waiting.items c.in-Some.event next
          (rw c.in_ok-event.ensures.out at c.answer_event.ensures));
      none = λ e. absurd (omega (arith, e));
    }
