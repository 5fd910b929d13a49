use Rattle.std.proofs.Common.{rules, ◌≡◌, ℕ, Some, List, subst, arith}
use Rattle.std.specs.Io.KnownBytes.{Appends}
use Rattle.s4_client.specs.Calls.{Begins}
use Rattle.s4_asking.proofs.Turns.{asks_broken, asks_next, asks_some, some_fact, tells_as}
use Rattle.s4_asking.proofs.dialogue.ask_on.Goals as goal

pub returns-in_err-hear_due-clause-sent : goal.returns-in_err-hear_due-clause-sent
returns-in_err-hear_due-clause-sent g c = asks_some c.args.version _ _ _ _ _ c.loop-asked.invariant.asks

pub returns-in_err-make_room-in-Ok-Some-clause-sent :
    goal.returns-in_err-make_room-in-Ok-Some-clause-sent
returns-in_err-make_room-in-Ok-Some-clause-sent g c = asks_some c.args.version _ _ _ _ _ c.loop-asked.invariant.asks

pub loop-asked-preserved : goal.loop-asked-preserved
loop-asked-preserved g c =
    let before = g.W.Write.contents c.loop-asked.writer in
    let after = g.W.Write.contents c.send.new.writer in
    let found : c.in-Ok-Some.field-0 ≡ Some c.in-Ok-Some.message = search rules in
    record {
      asks = asks_next c.args.version _ _ _ _ _ _ _ _ _ c.loop-asked.invariant.asks (some_fact _ _ _ found c.in-Ok-Some.ensures.message)
          (subst (λ (w : List ℕ). Appends before after w) c.as_slice.ensures.value c.in-Ok.ensures.all_sent)
          (omega (arith, c.ask.ensures.asked, c.in_ok-make_room-in-Ok-Some.ensures.asked, c.in_ok-hear_due.ensures.asked));
      tells = tells_as c.args.version _ _ _ _ _ _ _ _
          (c.in_ok-make_room-in-Ok-Some.ensures.on _ _ (c.in_ok-hear_due.ensures.on _ _ c.loop-asked.invariant.tells)) c.ask.ensures.told c.ask.ensures.refused;
      count = omega (arith, c.ask.ensures.asked, c.in_ok-make_room-in-Ok-Some.ensures.asked, c.in_ok-hear_due.ensures.asked, c.loop-asked.invariant.count);
    }

pub returns-in-Err-send-clause-sent : goal.returns-in-Err-send-clause-sent
returns-in-Err-send-clause-sent g c =
    let before = g.W.Write.contents c.loop-asked.writer in
    let after = g.W.Write.contents c.send.new.writer in
    let found : c.in-Ok-Some.field-0 ≡ Some c.in-Ok-Some.message = search rules in
    asks_broken c.args.version _ _ _ _ _ _ _ _ c.loop-asked.invariant.asks (some_fact _ _ _ found c.in-Ok-Some.ensures.message)
    (subst (λ (w : List ℕ). Begins before after w) c.as_slice.ensures.value c.send.ensures.sent)

pub returns-in-Ok-None-clause-sent : goal.returns-in-Ok-None-clause-sent
returns-in-Ok-None-clause-sent g c = asks_some c.args.version _ _ _ _ _ c.loop-asked.invariant.asks

pub returns-in-Err-clause-sent : goal.returns-in-Err-clause-sent
returns-in-Err-clause-sent g c = asks_some c.args.version _ _ _ _ _ c.loop-asked.invariant.asks

pub returns-clause-sent : goal.returns-clause-sent
returns-clause-sent g c = asks_some c.args.version _ _ _ _ _ c.loop-asked.invariant.asks
