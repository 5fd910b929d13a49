use Rattle.std.proofs.Common.{rules, ◌≡◌, Err, Some}
use Rattle.s4_asking.specs.Rehearsal.{CarriesSome}
use Rattle.s4_asking.specs.declared.fault.AskFault.{AskFault}
use Rattle.s4_asking.proofs.Carried.{rehearses_next, rehearses_some}
use Rattle.s4_asking.proofs.Turns.{some_fact, untold_exit}
use Rattle.s4_asking.proofs.rehearsal.rehearse.Goals as goal

pub returns-in_err-is_refusal-in-Ok-Some-clause-some :
    goal.returns-in_err-is_refusal-in-Ok-Some-clause-some
returns-in_err-is_refusal-in-Ok-Some-clause-some g c =
    let why : AskFault = c.in_err-is_refusal-in-Ok-Some.field-0.0 in
    let told : c.from_residual.result ≡ Err why = search rules in
    let exchanges = g.P.Peers.exchanges in
    let written = g.O.Write.contents in
    untold_exit c.from_residual.result why
    (CarriesSome (exchanges c.loop-before.peers) (exchanges c.carry_out.new.peers) (written c.loop-before.output) (written c.carry_out.new.output))
    _ told (λ some. rehearses_some _ _ _ _ _ _ _ _ _ _ _ c.loop-before.invariant some)
    c.in_err-is_refusal-in-Ok-Some.ensures.some

pub loop-before-preserved : goal.loop-before-preserved
loop-before-preserved g c =
    let found : c.in-Ok-Some.field-0 ≡ Some c.in-Ok-Some.line = search rules in
    rehearses_next _ _ _ _ _ _ _ _ _ _ _ _ _ _ _ c.in-Ok-Some.line.caller c.in-Ok-Some.line.request c.in-Ok-Some.line.wanted
    c.loop-before.invariant (some_fact _ _ _ found c.in-Ok-Some.ensures.line) c.in_ok-is_refusal-in-Ok-Some.ensures.done c.either-refused.ensures
