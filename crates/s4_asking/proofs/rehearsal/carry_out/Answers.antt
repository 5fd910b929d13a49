use Rattle.std.proofs.Common.{rules, ◌≡◌, ◌++◌, ◌∷◌, ℕ, List, [], Err, subst, ◌∙◌}
use Rattle.std.specs.Io.KnownBytes.{Appends, Keeps}
use Rattle.s4_asking.specs.Rehearsal.{CarriesSome, exchange}
use Rattle.s4_asking.specs.declared.fault.AskFault.{AskFault}
use Rattle.s4_asking.proofs.Carried.{carries_told, carries_unseen, carries_untold}
use Rattle.s4_asking.proofs.Turns.{untold_exit}
use Rattle.s4_asking.proofs.rehearsal.carry_out.Goals as goal

pub returns-in_default-clause-some : goal.returns-in_default-clause-some
returns-in_default-clause-some g c =
    carries_unseen _ _ _ (exchange c.args.line.now.caller c.args.line.now.request c.in-Ok.reply) c.in-Ok.ensures.reply

pub returns-in_err-tell-clause-some : goal.returns-in_err-tell-clause-some
returns-in_err-tell-clause-some g c =
    let why : AskFault = c.in_err-tell.field-0.0 in
    let told : c.from_residual.result ≡ Err why = search rules in
    let before = g.O.Write.contents c.args.output.now in
    let after = g.O.Write.contents c.tell.new.output in
    untold_exit c.from_residual.result why (Keeps before after)
    (CarriesSome (g.P.Peers.exchanges c.args.peers.now) (g.P.Peers.exchanges c.ask.new.self) before after)
    told (λ kept. carries_untold _ _ before after (exchange c.args.line.now.caller c.args.line.now.request c.in-Ok.reply) c.in-Ok.ensures.reply kept)
    c.in_err-tell.ensures.kept

pub returns-clause-some : goal.returns-clause-some
returns-clause-some g c =
    let before = g.O.Write.contents c.args.output.now in
    let after = g.O.Write.contents c.tell.new.output in
    carries_told _ _ before after (exchange c.args.line.now.caller c.args.line.now.request c.in-Ok.reply) c.in-Ok.ensures.reply
    (subst (λ (w : List ℕ). Appends before after (w ++ 10 ∷ [])) (c.as_slice.ensures.value ∙ c.in-Ok-text_of.ensures) c.in_ok-tell.ensures.told)
