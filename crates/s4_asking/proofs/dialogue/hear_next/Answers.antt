use Rattle.std.proofs.Common.{rules, ◌≡◌, Err}
use Rattle.std.specs.Io.KnownBytes.{Keeps}
use Rattle.s4_asking.specs.Dialogue.{TellsSomeOn}
use Rattle.s4_asking.specs.declared.fault.AskFault.{AskFault}
use Rattle.s4_asking.proofs.Turns.{some_on, tells_on, untold_exit}
use Rattle.s4_asking.proofs.dialogue.hear_next.Goals as goal

pub returns-clause-on : goal.returns-clause-on
returns-clause-on g c = tells_on c.args.version _ _ _ _ _ _ _ _ _ c.in_ok-is_refusal.ensures.told c.tell.ensures.told c.tell.ensures.refused

pub returns-in_err-is_refusal-clause-some : goal.returns-in_err-is_refusal-clause-some
returns-in_err-is_refusal-clause-some g c =
    let why : AskFault = c.in_err-is_refusal.field-0.0 in
    let told : c.from_residual.result ≡ Err why = search rules in
    let before = g.O.Write.contents c.args.output.now in
    let after = g.O.Write.contents c.hear_told.new.output in
    untold_exit c.from_residual.result why (Keeps before after)
    (TellsSomeOn c.args.version (g.R.Read.remaining c.args.reader.now) before after c.args.ahead.now.told c.args.ahead.now.refused)
    told (λ kept. some_on c.args.version _ before after _ _ kept) c.in_err-is_refusal.ensures.kept
