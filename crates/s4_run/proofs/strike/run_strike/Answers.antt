use Rattle.std.proofs.Common.{ℕ, List, Option, Some, subst}
use Rattle.s4_script.specs.Lines.{lines}
use Rattle.s4_run.specs.Scripts.{ReadsScript}
use Rattle.s4_run.specs.Struck.{WritesStruck}
use Rattle.s4_run.specs.declared.strike.Script.{Script}
use Rattle.s4_run.proofs.Reading.{if_some, on_ok, struck_of_lines}
use Rattle.s4_run.proofs.strike.run_strike.Goals as goal

pub returns-in-Some : goal.returns-in-Some
returns-in-Some g c =
    let who : ℕ = c.args.who in
    let items : List ℕ = c.in_ok-text.text.items in
    let script : Script = c.in-Some.script in
    let same : ReadsScript who (lines items) c.in_ok-script.field-0 = subst (λ (t : List ℕ). ReadsScript who (lines t) c.in_ok-script.field-0) c.deref.ensures.value c.in_ok-script.ensures in
    let reads : ReadsScript who (lines items) (Some script) = subst (λ (o : Option Script). ReadsScript who (lines items) o) c.in-Some.is same in
    record {
      written = on_ok c.write_struck.result _ _ (λ written.
          if_some (g.R.Read.remaining c.args.reader) items
          (λ text. WritesStruck who (lines text) (g.W.Write.contents c.args.writer.now) (g.W.Write.contents c.write_struck.new.writer))
          c.in_ok-text.ensures.whole
          (record { text = _; is = struck_of_lines who (lines items) script reads; written = written }))
          c.write_struck.ensures.written;
    }
