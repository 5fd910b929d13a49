-- Who asks in a line.
use Rattle.std.proofs.Common.{◌≡◌, ℕ, Option, Some, List, ◌++◌, codes, sym, ap, ◌∙◌}
use Rattle.s4_types.specs.declared.principal.Caller.{Caller}
use Rattle.s4_types.specs.declared.principal.WireVersion.{WireVersion}
use Rattle.s4_types.specs.declared.record.Step.TheVariants as step
use Rattle.s4_types.specs.declared.request.Request.{Request}
use Rattle.s4_script.specs.declared.line.Line.{Line}
use Rattle.s4_script.specs.declared.line.Line.TheVariants as line
use Rattle.s4_script.specs.Readings.{line_in_text}
use Rattle.s4_stream.specs.LoginText.{before, behind}
use Rattle.s4_asking.specs.Spelling.{asked_in, asked_of, version_by}

-- what the line of a script asks that is made of a text is what the text asks
pub asked_found : (version other : WireVersion) (client moment : ℕ) (text : List ℕ) (caller : Caller) (request : Request) → other ≡ version_by version (behind 47 (before 32 text)) → line_in_text other (codes "0 " ++ text) ≡ Some (line.Step (step.Request moment caller request)) → asked_in version client text ≡ Some (record { caller = record caller { client = client }; request = request })
asked_found version other client moment text caller request same found =
    ap (λ (v : WireVersion). asked_of client (line_in_text v (codes "0 " ++ text))) (sym same) ∙ ap (λ (l : Option Line). asked_of client l) found
