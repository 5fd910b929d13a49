use Rattle.std.proofs.Common.{◌++◌, ℕ, List, drop, sym, ap, ◌∙◌}
use Rattle.std.proofs.lemmas.List.{take-append-drop}
use Rattle.s4_causes.proofs.system.without_number.Goals as goal

pub returns-in-Some : goal.returns-in-Some
returns-in-Some c =
    let cut = c.in-Some.ensures.cases in
    let rest : List ℕ = drop cut.0 c.args.text.now in
    (rest, sym (take-append-drop cut.0 c.args.text.now) ∙ ap (λ (front : List ℕ). front ++ rest) (sym cut.3))
