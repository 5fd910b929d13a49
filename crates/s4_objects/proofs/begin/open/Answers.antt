use Rattle.std.proofs.Common.{ap, ◌∙◌}
use Rattle.std.specs.FinMap as finmap
use Rattle.s4_store.specs.Chains.{items_of}
use Rattle.s4_store.specs.Laws.{items_here, remove-insert}
use Rattle.s4_objects.proofs.begin.open.Goals as goal

pub close-requires-clause-empty : goal.close-requires-clause-empty
close-requires-clause-empty g c =
    ap (λ m. items_of m c.in_ok-data.data) (c.in-Err.ensures.err ∙ c.in_ok-data.ensures.opened) ∙ items_here _ _ _

pub returns-in-Err-clause-err : goal.returns-in-Err-clause-err
returns-in-Err-clause-err g c =
    c.close.ensures.chains ∙ ap (λ m. finmap.remove m c.in_ok-data.data) (c.in-Err.ensures.err ∙ c.in_ok-data.ensures.opened)
    ∙ remove-insert _ _ _ c.in_ok-data.ensures.fresh
