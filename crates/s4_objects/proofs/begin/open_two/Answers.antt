use Rattle.std.proofs.Common.{ap, ◌∙◌}
use Rattle.std.specs.FinMap as finmap
use Rattle.s4_store.specs.Chains.{items_of}
use Rattle.s4_store.specs.Laws.{items_here, remove-insert}
use Rattle.s4_objects.proofs.begin.open_two.Goals as goal

pub close-requires-clause-empty : goal.close-requires-clause-empty
close-requires-clause-empty g c =
    ap (λ m. items_of m c.in_ok-first.first) (c.in-Err.ensures.refused ∙ c.in_ok-first.ensures.opened) ∙ items_here _ _ _

pub returns-in-Err-clause-err : goal.returns-in-Err-clause-err
returns-in-Err-clause-err g c =
    c.close.ensures.chains ∙ ap (λ m. finmap.remove m c.in_ok-first.first) (c.in-Err.ensures.refused ∙ c.in_ok-first.ensures.opened)
    ∙ remove-insert _ _ _ c.in_ok-first.ensures.fresh
