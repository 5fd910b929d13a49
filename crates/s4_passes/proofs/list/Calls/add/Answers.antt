use Rattle.std.proofs.Common.{◌∙◌, ap, ◌++◌, ◌∷◌, []}
use Rattle.s4_passes.specs.Tokens.{KeptCalls}
use Rattle.s4_passes.proofs.Pairing.{calls_of-push}
use Rattle.s4_passes.proofs.list.Calls.add.Goals as goal

pub returns-clause-calls : goal.returns-clause-calls
returns-clause-calls c =
    rw (c.push_back_reserved.ensures.items, c.push_back_reserved-2.ensures.items) (
    calls_of-push _ _ c.args.call.asked c.args.call.receipt c.self.invariant ∙ ap (λ (k : KeptCalls). k.calls ++ c.args.call ∷ []) c.self.view_is
    )
