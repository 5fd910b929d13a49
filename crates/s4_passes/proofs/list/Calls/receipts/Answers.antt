use Rattle.std.proofs.Common.{sym, ◌∙◌, ap}
use Rattle.s4_passes.specs.Calls.{receipts_of}
use Rattle.s4_passes.specs.Tokens.{KeptCalls}
use Rattle.s4_passes.proofs.Pairing.{receipts_of-calls_of}
use Rattle.s4_passes.proofs.list.Calls.receipts.Goals as goal

pub returns : goal.returns
returns c = sym (receipts_of-calls_of _ _ c.self.invariant) ∙ ap (λ (k : KeptCalls). receipts_of k.calls) c.self.view_is
