use Rattle.std.proofs.Common.{◌≡◌, ◌∙◌, drop, length, ap, arith}
use Rattle.s4_passes.specs.Tokens.{KeptCalls}
use Rattle.s4_passes.proofs.Pairing.{drop-calls_of, length-calls_of}
use Rattle.s4_passes.proofs.list.Calls.forget.Goals as goal

-- there are as many receipts as calls
pub drain-requires-clause-in_bounds : goal.drain-requires-clause-in_bounds
drain-requires-clause-in_bounds c =
    let many = ap (λ (k : KeptCalls). length k.calls) c.self.view_is in
    omega (arith, many, length-calls_of c.self.inside.asked.items c.self.inside.receipts.items c.self.invariant, c.self.invariant, c.requires)

pub drain-requires-2-clause-in_bounds : goal.drain-requires-2-clause-in_bounds
drain-requires-2-clause-in_bounds c =
    let many = ap (λ (k : KeptCalls). length k.calls) c.self.view_is in
    omega (arith, many, length-calls_of c.self.inside.asked.items c.self.inside.receipts.items c.self.invariant, c.requires)

pub returns-clause-calls : goal.returns-clause-calls
returns-clause-calls c =
    let count = c.args.count in
    let asked : c.drop.new.self.0.items ≡ drop count c.self.inside.asked.items = c.drop.ensures.items ∙ c.drain.ensures.kept in
    let told : c.drop-2.new.self.0.items ≡ drop count c.self.inside.receipts.items = c.drop-2.ensures.items ∙ c.drain-2.ensures.kept in
    rw (asked, told) (
    drop-calls_of count c.self.inside.asked.items c.self.inside.receipts.items c.self.invariant ∙ ap (λ (k : KeptCalls). drop count k.calls) c.self.view_is
    )
