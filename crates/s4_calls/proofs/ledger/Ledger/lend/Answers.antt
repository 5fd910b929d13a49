use Rattle.std.proofs.Common.{ap, sym, ◌∙◌}
use Rattle.s4_calls.specs.Tokens.{Known}
use Rattle.s4_calls.proofs.Moves.{joins}
use Rattle.s4_calls.proofs.ledger.Ledger.lend.Goals as goal

pub join_seat-requires : goal.join_seat-requires
join_seat-requires g c =
    let ledger = ap (λ (k : Known g.row.T.Denot). k.ledger) c.reader.view_is ∙ (c.requires.ledger ∙ sym c.self.view_is) in
    (ledger, ap (λ (k : Known g.row.T.Denot). k.ledger) c.token.view_is ∙ (c.requires.ledger_lent ∙ sym c.self.view_is), c.token.invariant.0, c.self.invariant.0, joins _ _ _ _ _ _ _)
