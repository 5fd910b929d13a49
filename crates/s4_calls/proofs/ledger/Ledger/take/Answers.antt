use Rattle.std.proofs.Common.{ap, sym, ◌∙◌}
use Rattle.s4_calls.specs.Tokens.{Known}
use Rattle.s4_calls.proofs.Moves.{gives_all}
use Rattle.s4_calls.proofs.ledger.Ledger.take.Goals as goal

pub split_seat-seat-requires : goal.split_seat-seat-requires
split_seat-seat-requires g c =
    let ledger = ap (λ (k : Known g.row.T.Denot). k.ledger) c.token.view_is ∙ (c.requires.ledger ∙ sym c.self.view_is) in
    let hands = ap (λ (k : Known g.row.T.Denot). k.hands) c.token.view_is in
    (ledger, c.self.invariant.0, gives_all _ _ _ _ _)
