use Rattle.std.proofs.Common.{ap, sym, ◌∙◌}
use Rattle.s4_calls.specs.Tokens.{Known}
use Rattle.s4_calls.proofs.Moves.{gives_first}
use Rattle.s4_calls.proofs.ledger.Ledger.give_back.Goals as goal

pub split_seat-seat-requires : goal.split_seat-seat-requires
split_seat-seat-requires g c =
    let ledger = ap (λ (k : Known g.row.T.Denot). k.ledger) c.reader.view_is ∙ (c.requires.ledger ∙ sym c.self.view_is) in
    (ledger, c.self.invariant.0, gives_first _ _ _ _ _)
