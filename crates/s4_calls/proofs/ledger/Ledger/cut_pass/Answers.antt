use Rattle.std.proofs.Common.{List, ap, sym, subst, ◌∙◌}
use Rattle.s4_calls.specs.declared.hand.Hand.{Hand}
use Rattle.s4_calls.specs.Tokens.{Known, CanCutPass}
use Rattle.s4_calls.proofs.Moves.{cuts_pass}
use Rattle.s4_calls.proofs.ledger.Ledger.cut_pass.Goals as goal

pub split_seat-seat-requires : goal.split_seat-seat-requires
split_seat-seat-requires g c =
    let ledger = ap (λ (k : Known g.row.T.Denot). k.ledger) c.token.view_is ∙ (c.requires.ledger ∙ sym c.self.view_is) in
    let hands = ap (λ (k : Known g.row.T.Denot). k.hands) c.token.view_is in
    (ledger, c.self.invariant.0, cuts_pass _ _ _ _ _ (subst (λ (l : List (Hand g.row.T.Denot)). CanCutPass l) (sym hands) c.requires.parts))
