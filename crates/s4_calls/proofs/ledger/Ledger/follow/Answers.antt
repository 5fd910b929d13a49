use Rattle.std.proofs.Common.{List, ap, sym, subst, ◌∙◌}
use Rattle.s4_calls.specs.declared.hand.Hand.{Hand}
use Rattle.s4_calls.specs.Tokens.{Known, CanFollow, SecondIsPrefix}
use Rattle.s4_calls.proofs.Moves.{follows}
use Rattle.s4_calls.proofs.ledger.Ledger.follow.Goals as goal

pub load-requires : goal.load-requires
load-requires g c =
    let ledger = ap (λ (k : Known g.row.T.Denot). k.ledger) c.reader.view_is ∙ (c.requires.ledger ∙ sym c.self.view_is) in
    let hands = ap (λ (k : Known g.row.T.Denot). k.hands) c.reader.view_is in
    (ledger, c.self.invariant.0, follows _ _ _ _ _ _ _ (subst (λ (l : List (Hand g.row.T.Denot)). CanFollow l) (sym hands) c.requires.hands))
