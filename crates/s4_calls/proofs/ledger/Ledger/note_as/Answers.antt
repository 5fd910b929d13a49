use Rattle.std.specs.Prelude.{Option}
use Rattle.std.proofs.Common.{List, ap, sym, subst, ◌∙◌}
use Rattle.s4_calls.specs.declared.hand.Hand.{Hand}
use Rattle.atomic_table.specs.Seated.{TableId}
use Rattle.s4_calls.specs.Tokens.{Known, CanNote}
use Rattle.s4_calls.proofs.Moves.{notes}
use Rattle.s4_calls.proofs.ledger.Ledger.note_as.Goals as goal

pub load-requires : goal.load-requires
load-requires g c =
    let ledger = ap (λ (k : Known g.row.T.Denot). k.ledger) c.token.view_is ∙ (c.requires.ledger ∙ sym c.self.view_is) in
    let hands = ap (λ (k : Known g.row.T.Denot). k.hands) c.token.view_is in
    let cells = c.self.invariant.1 in
    let asked : CanNote g.T.Item.is_wide g.T.Item.range c.args.self.now.words g.W.Told.told c.args.token.now.hands = subst (λ (told : Option g.row.T.Denot). CanNote g.T.Item.is_wide g.T.Item.range c.args.self.now.words told c.args.token.now.hands) (sym c.requires.told) c.requires.item in
    let told : CanNote g.T.Item.is_wide g.T.Item.range c.args.self.now.words g.W.Told.told c.token.inside.seat.me.0 = subst (λ (l : List (Hand g.row.T.Denot)). CanNote g.T.Item.is_wide g.T.Item.range c.args.self.now.words g.W.Told.told l) (sym hands) asked in
    let here : CanNote g.T.Item.is_wide g.T.Item.range c.self.inside.table.shared.table_id.words g.W.Told.told c.token.inside.seat.me.0 = subst (λ (z : TableId). CanNote g.T.Item.is_wide g.T.Item.range z.words g.W.Told.told c.token.inside.seat.me.0) (sym c.self.view_is) told in
    (ledger, c.self.invariant.0, notes _ _ _ _ _ _ _ _ (subst (λ n. CanNote g.T.Item.is_wide g.T.Item.range n g.W.Told.told c.token.inside.seat.me.0) (sym cells) here) c.token.invariant.1)
