use Rattle.std.specs.Prelude.{Option, true}
use Rattle.s4_calls.specs.Tokens.{ToldIs}
use Rattle.std.proofs.Common.{◌≡◌, ◌<◌, List, [], ap, sym, subst, ◌∙◌}
use Rattle.s4_calls.specs.declared.hand.Hand.{Hand}
use Rattle.atomic_table.specs.Seated.{TableId}
use Rattle.s4_calls.specs.Hands.{HaveParts}
use Rattle.s4_calls.specs.Tokens.{Known, IsRow}
use Rattle.s4_calls.proofs.Moves.{widens, all_held}
use Rattle.s4_calls.proofs.ledger.Ledger.note_wide_as.Goals as goal

pub load-requires : goal.load-requires
load-requires g c =
    let ledger = ap (λ (k : Known g.row.T.Denot). k.ledger) c.token.view_is ∙ (c.requires.ledger ∙ sym c.self.view_is) in
    let hands = ap (λ (k : Known g.row.T.Denot). k.hands) c.token.view_is in
    let cells = c.self.invariant.1 in
    let row : IsRow c.args.self.now.words c.token.inside.seat.me.0 = subst (λ (l : List (Hand g.row.T.Denot)). IsRow c.args.self.now.words l) (sym hands) c.requires.hands in
    let here : IsRow c.self.inside.table.shared.table_id.words c.token.inside.seat.me.0 = subst (λ (z : TableId). IsRow z.words c.token.inside.seat.me.0) (sym c.self.view_is) row in
    let some_cell : 0 < c.self.inside.table.shared.key = subst (λ n. 0 < n) (sym cells) c.self.invariant.0 in
    (ledger, c.self.invariant.0, widens _ _ _ _ _ _ _ _ some_cell (subst (λ n. IsRow n c.token.inside.seat.me.0) (sym cells) here) (subst (λ (told : Option g.row.T.Denot). ToldIs g.T.Item.is_wide true told) (sym c.requires.told) c.requires.wide) c.token.invariant.1)

pub invariant_of-token : goal.invariant_of-token
invariant_of-token g c = subst (λ m. (m.1 ≡ []) × HaveParts m.0) (sym c.load.ensures.2) (c.token.invariant.0, all_held g.T.Item.is_wide g.T.Item.range c.self.inside.table.shared.key g.W.Told.told c.token.inside.seat.me.0 c.token.invariant.1)
