use Rattle.std.proofs.Common.{Some, sym, ◌∙◌}
use Rattle.s4_arena.specs.Links.{node}
use Rattle.s4_arena.proofs.Seats.{seat, seat_before, has_before}
use Rattle.s4_arena.proofs.stop.Stop.older.Goals as goal

pub prev_link-requires : goal.prev_link-requires
prev_link-requires g c =
    let s = seat c.args.heap.now.cells c.args.chain c.args.ends c.args.self.index c.args.self.at c.requires.ends c.requires.within c.requires.stands in
    (node c.args.chain s.prev s.next (Some s.item), s.there)

pub unreachable-requires : goal.unreachable-requires
unreachable-requires g c =
    let cs = c.args.heap.now.cells in let e = c.args.ends in let n = c.args.chain in let i = c.args.self.index in
    let s = seat cs n e i c.args.self.at c.requires.ends c.requires.within c.requires.stands in
    has_before cs n e i c.args.self.at c.requires.ends c.requires.within c.requires.some s (sym c.prev_link.ensures ∙ c.in_default.is)

pub returns-clause-stands : goal.returns-clause-stands
returns-clause-stands g c =
    let cs = c.args.heap.now.cells in let e = c.args.ends in let n = c.args.chain in let i = c.args.self.index in
    let s = seat cs n e i c.args.self.at c.requires.ends c.requires.within c.requires.stands in
    (seat_before cs n e i c.args.self.at c.in-Some.at c.requires.ends c.requires.within c.requires.some s (sym c.prev_link.ensures ∙ c.in-Some.is)).at
