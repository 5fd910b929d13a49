use Rattle.std.proofs.Common.{ap, ◌∙◌}
use Rattle.s4_arena.specs.Links.{link_at}
use Rattle.s4_arena.proofs.Seats.{seat_newest}
use Rattle.s4_arena.proofs.reach.Ends+Leap+T.find.Goals as goal

pub returns-in-Some : goal.returns-in-Some
returns-in-Some g c =
    let cs = c.args.heap.now.cells in let e = c.args.self in
    let s = seat_newest cs c.args.chain e c.in-Some.newest c.requires.ends c.in-Some.is in
    ap (link_at cs e.oldest) c.if-index-self.true ∙ s.at
