use Rattle.std.proofs.Common.{sym, subst}
use Rattle.s4_names.specs.Drawn.{drawn_in}
use Rattle.s4_state.specs.Stands.{base_in, size_in, StandsFor}
use Rattle.s4_state.proofs.Begun.{newest_began}
use Rattle.s4_state.proofs.Reading.{current-held}
use Rattle.s4_state.proofs.Standing.{ends_then, stands_room, stands_put}
use Rattle.s4_state.proofs.change.put.Given.{Over}
use Rattle.s4_state.proofs.change.put.Goals as goal
use Rattle.s4_state.proofs.change.put.Goals.{In_ok-reserve-2}

-- what is kept stands once there is room
ready : (g : Over) (c : In_ok-reserve-2 g) → StandsFor (base_in c.args.parts.now) (size_in g.S.Store.chains c.args.parts.now) (g.S.Store.chains c.reserve.new.self) c.reserve-2.new.self (drawn_in c.args.parts.now.names) c.args.parts.now.partitions c.args.parts.now.history.records
ready g c =
    let before = c.args.parts.now in
    let s : StandsFor (base_in before) (size_in g.S.Store.chains before) (g.S.Store.chains c.reserve.new.self) before.objects (drawn_in before.names) before.partitions before.history.records
    = subst (λ m. StandsFor (base_in before) (size_in g.S.Store.chains before) m before.objects (drawn_in before.names) before.partitions before.history.records) (sym c.in_ok-reserve.ensures.chains) c.requires.kept in
    stands_room s c.reserve-2.ensures.kept c.reserve-2.ensures.ends (c.reserve-2.ensures.holds (g.S.Store.chains c.reserve.new.self) s.objects.holds)

pub put-requires-clause-current : goal.put-requires-clause-current
put-requires-clause-current g c = current-held (ready g (goal.at.put-requires-clause-current g c).In_ok-reserve-2) c.args.object.now c.args.added.now.moment c.requires.next.later c.requires.lives c.args.which

pub put-requires-clause-later : goal.put-requires-clause-later
put-requires-clause-later g c = ends_then (ready g (goal.at.put-requires-clause-later g c).In_ok-reserve-2) c.args.added.now.moment c.requires.next.later

pub put-requires-clause-begun : goal.put-requires-clause-begun
put-requires-clause-begun g c = newest_began (ready g (goal.at.put-requires-clause-begun g c).In_ok-reserve-2) c.args.object.now c.args.added.now.moment c.requires.next.later c.requires.lives c.args.which

pub returns-clause-ok : goal.returns-clause-ok
returns-clause-ok g c =
    let e = c.put.ensures in
    stands_put (ready g (goal.at.returns-clause-ok g c).In_ok-reserve-2) c.args.added.now c.requires.sound c.args.object.now c.args.which c.args.item c.requires.puts e.holds e.kept e.held e.ends e.others e.leaves e.used
