use Rattle.std.proofs.Common.{refl}
use Rattle.s4_names.specs.Drawn.{drawn_in}
use Rattle.s4_state.specs.Stands.{base_in, size_in, StandsFor}
use Rattle.s4_state.proofs.Reading.{current-held}
use Rattle.s4_state.proofs.Standing.{ends_then, stands_room, stands_end}
use Rattle.s4_state.proofs.Effects.{delete_ends, changed_lives}
use Rattle.s4_state.proofs.delete.apply.Given.{Over}
use Rattle.s4_state.proofs.delete.apply.Goals as goal
use Rattle.s4_state.proofs.delete.apply.Goals.{In_ok-reserve}

-- what is kept stands once there is room for the ends
ready : (g : Over) (c : In_ok-reserve g) → StandsFor (base_in c.args.parts.now) (size_in g.S.Store.chains c.args.parts.now) (g.S.Store.chains c.args.parts.now.store) c.reserve.new.self (drawn_in c.args.parts.now.names) c.args.parts.now.partitions c.args.parts.now.history.records
ready g c = stands_room c.requires.kept c.reserve.ensures.kept c.reserve.ensures.ends (c.reserve.ensures.holds (g.S.Store.chains c.args.parts.now.store) c.requires.kept.objects.holds)

pub end_all-requires-clause-current : goal.end_all-requires-clause-current
end_all-requires-clause-current g c w =
    current-held (ready g (goal.at.end_all-requires-clause-current g c).In_ok-reserve) c.args.object.now c.args.added.now.moment c.requires.next.later
    (changed_lives c.requires.kept.sound c.requires.next c.requires.granted c.args.object.now _ c.requires.asked refl) w

pub end_all-requires-clause-later : goal.end_all-requires-clause-later
end_all-requires-clause-later g c = ends_then (ready g (goal.at.end_all-requires-clause-later g c).In_ok-reserve) c.args.added.now.moment c.requires.next.later

pub returns-clause-ok : goal.returns-clause-ok
returns-clause-ok g c =
    let e = c.end_all.ensures in
    stands_end (ready g (goal.at.returns-clause-ok g c).In_ok-reserve) c.args.added.now c.requires.sound c.args.object.now
    (delete_ends c.requires.kept.sound c.requires.next c.requires.granted c.args.object.now c.requires.asked) e.holds e.kept e.held e.ends e.others e.leaves e.used
