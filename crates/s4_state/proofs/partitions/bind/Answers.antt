use Rattle.std.proofs.Common.{sym, ap, subst, ◌∙◌}
use Rattle.std.specs.Prelude.{Result, Ok, Err, OnErr}
use Rattle.s4_names.specs.Drawn.{drawn_in}
use Rattle.s4_tracks.specs.Chain.{current_of}
use Rattle.s4_parts.specs.Table.{object_of}
use Rattle.s4_parts.specs.Waiting.{all_by}
use Rattle.s4_state.specs.Stands.{base_in, size_in, StandsFor}
use Rattle.s4_state.proofs.Binding.{GivesRoom, stands_roomless, stands_bound, unbound_before, later_then}
use Rattle.s4_state.proofs.partitions.bind.Given.{Over}
use Rattle.s4_state.proofs.partitions.bind.Goals as goal
use Rattle.s4_state.proofs.partitions.bind.Goals.{In_ok-reserve, In_ok-reserve-2}

-- what is kept stands once there is room in the store
stored : (g : Over) (c : In_ok-reserve g) → StandsFor (base_in c.args.parts.now) (size_in g.S.Store.chains c.args.parts.now) (g.S.Store.chains c.reserve.new.self) c.args.parts.now.objects (drawn_in c.args.parts.now.names) c.args.parts.now.partitions c.args.parts.now.history.records
stored g c =
    let before = c.args.parts.now in
    subst (λ m. StandsFor (base_in before) (size_in g.S.Store.chains before) m before.objects (drawn_in before.names) before.partitions before.history.records) (sym c.in_ok-reserve.ensures.chains) c.requires.kept

-- and then the name is given room
room : (g : Over) (c : In_ok-reserve-2 g) → GivesRoom (g.S.Store.chains c.reserve.new.self) (g.S.Store.chains c.reserve-2.new.store) c.args.parts.now.partitions c.reserve-2.new.self c.args.object.now.purse c.args.name.now
room g c =
    let e = c.in_ok-reserve-2.ensures in
    record { waiting = e.waiting; names = e.names; bindings = e.bindings; others = e.others; still = e.still; own = e.own; asked = e.asked; leaves = e.leaves; used = e.used }

pub bind-requires-clause-unbound : goal.bind-requires-clause-unbound
bind-requires-clause-unbound g c =
    ap (λ vs. object_of (current_of vs)) (c.in_ok-reserve-2.ensures.bindings c.args.object.now.purse c.args.name.now)
    ∙ unbound_before (stored g (goal.at.bind-requires-clause-unbound g c).In_ok-reserve) c.requires.next c.requires.granted c.args.name.now c.args.object.now c.requires.asked

pub bind-requires-clause-later : goal.bind-requires-clause-later
bind-requires-clause-later g c =
    ap (all_by c.args.added.now.moment) c.in_ok-reserve-2.ensures.waiting ∙ later_then (stored g (goal.at.bind-requires-clause-later g c).In_ok-reserve) c.requires.next c.requires.granted

pub returns-clause-ok : goal.returns-clause-ok
returns-clause-ok g c =
    let at = goal.at.returns-clause-ok g c in
    let e = c.bind.ensures in
    stands_bound (stored g at.In_ok-reserve) c.requires.next c.requires.granted c.args.name.now c.args.object.now c.requires.asked c.requires.sound (room g at.In_ok-reserve-2)
    (g.S.Store.chains c.bind.new.store) c.bind.new.self e.holds e.waits e.waiting e.others e.own e.names e.bindings e.leaves e.used

on_err : {A E P : Type 0} (r : Result A E) → P → OnErr r P
on_err (Ok x) p = tt
on_err (Err x) p = p

pub returns-in_err-reserve-2-clause-err : goal.returns-in_err-reserve-2-clause-err
returns-in_err-reserve-2-clause-err g c =
    let e = c.reserve-2.ensures in
    on_err _ (stands_roomless (stored g (goal.at.returns-in_err-reserve-2-clause-err g c).In_ok-reserve)
    (g.S.Store.chains c.reserve-2.new.store) c.reserve-2.new.self e.holds e.waits e.waiting e.names e.bindings e.others e.still c.in_err-reserve-2.ensures.refused e.leaves e.used)
