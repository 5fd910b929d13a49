use Rattle.std.proofs.Common.{◌≡◌, ◌+◌, sym, ap, subst, ◌∙◌}
use Rattle.std.specs.Prelude.{IfSome, OnOk, if◌then◌else◌}
use Rattle.s4_types.specs.declared.object.Purse.{Purse}
use Rattle.s4_types.specs.declared.object.ObjectId.{ObjectId}
use Rattle.s4_types.specs.Names.{same_purse}
use Rattle.s4_names.specs.Drawn.{drawn_in}
use Rattle.s4_state.specs.Stands.{base_in, size_in, StandsFor}
use Rattle.s4_state.proofs.Standing.{MakesOnly, unkept, stands_made}
use Rattle.s4_state.proofs.Effects.{create_makes, new_object}
use Rattle.s4_state.proofs.create.apply.Given.{Over}
use Rattle.s4_state.proofs.create.apply.Goals as goal
use Rattle.s4_state.proofs.create.apply.Goals.{After-object-1}

-- the object is the one that the record makes
next : (g : Over) (c : After-object-1 g) → c.unwrap-object.result ≡ new_object (base_in c.args.parts.now) c.args.parts.now.history.records c.args.added.now.moment c.args.added.now.caller c.args.number
next g c =
    let o : ObjectId = new_object (base_in c.args.parts.now) c.args.parts.now.history.records c.args.added.now.moment c.args.added.now.caller c.args.number in
    subst (λ x. IfSome x (λ p. p ≡ o)) c.unwrap-object.ensures c.next_object.ensures.some

only : (g : Over) (c : After-object-1 g) → MakesOnly (base_in c.args.parts.now) c.args.parts.now.history.records c.args.added.now c.unwrap-object.result
only g c = subst (MakesOnly (base_in c.args.parts.now) c.args.parts.now.history.records c.args.added.now) (sym (next g c)) (create_makes c.requires.next c.requires.granted c.args.number c.requires.asked)

pub create-requires-clause-fresh : goal.create-requires-clause-fresh
create-requires-clause-fresh g c = unkept c.requires.kept c.unwrap-object.result (only g c).next

pub returns-clause-ok : goal.returns-clause-ok
returns-clause-ok g c =
    let r = c.args.added.now in
    let before = c.args.parts.now in
    let o : ObjectId = c.unwrap-object.result in
    let s : StandsFor (base_in before) (size_in g.S.Store.chains before) (g.S.Store.chains c.reserve-2.new.self) before.objects (drawn_in before.names) before.partitions before.history.records
    = subst (λ m. StandsFor (base_in before) (size_in g.S.Store.chains before) m before.objects (drawn_in before.names) before.partitions before.history.records) (sym c.in_ok-reserve-2.ensures.chains) c.requires.kept in
    let e = c.in_ok-create.ensures in
    let at = (goal.at.returns-clause-ok g c).After-object-1 in
    let q : Purse = record { creator = r.caller.who; number = c.args.number } in
    let drawn : (p : Purse) → drawn_in c.draw-drawn.new.self p ≡ (if same_purse o.purse p then drawn_in c.reserve.new.self o.purse + 1 else drawn_in c.reserve.new.self p)
    = subst (λ (x : ObjectId). (p : Purse) → drawn_in c.draw-drawn.new.self p ≡ (if same_purse x.purse p then drawn_in c.reserve.new.self x.purse + 1 else drawn_in c.reserve.new.self p)) (sym (next g at))
    (subst (λ x. OnOk x ((p : Purse) → drawn_in c.draw-drawn.new.self p ≡ (if same_purse q p then drawn_in c.reserve.new.self q + 1 else drawn_in c.reserve.new.self p))) c.unwrap.ensures c.draw-drawn.ensures.drawn) in
    stands_made s r c.requires.sound o (only g at) e.holds e.kept e.held e.ends e.others e.leaves e.used
    (drawn_in c.draw-drawn.new.self)
    (λ p. drawn p
    ∙ ap (λ n. if same_purse o.purse p then n + 1 else drawn_in c.reserve.new.self p) (c.in_ok-reserve.ensures.drawn o.purse)
    ∙ ap (λ n. if same_purse o.purse p then drawn_in before.names o.purse + 1 else n) (c.in_ok-reserve.ensures.drawn p))
