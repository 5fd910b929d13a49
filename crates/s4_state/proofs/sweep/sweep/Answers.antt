use Rattle.std.proofs.Common.{ℕ, ◌≡◌, ◌+◌, ◌-◌, subst, arith}
use Rattle.s4_names.specs.Drawn.{drawn_in}
use Rattle.s4_types.specs.Counts.{made_count}
use Rattle.s4_state.specs.Stands.{base_in, size_in, StandsFor}
use Rattle.s4_state.proofs.Fitted.{ended_made}
use Rattle.s4_state.proofs.Keeping.{current_one}
use Rattle.s4_state.proofs.Beginning.{none-kept}
use Rattle.s4_state.proofs.Sweeping.{stands_expired, stands_unnamed, still_ended, freed_both, one_after_other}
use Rattle.s4_state.proofs.sweep.sweep.Given.{Over}
use Rattle.s4_state.proofs.sweep.sweep.Goals as goal
use Rattle.s4_state.proofs.sweep.sweep.Goals.{After-expire-arg-3-1}

none_more : (n m : ℕ) → n ≡ 0 → n + m ≡ m
none_more n m e = omega (arith, e)

-- what is kept stands once values of objects are freed
expired : (g : Over) (c : After-expire-arg-3-1 g) → StandsFor (base_in c.args.parts.now) (size_in g.S.Store.chains c.args.parts.now - c.expire-values.result) (g.S.Store.chains c.expire-values.new.store) c.expire-values.new.self (drawn_in c.args.parts.now.names)
    c.args.parts.now.partitions c.args.parts.now.history.records
expired g c =
    let e = c.expire-values.ensures in
    stands_expired c.requires.kept c.args.horizon c.requires.now c.expire-values.result c.args.most e.first e.holds e.kept e.held e.ends e.others e.leaves e.used

pub expire-bindings-requires-clause-holds : goal.expire-bindings-requires-clause-holds
expire-bindings-requires-clause-holds g c = (expired g c).partitions.holds

pub expire-bindings-requires-clause-waits : goal.expire-bindings-requires-clause-waits
expire-bindings-requires-clause-waits g c = (expired g c).partitions.waits

pub returns-clause-freed : goal.returns-clause-freed
returns-clause-freed g c =
    let before = c.args.parts.now in
    freed_both c.args.most _ _ c.expire-values.result c.expire-bindings.result _ _ (made_count before.history.records) (size_in g.S.Store.chains before) c.expire-values.ensures.freed c.expire-bindings.ensures.freed
    (still_ended c.requires.kept c.args.horizon c.requires.now) (ended_made c.requires.kept c.args.horizon) (none_more _ (made_count before.history.records) (current_one c.requires.kept.balance.keeps (none-kept before.start.opened)))

pub returns-clause-stands : goal.returns-clause-stands
returns-clause-stands g c =
    let before = c.args.parts.now in
    let e = c.expire-bindings.ensures in
    subst (λ size. StandsFor (base_in before) size (g.S.Store.chains c.expire-bindings.new.store) c.expire-values.new.self (drawn_in before.names) c.expire-bindings.new.self before.history.records)
    (one_after_other (size_in g.S.Store.chains before) c.expire-values.result c.expire-bindings.result)
    (stands_unnamed (expired g (goal.at.returns-clause-stands g c).After-expire-arg-3-1) c.args.horizon c.requires.now c.expire-bindings.result _ e.freed e.holds e.waits e.sweeps)
