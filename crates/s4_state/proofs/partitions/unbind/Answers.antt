use Rattle.s4_state.proofs.Binding.{stands_unbound, bound_before, binding_began, later_then}
use Rattle.s4_state.proofs.partitions.unbind.Goals as goal

pub unbind-requires-clause-bound : goal.unbind-requires-clause-bound
unbind-requires-clause-bound g c = bound_before c.requires.kept c.requires.next c.requires.granted c.args.purse.now c.args.name.now c.requires.asked

pub unbind-requires-clause-later : goal.unbind-requires-clause-later
unbind-requires-clause-later g c = later_then c.requires.kept c.requires.next c.requires.granted

pub unbind-requires-clause-begun : goal.unbind-requires-clause-begun
unbind-requires-clause-begun g c =
    binding_began c.requires.kept c.args.purse.now c.args.name.now c.args.added.now.moment c.requires.next.later
    (bound_before c.requires.kept c.requires.next c.requires.granted c.args.purse.now c.args.name.now c.requires.asked)

pub returns-clause-stands : goal.returns-clause-stands
returns-clause-stands g c =
    stands_unbound c.requires.kept c.requires.next c.requires.granted c.args.purse.now c.args.name.now c.requires.asked c.requires.sound
    (g.S.Store.chains c.unbind.new.store) c.unbind.new.self c.unbind.ensures.holds c.unbind.ensures.waits c.unbind.ensures.waiting c.unbind.ensures.others c.unbind.ensures.own c.unbind.ensures.names c.unbind.ensures.bindings c.unbind.ensures.leaves c.unbind.ensures.used
