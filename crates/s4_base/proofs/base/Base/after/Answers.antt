use Rattle.std.proofs.Common.{take, sym, ◌∙◌, subst, arith}
use Rattle.s4_types.specs.Play.{InOrder, UpTo}
use Rattle.s4_base.specs.Changes.{CanFollowAll}
use Rattle.s4_base.specs.Lists.{base_of_lists}
use Rattle.s4_base.proofs.Turning.{order-up}
use Rattle.s4_base.proofs.Cuts.{before-last, before-order, before-fits}
use Rattle.s4_base.proofs.base.Base.after.Goals as goal

pub count_before-early-requires : goal.count_before-early-requires
count_before-early-requires c = order-up 0 c.args.self.now.cut c.args.records.now.items (omega arith) c.requires.order

pub follow_first-requires-clause-order : goal.follow_first-requires-clause-order
follow_first-requires-clause-order c =
    subst (λ l. InOrder l.cut (take c.count_before-early.result c.args.records.now.items)) (sym (c.base.view_is ∙ c.in_ok-base.ensures))
    (subst (InOrder c.args.self.now.cut) (sym c.count_before-early.ensures.before) (before-order c.args.self.now.cut c.args.records.now.items c.args.cut c.requires.order))

pub follow_first-requires-clause-last : goal.follow_first-requires-clause-last
follow_first-requires-clause-last c = subst (UpTo c.args.cut) (sym c.count_before-early.ensures.before) (before-last c.args.records.now.items c.args.cut)

pub follow_first-requires-clause-fits : goal.follow_first-requires-clause-fits
follow_first-requires-clause-fits c =
    subst (λ l. CanFollowAll (base_of_lists l) (take c.count_before-early.result c.args.records.now.items)) (sym (c.base.view_is ∙ c.in_ok-base.ensures))
    (subst (CanFollowAll (base_of_lists c.args.self.now)) (sym c.count_before-early.ensures.before)
    (before-fits (base_of_lists c.args.self.now) c.args.records.now.items c.args.cut c.requires.order c.requires.fits))
