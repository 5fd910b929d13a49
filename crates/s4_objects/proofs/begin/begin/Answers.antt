use Rattle.std.proofs.Common.{arith}
use Rattle.s4_objects.specs.declared.kept.Which.TheVariants as which
use Rattle.s4_objects.proofs.Opening.{new_open, begins}
use Rattle.s4_objects.proofs.Using.{used_begun}
use Rattle.s4_objects.proofs.begin.begin.Goals as goal

pub begin-requires-clause-open : goal.begin-requires-clause-open
begin-requires-clause-open g c = new_open c.requires.opened.1 which.Data

pub begin-requires-2-clause-open : goal.begin-requires-2-clause-open
begin-requires-2-clause-open g c = c.begin.ensures.still _ (new_open c.requires.opened.1 which.Attributes)

pub begin-requires-3-clause-open : goal.begin-requires-3-clause-open
begin-requires-3-clause-open g c = c.begin-2.ensures.still _ (c.begin.ensures.still _ (new_open c.requires.opened.1 which.Acl))

pub returns-clause-begins : goal.returns-clause-begins
returns-clause-begins g c before creator opens first = begins opens c.args.moment creator _ _ _ _ _ _
    c.new.ensures c.new-2.ensures first
    c.begin.ensures.chains c.begin-2.ensures.chains c.begin-3.ensures.chains

pub returns-clause-used : goal.returns-clause-used
returns-clause-used g c =
    let first = used_begun _ _ _ _ c.begin.ensures.chains in
    let second = used_begun _ _ _ _ c.begin-2.ensures.chains in
    let third = used_begun _ _ _ _ c.begin-3.ensures.chains in
    omega (arith, first, second, third)
