use Rattle.s4_codec.proofs.Added.{bare_added}
use Rattle.s4_codec.proofs.put_replies.put_refusal.Goals as goal

pub returns-in-NoObject-clause-added : goal.returns-in-NoObject-clause-added
returns-in-NoObject-clause-added g c = bare_added (g.R.Room.items c.args.out.now) c.args.refusal.now c.in-NoObject.is

pub returns-in-Denied-clause-added : goal.returns-in-Denied-clause-added
returns-in-Denied-clause-added g c =
    let right = c.put_right.ensures.added in
    rw c.in-Denied.is (record { fits = right.fits; spelled = right.spelled })

pub returns-in-TooOld-clause-added : goal.returns-in-TooOld-clause-added
returns-in-TooOld-clause-added g c =
    let horizon = c.put_moment.ensures.added in
    rw c.in-TooOld.is (record { fits = horizon.fits; spelled = horizon.spelled })

pub returns-in-OverBudget-clause-added : goal.returns-in-OverBudget-clause-added
returns-in-OverBudget-clause-added g c = rw c.in-OverBudget.is c.put_over_budget.ensures.added
