use Rattle.s4_codec.proofs.Added.{added_over_budget}
use Rattle.s4_codec.proofs.put_replies.put_over_budget.Goals as goal

pub returns-clause-added : goal.returns-clause-added
returns-clause-added g c = added_over_budget c.args.spent c.args.charge c.args.budget _ _ _ _ c.put_u32.ensures.added c.put_u32-2.ensures.added c.put_u32-3.ensures.added
