use Rattle.s4_cells.proofs.SameAnswer.{answer_of_each}
use Rattle.s4_cells.proofs.Counting.{counts_more}
use Rattle.s4_cells.proofs.all_cells.wide_with_copy.Goals as goal

pub returns-clause-reply : goal.returns-clause-reply
returns-clause-reply c = answer_of_each c.args.cells.now c.args.moment c.args.caller c.args.request.now c.step_all.result.reply c.requires.wide c.step_all.ensures.reply

pub returns-clause-counts : goal.returns-clause-counts
returns-clause-counts c = counts_more _ _ _ _ c.make_ready.ensures.stay c.step_all.ensures.adds
