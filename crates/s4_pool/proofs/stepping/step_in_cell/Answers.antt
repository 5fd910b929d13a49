use Rattle.std.proofs.Common.{ap, ◌∙◌}
use Rattle.s4_types.specs.Play.{is_no_memory}
use Rattle.s4_types.proofs.Outcomes.{is_no_memory-answer}
use Rattle.s4_types.specs.Log.{base_of}
use Rattle.s4_pool.proofs.stepping.step_in_cell.Goals as goal

pub returns-clause-told : goal.returns-clause-told
returns-clause-told g c =
    let cell = c.args.held.now.cell in
    ap is_no_memory c.in_ok-reply.ensures.reply ∙ is_no_memory-answer (base_of cell) cell.history c.max-moment.result c.args.caller c.args.request.now
