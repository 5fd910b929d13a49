use Rattle.std.proofs.Common.{◌∙◌}
use Rattle.s4_calls.proofs.Rows.{all_noted}
use Rattle.s4_calls.proofs.books.note_all.Goals as goal

pub returns-clause-calls : goal.returns-clause-calls
returns-clause-calls g c = c.note_rest.ensures.calls ∙ all_noted _ _ _ c.requires.caller
