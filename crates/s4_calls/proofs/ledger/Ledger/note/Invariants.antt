use Rattle.std.specs.Prelude.{Some}
use Rattle.s4_calls.proofs.ledger.Ledger.note.Given as goal

abbrev pub ghosts-note_as : goal.ghosts-note_as
ghosts-note_as g a = record { told = Some (g.A.Tells.item a.call.now) }
