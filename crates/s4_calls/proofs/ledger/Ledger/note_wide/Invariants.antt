use Rattle.std.specs.Prelude.{Some}
use Rattle.s4_calls.proofs.ledger.Ledger.note_wide.Given as goal

abbrev pub ghosts-note_wide_as : goal.ghosts-note_wide_as
ghosts-note_wide_as g a = record { told = Some (g.A.Tells.item a.call.now) }
