use Rattle.std.proofs.Common.{length}
use Rattle.s4_calls.proofs.books.+note_rest.Given as goal

abbrev pub decreases-note_rest : goal.decreases-note_rest
decreases-note_rest g a = length a.books.now
