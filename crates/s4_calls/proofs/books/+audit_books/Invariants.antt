use Rattle.std.proofs.Common.{length}
use Rattle.s4_calls.proofs.books.+audit_books.Given as goal

abbrev pub decreases-audit_books : goal.decreases-audit_books
decreases-audit_books g a = length a.books.now
