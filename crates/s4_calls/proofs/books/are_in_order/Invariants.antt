use Rattle.std.proofs.Common.{◌≡◌, ℕ, ◌<◌, length, get_or}
use Rattle.s4_calls.specs.Books.{BookState}
use Rattle.s4_calls.proofs.books.are_in_order.Given as goal

abbrev pub invariant-loop-cell : goal.invariant-loop-cell
invariant-loop-cell g l = (k : ℕ) (none : BookState g.row.T.Denot) → k < l.cell → k < length l.books → (get_or l.books k none).cell ≡ k
