use Rattle.std.proofs.Common.{◌≡◌, ◌+◌, vec_len, vec_capacity}
use Rattle.s4_closing.specs.Kept.{AreKept}
use Rattle.s4_closing.specs.Merged.{HaveWindow}
use Rattle.s4_pool.proofs.room.put_back.Given as goal

abbrev pub invariant-loop-cell : goal.invariant-loop-cell
invariant-loop-cell g l = (vec_len l.cells + vec_len l.locks ≡ vec_len l.initial.cells)
    × (vec_len l.books ≡ vec_len l.cells)
    × (vec_capacity l.cells ≡ vec_capacity l.initial.cells)
    × (vec_capacity l.books ≡ vec_capacity l.initial.books)
    × (vec_capacity l.locks ≡ vec_capacity l.initial.locks)
    × AreKept l.books.items l.cells.items
    × HaveWindow g.N.Names.window l.cells.items

abbrev pub decreases-loop-cell : goal.decreases-loop-cell
decreases-loop-cell g l = vec_len l.cells
