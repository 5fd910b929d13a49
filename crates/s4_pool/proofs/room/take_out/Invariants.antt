use Rattle.std.proofs.Common.{◌≡◌, ◌+◌, vec_len, vec_capacity}
use Rattle.s4_closing.specs.Kept.{AreKept}
use Rattle.s4_closing.specs.Merged.{HaveWindow}
use Rattle.s4_pool.proofs.room.take_out.Given as goal

abbrev pub invariant-loop-lock : goal.invariant-loop-lock
invariant-loop-lock g l = (vec_len l.cells + vec_len l.locks ≡ vec_len l.initial.locks)
    × (vec_len l.books ≡ vec_len l.cells)
    × (vec_capacity l.cells ≡ vec_capacity l.initial.cells)
    × (vec_capacity l.books ≡ vec_capacity l.initial.books)
    × (vec_capacity l.locks ≡ vec_capacity l.initial.locks)
    × AreKept l.books.items l.cells.items
    × HaveWindow g.N.Names.window l.cells.items

abbrev pub decreases-loop-lock : goal.decreases-loop-lock
decreases-loop-lock g l = vec_len l.locks
