-- How far each item's jump goes back. Items have numbers, from 1 on. The numbers up to `tree (suc k)` are those of
-- two trees of `tree k` numbers, side by side, and behind them one more, whose jump goes over all of them.
use Rattle.std.specs.Prelude.{ℕ, zero, suc, ◌+◌, ◌-◌, ◌*◌, ◌^◌, ◌==◌, nat_le, nat_lt, cond}

-- how many numbers a tree of that height has
unfoldable pub tree : ℕ → ℕ
tree zero = 0
tree (suc k) = 2 * tree k + 1

-- how far the jump at that number of a tree goes back
unfoldable pub span_in : ℕ → ℕ → ℕ
span_in zero n = 0
span_in (suc k) n = cond (nat_le n (tree k)) (span_in k n) (cond (n == 2 * tree k + 1) (2 * tree k + 1) (span_in k (n - tree k)))

-- The trees that the numbers of a tree up to that one make up, side by side, as the sum of a power of 2 for each: 2 ^ k
-- for one of `tree (suc k)` numbers that is the last, and 2 ^ k for each other one of `tree k` numbers.
unfoldable pub marks_in : ℕ → ℕ → ℕ
marks_in zero n = 0
marks_in (suc k) n = cond (nat_le n (tree k)) (marks_in k n) (cond (n == 2 * tree k + 1) (2 ^ k) (2 ^ k + marks_in k (n - tree k)))

-- those of the numbers up to that one
unfoldable pub marks_of : ℕ → ℕ
marks_of n = marks_in 64 n

-- how far the jump of the item with that number goes back
unfoldable pub span_of : ℕ → ℕ
span_of n = span_in 64 n

-- how far the jump of the item at an index goes back, where so many items were dropped before the oldest: below the
-- oldest, and so nowhere, where the item's number has more than 64 bits
abbrev pub span_at : ℕ → ℕ → ℕ
span_at first index = cond (nat_lt (first + index + 1) (2 ^ 64)) (span_of (first + index + 1)) (index + 1)

-- where a search goes on from an index: it goes as far back as it can without passing those that it looks for
abbrev pub next_index : ℕ → ℕ → ℕ → ℕ
next_index span wanted index = cond (nat_le (wanted + span) index) (index - span) (index - 1)
