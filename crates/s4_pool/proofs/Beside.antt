-- Books and cells side by side.
use Rattle.std.proofs.Common.{◌≡◌, ℕ, zero, suc, ◌<◌, ◌≤◌, min, List, [], ◌∷◌, ◌++◌, length, ap, sym, refl, ◌∙◌, arith}
use Rattle.std.specs.Prelude.{slice_index_or}
use Rattle.s4_types.specs.declared.record.Record.{Record}
use Rattle.s4_types.specs.Log.{Log, horizon_in}
use Rattle.s4_calls.specs.Books.{BookState, all_with, first_count}
use Rattle.s4_cells.specs.Many.{AllAdd, least_horizon}
use Rattle.s4_closing.specs.Kept.{AreKept}
use Rattle.s4_closing.specs.Merged.{HaveWindow}

pub kept_push : (books : List (BookState Record)) (cells : List Log) (b : BookState Record) (c : Log) → length books ≡ length cells
    → AreKept books cells → b.items ≡ c.history → AreKept (books ++ b ∷ []) (cells ++ c ∷ [])
kept_push [] [] b c even all at zero d x i j = at
kept_push [] [] b c even all at (suc k) d x i j = absurd (omega (arith, i))
kept_push [] (y ∷ cells) b c even all at k d x i j = absurd (omega (arith, even))
kept_push (y ∷ books) [] b c even all at k d x i j = absurd (omega (arith, even))
kept_push (y ∷ books) (z ∷ cells) b c even all at zero d x i j = all zero d x (omega arith) (omega arith)
kept_push (y ∷ books) (z ∷ cells) b c even all at (suc k) d x i j =
    kept_push books cells b c (omega (arith, even)) (λ m d x i j. all (suc m) d x (omega (arith, i)) (omega (arith, j))) at k d x (omega (arith, i)) (omega (arith, j))

pub window_push : (window : ℕ) (cells : List Log) (c : Log) → HaveWindow window cells → c.opened ≡ window → HaveWindow window (cells ++ c ∷ [])
window_push window [] c all at zero d i = at
window_push window [] c all at (suc k) d i = absurd (omega (arith, i))
window_push window (z ∷ cells) c all at zero d i = all zero d (omega arith)
window_push window (z ∷ cells) c all at (suc k) d i = window_push window cells c (λ m d i. all (suc m) d (omega (arith, i))) at k d (omega (arith, i))

-- the last of each, and those before
pub kept_last : (books : List (BookState Record)) (cells : List Log) (b : BookState Record) (c : Log) → length books ≡ length cells
    → AreKept (books ++ b ∷ []) (cells ++ c ∷ []) → (b.items ≡ c.history) × AreKept books cells
kept_last [] [] b c even all = (all 0 b c (omega arith) (omega arith), λ k d x i j. absurd (omega (arith, i)))
kept_last [] (y ∷ cells) b c even all = absurd (omega (arith, even))
kept_last (y ∷ books) [] b c even all = absurd (omega (arith, even))
kept_last (y ∷ books) (z ∷ cells) b c even all =
    let more = kept_last books cells b c (omega (arith, even)) (λ m d x i j. all (suc m) d x (omega (arith, i)) (omega (arith, j))) in
    (more.0, here more.1)
  where
    here : AreKept books cells → AreKept (y ∷ books) (z ∷ cells)
    here rest zero d x i j = all zero d x (omega arith) (omega arith)
    here rest (suc k) d x i j = rest k d x (omega (arith, i)) (omega (arith, j))

pub window_last : (window : ℕ) (cells : List Log) (c : Log) → HaveWindow window (cells ++ c ∷ []) → (c.opened ≡ window) × HaveWindow window cells
window_last window [] c all = (all 0 c (omega arith), λ k d i. absurd (omega (arith, i)))
window_last window (z ∷ cells) c all =
    let more = window_last window cells c (λ m d i. all (suc m) d (omega (arith, i))) in
    (more.0, here more.1)
  where
    here : HaveWindow window cells → HaveWindow window (z ∷ cells)
    here rest zero d i = all zero d (omega arith)
    here rest (suc k) d i = rest k d (omega (arith, i))

-- a record more in each cell and in each book
count_with : (r : Record) (books : List (BookState Record)) → length (all_with r books) ≡ length books
count_with r [] = refl
count_with r (b ∷ books) = let h = count_with r books in omega (arith, h)

at_with : (r : Record) (books : List (BookState Record)) (k : ℕ) (d : BookState Record) → k < length books
    → (slice_index_or (all_with r books) k d).items ≡ (slice_index_or books k d).items ++ r ∷ []
at_with r [] k d lt = absurd (omega (arith, lt))
at_with r (b ∷ books) zero d lt = refl
at_with r (b ∷ books) (suc k) d lt = at_with r books k d (omega (arith, lt))

pub kept_with : (r : Record) (books : List (BookState Record)) (old new : List Log) → AreKept books old → AllAdd r old new → AreKept (all_with r books) new
kept_with r books old new all adds k d x i j =
    let count = count_with r books in
    let here : k < length books = omega (arith, i, count) in
    let there : k < length old = omega (arith, j, adds.count) in
    at_with r books k d here ∙ ap (λ (l : List Record). l ++ r ∷ []) (all k d x here there) ∙ sym (ap (λ (c : Log). c.history) (adds.each k x there))

-- the first book has as many records as the first cell
pub first_kept : (books : List (BookState Record)) (cells : List Log) (none : Log) → 0 < length books → 0 < length cells → AreKept books cells
    → first_count 0 books ≡ length (slice_index_or cells 0 none).history
first_kept [] cells none some more all = absurd (omega (arith, some))
first_kept (b ∷ books) cells none some more all = ap (λ (l : List Record). length l) (all 0 b none some more)

-- the least horizon is not above the moment
pub least_below : (moment : ℕ) (cells : List Log) → least_horizon moment cells ≤ moment
least_below moment [] = omega arith
least_below moment (cell ∷ cells) = omega (arith, least_below (min moment (horizon_in cell)) cells)
