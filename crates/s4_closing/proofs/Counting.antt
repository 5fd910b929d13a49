-- No call is uncounted, since there is one log of all calls.
use Rattle.std.proofs.Common.{◌≡◌, ℕ, ◌+◌, ◌%◌, ◌==◌, ◌||◌, Bool, true, false, cond, List, [], ◌∷◌, ◌++◌, length, refl, sym, ap, ◌∙◌, arith}
use Rattle.std.specs.Prelude.{count_by}
use Rattle.std.proofs.lemmas.List.Sums.{sum_by-cons}
use Rattle.std.proofs.lemmas.List.Sorted.{sum_by-IsPermutation}
use Rattle.s4_types.specs.declared.record.Record.{Record}
use Rattle.s4_types.specs.Audit.{is_wide_record}
use Rattle.s4_types.specs.Log.{Log}
use Rattle.s4_merge_laws.specs.Cells.{is_in_cell, records_in}
use Rattle.s4_calls.specs.declared.hand.Noted.{Noted}
use Rattle.s4_calls.specs.Hands.{flat}
use Rattle.s4_calls.specs.Logs.{ArePlaced, items_of}
use Rattle.s4_passes.specs.Calls.{CallList}
use Rattle.s4_closing.specs.Closing.{AreLogged, NoneUncounted, names_cell, record_range}

-- a placed call counts in the cells that its record is one of
same_test : (cell m k : ℕ) (wide : Bool) → cell ≡ cond wide 0 m → (wide || (m == k)) ≡ (wide || (cell == k))
same_test cell m k true e = refl
same_test cell m k false e = ap (λ (c : ℕ). c == k) (sym e)

one_more : (a : ℕ) (x : Record) (xs : List Record) (p q : Bool) → p ≡ q → length xs ≡ a → length (cond p (x ∷ xs) xs) ≡ cond q 1 0 + a
one_more a x xs true q e i = rw (← e) (omega (arith, i))
one_more a x xs false q e i = rw (← e) (omega (arith, i))

-- 1 where the call counts in the cell
abbrev hit : ℕ → Noted Record → ℕ
hit k call = cond (names_cell k call) 1 0

hits : (n k : ℕ) (done : List Record) (log : List (Noted Record)) → ArePlaced is_wide_record record_range n done log → length (records_in n k (items_of log)) ≡ count_by (names_cell k) log
hits n k done [] placed = refl
hits n k done (c ∷ cs) placed =
    one_more (count_by (names_cell k) cs) c.item (records_in n k (items_of cs)) (is_in_cell n k c.item) (names_cell k c)
    (same_test c.cell (record_range c.item % n) k (is_wide_record c.item) placed.0)
    (hits n k (done ++ c.item ∷ []) cs placed.2)
    ∙ sym (sum_by-cons (hit k) c cs)

pub none_uncounted : (cells : List Log) (passes : List CallList) → AreLogged cells passes → NoneUncounted cells passes
none_uncounted cells passes is k none lt =
    ap (λ (h : List Record). length h) (is.ever k none lt)
    ∙ (hits (length cells) k [] is.log is.placed
    ∙ sym (sum_by-IsPermutation (hit k) is.log (flat (λ (p : CallList). p.ever) passes) is.even))
