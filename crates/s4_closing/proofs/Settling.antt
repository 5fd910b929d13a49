-- From what all tokens together know to one log of all calls.
use Rattle.std.proofs.Common.{◌≡◌, ℕ, zero, suc, ◌+◌, ◌-◌, ◌<◌, ◌≤◌, List, [], ◌∷◌, ◌++◌, length, refl, sym, ap, subst, ◌∙◌, append-nil, append_assoc, arith}
use Rattle.std.specs.Prelude.{IsPermutation, Some, slice_get, slice_index_or}
use Rattle.std.proofs.lemmas.List.Sorted.{IsPermutation-refl, IsPermutation-trans}
use Rattle.s4_types.specs.declared.record.Record.{Record}
use Rattle.s4_types.specs.Audit.{is_wide_record}
use Rattle.s4_types.specs.Log.{Log}
use Rattle.s4_calls.specs.declared.hand.Hand.{Hand}
use Rattle.s4_calls.specs.declared.hand.Noted.{Noted}
use Rattle.s4_calls.specs.Books.{AreInOrder, BookState, with_books}
use Rattle.s4_calls.specs.Hands.{Each, calls_of, flat, of_cell, of_pass, parts_of, shares_of}
use Rattle.s4_calls.specs.Logs.{IsSublist, items_in, items_of}
use Rattle.s4_calls.specs.Rule.{AreSublists, HasItems, HaveItems, IsLinearized}
use Rattle.s4_calls.proofs.Flats.{past}
use Rattle.s4_passes.specs.Calls.{AllKeepLast, CallList}
use Rattle.s4_passes.specs.Tokens.{with_passes}
use Rattle.s4_closing.specs.Kept.{AreKept, IsRest}
use Rattle.s4_closing.specs.Closing.{AreLogged, record_range}

-- all calls that were ever made with the passes
abbrev ever_of : List CallList → List (Noted Record)
ever_of passes = flat (λ (p : CallList). p.ever) passes

books_shares : (books : List (BookState Record)) (hands : List (Hand Record)) → shares_of (with_books books hands) ≡ length books + shares_of hands
books_shares [] hands = omega arith
books_shares (b ∷ books) hands = let i = books_shares books (of_cell b.cell b.items ∷ hands) in omega arith

passes_shares : (passes : List CallList) (hands : List (Hand Record)) → shares_of (with_passes passes hands) ≡ shares_of hands
passes_shares [] hands = refl
passes_shares (p ∷ passes) hands = let i = passes_shares passes (of_pass p.ever ∷ hands) in omega arith

books_calls : (books : List (BookState Record)) (hands : List (Hand Record)) → calls_of (with_books books hands) ≡ calls_of hands
books_calls [] hands = refl
books_calls (b ∷ books) hands = books_calls books (of_cell b.cell b.items ∷ hands)

passes_calls : (passes : List CallList) (hands : List (Hand Record)) → IsPermutation (calls_of (with_passes passes hands)) (ever_of passes ++ calls_of hands)
passes_calls [] hands = IsPermutation-refl _
passes_calls (p ∷ passes) hands =
    IsPermutation-trans _ _ _ (passes_calls passes (of_pass p.ever ∷ hands))
    (subst (λ l. IsPermutation (ever_of passes ++ (p.ever ++ calls_of hands)) l) (sym (append_assoc p.ever (ever_of passes) (calls_of hands)))
    (past (ever_of passes) p.ever (calls_of hands)))

from_books : (P : Hand Record → Type 0) (books : List (BookState Record)) (hands : List (Hand Record)) → Each P (with_books books hands) → Each P hands
from_books P [] hands e = e
from_books P (b ∷ books) hands e = (from_books P books (of_cell b.cell b.items ∷ hands) e).1

from_passes : (P : Hand Record → Type 0) (passes : List CallList) (hands : List (Hand Record)) → Each P (with_passes passes hands) → Each P hands
from_passes P [] hands e = e
from_passes P (p ∷ passes) hands e = (from_passes P passes (of_pass p.ever ∷ hands) e).1

-- the log has the calls of each pass in their order
in_order : (log : List (Noted Record)) (passes : List CallList) (hands : List (Hand Record)) → AreSublists log (with_passes passes hands)
    → (i : ℕ) (pass : CallList) → slice_get passes i ≡ Some pass → IsSublist pass.ever log
in_order log [] hands o i pass at = cc
in_order log (p ∷ passes) hands o zero pass at = let same : p ≡ pass = cc in subst (λ (q : CallList). IsSublist q.ever log) same (from_passes _ passes (of_pass p.ever ∷ hands) o).0
in_order log (p ∷ passes) hands o (suc i) pass at = in_order log passes (of_pass p.ever ∷ hands) o i pass at

abbrev items_at : ℕ → ℕ → List (Noted Record) → List Record
items_at n k log = items_in is_wide_record record_range n k (items_of log)

-- of the cell of each book the log has what the book has
of_book : (n : ℕ) (log : List (Noted Record)) (books : List (BookState Record)) (hands : List (Hand Record)) → HaveItems is_wide_record record_range n log (with_books books hands)
    → (k : ℕ) (none : BookState Record) → k < length books → (slice_index_or books k none).items ≡ items_at n (slice_index_or books k none).cell log
of_book n log [] hands each k none lt = absurd (omega (arith, lt))
of_book n log (b ∷ books) hands each zero none lt =
    (from_books (HasItems is_wide_record record_range n log) books (of_cell b.cell b.items ∷ hands) each).0 b.cell (omega arith) (omega arith)
of_book n log (b ∷ books) hands each (suc k) none lt = of_book n log books (of_cell b.cell b.items ∷ hands) each k none (omega (arith, lt))

abbrev no_book : BookState Record
no_book = record { cell = 0; items = [] }

-- the tokens have all parts
all_parts : (books passes count : ℕ) (hands : List (Hand Record)) → IsRest books passes hands → books + passes ≤ 64 → passes ≤ count → 64 ≤ parts_of hands + count + books
all_parts books passes count hands rest few enough =
    let parts : parts_of hands ≡ 64 - books - passes + 0 = ap parts_of rest in
    omega (arith, parts, few, enough)

logged : (books : List (BookState Record)) (cells : List Log) (passes : List CallList) (count : ℕ) (hands : List (Hand Record)) → IsRest (length books) count hands → length books ≡ length cells
    → AreInOrder books → AreKept books cells → AllKeepLast passes
    → IsLinearized is_wide_record record_range (shares_of (with_books books (with_passes passes hands))) (with_books books (with_passes passes hands))
    → AreLogged cells passes
logged books cells passes count hands rest even order kept last all =
    let n : ℕ = length cells in
    let shares : shares_of (with_books books (with_passes passes hands)) ≡ n =
    let a = books_shares books (with_passes passes hands) in
    let b = passes_shares passes hands in
    let none : shares_of hands ≡ 0 = ap shares_of rest in
    omega (arith, a, b, none, even) in
    let known = subst (λ (m : ℕ). IsLinearized is_wide_record record_range m (with_books books (with_passes passes hands))) shares all in
    let nothing : calls_of hands ≡ [] = ap calls_of rest in
    record {
      log = known.log;
      placed = known.placed;
      even =
          IsPermutation-trans _ _ _ known.even
          (subst (λ l. IsPermutation l (ever_of passes)) (sym (books_calls books (with_passes passes hands)))
          (subst (λ l. IsPermutation (calls_of (with_passes passes hands)) l) (ap (λ l. ever_of passes ++ l) nothing ∙ append-nil _) (passes_calls passes hands)));
      order = in_order known.log passes hands (from_books _ books (with_passes passes hands) known.order);
      kept = last;
      ever = λ k none lt.
          let here : k < length books = omega (arith, even, lt) in
          sym (kept k no_book none here lt)
          ∙ (of_book n known.log books (with_passes passes hands) known.items k no_book here
          ∙ ap (λ (j : ℕ). items_at n j known.log) (order k no_book here));
    }

-- what an audit says once the tokens are back
pub settled : (books : List (BookState Record)) (cells : List Log) (passes new : List CallList) (count : ℕ) (hands : List (Hand Record)) → new ≡ passes → IsRest (length books) count hands → length books ≡ length cells
    → length books + count ≤ 64 → count ≤ length passes → AreInOrder books → AreKept books cells → AllKeepLast new
    → (64 ≤ parts_of hands + length passes + length books → IsLinearized is_wide_record record_range (shares_of (with_books books (with_passes passes hands))) (with_books books (with_passes passes hands)))
    → AreLogged cells new
settled books cells passes new count hands same rest even few enough order kept last all =
    subst (AreLogged cells) (sym same)
    (logged books cells passes count hands rest even order kept (subst AllKeepLast same last) (all (all_parts (length books) count (length passes) hands rest few enough)))
