-- What each seat put and took, counted.
use Rattle.std.proofs.Common.{◌≡◌, ℕ, ◌+◌, ◌<◌, ◌≤◌, ◌==◌, zero, suc, Bool, cond, List, [], ◌∷◌, ◌++◌, length, filter, All, sum_by, refl, ap, ◌∙◌, arith, eq-eqb, ⊎_elim, ◌⊎◌, inl, inr}
use Rattle.std.proofs.lemmas.Bool.{ne_eqb, cases_eq, cases_lt}
use Rattle.std.proofs.lemmas.List.{map-append, length-map, append-nil}
use Rattle.std.proofs.lemmas.List.Elements.{All-head, All-tail, filter-append}
use Rattle.std.proofs.lemmas.List.Sums.{sum_by-cons}
use mathlib.Core.Option.{some}
use lib.ListN.{get_elem?}
use Rattle.s4_jobs.specs.declared.rule.Tag.{Tag}
use Rattle.s4_jobs.specs.declared.rule.Hand.{Hand}
use Rattle.s4_jobs.specs.Log.{Taking, taking, tags_of, numbers_of, put_by, taken_by}

-- one more at the end, of that key or of another
filter-same : {X : Type 0} (key : X → ℕ) (s : ℕ) (xs : List X) (x : X) → key x ≡ s → filter (λ y. key y == s) (xs ++ x ∷ []) ≡ filter (λ y. key y == s) xs ++ x ∷ []
filter-same {X} key s xs x e = filter-append (λ y. key y == s) xs (x ∷ []) ∙ ap (λ (b : Bool). filter (λ y. key y == s) xs ++ cond b (x ∷ []) []) (eq-eqb (key x) s e)

filter-other : {X : Type 0} (key : X → ℕ) (s : ℕ) (xs : List X) (x : X) → (key x ≡ s → ⊥) → filter (λ y. key y == s) (xs ++ x ∷ []) ≡ filter (λ y. key y == s) xs
filter-other {X} key s xs x e = filter-append (λ y. key y == s) xs (x ∷ []) ∙ (ap (λ (b : Bool). filter (λ y. key y == s) xs ++ cond b (x ∷ []) []) (ne_eqb (key x) s e) ∙ append-nil (filter (λ y. key y == s) xs))

filter-none : {X : Type 0} (key : X → ℕ) (m : ℕ) (xs : List X) → All (λ (x : X). key x < m) xs → filter (λ x. key x == m) xs ≡ []
filter-none {X} key m [] h = refl
filter-none {X} key m (x ∷ xs) h = ap (λ (b : Bool). cond b (x ∷ filter (λ y. key y == m) xs) (filter (λ y. key y == m) xs)) (ne_eqb (key x) m (λ e. absurd (omega (arith, e, All-head (λ (y : X). key y < m) x xs h)))) ∙ filter-none key m xs (All-tail (λ (y : X). key y < m) x xs h)

pub put_by-same : (s : ℕ) (ts : List Tag) (t : Tag) → t.from ≡ s → put_by s (ts ++ t ∷ []) ≡ put_by s ts ++ t.number ∷ []
put_by-same s ts t e = ap numbers_of (filter-same (λ (x : Tag). x.from) s ts t e) ∙ map-append (λ (x : Tag). x.number) (filter (λ (x : Tag). x.from == s) ts) (t ∷ [])

pub put_by-other : (s : ℕ) (ts : List Tag) (t : Tag) → (t.from ≡ s → ⊥) → put_by s (ts ++ t ∷ []) ≡ put_by s ts
put_by-other s ts t e = ap numbers_of (filter-other (λ (x : Tag). x.from) s ts t e)

pub put_by-none : (m : ℕ) (ts : List Tag) → All (λ (t : Tag). t.from < m) ts → put_by m ts ≡ []
put_by-none m ts h = ap numbers_of (filter-none (λ (x : Tag). x.from) m ts h)

pub taken_by-same : (s : ℕ) (log : List Taking) (t : Tag) → taken_by s (log ++ taking s t ∷ []) ≡ taken_by s log ++ t ∷ []
taken_by-same s log t = ap tags_of (filter-same (λ (x : Taking). x.by) s log (taking s t) refl) ∙ map-append (λ (x : Taking). x.tag) (filter (λ (x : Taking). x.by == s) log) (taking s t ∷ [])

pub taken_by-other : (s r : ℕ) (log : List Taking) (t : Tag) → (r ≡ s → ⊥) → taken_by s (log ++ taking r t ∷ []) ≡ taken_by s log
taken_by-other s r log t e = ap tags_of (filter-other (λ (x : Taking). x.by) s log (taking r t) e)

pub taken_by-none : (m : ℕ) (log : List Taking) → All (λ (x : Taking). x.by < m) log → taken_by m log ≡ []
taken_by-none m log h = ap tags_of (filter-none (λ (x : Taking). x.by) m log h)

pub tags_of-push : (log : List Taking) (x : Taking) → tags_of (log ++ x ∷ []) ≡ tags_of log ++ x.tag ∷ []
tags_of-push log x = map-append (λ (y : Taking). y.tag) log (x ∷ [])

-- how many elements have that key
abbrev of_key : {X : Type 0} → (X → ℕ) → ℕ → List X → ℕ
of_key key s xs = length (filter (λ x. key x == s) xs)

of_key-here : {X : Type 0} (key : X → ℕ) (s : ℕ) (x : X) (xs : List X) → key x ≡ s → of_key key s (x ∷ xs) ≡ of_key key s xs + 1
of_key-here {X} key s x xs e = ap (λ (b : Bool). length (cond b (x ∷ filter (λ y. key y == s) xs) (filter (λ y. key y == s) xs))) (eq-eqb (key x) s e) ∙ omega arith

of_key-away : {X : Type 0} (key : X → ℕ) (s : ℕ) (x : X) (xs : List X) → (key x ≡ s → ⊥) → of_key key s (x ∷ xs) ≡ of_key key s xs
of_key-away {X} key s x xs e = ap (λ (b : Bool). length (cond b (x ∷ filter (λ y. key y == s) xs) (filter (λ y. key y == s) xs))) (ne_eqb (key x) s e)

-- how many elements have a key below that
abbrev below : {X : Type 0} → (X → ℕ) → ℕ → List X → ℕ
below key zero xs = 0
below key (suc n) xs = below key n xs + of_key key n xs

below-nil : {X : Type 0} (key : X → ℕ) (n : ℕ) → below key n [] ≡ 0
below-nil {X} key zero = refl
below-nil {X} key (suc n) = ap (λ (k : ℕ). k + 0) (below-nil key n)

below-over : {X : Type 0} (key : X → ℕ) (n : ℕ) (x : X) (xs : List X) → n ≤ key x → below key n (x ∷ xs) ≡ below key n xs
below-over {X} key zero x xs le = refl
below-over {X} key (suc n) x xs le = let a = below-over key n x xs (omega arith) in let b = of_key-away key n x xs (λ e. absurd (omega (arith, e))) in omega (arith, a, b)

last_or_less : (k n : ℕ) → k < suc n → (k ≡ n) ⊎ (k < n)
last_or_less k n lt = ⊎_elim (λ (e : k ≡ n). inl e) (λ (ne : k ≡ n → ⊥). inr (less_of k n lt ne)) (cases_eq k n)
  where
    less_of : (k n : ℕ) → k < suc n → (k ≡ n → ⊥) → k < n
    less_of k n lt ne = ⊎_elim (λ (l : k < n). l) (λ (le : n ≤ k). absurd (ne (omega (arith, lt, le)))) (cases_lt k n)

below-under : {X : Type 0} (key : X → ℕ) (n : ℕ) (x : X) (xs : List X) → key x < n → below key n (x ∷ xs) ≡ below key n xs + 1
below-under {X} key zero x xs lt = absurd (omega arith)
below-under {X} key (suc n) x xs lt = ⊎_elim
    (λ (e : key x ≡ n). let a = below-over key n x xs (omega arith) in let b = of_key-here key n x xs e in omega (arith, a, b))
    (λ (l : key x < n). let a = below-under key n x xs l in let b = of_key-away key n x xs (λ e. absurd (omega (arith, e))) in omega (arith, a, b))
    (last_or_less (key x) n lt)

below-all : {X : Type 0} (key : X → ℕ) (n : ℕ) (xs : List X) → All (λ (x : X). key x < n) xs → below key n xs ≡ length xs
below-all {X} key n [] h = below-nil key n
below-all {X} key n (x ∷ xs) h =
    let a = below-under key n x xs (All-head (λ (y : X). key y < n) x xs h) in
    let b = below-all key n xs (All-tail (λ (y : X). key y < n) x xs h) in omega (arith, a, b)

-- hands that count the elements of keys from k on
counted : {X : Type 0} (count : Hand → ℕ) (key : X → ℕ) (xs : List X) (hands : List Hand) (k : ℕ) → ((j : ℕ) (h : Hand) → get_elem? hands j ≡ some h → count h ≡ of_key key (k + j) xs) → below key k xs + sum_by count hands ≡ below key (k + length hands) xs
counted {X} count key xs [] k each = let e = ap (λ (n : ℕ). below key n xs) (let w : k ≡ k + 0 = omega arith in w) in omega (arith, e)
counted {X} count key xs (h ∷ hands) k each =
    let one : count h ≡ of_key key k xs = each 0 h refl ∙ ap (λ (n : ℕ). of_key key n xs) (omega arith) in
    let rest = counted count key xs hands (suc k) (λ j x at. each (suc j) x at ∙ ap (λ (n : ℕ). of_key key n xs) (omega arith)) in
    let ends : suc k + length hands ≡ k + length (h ∷ hands) = omega arith in
    let s = sum_by-cons count h hands in
    let e = ap (λ (n : ℕ). below key n xs) ends in omega (arith, one, rest, s, e)

-- what the first and the others have of each key below n is all
pub total : {X : Type 0} (count : Hand → ℕ) (key : X → ℕ) (xs : List X) (first : ℕ) (hands : List Hand) (n : ℕ) → first ≡ of_key key 0 xs → ((j : ℕ) (h : Hand) → get_elem? hands j ≡ some h → count h ≡ of_key key (j + 1) xs) → n ≡ length hands + 1 → All (λ (x : X). key x < n) xs
    → first + sum_by count hands ≡ length xs
total {X} count key xs first hands n one each is all =
    let c = counted count key xs hands 1 (λ j h at. each j h at ∙ ap (λ (m : ℕ). of_key key m xs) (omega arith)) in
    let a = below-all key n xs all in
    let e = ap (λ (m : ℕ). below key m xs) (let w : n ≡ 1 + length hands = omega (arith, is) in w) in omega (arith, one, c, a, e)

pub put_by-length : (s : ℕ) (ts : List Tag) → length (put_by s ts) ≡ length (filter (λ (t : Tag). t.from == s) ts)
put_by-length s ts = length-map (filter (λ (t : Tag). t.from == s) ts) (λ (t : Tag). t.number)

pub taken_by-length : (s : ℕ) (log : List Taking) → length (taken_by s log) ≡ length (filter (λ (x : Taking). x.by == s) log)
taken_by-length s log = length-map (filter (λ (x : Taking). x.by == s) log) (λ (x : Taking). x.tag)
