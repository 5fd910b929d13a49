-- The last item whose key is at most the moment, where keys never go down.
use Rattle.std.proofs.Common.{◌≡◌, ℕ, zero, suc, ◌+◌, ◌-◌, ◌<◌, ◌≤◌, true, false, cond, leb, get_or, Option, Some, None, List, [], ◌∷◌, length, refl, sym, ◌∙◌, ap, subst, arith}
use Rattle.std.specs.Prelude.{slice_get, nat_le, if◌then◌else◌, fold}
use Rattle.std.specs.List.{prefix_len}
use Rattle.std.specs.List.Sorted.{IsNonDecreasingBy}
use Rattle.std.proofs.lemmas.List.Sorted.{IsNonDecreasingBy-drop}
use Rattle.std.proofs.lemmas.List.Sums.{prefix_len_passes, prefix_len_stops}
use Rattle.std.proofs.lemmas.Option.{slice_get_within, get_or_from_slice_get}
use Rattle.std.proofs.lemmas.Bool.{leb-true}
use Rattle.std.proofs.lemmas.Bool.Decides.{nat_tests}
use Rattle.s4_store.specs.Keys.{newer, last_by}
use Rattle.s4_arena.specs.Spans.{next_index}
use Rattle.s4_arena.proofs.Trees.{by_test}

module _ {T : Type 0} (key : T → ℕ) (m : ℕ) where
  abbrev pub wanted : List T → ℕ
  wanted xs = prefix_len (λ v. nat_le (key v) m) xs

  -- the items before that many are at most the moment
  pub is_wanted : (xs : List T) (i : ℕ) (v : T) → slice_get xs i ≡ Some v → i < wanted xs → key v ≤ m
  is_wanted xs i v e h =
      let passes : nat_le (key (get_or xs i v)) m ≡ true = prefix_len_passes (λ x. nat_le (key x) m) xs i v h in
      let here : get_or xs i v ≡ v = get_or_from_slice_get xs i v v e in
      leb-true (key v) m (subst (λ x. nat_le (key x) m ≡ true) here passes)

  -- those from there on are above it
  pub is_above : (xs : List T) (i : ℕ) (v : T) → IsNonDecreasingBy key xs → slice_get xs i ≡ Some v → wanted xs ≤ i → m < key v
  is_above xs i v order e h =
      let within : i < length xs = slice_get_within xs i v e in
      let stops : nat_le (key (get_or xs (wanted xs) v)) m ≡ false = prefix_len_stops (λ x. nat_le (key x) m) xs v (omega arith) in
      let rises : key (get_or xs (wanted xs) v) ≤ key (get_or xs i v) = order (wanted xs) i v h within in
      let here : key (get_or xs i v) ≡ key v = ap key (get_or_from_slice_get xs i v v e) in
      grind (arith, nat_tests)

  -- the one before n, and `old` where n is 0
  abbrev pub before : Option T → List T → ℕ → Option T
  before old xs zero = old
  before old xs (suc i) = slice_get xs i

  first_stops : (x : T) (xs : List T) → IsNonDecreasingBy key (x ∷ xs) → nat_le (key x) m ≡ false → wanted xs ≡ 0
  first_stops x [] order e = refl
  first_stops x (y ∷ ys) order e =
      let rises : key x ≤ key y = order 0 1 x (omega arith) (omega arith) in
      let stops : nat_le (key y) m ≡ false = grind (arith, nat_tests) in
      ap (λ b. cond b (1 + wanted ys) 0) stops

  shifted : (old : Option T) (x : T) (xs : List T) (n : ℕ) → before (Some x) xs n ≡ before old (x ∷ xs) (suc n)
  shifted old x xs zero = refl
  shifted old x xs (suc n) = refl

  pub last_is : (old : Option T) (xs : List T) → IsNonDecreasingBy key xs → fold (newer key m) old xs ≡ before old xs (wanted xs)
  last_is old [] order = refl
  last_is old (x ∷ xs) order =
      let tail : IsNonDecreasingBy key xs = IsNonDecreasingBy-drop key 1 (x ∷ xs) order in
      by_test (nat_le (key x) m)
      (λ e. let count : wanted (x ∷ xs) ≡ suc (wanted xs) = ap (λ b. cond b (1 + wanted xs) 0) e ∙ omega arith in
      ap (λ b. fold (newer key m) (if b then Some x else old) xs) e ∙ last_is (Some x) xs tail ∙ shifted old x xs (wanted xs) ∙ ap (before old (x ∷ xs)) (sym count))
      (λ e. let count : wanted (x ∷ xs) ≡ 0 = ap (λ b. cond b (1 + wanted xs) 0) e in
      ap (λ b. fold (newer key m) (if b then Some x else old) xs) e ∙ last_is old xs tail ∙ ap (before old xs) (first_stops x xs order e) ∙ ap (before old (x ∷ xs)) (sym count))

  -- no item
  pub none_found : (xs : List T) → IsNonDecreasingBy key xs → wanted xs ≡ 0 → None ≡ last_by key m xs
  none_found xs order e = sym (last_is None xs order ∙ ap (before None xs) e)

  -- the item at i, where i and no later one is wanted
  pub one_found : (xs : List T) (i : ℕ) (v : T) → IsNonDecreasingBy key xs → slice_get xs i ≡ Some v → key v ≤ m → wanted xs ≤ i + 1 → Some v ≡ last_by key m xs
  one_found xs i v order e le h =
      let among : i < wanted xs = by_test (leb (wanted xs) i) (λ b. let above : m < key v = is_above xs i v order e (leb-true (wanted xs) i b) in absurd (omega arith)) (λ b. grind (arith, nat_tests)) in
      let count : wanted xs ≡ suc i = omega arith in
      sym (last_is None xs order ∙ ap (before None xs) count ∙ e)

-- WHERE A SEARCH GOES ON

pub next-jump : (span n index : ℕ) → n + span ≤ index → next_index span n index ≡ index - span
next-jump span n index h = grind (arith, nat_tests)

pub next-back : (span n index : ℕ) → index < n + span → next_index span n index ≡ index - 1
next-back span n index h = grind (arith, nat_tests)
