-- Jumps by places, after each change of a chain.
use Rattle.std.proofs.Common.{◌≡◌, ℕ, suc, ◌+◌, ◌-◌, ◌*◌, ◌^◌, ◌<◌, ◌≤◌, true, eqb, Some, List, [], ◌∷◌, ◌++◌, drop, length, sym, ◌∙◌, ap, subst, arith, eqb-true, eq-eqb}
use Rattle.std.specs.Prelude.{◌≢◌, min, slice_get, slice_set}
use Rattle.std.proofs.lemmas.Option.{slice_get_within}
use Rattle.std.proofs.lemmas.Bool.Decides.{nat_tests}
use Rattle.s4_arena.specs.Spans.{span_at, span_of}
use Rattle.s4_arena.specs.Leaps.{AreLeaps}
use Rattle.s4_arena.proofs.Lists.{get_set_here, get_set_apart, get_last, get_before, none_past, get_dropped}
use Rattle.s4_arena.proofs.Trees.{by_test, IsSpan}
use Rattle.s4_arena.proofs.Numbers.{of_number}
use Rattle.s4_arena.proofs.Counted.{fits, past, JoinsAt, all_join, all_stay}
use Rattle.s4_arena.proofs.Steps.{either}

pub some_span : (first i : ℕ) → 0 < span_at first i
some_span first i = either (2 ^ 64) (first + i + 1)
    (λ h. omega (arith, past first i h))
    (λ h. let s : IsSpan (first + i + 1) (span_of (first + i + 1)) = of_number (first + i + 1) (omega arith) h in omega (arith, fits first i h))

module _ {P X : Type 0} (jump : X → P) (first : ℕ) (ps : List P) (xs : List X) where
  pub pushed : (p : P) (x : X) → length ps ≡ length xs → AreLeaps jump first ps xs
      → (span_at first (length xs) ≤ length xs → slice_get ps (length xs - span_at first (length xs)) ≡ Some (jump x))
      → AreLeaps jump first (ps ++ p ∷ []) (xs ++ x ∷ [])
  pushed p x same old new i y e kept =
      let some : 0 < span_at first i = some_span first i in
      either (length xs) i
      (λ h. by_test (eqb (length xs) i)
      (λ t. let at : length xs ≡ i = eqb-true (length xs) i t in
      let is : Some x ≡ Some y = sym (get_last xs x) ∙ ap (slice_get (xs ++ x ∷ [])) at ∙ e in
      let z : x ≡ y = cc in
      let there : slice_get ps (i - span_at first i) ≡ Some (jump x) = subst (λ k. span_at first k ≤ k → slice_get ps (k - span_at first k) ≡ Some (jump x)) at new kept in
      get_before ps p (i - span_at first i) (omega arith) ∙ there ∙ ap (λ k. Some (jump k)) z)
      (λ f. absurd (none_past xs x y i (grind (arith, nat_tests)) e)))
      (λ h. get_before ps p (i - span_at first i) (omega arith) ∙ old i y (sym (get_before xs x i h) ∙ e) kept)

  pub twice : (x : X) → first < 2 ^ 64 → AreLeaps jump first ps xs → span_at first (length xs) ≤ length xs → span_at first (length xs) ≢ 1 → slice_get xs (length xs - 1) ≡ Some x
      → (k : ℕ) × (k < length xs) × (slice_get ps k ≡ Some (jump x)) × ((y : X) → slice_get xs k ≡ Some y → slice_get ps (length xs - span_at first (length xs)) ≡ Some (jump y))
  twice x small old kept ne newest =
      let j : (h : ℕ) × JoinsAt first (length xs) h = all_join (length xs) first small kept ne in
      let n : ℕ = length xs in
      let one : span_at first (n - 1) ≡ j.0 = j.1.newest in
      let two : span_at first (n - 1 - j.0) ≡ j.0 = j.1.older in
      let all : span_at first n ≡ 2 * j.0 + 1 = j.1.all in
      let within : n - 1 < length xs = slice_get_within xs (n - 1) x newest in (
        n - 1 - j.0,
        omega arith,
        ap (λ s. slice_get ps (n - 1 - s)) (sym one) ∙ old (n - 1) x newest (omega arith),
        (λ y e. let at : n - span_at first n ≡ n - 1 - j.0 - span_at first (n - 1 - j.0) = omega arith in
            ap (slice_get ps) at ∙ old (n - 1 - j.0) y e (omega arith)),
      )

  pub dropped : first < 2 ^ 64 → AreLeaps jump first ps xs → AreLeaps jump (min (first + 1) (2 ^ 64 - 1)) (drop 1 ps) (drop 1 xs)
  dropped small old i x e kept =
      let next : ℕ = min (first + 1) (2 ^ 64 - 1) in
      let same : span_at next i ≡ span_at first (i + 1) = all_stay first small i kept in
      let up : suc i ≡ i + 1 = omega arith in
      let there : slice_get ps (i + 1 - span_at first (i + 1)) ≡ Some (jump x) = old (i + 1) x (ap (slice_get xs) (sym up) ∙ sym (get_dropped xs i) ∙ e) (omega arith) in
      let at : suc (i - span_at next i) ≡ i + 1 - span_at first (i + 1) = omega arith in
      get_dropped ps (i - span_at next i) ∙ ap (slice_get ps) at ∙ there

  pub reset : (i : ℕ) (x y : X) → AreLeaps jump first ps xs → slice_get xs i ≡ Some x → jump y ≡ jump x → AreLeaps jump first ps (slice_set xs i y)
  reset i x y old e same k z f kept = by_test (eqb k i)
      (λ t. let at : k ≡ i = eqb-true k i t in
      let is : Some y ≡ Some z = sym (get_set_here xs i y (slice_get_within xs i x e)) ∙ ap (slice_get (slice_set xs i y)) (sym at) ∙ f in
      let w : y ≡ z = cc in
      old k x (ap (slice_get xs) at ∙ e) kept ∙ ap Some (sym same ∙ ap jump w))
      (λ t. old k z (sym (get_set_apart xs i k y (λ q. let u : eqb k i ≡ true = eq-eqb k i q in cc)) ∙ f) kept)
