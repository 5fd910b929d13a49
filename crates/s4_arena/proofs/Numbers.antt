-- What is known of the jump at each number of 64 bits.
use Rattle.std.proofs.Common.{◌≡◌, ℕ, ◌+◌, ◌-◌, ◌*◌, ◌^◌, ◌<◌, ◌≤◌, ◌∙◌, ap, arith}
use Rattle.std.specs.Prelude.{◌≢◌}
use Rattle.s4_arena.specs.Spans.{span_of}
use Rattle.s4_arena.proofs.Trees.{tree-pow, IsSpan, is_span, Joins, joins}

pub of_number : (n : ℕ) → 0 < n → n < 2 ^ 64 → IsSpan n (span_of n)
unfolding span_of
of_number n p h = is_span 64 n p (omega (arith, tree-pow 64))

joined : (n : ℕ) → 0 < n → n + 1 < 2 ^ 64 → span_of (n + 1) ≢ 1 → (h : ℕ) × Joins 64 n h
unfolding span_of
joined n p h ne = joins 64 n p (omega (arith, tree-pow 64)) ne

-- the jump of the newest but one, and that one's jump, make the jump of the newest
pub record Twice (first count h : ℕ) : Type 0 where
  pub newest : span_of (first + count - 1 + 1) ≡ h
  pub older : span_of (first + count - 1 - h + 1) ≡ h
  pub all : span_of (first + count + 1) ≡ 2 * h + 1

pub twice : (first count : ℕ) → first + count + 1 < 2 ^ 64 → span_of (first + count + 1) ≤ count → span_of (first + count + 1) ≢ 1 → (h : ℕ) × Twice first count h
unfolding span_of
twice first count fits kept ne =
    let s : IsSpan (first + count + 1) (span_of (first + count + 1)) = of_number (first + count + 1) (omega arith) fits in
    let j : (h : ℕ) × Joins 64 (first + count) h = joined (first + count) (omega arith) fits ne in
    let all : span_of (first + count + 1) ≡ 2 * j.0 + 1 = j.1.all in
    let one : first + count - 1 + 1 ≡ first + count = omega arith in
    let two : first + count - 1 - j.0 + 1 ≡ first + count - j.0 = omega arith in
    (j.0, record { newest = ap span_of one ∙ j.1.first; older = ap span_of two ∙ j.1.second; all = all })
