-- One step of a search, by indices.
use Rattle.std.proofs.Common.{◌≡◌, ℕ, ◌+◌, ◌-◌, ◌*◌, ◌^◌, ◌<◌, ◌≤◌, sym, ◌∙◌, ap, arith}
use Rattle.s4_arena.specs.Spans.{tree, span_in, span_of, span_at, next_index}
use Rattle.s4_arena.proofs.Trees.{tree-pow, tree-higher, span-is}
use Rattle.s4_arena.proofs.Counted.{fits}
use Rattle.s4_arena.proofs.Leaping.{some_span}
use Rattle.s4_arena.proofs.Steps.{steps, either, steps-jump, steps-back, steps-few}
use Rattle.s4_arena.proofs.Looking.{next-jump, next-back}

-- it goes back, and not past what is wanted
pub record Nearer (next wanted index : ℕ) : Type 0 where
  pub less : next < index
  pub near : wanted ≤ next + 1

pub nearer : (first index wanted : ℕ) → 0 < index → wanted ≤ index → Nearer (next_index (span_at first index) wanted index) wanted index
nearer first index wanted some le =
    let span : ℕ = span_at first index in
    let pos : 0 < span = some_span first index in
    either (wanted + span) index
    (λ h. let e : next_index span wanted index ≡ index - span = next-jump span wanted index h in record { less = omega arith; near = omega arith })
    (λ h. let e : next_index span wanted index ≡ index - 1 = next-back span wanted index h in record { less = omega arith; near = omega arith })

-- it doesn't go past the index
pub not_past : (span wanted index : ℕ) → wanted < index → wanted ≤ next_index span wanted index
not_past span wanted index h = either (wanted + span) index
    (λ b. let e : next_index span wanted index ≡ index - span = next-jump span wanted index b in omega arith)
    (λ b. let e : next_index span wanted index ≡ index - 1 = next-back span wanted index b in omega arith)

by_numbers : (first index wanted k : ℕ) → k ≤ 64 → first + index + 1 < 2 ^ k → 0 < index → wanted ≤ index
    → steps k (first + index + 1) (first + wanted) ≡ 1 + steps k (first + next_index (span_of (first + index + 1)) wanted index + 1) (first + wanted)
by_numbers first index wanted k top fits some le =
    let n : ℕ = first + index + 1 in
    let within : n ≤ tree k = omega (arith, tree-pow k) in
    let same : span_of n ≡ span_in k n = span-is k n top within in
    either (wanted + span_of n) index
    (λ h. let e : next_index (span_of n) wanted index ≡ index - span_of n = next-jump (span_of n) wanted index h in
    let at : n - span_in k n ≡ first + next_index (span_of n) wanted index + 1 = omega arith in
    steps-jump k n (first + wanted) (omega arith) within (omega arith) ∙ ap (λ i. 1 + steps k i (first + wanted)) at)
    (λ h. let e : next_index (span_of n) wanted index ≡ index - 1 = next-back (span_of n) wanted index h in
    let at : n - 1 ≡ first + next_index (span_of n) wanted index + 1 = omega arith in
    steps-back k n (first + wanted) (omega arith) within (omega arith) ∙ ap (λ i. 1 + steps k i (first + wanted)) at)

pub stepped : (first index wanted k : ℕ) → k ≤ 64 → first + index + 1 < 2 ^ k → 0 < index → wanted ≤ index
    → steps k (first + index + 1) (first + wanted) ≡ 1 + steps k (first + next_index (span_at first index) wanted index + 1) (first + wanted)
stepped first index wanted k top small some le =
    let all : tree k ≤ tree 64 = let e : 64 ≡ (64 - k) + k = omega arith in rw e (tree-higher (64 - k) k) in
    let same : span_at first index ≡ span_of (first + index + 1) = fits first index (omega (arith, tree-pow k, tree-pow 64)) in
    by_numbers first index wanted k top small some le ∙ ap (λ s. 1 + steps k (first + next_index s wanted index + 1) (first + wanted)) (sym same)

pub at_most : (first index wanted k : ℕ) → first + index + 1 < 2 ^ k → wanted ≤ index → steps k (first + index + 1) (first + wanted) ≤ 3 * k
at_most first index wanted k fits le = steps-few k (first + index + 1) (first + wanted) (omega arith) (omega (arith, tree-pow k))
