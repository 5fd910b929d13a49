-- The jumps of items whose number may not fit: the number before the oldest stays at the greatest of 64 bits once it is there.
use Rattle.std.proofs.Common.{◌≡◌, ℕ, ◌+◌, ◌-◌, ◌*◌, ◌^◌, ◌<◌, ◌≤◌, sym, ◌∙◌, ap, arith}
use Rattle.std.specs.Prelude.{◌≢◌, min}
use Rattle.std.proofs.lemmas.Bool.Decides.{nat_tests}
use Rattle.s4_arena.specs.Spans.{span_of, span_at}
use Rattle.s4_arena.proofs.Trees.{IsSpan}
use Rattle.s4_arena.proofs.Numbers.{of_number, Twice, twice}
use Rattle.s4_arena.proofs.Steps.{either}

pub fits : (first index : ℕ) → first + index + 1 < 2 ^ 64 → span_at first index ≡ span_of (first + index + 1)
fits first index h = grind (arith, nat_tests)

pub past : (first index : ℕ) → 2 ^ 64 ≤ first + index + 1 → span_at first index ≡ index + 1
past first index h = grind (arith, nat_tests)

-- where a span is told of the next number as far as it fits, and 1 past that, it is that of the next item, wherever that one's jump is followed
pub told : (first index s : ℕ) → (first + index + 1 < 2 ^ 64 → s ≡ span_of (first + index + 1)) → (2 ^ 64 ≤ first + index + 1 → s ≡ 1) → (span_at first index ≤ index → s ≡ span_at first index) × (s ≢ 1 → s ≡ span_at first index)
told first index s known one = either (2 ^ 64) (first + index + 1)
    (λ ge. let none : span_at first index ≡ index + 1 = past first index ge in (λ kept. absurd (omega arith), λ ne. absurd (ne (one ge))))
    (λ lt. let is : s ≡ span_at first index = known lt ∙ sym (fits first index lt) in (λ _. is, λ _. is))

-- the jump of a new item leads where the jump of the jump of the newest one does
pub record JoinsAt (first count h : ℕ) : Type 0 where
  pub newest : span_at first (count - 1) ≡ h
  pub older : span_at first (count - 1 - h) ≡ h
  pub all : span_at first count ≡ 2 * h + 1

abbrev AllJoin : ℕ → Type 0
AllJoin count = (first : ℕ) → first < 2 ^ 64 → span_at first count ≤ count → span_at first count ≢ 1 → (h : ℕ) × JoinsAt first count h

-- each jump that leads to an item that is kept goes back as far once the oldest item is dropped
abbrev AllStay : ℕ → Type 0
AllStay first = (index : ℕ) → span_at (min (first + 1) (2 ^ 64 - 1)) index ≤ index
    → span_at (min (first + 1) (2 ^ 64 - 1)) index ≡ span_at first (index + 1)

pub all_join : (count : ℕ) → AllJoin count
all_join count first small kept ne = either (2 ^ 64) (first + count + 1)
    (λ h. absurd (omega (arith, past first count h)))
    (λ h. let e : span_at first count ≡ span_of (first + count + 1) = fits first count h in
    let s : IsSpan (first + count + 1) (span_of (first + count + 1)) = of_number (first + count + 1) (omega arith) h in
    let t : (j : ℕ) × Twice first count j = twice first count h (omega arith) (λ q. ne (e ∙ q)) in
    let all : span_of (first + count + 1) ≡ 2 * t.0 + 1 = t.1.all in
    let one : first + (count - 1) + 1 ≡ first + count - 1 + 1 = omega arith in
    let two : first + (count - 1 - t.0) + 1 ≡ first + count - 1 - t.0 + 1 = omega arith in (
      t.0,
      record {
        newest = fits first (count - 1) (omega arith) ∙ ap span_of one ∙ t.1.newest;
        older = fits first (count - 1 - t.0) (omega arith) ∙ ap span_of two ∙ t.1.older;
        all = e ∙ all;
      },
    ))

pub all_stay : (first : ℕ) → first < 2 ^ 64 → AllStay first
all_stay first small index kept =
    let next : ℕ = min (first + 1) (2 ^ 64 - 1) in
    either (2 ^ 64) (next + index + 1)
    (λ h. absurd (omega (arith, past next index h)))
    (λ h. let same : next + index + 1 ≡ first + (index + 1) + 1 = omega arith in
    fits next index h ∙ ap span_of same ∙ sym (fits first (index + 1) (omega arith)))
