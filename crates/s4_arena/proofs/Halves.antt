-- The least tree in which a number stands.
use Rattle.std.proofs.Common.{◌≡◌, ℕ, suc, ◌+◌, ◌-◌, ◌*◌, ◌/◌, ◌%◌, ◌^◌, ◌<◌, ◌≤◌, sym, ◌∙◌, ap, arith}
use Rattle.std.proofs.Math.Nat.{mul-le-mul_left, mod-lt}
use Rattle.std.proofs.lemmas.Nat.{leading_top, shr_split, pow-add}
use lib.Count.{count_leading_zeros}
use Rattle.s4_arena.proofs.Trees.{tree-pow, IsAt, span-is}
use Rattle.s4_arena.proofs.Steps.{either}

pow-split : (a b : ℕ) → 2 ^ (a + b) ≡ 2 ^ a * 2 ^ b
pow-split a b = pow-add 2 a b

pow-some : (a : ℕ) → 0 < 2 ^ a
pow-some a = omega (arith, tree-pow a)

-- a quotient of one less than a product
one_less : (n a b q r : ℕ) → n + 1 ≡ a * b → q * a + r ≡ n → r < a → q ≡ b - 1
one_less n a b q r whole split small = either b q
    (λ h. let more : a * b ≤ a * q = mul-le-mul_left a h in absurd (grind arith))
    (λ h. either (q + 2) b
    (λ k. let more : a * (q + 2) ≤ a * b = mul-le-mul_left a k in absurd (grind arith))
    (λ k. omega arith))

pub at_least : (n : ℕ) → 0 < n → n < 2 ^ 64 → IsAt n ((2 ^ 64 - 1) / 2 ^ count_leading_zeros 64 n) n
at_least n p h =
    let t = leading_top 64 n p h in
    let zeros : ℕ = count_leading_zeros 64 n in
    let k : ℕ = suc t.0 in
    let whole : 2 ^ 64 - 1 + 1 ≡ 2 ^ zeros * 2 ^ k = omega arith ∙ ap (λ i. 2 ^ i) (sym t.1) ∙ pow-split zeros k in
    let is : (2 ^ 64 - 1) / 2 ^ zeros ≡ 2 ^ k - 1 = one_less (2 ^ 64 - 1) (2 ^ zeros) (2 ^ k) ((2 ^ 64 - 1) / 2 ^ zeros) ((2 ^ 64 - 1) % 2 ^ zeros) whole (shr_split (2 ^ 64 - 1) zeros) (mod-lt (2 ^ 64 - 1) (pow-some zeros)) in
    record {
      height = k;
      is_tree = is ∙ omega (arith, tree-pow k);
      above = p;
      within = omega (arith, t.3);
      same = sym (span-is k n (omega (arith, t.1)) (omega (arith, tree-pow k, t.3)));
    }
