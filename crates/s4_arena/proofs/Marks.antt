-- How the trees that numbers make up go on from one number to the next.
use Rattle.std.proofs.Common.{◌≡◌, Bool, not, nat_eq, ℕ, zero, suc, ◌+◌, ◌-◌, ◌*◌, ◌/◌, ◌%◌, ◌^◌, ◌<◌, ◌≤◌, true, false, eqb, refl, sym, ◌∙◌, ap, subst, arith, eqb-true, eq-eqb}
use Rattle.std.specs.Prelude.{◌≢◌, ◌==◌, min}
use Rattle.std.proofs.Math.Nat.{pow-succ'}
use Rattle.std.proofs.lemmas.Nat.{pow-add, pow_pos, pow_below, shl-shr, and_block}
use Rattle.std.proofs.lemmas.Nat.Bits.{and_pow}
use Rattle.std.specs.Int.Bits.{and_self, and_zero_l}
use lib.Bits.{bit_and}
use Rattle.std.proofs.lemmas.Bool.Decides.{nat_tests}
use Rattle.s4_arena.specs.Spans.{tree, span_in, span_of, marks_in, marks_of}
use Rattle.s4_arena.proofs.Steps.{either}
use Rattle.s4_arena.proofs.Trees.{by_test, three, tree-zero, tree-suc, tree-pow, span-left, span-root, span-right, span-whole, IsSpan, is_span}

marks-left : (k n : ℕ) → n ≤ tree k → marks_in (suc k) n ≡ marks_in k n
unfolding marks_in
marks-left k n h = grind (arith, nat_tests)

marks-root : (k n : ℕ) → n ≡ 2 * tree k + 1 → marks_in (suc k) n ≡ 2 ^ k
unfolding marks_in
marks-root k n h = grind (arith, nat_tests)

marks-right : (k n : ℕ) → tree k < n → n ≢ 2 * tree k + 1 → marks_in (suc k) n ≡ 2 ^ k + marks_in k (n - tree k)
unfolding marks_in
marks-right k n h ne = grind (arith, nat_tests)

marks-zero : (k : ℕ) → marks_in k 0 ≡ 0
unfolding marks_in
marks-zero zero = refl
marks-zero (suc k) = marks-left k 0 (omega arith) ∙ marks-zero k

marks-one : (k : ℕ) → 0 < k → marks_in k 1 ≡ 1
marks-one zero h = absurd (omega arith)
marks-one (suc zero) h = marks-root 0 1 (omega (arith, tree-zero))
marks-one (suc (suc k)) h = marks-left (suc k) 1 (omega (arith, tree-suc k)) ∙ marks-one (suc k) (omega arith)

-- a whole tree of numbers
marks-whole : (k : ℕ) → marks_in (suc k) (tree (suc k)) ≡ 2 ^ k
marks-whole k = marks-root k (tree (suc k)) (tree-suc k)

pub marks-below : (k n : ℕ) → n ≤ tree k → marks_in k n < 2 ^ k
unfolding marks_in
marks-below zero n h = omega arith
marks-below (suc k) n h = let twice : 2 ^ suc k ≡ 2 * 2 ^ k = pow-succ' 2 k in let some : 0 < 2 ^ k = pow_pos k in
    three k n
    (λ l. omega (arith, marks-left k n l, marks-below k n l))
    (λ m. omega (arith, marks-root k n m))
    (λ r ne. omega (arith, marks-right k n r ne, tree-suc k, marks-below k (n - tree k) (omega (arith, tree-suc k))))

-- the lowest mark of a number, 2 ^ h, and those above it; and how it goes on to the next number of the tree
pub record Marks (k n h q : ℕ) : Type 0 where
  pub is : marks_in k n ≡ (2 * q + 1) * 2 ^ h
  pub low : n < tree k → h + 2 ≤ k
  pub one : n < tree k → q % 2 ≡ 0 → (span_in k (n + 1) ≡ 1) × (marks_in k (n + 1) ≡ marks_in k n + 2 ^ h + 1)
  pub two : n < tree k → q % 2 ≡ 1 → (span_in k (n + 1) ≡ 2 * (2 * 2 ^ h - 1) + 1) × (marks_in k (n + 1) ≡ 2 * q * 2 ^ h)

pow-two : (k : ℕ) → 0 < k → 2 ≤ 2 ^ k
pow-two zero h = absurd (omega arith)
pow-two (suc k) h = omega (arith, pow-succ' 2 k, pow_pos k)

span-one : (k : ℕ) → 0 < k → span_in k 1 ≡ 1
span-one k h = let s : IsSpan 1 (span_in k 1) = is_span k 1 (omega arith) (omega (arith, tree-pow k, pow-two k h)) in omega (arith, s.above, s.within)

-- a number that ends a tree of `tree (suc k)` numbers
end_first : (k : ℕ) → Marks (suc (suc k)) (tree (suc k)) k 0
end_first k = let size : tree (suc k) ≡ 2 * tree k + 1 = tree-suc k in let more : tree (suc (suc k)) ≡ 2 * tree (suc k) + 1 = tree-suc (suc k) in
    let here : marks_in (suc (suc k)) (tree (suc k)) ≡ 2 ^ k = marks-left (suc k) (tree (suc k)) (omega arith) ∙ marks-whole k in
    let one : tree (suc k) + 1 - tree (suc k) ≡ 1 = omega arith in
    let twice : 2 ^ suc k ≡ 2 * 2 ^ k = pow-succ' 2 k in
    let ne : tree (suc k) + 1 ≢ 2 * tree (suc k) + 1 = λ e. absurd (omega arith) in
    record {
      is = here ∙ omega arith;
      low = λ _. omega arith;
      one = λ _ _. (
        span-right (suc k) (tree (suc k) + 1) (omega arith) ne ∙ ap (span_in (suc k)) one ∙ span-one (suc k) (omega arith),
        omega (arith, marks-right (suc k) (tree (suc k) + 1) (omega arith) ne, ap (marks_in (suc k)) one, marks-one (suc k) (omega arith)),
      );
      two = λ _ odd. absurd (omega arith);
    }

-- one that ends the second of two trees of `tree (suc k)` numbers
end_second : (k n : ℕ) → n ≡ 2 * tree (suc k) → Marks (suc (suc k)) n k 1
end_second k n e = let size : tree (suc k) ≡ 2 * tree k + 1 = tree-suc k in let more : tree (suc (suc k)) ≡ 2 * tree (suc k) + 1 = tree-suc (suc k) in
    let rest : n - tree (suc k) ≡ tree (suc k) = omega arith in
    let ne : n ≢ 2 * tree (suc k) + 1 = λ f. absurd (omega arith) in
    let twice : 2 ^ suc k ≡ 2 * 2 ^ k = pow-succ' 2 k in
    let size_is : tree (suc k) + 1 ≡ 2 ^ suc k = tree-pow (suc k) in
    let some : 0 < 2 ^ k = pow_pos k in
    record {
      is = marks-right (suc k) n (omega arith) ne ∙ omega (arith, ap (marks_in (suc k)) rest, marks-whole k);
      low = λ _. omega arith;
      one = λ _ even. absurd (omega arith);
      two = λ _ _. (
        span-root (suc k) (n + 1) (omega arith) ∙ omega arith,
        marks-root (suc k) (n + 1) (omega arith) ∙ omega arith,
      );
    }

-- one that stands alike in a tree and in a greater one
marks_left : (k n h q : ℕ) → n < tree k → Marks k n h q → Marks (suc k) n h q
marks_left k n h q below m = record {
  is = marks-left k n (omega arith) ∙ m.is;
  low = λ _. omega (arith, m.low below);
  one = λ _ even. let o = m.one below even in (span-left k (n + 1) (omega arith) ∙ o.0, omega (arith, marks-left k n (omega arith), marks-left k (n + 1) (omega arith), o.1));
  two = λ _ odd. let t = m.two below odd in (span-left k (n + 1) (omega arith) ∙ t.0, marks-left k (n + 1) (omega arith) ∙ t.1);
}

-- a power of 2 above a mark is an even number of those
above : (k h q : ℕ) → h + 2 ≤ k → (2 * (q + 2 * 2 ^ (k - h - 2)) + 1) * 2 ^ h ≡ 2 ^ k + (2 * q + 1) * 2 ^ h
above k h q le =
    let r : ℕ = 2 ^ (k - h - 2) in
    let e : k ≡ h + 2 + (k - h - 2) = omega arith in
    let whole : 2 ^ k ≡ 2 ^ h * 4 * r = ap (λ i. 2 ^ i) e ∙ pow-add 2 (h + 2) (k - h - 2) ∙ ap (λ i. i * r) (pow-add 2 h 2) in
    grind arith

-- one in the second of two trees
marks_right : (k n h q : ℕ) → tree k < n → n - tree k < tree k → Marks k (n - tree k) h q → Marks (suc k) n h (q + 2 * 2 ^ (k - h - 2))
marks_right k n h q r below m =
    let size : tree (suc k) ≡ 2 * tree k + 1 = tree-suc k in
    let ne : n ≢ 2 * tree k + 1 = λ e. absurd (omega arith) in
    let ne' : n + 1 ≢ 2 * tree k + 1 = λ e. absurd (omega arith) in
    let next : n + 1 - tree k ≡ n - tree k + 1 = omega arith in
    let low : h + 2 ≤ k = m.low below in
    let here : marks_in (suc k) n ≡ 2 ^ k + marks_in k (n - tree k) = marks-right k n r ne in
    let there : marks_in (suc k) (n + 1) ≡ 2 ^ k + marks_in k (n - tree k + 1) = marks-right k (n + 1) (omega arith) ne' ∙ ap (λ i. 2 ^ k + marks_in k i) next in
    let span : span_in (suc k) (n + 1) ≡ span_in k (n - tree k + 1) = span-right k (n + 1) (omega arith) ne' ∙ ap (span_in k) next in
    let all : (2 * (q + 2 * 2 ^ (k - h - 2)) + 1) * 2 ^ h ≡ 2 ^ k + (2 * q + 1) * 2 ^ h = above k h q low in
    record {
      is = omega (arith, m.is);
      low = λ _. omega arith;
      one = λ _ even. let o = m.one below (omega arith) in (span ∙ o.0, omega (arith, o.1));
      two = λ _ odd. let t = m.two below (omega arith) in (span ∙ t.0, let u : marks_in k (n - tree k + 1) ≡ 2 * q * 2 ^ h = t.1 in grind arith);
    }

marks_root : (k n : ℕ) → n ≡ 2 * tree k + 1 → Marks (suc k) n k 0
marks_root k n e = let size : tree (suc k) ≡ 2 * tree k + 1 = tree-suc k in record {
  is = marks-root k n e ∙ omega arith;
  low = λ below. absurd (omega arith);
  one = λ below _. absurd (omega arith);
  two = λ below _. absurd (omega arith);
}

whole : (k n : ℕ) → 0 < n → n ≡ tree k → (h : ℕ) × (q : ℕ) × Marks (suc k) n h q
whole zero n p e = absurd (omega (arith, tree-zero))
whole (suc k) n p e = (k, 0, subst (λ i. Marks (suc (suc k)) i k 0) (sym e) (end_first k))

second : (k n : ℕ) → n ≡ 2 * tree k → 0 < n → (h : ℕ) × (q : ℕ) × Marks (suc k) n h q
second zero n e p = absurd (omega (arith, tree-zero))
second (suc k) n e p = (k, 1, end_second k n e)

pub marks : (k n : ℕ) → 0 < n → n ≤ tree k → (h : ℕ) × (q : ℕ) × Marks k n h q
marks zero n p le = absurd (omega (arith, tree-zero))
marks (suc k) n p le = three k n
    (λ l. by_test (eqb n (tree k))
    (λ f. whole k n p (eqb-true n (tree k) f))
    (λ f. let below : n < tree k = grind (arith, nat_tests) in
    let ih : (h : ℕ) × (q : ℕ) × Marks k n h q = marks k n p l in (ih.0, ih.1, marks_left k n ih.0 ih.1 below ih.2)))
    (λ m. (k, 0, marks_root k n m))
    (λ r ne. by_test (eqb (n - tree k) (tree k))
    (λ f. second k n (omega (arith, eqb-true (n - tree k) (tree k) f)) p)
    (λ f. let size : tree (suc k) ≡ 2 * tree k + 1 = tree-suc k in
    let other : n - tree k ≢ tree k = λ e. (let t : eqb (n - tree k) (tree k) ≡ true = eq-eqb (n - tree k) (tree k) e in cc) in
    let below : n - tree k < tree k = grind arith in
    let ih : (h : ℕ) × (q : ℕ) × Marks k (n - tree k) h q = marks k (n - tree k) (omega arith) (omega arith) in
    (ih.0, ih.1 + 2 * 2 ^ (k - ih.0 - 2), marks_right k n ih.0 ih.1 r below ih.2)))

-- THE BITS OF A NUMBER

some_odd : (h q : ℕ) → 0 < (2 * q + 1) * 2 ^ h
some_odd h q = let some : 0 < 2 ^ h = pow_pos h in grind arith

odd_bits : (q : ℕ) → bit_and (2 * q + 1) (2 * q) ≡ 2 * q
odd_bits q = let a : 2 * q + 1 ≡ q * 2 ^ 1 + 1 = omega arith in let b : 2 * q ≡ q * 2 ^ 1 + 0 = omega arith in
    ap (λ i. bit_and i (2 * q)) a ∙ ap (bit_and (q * 2 ^ 1 + 1)) b ∙ and_block 1 q q 1 0 (omega arith) (omega arith) ∙ ap (λ i. i * 2 ^ 1 + bit_and 1 0) (and_self q) ∙ omega arith

-- a number without its lowest bit
pub but_lowest : (n h q : ℕ) → n ≡ (2 * q + 1) * 2 ^ h → n < 2 ^ 64 → bit_and n ((n + (2 ^ 64 - 1)) % 2 ^ 64) ≡ 2 * q * 2 ^ h
but_lowest n h q is fits =
    let some : 0 < n = omega (arith, some_odd h q) in
    let below : (n + (2 ^ 64 - 1)) % 2 ^ 64 ≡ n - 1 = omega arith in
    let part : 0 < 2 ^ h = pow_pos h in
    let high : n ≡ (2 * q + 1) * 2 ^ h + 0 = omega arith in
    let low : n - 1 ≡ 2 * q * 2 ^ h + (2 ^ h - 1) = grind arith in
    ap (bit_and n) (below ∙ low) ∙ ap (λ i. bit_and i (2 * q * 2 ^ h + (2 ^ h - 1))) high ∙ and_block h (2 * q + 1) (2 * q) 0 (2 ^ h - 1) part (omega arith)
    ∙ ap (λ i. i * 2 ^ h + bit_and 0 (2 ^ h - 1)) (odd_bits q) ∙ ap (λ i. 2 * q * 2 ^ h + i) (and_zero_l (2 ^ h - 1)) ∙ omega arith

pow_least : (h : ℕ) → 63 ≤ h → 2 ^ 63 ≤ 2 ^ h
pow_least h le = either h 63 (λ b. let e : h ≡ 63 = omega arith in rw e (omega arith)) (λ a. omega (arith, pow_below 63 h a))

few_above : (p q n : ℕ) → n ≡ (2 * q + 1) * p → 2 ^ 63 ≤ p → n < 2 ^ 64 → q ≡ 0
few_above p zero n is great fits = refl
few_above p (suc q) n is great fits = let more : (2 * suc q + 1) * p ≡ (2 * q + 1) * p + 2 * p = grind arith in absurd (omega arith)

double : (p r q : ℕ) → r ≡ 2 * p → 2 * q * p ≡ q * r
double p r q e = grind arith

-- whether the bit above the lowest is set
pub next_bit : (n h q e l : ℕ) → n ≡ (2 * q + 1) * 2 ^ h → n < 2 ^ 64 → e ≡ 2 * q * 2 ^ h → l ≡ 2 ^ h → not (nat_eq (bit_and e (l * 2 % 2 ^ 64)) 0) ≡ (q % 2 == 1)
next_bit n h q e l is fits high low = either h 62
    (λ le. let next : 2 ^ suc h ≡ 2 * 2 ^ h = pow-succ' 2 h in
    let some : 0 < 2 ^ suc h = pow_pos (suc h) in
    let mask : l * 2 % 2 ^ 64 ≡ 2 ^ suc h = omega (arith, pow_below (suc h) 64 (omega arith)) in
    let part : e ≡ q * 2 ^ suc h = high ∙ double (2 ^ h) (2 ^ suc h) q next in
    let found : bit_and e (l * 2 % 2 ^ 64) ≡ q % 2 * 2 ^ suc h = ap (bit_and e) mask ∙ ap (λ i. bit_and i (2 ^ suc h)) part ∙ and_pow (q * 2 ^ suc h) (suc h) ∙ ap (λ i. i % 2 * 2 ^ suc h) (shl-shr q (suc h)) in
    either (q % 2) 0
    (λ le. let even : q % 2 ≡ 0 = omega arith in let none : bit_and e (l * 2 % 2 ^ 64) ≡ 0 = found ∙ ap (λ i. i * 2 ^ suc h) even ∙ omega arith in grind (arith, nat_tests))
    (λ odd. let one : q % 2 ≡ 1 = omega arith in let set : bit_and e (l * 2 % 2 ^ 64) ≡ 2 ^ suc h = found ∙ ap (λ i. i * 2 ^ suc h) one ∙ omega arith in grind (arith, nat_tests)))
    (λ gt. let great : 2 ^ 63 ≤ 2 ^ h = pow_least h (omega arith) in
    let zero : q ≡ 0 = few_above (2 ^ h) q n is great fits in
    let none : e ≡ 0 = high ∙ ap (λ i. 2 * i * 2 ^ h) zero ∙ omega arith in
    let found : bit_and e (l * 2 % 2 ^ 64) ≡ 0 = ap (λ i. bit_and i (l * 2 % 2 ^ 64)) none ∙ and_zero_l (l * 2 % 2 ^ 64) in
    grind (arith, nat_tests))

-- what is known of the marks of a number: it is none, or one that has a next, or the greatest
pub by_number : {A : Type 0} (n w : ℕ) → w ≡ marks_of (min n (2 ^ 64 - 1)) → (n ≡ 0 → w ≡ 0 → A) → ((h q : ℕ) → 0 < n → n + 1 < 2 ^ 64 → w ≡ (2 * q + 1) * 2 ^ h → Marks 64 n h q → A) → (2 ^ 64 ≤ n + 1 → w ≡ (2 * 0 + 1) * 2 ^ 63 → A) → A
unfolding marks_of
by_number n w is none some all = either (2 ^ 64 - 1) n
    (λ top. let most : min n (2 ^ 64 - 1) ≡ tree 64 = omega (arith, tree-pow 64) in all (omega arith) (is ∙ ap (marks_in 64) most ∙ marks-whole 63))
    (λ fits. let same : min n (2 ^ 64 - 1) ≡ n = omega arith in let mine : w ≡ marks_in 64 n = is ∙ ap (marks_in 64) same in
    either n 0
    (λ z. let no : n ≡ 0 = omega arith in none no (mine ∙ ap (marks_in 64) no ∙ marks-zero 64))
    (λ p. let m : (h : ℕ) × (q : ℕ) × Marks 64 n h q = marks 64 n p (omega (arith, tree-pow 64)) in some m.0 m.1 p (omega arith) (mine ∙ m.2.is) m.2))

-- where the last two trees are of one size, the jump of the next number goes over both
pub record Joined (n w l : ℕ) : Type 0 where
  pub fits : n + 1 < 2 ^ 64
  pub some : 0 < l
  pub span : span_of (n + 1) ≡ 2 * (2 * l - 1) + 1
  pub size : 2 * (2 * l - 1) + 1 < 2 ^ 64

is_odd : (b : Bool) (q : ℕ) → b ≡ true → b ≡ (q % 2 == 1) → q % 2 ≡ 1
is_odd b q t e = let f : (q % 2 == 1) ≡ true = sym e ∙ t in grind (arith, nat_tests)

is_even : (b : Bool) (q : ℕ) → b ≡ false → b ≡ (q % 2 == 1) → q % 2 ≡ 0
is_even b q t e = let f : (q % 2 == 1) ≡ false = sym e ∙ t in grind (arith, nat_tests)

not_both : {A : Type 0} (b : Bool) → b ≡ true → b ≡ false → A
not_both b t f = let u : true ≡ false = sym t ∙ f in absurd cc

pub joined : (n w l : ℕ) (b : Bool) → w ≡ marks_of (min n (2 ^ 64 - 1)) → b ≡ true → (w ≡ 0 → b ≡ false) → ((h q : ℕ) → w ≡ (2 * q + 1) * 2 ^ h → b ≡ (q % 2 == 1)) → ((h q : ℕ) → w ≡ (2 * q + 1) * 2 ^ h → l ≡ 2 ^ h) → Joined n w l
unfolding span_of
joined n w l b is pass none some low = by_number n w is
    (λ z zero. not_both b pass (none zero))
    (λ h q p fits mine m.
    let top : n < tree 64 = omega (arith, tree-pow 64) in
    let t = m.two top (is_odd b q pass (some h q mine)) in
    let last : l ≡ 2 ^ h = low h q mine in
    let within : IsSpan (n + 1) (span_in 64 (n + 1)) = is_span 64 (n + 1) (omega arith) (omega arith) in
    let span : span_in 64 (n + 1) ≡ 2 * (2 * l - 1) + 1 = t.0 ∙ ap (λ i. 2 * (2 * i - 1) + 1) (sym last) in
    record {
      fits = fits;
      some = omega (arith, pow_pos h);
      span = span;
      size = omega (arith, within.within);
    })
    (λ ge top. not_both b pass (some 63 0 top))

pub joined_marks : (n w e : ℕ) (b : Bool) → w ≡ marks_of (min n (2 ^ 64 - 1)) → b ≡ true → (w ≡ 0 → b ≡ false) → ((h q : ℕ) → w ≡ (2 * q + 1) * 2 ^ h → b ≡ (q % 2 == 1)) → ((h q : ℕ) → w ≡ (2 * q + 1) * 2 ^ h → e ≡ 2 * q * 2 ^ h) → e ≡ marks_of (min (n + 1) (2 ^ 64 - 1))
unfolding marks_of
joined_marks n w e b is pass none some high = by_number n w is
    (λ z zero. not_both b pass (none zero))
    (λ h q p fits mine m.
    let t = m.two (omega (arith, tree-pow 64)) (is_odd b q pass (some h q mine)) in
    let next : min (n + 1) (2 ^ 64 - 1) ≡ n + 1 = omega arith in
    high h q mine ∙ sym t.1 ∙ ap (marks_in 64) (sym next))
    (λ ge top. not_both b pass (some 63 0 top))

-- otherwise the next number is a tree of its own
pub alone : (n w : ℕ) (b : Bool) → w ≡ marks_of (min n (2 ^ 64 - 1)) → b ≡ false → ((h q : ℕ) → w ≡ (2 * q + 1) * 2 ^ h → b ≡ (q % 2 == 1)) → n + 1 < 2 ^ 64 → span_of (n + 1) ≡ 1
unfolding span_of
alone n w b is fail some fits = by_number n w is
    (λ z zero. let one : n + 1 ≡ 1 = omega arith in ap (span_in 64) one ∙ span-one 64 (omega arith))
    (λ h q p _ mine m. (m.one (omega (arith, tree-pow 64)) (is_even b q fail (some h q mine))).0)
    (λ ge top. absurd (omega arith))

pub record Single (n w l : ℕ) : Type 0 where
  pub small : w + l < 2 ^ 64 → w + l + 1 < 2 ^ 64
  pub marks : w + l < 2 ^ 64 → w + l + 1 ≡ marks_of (min (n + 1) (2 ^ 64 - 1))
  pub all : 2 ^ 64 ≤ w + l → w ≡ marks_of (min (n + 1) (2 ^ 64 - 1))

pub single : (n w l : ℕ) (b : Bool) → w ≡ marks_of (min n (2 ^ 64 - 1)) → b ≡ false → (w ≡ 0 → l ≡ 0) → ((h q : ℕ) → w ≡ (2 * q + 1) * 2 ^ h → b ≡ (q % 2 == 1)) → ((h q : ℕ) → w ≡ (2 * q + 1) * 2 ^ h → l ≡ 2 ^ h) → Single n w l
unfolding marks_of
single n w l b is fail none some low = by_number n w is
    (λ z zero.
    let nothing : l ≡ 0 = none zero in
    let next : min (n + 1) (2 ^ 64 - 1) ≡ 1 = omega arith in
    let mark : marks_in 64 (min (n + 1) (2 ^ 64 - 1)) ≡ 1 = ap (marks_in 64) next ∙ marks-one 64 (omega arith) in
    record {
      small = λ _. omega arith;
      marks = λ _. omega arith;
      all = λ ge. absurd (omega arith);
    })
    (λ h q p fits mine m.
    let top : n < tree 64 = omega (arith, tree-pow 64) in
    let o = m.one top (is_even b q fail (some h q mine)) in
    let last : l ≡ 2 ^ h = low h q mine in
    let next : min (n + 1) (2 ^ 64 - 1) ≡ n + 1 = omega arith in
    let mark : marks_in 64 (min (n + 1) (2 ^ 64 - 1)) ≡ w + l + 1 = ap (marks_in 64) next ∙ omega (arith, o.1, m.is) in
    let below : marks_in 64 (min (n + 1) (2 ^ 64 - 1)) < 2 ^ 64 = marks-below 64 (min (n + 1) (2 ^ 64 - 1)) (omega arith) in
    record {
      small = λ _. omega arith;
      marks = λ _. sym mark;
      all = λ ge. absurd (omega arith);
    })
    (λ ge top.
    let last : l ≡ 2 ^ 63 = low 63 0 top in
    let most : min (n + 1) (2 ^ 64 - 1) ≡ tree 64 = omega (arith, tree-pow 64) in
    record {
      small = λ fits. absurd (omega arith);
      marks = λ fits. absurd (omega arith);
      all = λ _. top ∙ omega arith ∙ sym (ap (marks_in 64) most ∙ marks-whole 63);
    })

pub no_marks : 0 ≡ marks_of (min (0 + 0) (2 ^ 64 - 1))
unfolding marks_of
no_marks = sym (marks-zero 64)
