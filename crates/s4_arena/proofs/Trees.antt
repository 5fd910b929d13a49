-- Trees of numbers, and how far jumps go back in them.
use Rattle.std.proofs.Common.{◌≡◌, ℕ, zero, suc, ◌+◌, ◌-◌, ◌*◌, ◌/◌, ◌^◌, ◌<◌, ◌≤◌, Bool, true, false, eqb, leb, refl, sym, ◌∙◌, ap, subst, arith, eqb-true, eq-eqb}
use Rattle.std.specs.Prelude.{◌≢◌}
use Rattle.std.proofs.Math.Nat.{pow-succ'}
use Rattle.std.proofs.lemmas.Bool.{leb-true}
use Rattle.std.proofs.lemmas.Bool.Decides.{nat_tests}
use Rattle.s4_arena.specs.Spans.{tree, span_in, span_of}

pub by_test : {A : Type 0} (b : Bool) → (b ≡ true → A) → (b ≡ false → A) → A
by_test {A} b pass fail = elim b as (λ v. b ≡ v → A) [ true ↦ pass | false ↦ fail ] refl

pub tree-zero : tree 0 ≡ 0
unfolding tree
tree-zero = refl

pub tree-suc : (k : ℕ) → tree (suc k) ≡ 2 * tree k + 1
unfolding tree
tree-suc k = refl

pub tree-pow : (k : ℕ) → tree k + 1 ≡ 2 ^ k
tree-pow zero = omega (arith, tree-zero)
tree-pow (suc k) = omega (arith, tree-suc k, tree-pow k, pow-succ' 2 k)

-- a number stands in the first tree, or behind both, or in the second
pub three : {A : Type 0} (k n : ℕ) → (n ≤ tree k → A) → (n ≡ 2 * tree k + 1 → A) → (tree k < n → n ≢ 2 * tree k + 1 → A) → A
three k n l m r = by_test (leb n (tree k)) (λ e. l (leb-true n (tree k) e))
    (λ e. by_test (eqb n (2 * tree k + 1)) (λ f. m (eqb-true n (2 * tree k + 1) f))
    (λ f. r (grind (arith, nat_tests)) (λ p. let t : eqb n (2 * tree k + 1) ≡ true = eq-eqb n (2 * tree k + 1) p in cc)))

pub span-left : (k n : ℕ) → n ≤ tree k → span_in (suc k) n ≡ span_in k n
unfolding span_in
span-left k n h = grind (arith, nat_tests)

pub span-root : (k n : ℕ) → n ≡ 2 * tree k + 1 → span_in (suc k) n ≡ 2 * tree k + 1
unfolding span_in
span-root k n h = grind (arith, nat_tests)

pub span-right : (k n : ℕ) → tree k < n → n ≢ 2 * tree k + 1 → span_in (suc k) n ≡ span_in k (n - tree k)
unfolding span_in
span-right k n h ne = grind (arith, nat_tests)

-- the jump behind a whole tree goes over all of it
pub span-whole : (k : ℕ) → 0 < tree k → span_in k (tree k) ≡ tree k
span-whole zero h = absurd (omega (arith, tree-zero))
span-whole (suc k) h = span-root k (tree (suc k)) (tree-suc k) ∙ sym (tree-suc k)

-- a jump goes back by one at least, and not below 0
pub record IsSpan (n s : ℕ) : Type 0 where
  pub above : 0 < s
  pub within : s ≤ n

pub is_span : (k n : ℕ) → 0 < n → n ≤ tree k → IsSpan n (span_in k n)
is_span zero n p h = absurd (omega (arith, tree-zero))
is_span (suc k) n p h = three k n
    (λ l. let ih : IsSpan n (span_in k n) = is_span k n p l in rw (span-left k n l) ih)
    (λ m. rw (span-root k n m) record { above = omega arith; within = omega arith })
    (λ r ne. let size : tree (suc k) ≡ 2 * tree k + 1 = tree-suc k in
    let ih : IsSpan (n - tree k) (span_in k (n - tree k)) = is_span k (n - tree k) (omega arith) (omega arith) in
    rw (span-right k n r ne) record { above = ih.above; within = omega arith })

-- the jump of a number is that of the number before it and that one's jump together, where it goes back by more than one
pub record Joins (k n h : ℕ) : Type 0 where
  pub first : span_in k n ≡ h
  pub above : h < n
  pub second : span_in k (n - h) ≡ h
  pub all : span_in k (n + 1) ≡ 2 * h + 1

pub joins : (k n : ℕ) → 0 < n → n + 1 ≤ tree k → span_in k (n + 1) ≢ 1 → (h : ℕ) × Joins k n h
joins zero n p h ne = absurd (omega (arith, tree-zero))
joins (suc k) n p within ne = three k (n + 1)
    (λ l. let e : span_in (suc k) (n + 1) ≡ span_in k (n + 1) = span-left k (n + 1) l in
    let ih : (h : ℕ) × Joins k n h = joins k n p l (λ q. ne (e ∙ q)) in (
      ih.0,
      record {
        first = span-left k n (omega arith) ∙ ih.1.first;
        above = ih.1.above;
        second = span-left k (n - ih.0) (omega arith) ∙ ih.1.second;
        all = e ∙ ih.1.all;
      },
    ))
    (λ m. let e : span_in (suc k) (n + 1) ≡ 2 * tree k + 1 = span-root k (n + 1) m in
    let some : 0 < tree k = omega arith in
    let twice : n - tree k ≡ tree k = omega arith in (
      tree k,
      record {
        first = span-right k n (omega arith) (λ q. absurd (omega arith)) ∙ ap (span_in k) twice ∙ span-whole k some;
        above = omega arith;
        second = ap (span_in (suc k)) twice ∙ span-left k (tree k) (omega arith) ∙ span-whole k some;
        all = e;
      },
    ))
    (λ r off. let size : tree (suc k) ≡ 2 * tree k + 1 = tree-suc k in
    let e : span_in (suc k) (n + 1) ≡ span_in k (n + 1 - tree k) = span-right k (n + 1) r off in
    by_test (eqb n (tree k))
    (λ f. let same : n ≡ tree k = eqb-true n (tree k) f in
    let one : n + 1 - tree k ≡ 1 = omega arith in
    let b : IsSpan 1 (span_in k 1) = is_span k 1 (omega arith) (omega arith) in
    let is_one : span_in k 1 ≡ 1 = omega arith in
    absurd (ne (e ∙ ap (span_in k) one ∙ is_one)))
    (λ f. let other : n ≢ tree k = (λ q. let t : eqb n (tree k) ≡ true = eq-eqb n (tree k) q in cc) in
    let inner : n + 1 - tree k ≡ (n - tree k) + 1 = omega arith in
    let ih : (h : ℕ) × Joins k (n - tree k) h = joins k (n - tree k) (omega arith) (omega arith) (λ q. ne (e ∙ ap (span_in k) inner ∙ q)) in
    let below : ih.0 < n - tree k = ih.1.above in
    let apart : n - ih.0 - tree k ≡ n - tree k - ih.0 = omega arith in (
      ih.0,
      record {
        first = span-right k n (omega arith) (λ q. absurd (omega arith)) ∙ ih.1.first;
        above = omega arith;
        second = span-right k (n - ih.0) (omega arith) (λ q. absurd (omega arith)) ∙ ap (span_in k) apart ∙ ih.1.second;
        all = e ∙ ap (span_in k) inner ∙ ih.1.all;
      },
    )))

-- a number in a tree stands alike in a higher one
pub tree-higher : (j k : ℕ) → tree k ≤ tree (j + k)
tree-higher zero k = let e : 0 + k ≡ k = omega arith in rw e (omega arith)
tree-higher (suc j) k = let e : suc j + k ≡ suc (j + k) = omega arith in rw e (omega (arith, tree-suc (j + k), tree-higher j k))

pub span-higher : (j k n : ℕ) → n ≤ tree k → span_in (j + k) n ≡ span_in k n
span-higher zero k n h = ap (λ i. span_in i n) (omega arith)
span-higher (suc j) k n h =
    let e : suc j + k ≡ suc (j + k) = omega arith in
    ap (λ i. span_in i n) e ∙ span-left (j + k) n (omega (arith, tree-higher j k)) ∙ span-higher j k n h

-- the span of a number is that in each tree, of at most 64 heights, in which it stands
pub span-is : (k n : ℕ) → k ≤ 64 → n ≤ tree k → span_of n ≡ span_in k n
unfolding span_of
span-is k n top h = let e : 64 ≡ (64 - k) + k = omega arith in ap (λ i. span_in i n) e ∙ span-higher (64 - k) k n h

-- THE LOOP

-- the number left stands in a tree as the number does in the whole
pub record IsAt (number span left : ℕ) : Type 0 where
  pub height : ℕ
  pub is_tree : span ≡ tree height
  pub above : 0 < left
  pub within : left ≤ span
  pub same : span_in height left ≡ span_of number

halved : (k s : ℕ) → s ≡ tree (suc k) → s / 2 ≡ tree k
halved k s e = omega (arith, tree-suc k)

go_left : (k n s l : ℕ) → s ≡ tree k → 0 < l → l ≤ s → span_in k l ≡ span_of n → l ≢ s → l ≤ s / 2 → IsAt n (s / 2) l
go_left zero n s l e p w same ne h = absurd (omega (arith, tree-zero))
go_left (suc k) n s l e p w same ne h = let half : s / 2 ≡ tree k = halved k s e in
    record { height = k; is_tree = half; above = p; within = h; same = sym (span-left k l (omega arith)) ∙ same }

go_right : (k n s l : ℕ) → s ≡ tree k → 0 < l → l ≤ s → span_in k l ≡ span_of n → l ≢ s → s / 2 < l → IsAt n (s / 2) (l - s / 2)
go_right zero n s l e p w same ne h = absurd (omega (arith, tree-zero))
go_right (suc k) n s l e p w same ne h = let half : s / 2 ≡ tree k = halved k s e in let size : tree (suc k) ≡ 2 * tree k + 1 = tree-suc k in
    record {
      height = k;
      is_tree = half;
      above = omega arith;
      within = omega arith;
      same = ap (λ j. span_in k (l - j)) half ∙ sym (span-right k l (omega arith) (λ q. absurd (ne (omega arith)))) ∙ same;
    }

go_end : (k n s : ℕ) → s ≡ tree k → 0 < s → span_in k s ≡ span_of n → s ≡ span_of n
go_end k n s e p same = e ∙ sym (span-whole k (omega arith)) ∙ ap (span_in k) (sym e) ∙ same

pub left_at : (n s l : ℕ) → IsAt n s l → l ≢ s → l ≤ s / 2 → IsAt n (s / 2) l
left_at n s l h ne le = go_left h.height n s l h.is_tree h.above h.within h.same ne le

pub right_at : (n s l : ℕ) → IsAt n s l → l ≢ s → s / 2 < l → IsAt n (s / 2) (l - s / 2)
right_at n s l h ne lt = go_right h.height n s l h.is_tree h.above h.within h.same ne lt

pub last_at : (n s l : ℕ) → IsAt n s l → l ≡ s → s ≡ span_of n
last_at n s l h e = go_end h.height n s h.is_tree (omega arith) (subst (λ j. span_in h.height j ≡ span_of n) e h.same)
