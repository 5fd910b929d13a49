-- How a search goes on, and how many steps it takes.
use Rattle.std.proofs.Common.{◌≡◌, ℕ, zero, suc, ◌+◌, ◌-◌, ◌*◌, ◌<◌, ◌≤◌, true, eqb, leb, refl, sym, ◌∙◌, ap, arith}
use Rattle.std.specs.Prelude.{◌≢◌, ◌==◌, nat_le, cond}
use Rattle.std.proofs.lemmas.Bool.{leb-true, le-leb}
use Rattle.std.proofs.lemmas.Bool.Decides.{nat_tests}
use Rattle.s4_arena.specs.Spans.{tree, span_in}
use Rattle.s4_arena.proofs.Trees.{by_test, three, tree-zero, tree-suc, span-left, span-root, span-right, IsSpan, is_span}

-- how many jumps lead from a number out of its tree
unfoldable pub up : ℕ → ℕ → ℕ
up zero n = 0
up (suc k) n = cond (nat_le n (tree k)) (up k n) (cond (n == 2 * tree k + 1) 1 (up k (n - tree k) + 1))

-- how many steps lead from a number back to the one behind t: a jump where it doesn't go to t or below, and else one back
unfoldable pub steps : ℕ → ℕ → ℕ → ℕ
steps zero n t = 0
steps (suc k) n t = cond (nat_le n t) 0
    (cond (nat_le n (tree k)) (steps k n t)
    (cond (n == 2 * tree k + 1)
    (1 + cond (nat_le (tree k) t) (steps k (tree k) (t - tree k)) (up k (tree k) + steps k (tree k) t))
    (cond (nat_le (tree k) t) (steps k (n - tree k) (t - tree k)) (up k (n - tree k) + steps k (tree k) t))))

-- OUT OF A TREE

up-left : (k n : ℕ) → n ≤ tree k → up (suc k) n ≡ up k n
unfolding up
up-left k n h = grind (arith, nat_tests)

up-root : (k n : ℕ) → n ≡ 2 * tree k + 1 → up (suc k) n ≡ 1
unfolding up
up-root k n h = grind (arith, nat_tests)

up-right : (k n : ℕ) → tree k < n → n ≢ 2 * tree k + 1 → up (suc k) n ≡ up k (n - tree k) + 1
unfolding up
up-right k n h ne = grind (arith, nat_tests)

up-whole : (k : ℕ) → 0 < tree k → up k (tree k) ≡ 1
up-whole zero h = absurd (omega (arith, tree-zero))
up-whole (suc k) h = up-root k (tree (suc k)) (tree-suc k)

-- a jump out of the tree is the last
pub up-last : (k n : ℕ) → 0 < n → n ≤ tree k → span_in k n ≡ n → up k n ≡ 1
up-last zero n p h e = absurd (omega (arith, tree-zero))
up-last (suc k) n p h e = three k n
    (λ l. up-left k n l ∙ up-last k n p l (sym (span-left k n l) ∙ e))
    (λ m. up-root k n m)
    (λ r ne. let s : IsSpan (n - tree k) (span_in k (n - tree k)) = is_span k (n - tree k) (omega arith) (omega (arith, tree-suc k)) in
    absurd (omega (arith, span-right k n r ne, tree-suc k)))

-- each other one leads on
pub up-jump : (k n : ℕ) → 0 < n → n ≤ tree k → span_in k n < n → up k n ≡ 1 + up k (n - span_in k n)
up-jump zero n p h lt = absurd (omega (arith, tree-zero))
up-jump (suc k) n p h lt = three k n
    (λ l. let e : span_in (suc k) n ≡ span_in k n = span-left k n l in
    let ih : up k n ≡ 1 + up k (n - span_in k n) = up-jump k n p l (omega arith) in
    up-left k n l ∙ ih ∙ ap (λ i. 1 + i) (sym (up-left k (n - span_in k n) (omega arith))) ∙ ap (λ s. 1 + up (suc k) (n - s)) (sym e))
    (λ m. absurd (omega (arith, span-root k n m)))
    (λ r ne. let size : tree (suc k) ≡ 2 * tree k + 1 = tree-suc k in
    let e : span_in (suc k) n ≡ span_in k (n - tree k) = span-right k n r ne in
    let s : IsSpan (n - tree k) (span_in k (n - tree k)) = is_span k (n - tree k) (omega arith) (omega arith) in
    let here : up (suc k) n ≡ up k (n - tree k) + 1 = up-right k n r ne in
    let goal : ℕ → ℕ = λ i. 1 + up (suc k) (n - i) in
    by_test (eqb (span_in k (n - tree k)) (n - tree k))
    (λ f. let whole : span_in k (n - tree k) ≡ n - tree k = grind (arith, nat_tests) in
    let out : up k (n - tree k) ≡ 1 = up-last k (n - tree k) (omega arith) (omega arith) whole in
    let at : n - span_in (suc k) n ≡ tree k = omega arith in
    let there : up (suc k) (n - span_in (suc k) n) ≡ 1 = ap (up (suc k)) at ∙ up-left k (tree k) (omega arith) ∙ up-whole k (omega arith) in
    omega arith)
    (λ f. let inner : span_in k (n - tree k) < n - tree k = grind (arith, nat_tests) in
    let ih : up k (n - tree k) ≡ 1 + up k (n - tree k - span_in k (n - tree k)) = up-jump k (n - tree k) (omega arith) (omega arith) inner in
    let at : n - span_in (suc k) n - tree k ≡ n - tree k - span_in k (n - tree k) = omega arith in
    let there : up (suc k) (n - span_in (suc k) n) ≡ up k (n - tree k - span_in k (n - tree k)) + 1 =
    up-right k (n - span_in (suc k) n) (omega arith) (λ q. absurd (omega arith)) ∙ ap (λ i. up k i + 1) at in
    omega arith))

-- BACK TO A NUMBER

pub steps-done : (k n t : ℕ) → n ≤ t → steps k n t ≡ 0
unfolding steps
steps-done zero n t h = refl
steps-done (suc k) n t h = let e : leb n t ≡ true = le-leb n t h in rw e refl

steps-left : (k n t : ℕ) → t < n → n ≤ tree k → steps (suc k) n t ≡ steps k n t
unfolding steps
steps-left k n t lt h = grind (arith, nat_tests)

steps-root-right : (k n t : ℕ) → t < n → n ≡ 2 * tree k + 1 → tree k ≤ t → steps (suc k) n t ≡ 1 + steps k (tree k) (t - tree k)
unfolding steps
steps-root-right k n t lt h r = grind (arith, nat_tests)

steps-root-left : (k n t : ℕ) → t < n → n ≡ 2 * tree k + 1 → t < tree k → steps (suc k) n t ≡ 1 + (up k (tree k) + steps k (tree k) t)
unfolding steps
steps-root-left k n t lt h r = grind (arith, nat_tests)

steps-right-right : (k n t : ℕ) → t < n → tree k < n → n ≢ 2 * tree k + 1 → tree k ≤ t → steps (suc k) n t ≡ steps k (n - tree k) (t - tree k)
unfolding steps
steps-right-right k n t lt h ne r = grind (arith, nat_tests)

steps-right-left : (k n t : ℕ) → t < n → tree k < n → n ≢ 2 * tree k + 1 → t < tree k → steps (suc k) n t ≡ up k (n - tree k) + steps k (tree k) t
unfolding steps
steps-right-left k n t lt h ne r = grind (arith, nat_tests)

-- whether the place is above t or not
pub either : {A : Type 0} (n t : ℕ) → (n ≤ t → A) → (t < n → A) → A
either n t below above = by_test (leb n t) (λ e. below (leb-true n t e)) (λ e. above (grind (arith, nat_tests)))

-- THE TWO KINDS OF STEP

pub steps-jump : (k n t : ℕ) → 0 < n → n ≤ tree k → t + span_in k n < n → steps k n t ≡ 1 + steps k (n - span_in k n) t
steps-jump zero n t p h lt = absurd (omega (arith, tree-zero))
steps-jump (suc k) n t p h lt = three k n
    (λ l. let e : span_in (suc k) n ≡ span_in k n = span-left k n l in
    let ih : steps k n t ≡ 1 + steps k (n - span_in k n) t = steps-jump k n t p l (omega arith) in
    let there : steps (suc k) (n - span_in (suc k) n) t ≡ steps k (n - span_in k n) t =
    ap (λ s. steps (suc k) (n - s) t) e ∙ steps-left k (n - span_in k n) t (omega arith) (omega arith) in
    let here : steps (suc k) n t ≡ steps k n t = steps-left k n t (omega arith) l in
    omega arith)
    (λ m. absurd (omega (arith, span-root k n m)))
    (λ r ne. let size : tree (suc k) ≡ 2 * tree k + 1 = tree-suc k in
    let e : span_in (suc k) n ≡ span_in k (n - tree k) = span-right k n r ne in
    let s : IsSpan (n - tree k) (span_in k (n - tree k)) = is_span k (n - tree k) (omega arith) (omega arith) in
    let apart : n - span_in (suc k) n - tree k ≡ n - tree k - span_in k (n - tree k) = omega arith in
    either (tree k) t
    (λ b. let here : steps (suc k) n t ≡ steps k (n - tree k) (t - tree k) = steps-right-right k n t (omega arith) r ne b in
    let ih : steps k (n - tree k) (t - tree k) ≡ 1 + steps k (n - tree k - span_in k (n - tree k)) (t - tree k) = steps-jump k (n - tree k) (t - tree k) (omega arith) (omega arith) (omega arith) in
    let there : steps (suc k) (n - span_in (suc k) n) t ≡ steps k (n - tree k - span_in k (n - tree k)) (t - tree k) =
    steps-right-right k (n - span_in (suc k) n) t (omega arith) (omega arith) (λ q. absurd (omega arith)) b ∙ ap (λ i. steps k i (t - tree k)) apart in
    omega arith)
    (λ a. let here : steps (suc k) n t ≡ up k (n - tree k) + steps k (tree k) t = steps-right-left k n t (omega arith) r ne a in
    by_test (eqb (span_in k (n - tree k)) (n - tree k))
    (λ f. let whole : span_in k (n - tree k) ≡ n - tree k = grind (arith, nat_tests) in
    let out : up k (n - tree k) ≡ 1 = up-last k (n - tree k) (omega arith) (omega arith) whole in
    let at : n - span_in (suc k) n ≡ tree k = omega arith in
    let there : steps (suc k) (n - span_in (suc k) n) t ≡ steps k (tree k) t =
    ap (λ i. steps (suc k) i t) at ∙ steps-left k (tree k) t a (omega arith) in
    omega arith)
    (λ f. let inner : span_in k (n - tree k) < n - tree k = grind (arith, nat_tests) in
    let on : up k (n - tree k) ≡ 1 + up k (n - tree k - span_in k (n - tree k)) = up-jump k (n - tree k) (omega arith) (omega arith) inner in
    let there : steps (suc k) (n - span_in (suc k) n) t ≡ up k (n - tree k - span_in k (n - tree k)) + steps k (tree k) t =
    steps-right-left k (n - span_in (suc k) n) t (omega arith) (omega arith) (λ q. absurd (omega arith)) a ∙ ap (λ i. up k i + steps k (tree k) t) apart in
    omega arith)))

pub steps-back : (k n t : ℕ) → t < n → n ≤ tree k → n ≤ t + span_in k n → steps k n t ≡ 1 + steps k (n - 1) t
steps-back zero n t p h le = absurd (omega (arith, tree-zero))
steps-back (suc k) n t p h le = three k n
    (λ l. let e : span_in (suc k) n ≡ span_in k n = span-left k n l in
    let ih : steps k n t ≡ 1 + steps k (n - 1) t = steps-back k n t p l (omega arith) in
    let here : steps (suc k) n t ≡ steps k n t = steps-left k n t p l in
    let there : steps (suc k) (n - 1) t ≡ steps k (n - 1) t = either (n - 1) t
    (λ b. steps-done (suc k) (n - 1) t b ∙ sym (steps-done k (n - 1) t b))
    (λ a. steps-left k (n - 1) t a (omega arith)) in
    omega arith)
    (λ m. either (tree k) t
    (λ b. let here : steps (suc k) n t ≡ 1 + steps k (tree k) (t - tree k) = steps-root-right k n t p m b in
    let inner : n - 1 - tree k ≡ tree k = omega arith in
    let there : steps (suc k) (n - 1) t ≡ steps k (tree k) (t - tree k) = either (n - 1) t
    (λ d. steps-done (suc k) (n - 1) t d ∙ sym (steps-done k (tree k) (t - tree k) (omega arith)))
    (λ a. steps-right-right k (n - 1) t a (omega arith) (λ q. absurd (omega arith)) b ∙ ap (λ i. steps k i (t - tree k)) inner) in
    omega arith)
    (λ a. let here : steps (suc k) n t ≡ 1 + (up k (tree k) + steps k (tree k) t) = steps-root-left k n t p m a in
    let inner : n - 1 - tree k ≡ tree k = omega arith in
    let there : steps (suc k) (n - 1) t ≡ up k (tree k) + steps k (tree k) t =
    steps-right-left k (n - 1) t (omega arith) (omega arith) (λ q. absurd (omega arith)) a ∙ ap (λ i. up k i + steps k (tree k) t) inner in
    omega arith))
    (λ r ne. let size : tree (suc k) ≡ 2 * tree k + 1 = tree-suc k in
    let e : span_in (suc k) n ≡ span_in k (n - tree k) = span-right k n r ne in
    let s : IsSpan (n - tree k) (span_in k (n - tree k)) = is_span k (n - tree k) (omega arith) (omega arith) in
    let b : tree k ≤ t = omega arith in
    let here : steps (suc k) n t ≡ steps k (n - tree k) (t - tree k) = steps-right-right k n t p r ne b in
    let ih : steps k (n - tree k) (t - tree k) ≡ 1 + steps k (n - tree k - 1) (t - tree k) = steps-back k (n - tree k) (t - tree k) (omega arith) (omega arith) (omega arith) in
    let inner : n - 1 - tree k ≡ n - tree k - 1 = omega arith in
    let there : steps (suc k) (n - 1) t ≡ steps k (n - tree k - 1) (t - tree k) = either (n - 1) t
    (λ d. steps-done (suc k) (n - 1) t d ∙ sym (steps-done k (n - tree k - 1) (t - tree k) (omega arith)))
    (λ a. steps-right-right k (n - 1) t a (omega arith) (λ q. absurd (omega arith)) b ∙ ap (λ i. steps k i (t - tree k)) inner) in
    omega arith)

-- HOW MANY THEY ARE

up-few : (k n : ℕ) → 0 < n → n ≤ tree k → up k n ≤ k
up-few zero n p h = absurd (omega (arith, tree-zero))
up-few (suc k) n p h = three k n
    (λ l. omega (arith, up-left k n l, up-few k n p l))
    (λ m. omega (arith, up-root k n m))
    (λ r ne. omega (arith, up-right k n r ne, up-few k (n - tree k) (omega arith) (omega (arith, tree-suc k))))

whole-few : (k t : ℕ) → t < tree k → steps k (tree k) t ≤ 2 * k
whole-few zero t h = absurd (omega (arith, tree-zero))
whole-few (suc k) t h = let size : tree (suc k) ≡ 2 * tree k + 1 = tree-suc k in
    either (tree k) t
    (λ b. let here : steps (suc k) (tree (suc k)) t ≡ 1 + steps k (tree k) (t - tree k) = steps-root-right k (tree (suc k)) t h size b in
    either (tree k) (t - tree k)
    (λ d. omega (arith, steps-done k (tree k) (t - tree k) d))
    (λ a. omega (arith, whole-few k (t - tree k) a)))
    (λ a. let here : steps (suc k) (tree (suc k)) t ≡ 1 + (up k (tree k) + steps k (tree k) t) = steps-root-left k (tree (suc k)) t h size a in
    omega (arith, up-whole k (omega arith), whole-few k t a))

pub steps-few : (k n t : ℕ) → t < n → n ≤ tree k → steps k n t ≤ 3 * k
steps-few zero n t p h = absurd (omega (arith, tree-zero))
steps-few (suc k) n t p h = three k n
    (λ l. omega (arith, steps-left k n t p l, steps-few k n t p l))
    (λ m. let e : n ≡ tree (suc k) = omega (arith, tree-suc k) in
    let few : steps (suc k) (tree (suc k)) t ≤ 2 * suc k = whole-few (suc k) t (omega arith) in
    omega (arith, ap (λ i. steps (suc k) i t) e))
    (λ r ne. let size : tree (suc k) ≡ 2 * tree k + 1 = tree-suc k in
    either (tree k) t
    (λ b. omega (arith, steps-right-right k n t p r ne b, steps-few k (n - tree k) (t - tree k) (omega arith) (omega arith)))
    (λ a. omega (arith, steps-right-left k n t p r ne a, up-few k (n - tree k) (omega arith) (omega arith), whole-few k t a)))
