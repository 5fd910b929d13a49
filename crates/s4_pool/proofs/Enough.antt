-- Where each of so many numbers is that of just one pass, there are as many passes.
use Rattle.std.proofs.Common.{◌≡◌, ℕ, zero, suc, ◌+◌, ◌≤◌, ◌==◌, Bool, true, false, cond, List, [], ◌∷◌, length, ap, refl, arith}
use Rattle.std.proofs.lemmas.Bool.{ne_eqb}
use Rattle.std.proofs.lemmas.Bool.Decides.{nat_tests}
use Rattle.std.proofs.lemmas.List.Sums.{sum_by-cons}
use Rattle.s4_passes.specs.Calls.{CallList}
use Rattle.s4_pool.specs.Numbers.{numbered, HasAll}

abbrev one_if : Bool → ℕ
one_if b = cond b 1 0

-- 1 where x is below n
abbrev below : ℕ → ℕ → ℕ
below zero x = 0
below (suc n) x = cond (x == n) 1 0 + below n x

below-none : (n x : ℕ) → n ≤ x → below n x ≡ 0
below-none zero x le = refl
below-none (suc n) x le =
    let h = below-none n x (omega (arith, le)) in
    let ne : (x == n) ≡ false = ne_eqb x n (λ e. absurd (omega (arith, e, le))) in
    let c : cond (x == n) 1 0 ≡ 0 = ap one_if ne in
    omega (arith, h, c)

below-le : (n x : ℕ) → below n x ≤ 1
below-le zero x = omega arith
below-le (suc n) x = here (below-le n x) (x == n) refl
  where
    here : below n x ≤ 1 → (b : Bool) → (x == n) ≡ b → below (suc n) x ≤ 1
    here h true e = let same : x ≡ n = grind (arith, nat_tests) in let none = below-none n x (omega (arith, same)) in let c : cond (x == n) 1 0 ≡ 1 = ap one_if e in omega (arith, none, c)
    here h false e = let c : cond (x == n) 1 0 ≡ 0 = ap one_if e in omega (arith, h, c)

abbrev all_below : ℕ → List CallList → ℕ
all_below zero passes = 0
all_below (suc n) passes = numbered n passes + all_below n passes

numbered-cons : (n : ℕ) (pass : CallList) (passes : List CallList) → numbered n (pass ∷ passes) ≡ cond (pass.number == n) 1 0 + numbered n passes
numbered-cons n pass passes = sum_by-cons (λ (q : CallList). cond (q.number == n) 1 0) pass passes

all_below-cons : (n : ℕ) (pass : CallList) (passes : List CallList) → all_below n (pass ∷ passes) ≡ below n pass.number + all_below n passes
all_below-cons zero pass passes = refl
all_below-cons (suc n) pass passes = let h = all_below-cons n pass passes in let c = numbered-cons n pass passes in omega (arith, h, c)

all_below-nil : (n : ℕ) → all_below n [] ≡ 0
all_below-nil zero = refl
all_below-nil (suc n) = let h = all_below-nil n in omega (arith, h)

all_below-le : (n : ℕ) (passes : List CallList) → all_below n passes ≤ length passes
all_below-le n [] = let e = all_below-nil n in omega (arith, e)
all_below-le n (pass ∷ passes) = let h = all_below-le n passes in let c = all_below-cons n pass passes in let b = below-le n pass.number in omega (arith, h, c, b)

all_below-all : (n : ℕ) (passes : List CallList) → HasAll n passes → all_below n passes ≡ n
all_below-all zero passes all = refl
all_below-all (suc n) passes all = let h = all_below-all n passes (λ k lt. all k (omega (arith, lt))) in let one = all n (omega arith) in omega (arith, h, one)

pub enough_passes : (n : ℕ) (passes : List CallList) → HasAll n passes → n ≤ length passes
enough_passes n passes all = let e = all_below-all n passes all in let l = all_below-le n passes in omega (arith, e, l)
