-- Two lists that are compared element by element, from the front.
use Rattle.std.proofs.Common.{◌≡◌, refl, sym, ap, ◌∙◌, arith, ℕ, zero, suc, ◌+◌, ◌<◌, ◌≤◌, List, [], ◌∷◌, length, take}
use Rattle.std.specs.Prelude.{◌&&◌, nat_eq, slice_index_or}
use Rattle.std.specs.Cmp.Lexicographic.{pointwise}
use Rattle.std.proofs.Math.Bool.{and_assoc, and-true}

the_next : (i : ℕ) → i + 1 ≡ suc i
the_next i = omega arith

-- one element more
next : (xs ys : List ℕ) (i : ℕ) → i < length xs → length xs ≡ length ys
    → pointwise nat_eq (take (suc i) xs) (take (suc i) ys)
    ≡ (pointwise nat_eq (take i xs) (take i ys) && nat_eq (slice_index_or xs i 0) (slice_index_or ys i 0))
next [] ys i h e = absurd (omega arith)
next (x ∷ xs) [] i h e = absurd (omega arith)
next (x ∷ xs) (y ∷ ys) zero h e = and-true (nat_eq x y)
next (x ∷ xs) (y ∷ ys) (suc i) h e = ap (λ b. nat_eq x y && b) (next xs ys i (omega arith) (omega arith)) ∙ sym (and_assoc (nat_eq x y) _ _)

pub one_more : (xs ys : List ℕ) (i : ℕ) → i < length xs → length xs ≡ length ys
    → pointwise nat_eq (take (i + 1) xs) (take (i + 1) ys)
    ≡ (pointwise nat_eq (take i xs) (take i ys) && nat_eq (slice_index_or xs i 0) (slice_index_or ys i 0))
one_more xs ys i h e = ap (λ n. pointwise nat_eq (take n xs) (take n ys)) (the_next i) ∙ next xs ys i h e

-- so many that none is left
pub taken : (xs : List ℕ) (i : ℕ) → length xs ≤ i → take i xs ≡ xs
taken [] zero h = refl
taken [] (suc i) h = refl
taken (x ∷ xs) zero h = absurd (omega arith)
taken (x ∷ xs) (suc i) h = ap (λ zs. x ∷ zs) (taken xs i (omega arith))

pub compared : (xs ys : List ℕ) (i : ℕ) → length xs ≤ i → length xs ≡ length ys → pointwise nat_eq (take i xs) (take i ys) ≡ pointwise nat_eq xs ys
compared xs ys i h e = ap (λ zs. pointwise nat_eq zs (take i ys)) (taken xs i h) ∙ ap (pointwise nat_eq xs) (taken ys i (omega arith))
