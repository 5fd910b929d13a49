-- Lists after a write, with one more at the end, without the first, and items without their jumps.
use Rattle.std.specs.Prelude.{◌≡◌, ℕ, zero, suc, ◌<◌, List, [], ◌∷◌, ◌++◌, length, drop, slice_get, slice_set, Some, None, refl}
use Rattle.std.proofs.Common.{ap, arith}
use Rattle.s4_arena.specs.declared.leap.Leap.{Leap}
use Rattle.s4_arena.specs.Leaps.{items_in, item_in}

pub get_set_here : {X : Type 0} (xs : List X) (i : ℕ) (v : X) → i < length xs → slice_get (slice_set xs i v) i ≡ Some v
get_set_here [] i v h = absurd (omega arith)
get_set_here (x ∷ xs) zero v h = refl
get_set_here (x ∷ xs) (suc i) v h = get_set_here xs i v (omega arith)

pub get_set_apart : {X : Type 0} (xs : List X) (i q : ℕ) (v : X) → (q ≡ i → ⊥) → slice_get (slice_set xs i v) q ≡ slice_get xs q
get_set_apart [] i q v d = refl
get_set_apart (x ∷ xs) zero zero v d = absurd (d refl)
get_set_apart (x ∷ xs) zero (suc q) v d = refl
get_set_apart (x ∷ xs) (suc i) zero v d = refl
get_set_apart (x ∷ xs) (suc i) (suc q) v d = get_set_apart xs i q v (λ e. d (ap suc e))

pub get_last : {B : Type 0} → (xs : List B) (v : B) → slice_get (xs ++ v ∷ []) (length xs) ≡ Some v
get_last [] v = refl
get_last (x ∷ xs) v = get_last xs v

pub get_apart : {B : Type 0} → (xs : List B) (v : B) (q : ℕ) → (q ≡ length xs → ⊥) → slice_get (xs ++ v ∷ []) q ≡ slice_get xs q
get_apart [] v zero d = absurd (d refl)
get_apart [] v (suc q) d = refl
get_apart (x ∷ xs) v zero d = refl
get_apart (x ∷ xs) v (suc q) d = get_apart xs v q (λ e. d (ap suc e))

pub get_past : {B : Type 0} → (xs : List B) → slice_get xs (length xs) ≡ None
get_past [] = refl
get_past (x ∷ xs) = get_past xs

pub get_before : {A : Type 0} (xs : List A) (a : A) (i : ℕ) → i < length xs → slice_get (xs ++ a ∷ []) i ≡ slice_get xs i
get_before [] a i h = absurd (omega arith)
get_before (x ∷ xs) a zero h = refl
get_before (x ∷ xs) a (suc i) h = get_before xs a i (omega arith)

pub none_past : {A : Type 0} (xs : List A) (a b : A) (i : ℕ) → length xs < i → slice_get (xs ++ a ∷ []) i ≡ Some b → ⊥
none_past [] a b zero h e = absurd (omega arith)
none_past [] a b (suc i) h e = cc
none_past (x ∷ xs) a b zero h e = absurd (omega arith)
none_past (x ∷ xs) a b (suc i) h e = none_past xs a b i (omega arith) e

pub get_dropped : {A : Type 0} (xs : List A) (i : ℕ) → slice_get (drop 1 xs) i ≡ slice_get xs (suc i)
get_dropped [] i = refl
get_dropped (x ∷ xs) i = refl

module _ {X : Type 0} where
  pub items_push : (xs : List (Leap X)) (l : Leap X) → items_in (xs ++ l ∷ []) ≡ items_in xs ++ l.item ∷ []
  items_push [] l = refl
  items_push (x ∷ xs) l = ap (λ ys. x.item ∷ ys) (items_push xs l)

  pub items_drop : (xs : List (Leap X)) → items_in (drop 1 xs) ≡ drop 1 (items_in xs)
  items_drop [] = refl
  items_drop (x ∷ xs) = refl

  pub item_get : (xs : List (Leap X)) (i : ℕ) → item_in (slice_get xs i) ≡ slice_get (items_in xs) i
  item_get [] i = refl
  item_get (x ∷ xs) zero = refl
  item_get (x ∷ xs) (suc i) = item_get xs i
