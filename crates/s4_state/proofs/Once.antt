-- Lists that have each thing once.
use Rattle.std.proofs.Common.{◌≡◌, ℕ, ◌+◌, Bool, true, false, cond, List, [], ◌∷◌, refl, sym, ◌∙◌, ap, arith, length, filter, zero-add}
use Rattle.std.specs.Prelude.{◌||◌, not, count_by, if◌then◌else◌}
use Rattle.s4_types.proofs.Booleans.{by_test, not_both}
use Rattle.s4_types.proofs.Ordered.{tally, count-cons}
use Rattle.s4_state.specs.Current.{EachOnce}

length-others : {A : Type 0} (p : A → Bool) (xs : List A) → length (filter (λ x. not (p x)) xs) + count_by p xs ≡ length xs
length-others p [] = refl
length-others {A} p (x ∷ xs) =
    let others : List A = filter (λ y. not (p y)) xs in
    let rest : length others + count_by p xs ≡ length xs = length-others p xs in
    let count : count_by p (x ∷ xs) ≡ cond (p x) 1 0 + count_by p xs = count-cons p x xs in
    by_test (p x)
    (λ e. let kept : length (filter (λ y. not (p y)) (x ∷ xs)) ≡ length others = ap (λ b. length (cond (not b) (x ∷ others) others)) e in
    let one : count_by p (x ∷ xs) ≡ 1 + count_by p xs = count ∙ ap (λ b. cond b 1 0 + count_by p xs) e in
    omega (arith, kept, one, rest))
    (λ e. let kept : length (filter (λ y. not (p y)) (x ∷ xs)) ≡ length others + 1 = ap (λ b. length (cond (not b) (x ∷ others) others)) e ∙ omega arith in
    let none : count_by p (x ∷ xs) ≡ 0 + count_by p xs = count ∙ ap (λ b. cond b 1 0 + count_by p xs) e in
    omega (arith, kept, none, rest))

module _ {A : Type 0} (same : A → A → Bool) (self : (x : A) → same x x ≡ true) (is : (x y : A) → same x y ≡ true → x ≡ y) where
  turned : (x y : A) → same x y ≡ same y x
  turned x y = by_test (same x y)
      (λ e. ap (λ z. same z y) (is x y e) ∙ sym (ap (λ z. same y z) (is x y e)))
      (λ e. e ∙ sym (by_test (same y x) (λ f. absurd (not_both (same x y) (ap (λ z. same x z) (is y x f) ∙ self x) e)) (λ f. f)))

  -- with one more
  pub once-more : (f g : A → Bool) (x : A) (xs : List A) → EachOnce same f xs → f x ≡ false → ((y : A) → g y ≡ (same x y || f y)) → EachOnce same g (x ∷ xs)
  once-more f g x xs each new next y = count-cons (same y) x xs ∙ ap (λ b. cond b 1 0 + count_by (same y) xs) (turned y x) ∙ by_test (same x y)
      (λ e. ap (λ b. cond b 1 0 + count_by (same y) xs) e
      ∙ ap (λ n. 1 + n) (each y ∙ ap (λ b. cond b 1 0) (ap f (sym (is x y e)) ∙ new))
      ∙ sym (ap (λ b. cond b 1 0) (next y ∙ ap (λ b. b || f y) e)))
      (λ e. ap (λ b. cond b 1 0 + count_by (same y) xs) e ∙ zero-add (count_by (same y) xs) ∙ each y
      ∙ sym (ap (λ b. cond b 1 0) (next y ∙ ap (λ b. b || f y) e)))

  count-others : (x y : A) (xs : List A) → count_by (same y) (filter (λ z. not (same x z)) xs) ≡ cond (same x y) 0 (count_by (same y) xs)
  count-others x y [] = of (same x y)
    where
      of : (b : Bool) → ◌≡◌ {A = ℕ} 0 (cond b 0 0)
      of true = refl
      of false = refl
  count-others x y (z ∷ xs) =
      let others : List A = filter (λ w. not (same x w)) xs in
      let rest : count_by (same y) others ≡ cond (same x y) 0 (count_by (same y) xs) = count-others x y xs in
      by_test (same x z)
      (λ e. ap (λ b. count_by (same y) (cond (not b) (z ∷ others) others)) e ∙ rest ∙ by_test (same x y)
      (λ f. ap (λ b. cond b 0 (count_by (same y) xs)) f ∙ sym (ap (λ b. cond b 0 (count_by (same y) (z ∷ xs))) f))
      (λ f. let apart : same y z ≡ false = ap (same y) (sym (is x z e)) ∙ turned y x ∙ f in
      ap (λ b. cond b 0 (count_by (same y) xs)) f
      ∙ sym (ap (λ b. cond b 0 (count_by (same y) (z ∷ xs))) f ∙ count-cons (same y) z xs ∙ ap (λ b. cond b 1 0 + count_by (same y) xs) apart ∙ zero-add (count_by (same y) xs))))
      (λ e. ap (λ b. count_by (same y) (cond (not b) (z ∷ others) others)) e ∙ count-cons (same y) z others ∙ ap (λ n. cond (same y z) 1 0 + n) rest ∙ by_test (same x y)
      (λ f. let apart : same y z ≡ false = ap (λ w. same w z) (sym (is x y f)) ∙ e in
      ap (λ b. cond b 1 0 + cond (same x y) 0 (count_by (same y) xs)) apart ∙ ap (λ b. 0 + cond b 0 (count_by (same y) xs)) f
      ∙ sym (ap (λ b. cond b 0 (count_by (same y) (z ∷ xs))) f))
      (λ f. ap (λ b. cond (same y z) 1 0 + cond b 0 (count_by (same y) xs)) f ∙ sym (ap (λ b. cond b 0 (count_by (same y) (z ∷ xs))) f ∙ count-cons (same y) z xs)))

  -- and with one less
  pub once-less : (f g : A → Bool) (x : A) (xs : List A) → EachOnce same f xs → ((y : A) → g y ≡ (if same x y then false else f y)) → EachOnce same g (filter (λ z. not (same x z)) xs)
  once-less f g x xs each next y = count-others x y xs ∙ ap (cond (same x y) 0) (each y) ∙ by_test (same x y)
      (λ e. ap (λ b. cond b 0 (cond (f y) 1 0)) e ∙ sym (ap (λ b. cond b 1 0) (next y ∙ ap (λ b. cond b false (f y)) e)))
      (λ e. ap (λ b. cond b 0 (cond (f y) 1 0)) e ∙ sym (ap (λ b. cond b 1 0) (next y ∙ ap (λ b. cond b false (f y)) e)))

  pub once-shorter : (f : A → Bool) (x : A) (xs : List A) → EachOnce same f xs → f x ≡ true → length (filter (λ z. not (same x z)) xs) + 1 ≡ length xs
  once-shorter f x xs each here =
      let one : count_by (same x) xs ≡ 1 = each x ∙ ap (λ b. cond b 1 0) here in
      let all = length-others (same x) xs in
      omega (arith, one, all)

  -- how many there are is determined
  pub once-length : (f : A → Bool) (xs ys : List A) → EachOnce same f xs → EachOnce same f ys → length xs ≡ length ys
  once-length f [] [] a b = refl
  once-length f [] (y ∷ ys) a b =
      let none : 0 ≡ tally (f y) = a y in
      let some : count_by (same y) (y ∷ ys) ≡ 1 + count_by (same y) ys = count-cons (same y) y ys ∙ ap (λ t. cond t 1 0 + count_by (same y) ys) (self y) in
      let all : count_by (same y) (y ∷ ys) ≡ tally (f y) = b y in
      absurd (omega (arith, none, some, all))
  once-length f (x ∷ xs) ys a b =
      let some : count_by (same x) (x ∷ xs) ≡ 1 + count_by (same x) xs = count-cons (same x) x xs ∙ ap (λ t. cond t 1 0 + count_by (same x) xs) (self x) in
      let all : count_by (same x) (x ∷ xs) ≡ tally (f x) = a x in
      let here : f x ≡ true = by_test (f x) (λ e. e) (λ e. let none : tally (f x) ≡ 0 = ap tally e in absurd (omega (arith, some, all, none))) in
      let rest : length xs ≡ length (filter (λ z. not (same x z)) ys) = once-length (λ y. if same x y then false else f y) xs (filter (λ z. not (same x z)) ys) fewer (once-less f (λ y. if same x y then false else f y) x ys b (λ y. refl)) in
      let shorter : length (filter (λ z. not (same x z)) ys) + 1 ≡ length ys = once-shorter f x ys b here in
      omega (arith, rest, shorter)
    where
      fewer : EachOnce same (λ y. if same x y then false else f y) xs
      fewer y =
          let count : count_by (same y) (x ∷ xs) ≡ tally (same x y) + count_by (same y) xs = count-cons (same y) x xs ∙ ap (λ t. cond t 1 0 + count_by (same y) xs) (turned y x) in
          by_test (same x y)
          (λ e. let one : tally (same x y) ≡ 1 = ap tally e in
          let most : tally (f y) ≡ 1 = (let all : count_by (same y) (x ∷ xs) ≡ tally (f y) = a y in by_test (f y) (λ g. ap tally g) (λ g. let none : tally (f y) ≡ 0 = ap tally g in absurd (omega (arith, all, none, count, one)))) in
          let none : count_by (same y) xs ≡ 0 = (let all : count_by (same y) (x ∷ xs) ≡ tally (f y) = a y in omega (arith, all, most, count, one)) in
          none ∙ sym (ap (λ t. cond (cond t false (f y)) 1 0) e))
          (λ e. sym (zero-add (count_by (same y) xs)) ∙ sym (ap (λ t. cond t 1 0 + count_by (same y) xs) e) ∙ sym count ∙ a y ∙ sym (ap (λ t. cond (cond t false (f y)) 1 0) e))
