-- Calls that name their places, and what was recorded there.
use Rattle.std.proofs.Common.{◌≡◌, ℕ, zero, suc, ◌+◌, ◌<◌, ◌≤◌, ◌%◌, ◌==◌, ◌||◌, Bool, true, false, cond, List, [], ◌∷◌, ◌++◌, length, filter, append_assoc, length-append, sym, refl, ap, ◌∙◌, subst, arith}
use Rattle.std.specs.Prelude.{slice_get, Some}
use Rattle.std.proofs.lemmas.Bool.Decides.{nat_tests}
use Rattle.std.proofs.lemmas.Nat.{mod_below}
use Rattle.std.proofs.lemmas.Option.{slice_get_within}
use Rattle.s4_calls.specs.declared.hand.Noted.{Noted}
use Rattle.s4_calls.specs.Logs.{noted, items_of, is_in, home, items_in, ArePlaced, AreOneToOne, IsCalled}

module _ {A : Type 0} where
  filter_both : (p : A → Bool) (xs ys : List A) → filter p (xs ++ ys) ≡ filter p xs ++ filter p ys
  filter_both p [] ys = refl
  filter_both p (x ∷ xs) ys = more (p x) _ _ _ (filter_both p xs ys)
    where
      more : (b : Bool) (l m e : List A) → l ≡ m ++ e → cond b (x ∷ l) l ≡ cond b (x ∷ m) m ++ e
      more true l m e q = ap (λ l. x ∷ l) q
      more false l m e q = q

  at_seam : (xs : List A) (y : A) (ys : List A) → slice_get (xs ++ y ∷ ys) (length xs) ≡ Some y
  at_seam [] y ys = refl
  at_seam (x ∷ xs) y ys = at_seam xs y ys

  not_before : (xs ys : List A) (p : ℕ) (z : A) → length xs ≤ p → slice_get (xs ++ ys) p ≡ Some z → (q : ℕ) × (p ≡ length xs + q) × (slice_get ys q ≡ Some z)
  not_before [] ys p z late at = (p, omega arith, at)
  not_before (x ∷ xs) ys zero z late at = absurd (omega (arith, late))
  not_before (x ∷ xs) ys (suc p) z late at = let r = not_before xs ys p z (omega (arith, late)) at in (r.0, omega (arith, r.1), r.2)

module _ {T : Type 0} (is_wide : T → Bool) (range : T → ℕ) (n : ℕ) where
  -- the item is one of the cell that its call names
  pub is_home : (x : T) (k : ℕ) → k ≡ home is_wide range n x → is_in is_wide range n k x ≡ true
  is_home x k e = subst (λ (j : ℕ). is_in is_wide range n j x ≡ true) (sym e) (by (is_wide x))
    where
      by : (b : Bool) → (b || (range x % n == cond b 0 (range x % n))) ≡ true
      by true = refl
      by false = grind (arith, nat_tests)

  pub home_below : (x : T) → 0 < n → home is_wide range n x < n
  home_below x some_cell = by (is_wide x)
    where
      by : (b : Bool) → cond b 0 (range x % n) < n
      by true = some_cell
      by false = mod_below (range x) n some_cell

  pub names_home : (done : List T) (log : List (Noted T)) → ArePlaced is_wide range n done log → (i : ℕ) (c : Noted T) → slice_get log i ≡ Some c → c.cell ≡ home is_wide range n c.item
  names_home done [] placed i c at = absurd (omega (arith, slice_get_within [] i c at))
  names_home done (d ∷ log) placed zero c at = subst (λ (c : Noted T). c.cell ≡ home is_wide range n c.item) (same d c at) placed.0
    where
      same : (x y : Noted T) → Some x ≡ Some y → x ≡ y
      same x y e = grind arith
  names_home done (d ∷ log) placed (suc i) c at = names_home (done ++ d.item ∷ []) log placed.2 i c at

  -- the items of a cell, with this one behind some
  this_in : (k : ℕ) (done : List T) (x : T) (rest : List T) → is_in is_wide range n k x ≡ true → items_in is_wide range n k (done ++ x ∷ rest) ≡ items_in is_wide range n k done ++ (x ∷ items_in is_wide range n k rest)
  this_in k done x rest e = filter_both (is_in is_wide range n k) done (x ∷ rest) ∙ ap (λ (b : Bool). items_in is_wide range n k done ++ cond b (x ∷ items_in is_wide range n k rest) (items_in is_wide range n k rest)) e

  stands_from : (done : List T) (log : List (Noted T)) → ArePlaced is_wide range n done log → (i : ℕ) (c : Noted T) → slice_get log i ≡ Some c → slice_get (items_in is_wide range n c.cell (done ++ items_of log)) c.place ≡ Some c.item
  stands_from done [] placed i c at = absurd (omega (arith, slice_get_within [] i c at))
  stands_from done (d ∷ log) placed zero c at =
      let same : d ≡ c = some_inj d c at in
      subst (λ (c : Noted T). slice_get (items_in is_wide range n c.cell (done ++ d.item ∷ items_of log)) c.place ≡ Some c.item) same
      (ap (λ l. slice_get l d.place) (this_in d.cell done d.item (items_of log) (is_home d.item d.cell placed.0))
      ∙ (ap (λ p. slice_get (items_in is_wide range n d.cell done ++ (d.item ∷ items_in is_wide range n d.cell (items_of log))) p) placed.1 ∙ at_seam (items_in is_wide range n d.cell done) d.item (items_in is_wide range n d.cell (items_of log))))
    where
      some_inj : (x y : Noted T) → Some x ≡ Some y → x ≡ y
      some_inj x y e = grind arith
  stands_from done (d ∷ log) placed (suc i) c at =
      subst (λ l. slice_get (items_in is_wide range n c.cell l) c.place ≡ Some c.item) (append_assoc done (d.item ∷ []) (items_of log)) (stands_from (done ++ d.item ∷ []) log placed.2 i c at)

  -- no call names a place among the items behind it
  low : (done : List T) (log : List (Noted T)) → ArePlaced is_wide range n done log → (i : ℕ) (c : Noted T) → slice_get log i ≡ Some c → length (items_in is_wide range n c.cell done) ≤ c.place
  low done [] placed i c at = absurd (omega (arith, slice_get_within [] i c at))
  low done (d ∷ log) placed zero c at = subst (λ (c : Noted T). length (items_in is_wide range n c.cell done) ≤ c.place) (some_inj d c at) (omega (arith, placed.1))
    where
      some_inj : (x y : Noted T) → Some x ≡ Some y → x ≡ y
      some_inj x y e = grind arith
  low done (d ∷ log) placed (suc i) c at =
      let h = low (done ++ d.item ∷ []) log placed.2 i c at in
      let e = ap (λ l. length l) (filter_both (is_in is_wide range n c.cell) done (d.item ∷ [])) in
      let f = length-append (items_in is_wide range n c.cell done) (items_in is_wide range n c.cell (d.item ∷ [])) in
      omega (arith, h, e, f)

  -- a later call of the cell names a later place
  later : (done : List T) (log : List (Noted T)) (d : Noted T) → ArePlaced is_wide range n done (d ∷ log) → (i : ℕ) (c : Noted T) → slice_get log i ≡ Some c → c.cell ≡ d.cell → d.place < c.place
  later done log d placed i c at same =
      let h = low (done ++ d.item ∷ []) log placed.2 i c at in
      let e = ap (λ l. length l) (this_in d.cell done d.item [] (is_home d.item d.cell placed.0)) in
      let f = length-append (items_in is_wide range n d.cell done) (d.item ∷ []) in
      let g : length (items_in is_wide range n c.cell (done ++ d.item ∷ [])) ≡ length (items_in is_wide range n d.cell (done ++ d.item ∷ [])) = ap (λ (k : ℕ). length (items_in is_wide range n k (done ++ d.item ∷ []))) same in
      let p = placed.1 in
      omega (arith, h, e, f, g, p)

  apart_from : (done : List T) (log : List (Noted T)) → ArePlaced is_wide range n done log → (i j : ℕ) (c d : Noted T) → slice_get log i ≡ Some c → slice_get log j ≡ Some d → c.cell ≡ d.cell → c.place ≡ d.place → i ≡ j
  apart_from done [] placed i j c d at at_too cell place = absurd (omega (arith, slice_get_within [] i c at))
  apart_from done (e ∷ log) placed zero zero c d at at_too cell place = refl
  apart_from done (e ∷ log) placed zero (suc j) c d at at_too cell place =
      let same : e ≡ c = some_inj e c at in
      absurd (omega (arith, later done log e placed j d at_too (sym cell ∙ ap (λ (x : Noted T). x.cell) (sym same)), place, ap (λ (x : Noted T). x.place) same))
    where
      some_inj : (x y : Noted T) → Some x ≡ Some y → x ≡ y
      some_inj x y e = grind arith
  apart_from done (e ∷ log) placed (suc i) zero c d at at_too cell place =
      let same : e ≡ d = some_inj e d at_too in
      absurd (omega (arith, later done log e placed i c at (cell ∙ ap (λ (x : Noted T). x.cell) (sym same)), place, ap (λ (x : Noted T). x.place) same))
    where
      some_inj : (x y : Noted T) → Some x ≡ Some y → x ≡ y
      some_inj x y e = grind arith
  apart_from done (e ∷ log) placed (suc i) (suc j) c d at at_too cell place = ap suc (apart_from (done ++ e.item ∷ []) log placed.2 i j c d at at_too cell place)

  abbrev Found : ℕ → ℕ → T → List (Noted T) → Type 0
  Found k p x log = IsCalled is_wide range n log k p x

  called : (d : Noted T) (k p : ℕ) (x : T) → d.cell ≡ k → d.place ≡ p → d.item ≡ x → Some d ≡ Some (noted k p x)
  called d k p x cell place item = ap (λ (j : ℕ). Some (noted j d.place d.item)) cell ∙ (ap (λ (q : ℕ). Some (noted k q d.item)) place ∙ ap (λ (y : T). Some (noted k p y)) item)

  further : (k p : ℕ) (x : T) (d : Noted T) (log : List (Noted T)) → Found k p x log → Found k p x (d ∷ log)
  further k p x d log f = record { i = suc f.i; there = f.there }

  found_from : (done : List T) (log : List (Noted T)) → ArePlaced is_wide range n done log → (k p : ℕ) (x : T) → slice_get (items_in is_wide range n k (done ++ items_of log)) p ≡ Some x → length (items_in is_wide range n k done) ≤ p → home is_wide range n x ≡ k → Found k p x log
  found_from done [] placed k p x at late here =
      absurd (omega (arith, late, slice_get_within _ p x at, ap (λ l. length l) (filter_both (is_in is_wide range n k) done []), length-append (items_in is_wide range n k done) []))
  found_from done (d ∷ log) placed k p x at late here =
      by (λ late_too. further k p x d log (found_from (done ++ d.item ∷ []) log placed.2 k p x (subst (λ l. slice_get (items_in is_wide range n k l) p ≡ Some x) (sym (append_assoc done (d.item ∷ []) (items_of log))) at) late_too here)) (is_in is_wide range n k d.item) refl
    where
      some_inj : (x y : T) → Some x ≡ Some y → x ≡ y
      some_inj x y e = grind arith

      one_more : (b : Bool) → is_in is_wide range n k d.item ≡ b → length (items_in is_wide range n k (done ++ d.item ∷ [])) ≡ length (items_in is_wide range n k done) + length (cond b (d.item ∷ []) [])
      one_more b e = ap (λ l. length l) (filter_both (is_in is_wide range n k) done (d.item ∷ [])) ∙ (length-append (items_in is_wide range n k done) _ ∙ ap (λ (b : Bool). length (items_in is_wide range n k done) + length (cond b (d.item ∷ []) [])) e)

      at_last : (q : ℕ) → p ≡ length (items_in is_wide range n k done) + q → slice_get (d.item ∷ items_in is_wide range n k (items_of log)) q ≡ Some x
          → (length (items_in is_wide range n k (done ++ d.item ∷ [])) ≤ p → Found k p x (d ∷ log)) → is_in is_wide range n k d.item ≡ true → Found k p x (d ∷ log)
      at_last zero place is later e =
          let same : d.item ≡ x = some_inj d.item x is in
          let cell : d.cell ≡ k = placed.0 ∙ (ap (λ x. home is_wide range n x) same ∙ here) in
          record { i = 0; there = called d k p x cell (placed.1 ∙ (ap (λ (j : ℕ). length (items_in is_wide range n j done)) cell ∙ omega (arith, place))) same }
      at_last (suc q) place is later e = later (let m = one_more true e in omega (arith, place, m))

      by : (length (items_in is_wide range n k (done ++ d.item ∷ [])) ≤ p → Found k p x (d ∷ log)) → (b : Bool) → is_in is_wide range n k d.item ≡ b → Found k p x (d ∷ log)
      by later true e =
          let r = not_before (items_in is_wide range n k done) (d.item ∷ items_in is_wide range n k (items_of log)) p x late (subst (λ l. slice_get l p ≡ Some x) (this_in k done d.item (items_of log) e) at) in
          at_last r.0 r.1 r.2 later e
      by later false e = later (let m = one_more false e in omega (arith, late, m))

  pub one-to-one : (log : List (Noted T)) → ArePlaced is_wide range n [] log → AreOneToOne is_wide range n log
  one-to-one log placed = record {
    stands = λ i c at. stands_from [] log placed i c at;
    apart = λ i j c d at at_too cell place. apart_from [] log placed i j c d at at_too cell place;
    found = λ k p x at here. found_from [] log placed k p x at (omega arith) here;
  }
