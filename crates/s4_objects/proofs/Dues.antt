-- The values that are yet to be erased and have one end.
use Rattle.std.proofs.Common.{◌≡◌, ℕ, suc, ◌+◌, ◌<◌, ◌≤◌, Bool, true, false, cond, Option, Some, None, List, [], ◌∷◌, refl, sym, ◌∙◌, ap, subst, arith, take, length, count_by}
use Rattle.std.specs.Prelude.{◌&&◌, ◌||◌, ◌==◌, nat_le, nat_lt, is_some, if◌then◌else◌}
use Rattle.std.specs.List.{list_all, list_any, prefix_len}
use Rattle.std.proofs.lemmas.Bool.{eqb-true, eq-eqb}
use Rattle.std.proofs.lemmas.List.Sums.{sum_by-cons}
use Rattle.s4_types.specs.declared.version.Version.{Version}
use Rattle.s4_types.specs.Versions.{ends_by}
use Rattle.s4_types.proofs.Booleans.{by_test, both, not_both, &&-false}
use Rattle.s4_tracks.specs.Chain.{is_within, erased, flushed_one, flushed, is_erasable, with_first_erased, end_is_before, ended_before}
use Rattle.s4_objects.specs.Ends.{HasEnds, is_end_from, is_timely}

-- COUNTS

abbrev tally : Bool → ℕ
tally b = cond b 1 0

pub count_cons : {A : Type 0} (p : A → Bool) (x : A) (xs : List A) → count_by p (x ∷ xs) ≡ tally (p x) + count_by p xs
count_cons p x xs = sum_by-cons (λ y. tally (p y)) x xs

-- THE VALUES WITH ONE END

abbrev pub ends_at : ℕ → Option ℕ → Bool
ends_at m None = false
ends_at m (Some end) = end == m

module _ (from : ℕ) where
  -- whether the value is yet to be erased, and ended at the moment
  abbrev pub is_due : ℕ → Version → Bool
  is_due m v = is_erasable from m v && ends_at m v.end

  abbrev pub due_count : ℕ → List Version → ℕ
  due_count m vs = count_by (is_due m) vs

  erasable-erased : (m : ℕ) (v : Version) → is_erasable from m (erased v) ≡ false
  erasable-erased m v = &&-false (is_within from m v)

  due-erased : (m : ℕ) (v : Version) → is_due m (erased v) ≡ false
  due-erased m v = ap (λ b. b && ends_at m v.end) (erasable-erased m v)

  not-erasable : (m : ℕ) (v : Version) → is_erasable from m v ≡ false → is_due m v ≡ false
  not-erasable m v e = ap (λ b. b && ends_at m v.end) e

  -- fewer are left
  fewer-here : (m : ℕ) (v : Version) → tally (is_due m (erased v)) ≤ tally (is_due m v)
  fewer-here m v = let none : tally (is_due m (erased v)) ≡ 0 = ap tally (due-erased m v) in omega arith

  pub due_fewer : (m n : ℕ) (vs : List Version) → due_count m (with_first_erased from n vs) ≤ due_count m vs
  due_fewer m n [] = omega arith
  due_fewer m n (v ∷ vs) =
      let all = count_cons (is_due m) v vs in
      by_test (is_erasable from n v)
      (λ e. let now : due_count m (with_first_erased from n (v ∷ vs)) ≡ due_count m (erased v ∷ vs) = ap (λ b. due_count m (if b then erased v ∷ vs else v ∷ with_first_erased from n vs)) e in
      omega (arith, now, all, count_cons (is_due m) (erased v) vs, fewer-here m v))
      (λ e. let now : due_count m (with_first_erased from n (v ∷ vs)) ≡ due_count m (v ∷ with_first_erased from n vs) = ap (λ b. due_count m (if b then erased v ∷ vs else v ∷ with_first_erased from n vs)) e in
      omega (arith, now, all, count_cons (is_due m) v (with_first_erased from n vs), due_fewer m n vs))

  -- none of the values is due at one of these moments
  abbrev NoneBelow : ℕ → List Version → Type 0
  NoneBelow m vs = (n : ℕ) → n < m → due_count n vs ≡ 0

  none-rest : (m : ℕ) (v : Version) (vs : List Version) → NoneBelow m (v ∷ vs) → NoneBelow m vs
  none-rest m v vs none n l = let all = count_cons (is_due n) v vs in omega (arith, all, none n l)

  none-here : (m : ℕ) (v : Version) (vs : List Version) → NoneBelow m (v ∷ vs) → (n : ℕ) → n < m → is_due n v ≡ false
  none-here m v vs none n l = by_test (is_due n v)
      (λ t. let one : tally (is_due n v) ≡ 1 = ap tally t in absurd (omega (arith, one, count_cons (is_due n) v vs, none n l)))
      (λ f. f)

  -- a value that is yet to be erased is due at its end
  end-by : (m : ℕ) (v : Version) → is_erasable from m v ≡ true → (n : ℕ) × (v.end ≡ Some n) × (n ≤ m) × (is_due n v ≡ true)
  end-by m v e =
      let parts = both (is_within from m v) (is_some v.item) e in
      let within = both (nat_le from v.begin) (ends_by m v.end) parts.0 in
      of v.end refl within.1 within.0 parts.1
    where
      of : (end : Option ℕ) → v.end ≡ end → ends_by m end ≡ true → nat_le from v.begin ≡ true → is_some v.item ≡ true → (n : ℕ) × (v.end ≡ Some n) × (n ≤ m) × (is_due n v ≡ true)
      of None is f g h = cc
      of (Some n) is f g h =
          let low : n ≤ m = grind (arith, f) in
          let self : nat_le n n ≡ true = grind arith in
          let here : is_due n v ≡ true = ap (λ o. (nat_le from v.begin && ends_by n o && is_some v.item) && ends_at n o) is
          ∙ ap (λ b. (b && nat_le n n && is_some v.item) && (n == n)) g
          ∙ ap (λ b. (b && is_some v.item) && (n == n)) self
          ∙ ap (λ b. b && (n == n)) h
          ∙ eq-eqb n n refl in
          (n, is, low, here)

  -- one that isn't due below the moment is due at it
  due-now : (m : ℕ) (v : Version) (vs : List Version) → NoneBelow m (v ∷ vs) → is_erasable from m v ≡ true → is_due m v ≡ true
  due-now m v vs none e =
      let end = end-by m v e in
      by_test (nat_lt end.0 m)
      (λ t. let less : end.0 < m = grind (arith, t) in absurd (not_both (is_due end.0 v) end.3 (none-here m v vs none end.0 less)))
      (λ f. let same : end.0 ≡ m = grind (arith, f, end.2) in subst (λ n. is_due n v ≡ true) same end.3)

  -- one less is due
  pub due_next : (m n : ℕ) (vs : List Version) → NoneBelow m vs → due_count m vs ≤ suc n → due_count m (with_first_erased from m vs) ≤ n
  due_next m n [] none l = omega arith
  due_next m n (v ∷ vs) none l =
      let all = count_cons (is_due m) v vs in
      by_test (is_erasable from m v)
      (λ e. let now : due_count m (with_first_erased from m (v ∷ vs)) ≡ due_count m (erased v ∷ vs) = ap (λ b. due_count m (if b then erased v ∷ vs else v ∷ with_first_erased from m vs)) e in
      let gone : tally (is_due m (erased v)) ≡ 0 = ap tally (due-erased m v) in
      let one : tally (is_due m v) ≡ 1 = ap tally (due-now m v vs none e) in
      omega (arith, now, all, gone, one, l, count_cons (is_due m) (erased v) vs))
      (λ e. let now : due_count m (with_first_erased from m (v ∷ vs)) ≡ due_count m (v ∷ with_first_erased from m vs) = ap (λ b. due_count m (if b then erased v ∷ vs else v ∷ with_first_erased from m vs)) e in
      let here : tally (is_due m v) ≡ 0 = ap tally (not-erasable m v e) in
      let rest = due_next m n vs (none-rest m v vs none) (omega (arith, all, here, l)) in
      omega (arith, now, here, rest, count_cons (is_due m) v (with_first_erased from m vs)))

  -- where none is due up to the moment none is to be erased
  pub none_due : (m : ℕ) (vs : List Version) → ((n : ℕ) → n ≤ m → due_count n vs ≡ 0) → list_any (is_erasable from m) vs ≡ false
  none_due m [] none = refl
  none_due m (v ∷ vs) none = by_test (is_erasable from m v)
      (λ e. let end = end-by m v e in
      let one : tally (is_due end.0 v) ≡ 1 = ap tally end.3 in
      absurd (omega (arith, one, count_cons (is_due end.0) v vs, none end.0 end.2)))
      (λ e. ap (λ b. b || list_any (is_erasable from m) vs) e ∙ none_due m vs (λ n l. let all = count_cons (is_due n) v vs in omega (arith, all, none n l)))

  -- nor one of those that ended before it, where none is due before
  pub none_before : (m : ℕ) (vs : List Version) → NoneBelow m vs → list_any (is_erasable from m) (take (prefix_len (ended_before m) vs) vs) ≡ false
  none_before m [] none = refl
  none_before m (v ∷ vs) none = by_test (ended_before m v)
      (λ t. let here : is_erasable from m v ≡ false = by_test (is_erasable from m v)
      (λ e. let end = end-by m v e in
      let less : end.0 < m = before-is end.0 (sym (ap (end_is_before m) end.1) ∙ t) in
      absurd (not_both (is_due end.0 v) end.3 (none-here m v vs none end.0 less)))
      (λ e. e) in
      let up : 1 + prefix_len (ended_before m) vs ≡ suc (prefix_len (ended_before m) vs) = omega arith in
      ap (λ b. list_any (is_erasable from m) (take (cond b (1 + prefix_len (ended_before m) vs) 0) (v ∷ vs))) t
      ∙ ap (λ k. list_any (is_erasable from m) (take k (v ∷ vs))) up
      ∙ ap (λ b. b || list_any (is_erasable from m) (take (prefix_len (ended_before m) vs) vs)) here
      ∙ none_before m vs (none-rest m v vs none))
      (λ f. ap (λ b. list_any (is_erasable from m) (take (cond b (1 + prefix_len (ended_before m) vs) 0) (v ∷ vs))) f)
    where
      before-is : (n : ℕ) → nat_lt n m ≡ true → n < m
      before-is n t = grind (arith, t)

  -- BY THE ENDS

  -- each value that is due has an end of its own
  pub due_ends : (m : ℕ) (ends : List ℕ) (vs : List Version) → HasEnds ends vs → due_count m vs ≤ count_by (λ end. end == m) ends
  due_ends m [] [] has = omega arith
  due_ends m [] (v ∷ []) has =
      let none : is_due m v ≡ false = ap (λ o. is_erasable from m v && ends_at m o) has ∙ &&-false (is_erasable from m v) in
      let zero' : tally (is_due m v) ≡ 0 = ap tally none in
      let all = count_cons (is_due m) v [] in
      omega (arith, zero', all)
  due_ends m [] (v ∷ w ∷ vs) has = absurd has
  due_ends m (end ∷ ends) [] has = omega arith
  due_ends m (end ∷ ends) (v ∷ vs) has =
      let rest = due_ends m ends vs has.1 in
      let due = count_cons (is_due m) v vs in
      let all = count_cons (λ x. x == m) end ends in
      let at : ends_at m v.end ≡ (end == m) = ap (ends_at m) has.0 in
      let less : tally (is_due m v) ≤ tally (end == m) = subst (λ b. tally (is_due m v) ≤ tally b) at (of (is_erasable from m v) (ends_at m v.end)) in
      omega (arith, rest, due, all, less)
    where
      of : (a b : Bool) → tally (a && b) ≤ tally b
      of true b = omega arith
      of false b = omega arith

  -- a value that ended before `from` began before it, so none is due
  pub due_early : (m : ℕ) (vs : List Version) → list_all is_timely vs ≡ true → m < from → due_count m vs ≡ 0
  due_early m [] timely l = refl
  due_early m (v ∷ vs) timely l =
      let parts = both (is_timely v) (list_all is_timely vs) timely in
      let rest = due_early m vs parts.1 l in
      let none : tally (is_due m v) ≡ 0 = ap tally (by_test (is_due m v) (λ t. absurd (late t parts.0)) (λ f. f)) in
      omega (arith, rest, none, count_cons (is_due m) v vs)
    where
      late : is_due m v ≡ true → is_timely v ≡ true → ⊥
      late t timely' =
          let due = both (is_erasable from m v) (ends_at m v.end) t in
          let within = both (nat_le from v.begin) (ends_by m v.end) (both (is_within from m v) (is_some v.item) due.0).0 in
          of v.end within.0 due.1 timely'
        where
          of : (end : Option ℕ) → nat_le from v.begin ≡ true → ends_at m end ≡ true → is_end_from v.begin end ≡ true → ⊥
          of None f g h = cc
          of (Some end) f g h =
              let same : end ≡ m = eqb-true end m g in
              let a : from ≤ v.begin = grind (arith, f) in
              let b : v.begin ≤ end = grind (arith, h) in
              omega (arith, same, a, b, l)

-- WHAT A FLUSH LEAVES

-- a value that is erased now is erased by the whole flush
pub flushed_by_next : (from to end : ℕ) → end ≤ to → (vs : List Version) → flushed from to (with_first_erased from end vs) ≡ flushed from to vs
flushed_by_next from to end l [] = refl
flushed_by_next from to end l (v ∷ vs) = by_test (is_erasable from end v)
    (λ e. ap (λ b. flushed from to (if b then erased v ∷ vs else v ∷ with_first_erased from end vs)) e ∙ ap (λ w. w ∷ flushed from to vs) (same e))
    (λ e. ap (λ b. flushed from to (if b then erased v ∷ vs else v ∷ with_first_erased from end vs)) e ∙ ap (λ ws. flushed_one from to v ∷ ws) (flushed_by_next from to end l vs))
  where
    later : (o : Option ℕ) → ends_by end o ≡ true → ends_by to o ≡ true
    later None f = cc
    later (Some x) f = grind (arith, f, l)

    same : is_erasable from end v ≡ true → flushed_one from to (erased v) ≡ flushed_one from to v
    same e =
        let within = both (nat_le from v.begin) (ends_by end v.end) (both (is_within from end v) (is_some v.item) e).0 in
        let is : is_within from to v ≡ true = ap (λ b. b && ends_by to v.end) within.0 ∙ later v.end within.1 in
        ap (λ b. if b then erased v else erased v) is ∙ sym (ap (λ b. if b then erased v else v) is)

-- the ends of the values stay
pub next_has : (from end : ℕ) (ends : List ℕ) (vs : List Version) → HasEnds ends vs → HasEnds ends (with_first_erased from end vs)
next_has from end [] [] has = has
next_has from end [] (v ∷ []) has = by_test (is_erasable from end v)
    (λ e. subst (λ b. HasEnds [] (if b then erased v ∷ [] else v ∷ [])) (sym e) has)
    (λ e. subst (λ b. HasEnds [] (if b then erased v ∷ [] else v ∷ [])) (sym e) has)
next_has from end [] (v ∷ w ∷ vs) has = absurd has
next_has from end (x ∷ ends) [] has = has
next_has from end (x ∷ ends) (v ∷ vs) has = by_test (is_erasable from end v)
    (λ e. subst (λ b. HasEnds (x ∷ ends) (if b then erased v ∷ vs else v ∷ with_first_erased from end vs)) (sym e) has)
    (λ e. subst (λ b. HasEnds (x ∷ ends) (if b then erased v ∷ vs else v ∷ with_first_erased from end vs)) (sym e) (has.0, next_has from end ends vs has.1))

pub next_length : (from end : ℕ) (vs : List Version) → length (with_first_erased from end vs) ≡ length vs
next_length from end [] = refl
next_length from end (v ∷ vs) = by_test (is_erasable from end v)
    (λ e. ap (λ b. length (if b then erased v ∷ vs else v ∷ with_first_erased from end vs)) e)
    (λ e. ap (λ b. length (if b then erased v ∷ vs else v ∷ with_first_erased from end vs)) e ∙ ap suc (next_length from end vs))
