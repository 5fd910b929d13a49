-- What a flush takes off the weight of the past, it refunds.
use Rattle.std.proofs.Common.{◌≡◌, ◌≢◌, ℕ, zero, suc, ◌+◌, ◌≤◌, true, false, Some, List, [], ◌∷◌, ◌++◌, refl, sym, ◌∙◌, ap, subst, arith}
use Rattle.std.proofs.lemmas.Bool.{eqb-true, eq-eqb}
use Rattle.std.specs.Prelude.{is_some, map, sum_by, ◌==◌, if◌then◌else◌}
use Rattle.std.specs.List.{cons_option}
use Rattle.std.proofs.lemmas.List.Sums.{sum_by-cons, sum_by-append}
use Rattle.s4_types.specs.declared.object.Purse.{Purse}
use Rattle.s4_types.specs.declared.version.Version.{Version}
use Rattle.s4_types.specs.Names.{same_purse}
use Rattle.s4_types.specs.Spending.{sum_to}
use Rattle.s4_types.proofs.Booleans.{by_test, both, not_both}
use Rattle.s4_tracks.specs.Chain.{is_within, erased, flushed_one, flushed, is_erasable, told_by, told_of, told, first_told, with_first_erased}
use Rattle.s4_objects.specs.declared.flushes.Refund.{Refund}
use Rattle.s4_objects.specs.Flushes.{weight_by, weight_of, track_weight, refund_weight, refunded, refund_to, refunds_of}
use Rattle.s4_objects.proofs.Counting.{erasable_end, told_erasable, told_none}

module _ (weight : ℕ → ℕ → ℕ) (from to : ℕ) where
  -- what is told weighs
  abbrev told_weight : List (ℕ × ℕ) → ℕ
  told_weight ts = sum_by (λ t. weight t.0 t.1) ts

  weight-erasable : (v : Version) (m : ℕ) → is_erasable from to v ≡ true → v.end ≡ Some m → weight_of weight v ≡ weight m v.cost
  weight-erasable v m e f =
      ap (λ b. if b then weight_by weight v.end v.cost else 0) (both (is_within from to v) (is_some v.item) e).1 ∙ ap (λ o. weight_by weight o v.cost) f

  weight-erased : (v : Version) → is_erasable from to v ≡ true → weight_of weight (flushed_one from to v) ≡ 0
  weight-erased v e = ap (λ b. weight_of weight (if b then erased v else v)) (both (is_within from to v) (is_some v.item) e).0

  weight-kept : (v : Version) → is_erasable from to v ≡ false → weight_of weight (flushed_one from to v) ≡ weight_of weight v
  weight-kept v e = by_test (is_within from to v)
      (λ f. let gone : is_some v.item ≡ false = sym (ap (λ b. Rattle.std.specs.Prelude.◌&&◌ b (is_some v.item)) f) ∙ e in
      ap (λ b. weight_of weight (if b then erased v else v)) f ∙ sym (ap (λ b. if b then weight_by weight v.end v.cost else 0) gone))
      (λ f. ap (λ b. weight_of weight (if b then erased v else v)) f)

  -- on a track
  track-flushed : (vs : List Version) → track_weight weight (flushed from to vs) + told_weight (told from to vs) ≡ track_weight weight vs
  track-flushed [] = refl
  track-flushed (v ∷ vs) =
      let rest : track_weight weight (flushed from to vs) + told_weight (told from to vs) ≡ track_weight weight vs = track-flushed vs in
      let before : track_weight weight (v ∷ vs) ≡ weight_of weight v + track_weight weight vs = sum_by-cons (weight_of weight) v vs in
      let after : track_weight weight (flushed from to (v ∷ vs)) ≡ weight_of weight (flushed_one from to v) + track_weight weight (flushed from to vs) = sum_by-cons (weight_of weight) (flushed_one from to v) (flushed from to vs) in
      by_test (is_erasable from to v)
      (λ e. let end = erasable_end from to v e in
      let more : told_weight (told from to (v ∷ vs)) ≡ weight end.0 v.cost + told_weight (told from to vs) =
      ap (λ o. told_weight (cons_option o (told from to vs))) (told_erasable from to v end.0 e end.1) ∙ sum_by-cons (λ (t : ℕ × ℕ). weight t.0 t.1) (end.0, v.cost) (told from to vs) in
      let gone : weight_of weight (flushed_one from to v) ≡ 0 = weight-erased v e in
      let had : weight_of weight v ≡ weight end.0 v.cost = weight-erasable v end.0 e end.1 in
      omega arith)
      (λ e. let none : told_weight (told from to (v ∷ vs)) ≡ told_weight (told from to vs) = ap (λ o. told_weight (cons_option o (told from to vs))) (told_none from to v e) in
      let kept : weight_of weight (flushed_one from to v) ≡ weight_of weight v = weight-kept v e in
      omega arith)

  -- the same where one value is erased
  track-next : (vs : List Version) → track_weight weight (with_first_erased from to vs) + told_weight (cons_option (first_told from to vs) []) ≡ track_weight weight vs
  track-next [] = refl
  track-next (v ∷ vs) =
      let before : track_weight weight (v ∷ vs) ≡ weight_of weight v + track_weight weight vs = sum_by-cons (weight_of weight) v vs in
      by_test (is_erasable from to v)
      (λ e. let end = erasable_end from to v e in
      let told' : first_told from to (v ∷ vs) ≡ Some (end.0, v.cost) = ap (λ b. if b then told_of v else first_told from to vs) e ∙ ap (told_by v.cost) end.1 in
      let more : told_weight (cons_option (first_told from to (v ∷ vs)) []) ≡ weight end.0 v.cost + told_weight [] =
      ap (λ o. told_weight (cons_option o [])) told' ∙ sum_by-cons (λ (t : ℕ × ℕ). weight t.0 t.1) (end.0, v.cost) [] in
      let nothing : told_weight [] ≡ 0 = refl in
      let now : track_weight weight (with_first_erased from to (v ∷ vs)) ≡ track_weight weight (erased v ∷ vs) = ap (λ b. track_weight weight (if b then erased v ∷ vs else v ∷ with_first_erased from to vs)) e in
      let after : track_weight weight (erased v ∷ vs) ≡ weight_of weight (erased v) + track_weight weight vs = sum_by-cons (weight_of weight) (erased v) vs in
      let gone : weight_of weight (erased v) ≡ 0 = refl in
      let had : weight_of weight v ≡ weight end.0 v.cost = weight-erasable v end.0 e end.1 in
      omega arith)
      (λ e. let told' : told_weight (cons_option (first_told from to (v ∷ vs)) []) ≡ told_weight (cons_option (first_told from to vs) []) =
      ap (λ b. told_weight (cons_option (if b then told_of v else first_told from to vs) [])) e in
      let now : track_weight weight (with_first_erased from to (v ∷ vs)) ≡ track_weight weight (v ∷ with_first_erased from to vs) = ap (λ b. track_weight weight (if b then erased v ∷ vs else v ∷ with_first_erased from to vs)) e in
      let after : track_weight weight (v ∷ with_first_erased from to vs) ≡ weight_of weight v + track_weight weight (with_first_erased from to vs) = sum_by-cons (weight_of weight) v (with_first_erased from to vs) in
      let rest : track_weight weight (with_first_erased from to vs) + told_weight (cons_option (first_told from to vs) []) ≡ track_weight weight vs = track-next vs in
      omega arith)

  module _ (q : Purse) where
    -- refunds of the purse itself, and of another
    refunded-own : (p : Purse) (ts : List (ℕ × ℕ)) → same_purse q p ≡ true → refunded weight p (map (refund_to q) ts) ≡ told_weight ts
    refunded-own p [] e = refl
    refunded-own p (t ∷ ts) e =
        sum_by-cons (refund_weight weight p) (refund_to q t) (map (refund_to q) ts)
        ∙ ap (λ b. (if b then weight t.0 t.1 else 0) + refunded weight p (map (refund_to q) ts)) e
        ∙ ap (λ n. weight t.0 t.1 + n) (refunded-own p ts e)
        ∙ sym (sum_by-cons (λ (u : ℕ × ℕ). weight u.0 u.1) t ts)

    pub refunded_none : (p : Purse) (ts : List (ℕ × ℕ)) → same_purse q p ≡ false → refunded weight p (map (refund_to q) ts) ≡ 0
    refunded_none p [] e = refl
    refunded_none p (t ∷ ts) e =
        let front : refunded weight p (map (refund_to q) (t ∷ ts)) ≡ refund_weight weight p (refund_to q t) + refunded weight p (map (refund_to q) ts) = sum_by-cons (refund_weight weight p) (refund_to q t) (map (refund_to q) ts) in
        let none : refund_weight weight p (refund_to q t) ≡ zero = ap (λ b. if b then weight t.0 t.1 else 0) e in
        let rest : refunded weight p (map (refund_to q) ts) ≡ 0 = refunded_none p ts e in
        omega arith

    pub refunded_other : (p : Purse) (vs : List Version) → same_purse q p ≡ false → refunded weight p (refunds_of q from to vs) ≡ 0
    refunded_other p vs e = refunded_none p (told from to vs) e

    -- what a track weighs less is refunded
    pub refunded_track : (p : Purse) (vs : List Version) → same_purse q p ≡ true → track_weight weight (flushed from to vs) + refunded weight p (refunds_of q from to vs) ≡ track_weight weight vs
    refunded_track p vs e = ap (λ n. track_weight weight (flushed from to vs) + n) (refunded-own p (told from to vs) e) ∙ track-flushed vs

    -- what one value weighs
    pub refunded_next : (p : Purse) (vs : List Version) → same_purse q p ≡ true
        → track_weight weight (with_first_erased from to vs) + refunded weight p (map (refund_to q) (cons_option (first_told from to vs) [])) ≡ track_weight weight vs
    refunded_next p vs e = ap (λ n. track_weight weight (with_first_erased from to vs) + n) (refunded-own p (cons_option (first_told from to vs) []) e) ∙ track-next vs

pub refunded_both : (weight : ℕ → ℕ → ℕ) (p : Purse) (rs qs : List Refund) → refunded weight p (rs ++ qs) ≡ refunded weight p rs + refunded weight p qs
refunded_both weight p rs qs = sum_by-append (refund_weight weight p) rs qs

-- SUMS

pub sums_alike : (n : ℕ) (f g : ℕ → ℕ) → ((s : ℕ) → s ≤ n → f s ≡ g s) → sum_to n f ≡ sum_to n g
sums_alike zero f g same = same zero (omega arith)
sums_alike (suc n) f g same =
    let rest : sum_to n f ≡ sum_to n g = sums_alike n f g (λ s l. same s (omega arith)) in
    let last : f (suc n) ≡ g (suc n) = same (suc n) (omega arith) in
    omega arith

-- one part is less, and the others are as before
pub sum_less : (n i d : ℕ) (f g : ℕ → ℕ) → i ≤ n → f i + d ≡ g i → ((s : ℕ) → s ≢ i → f s ≡ g s) → sum_to n f + d ≡ sum_to n g
sum_less zero i d f g l here others =
    let is : i ≡ zero = omega arith in
    subst (λ k. f k + d ≡ g k) is here
sum_less (suc n) i d f g l here others = by_test (i == suc n)
    (λ e. let is : i ≡ suc n = eqb-true i (suc n) e in
    let last : f (suc n) + d ≡ g (suc n) = subst (λ k. f k + d ≡ g k) is here in
    let rest : sum_to n f ≡ sum_to n g = sums_alike n f g (λ s k. others s (λ h. let both' : s ≡ suc n = h ∙ is in absurd (omega arith))) in
    omega arith)
    (λ e. let not : i ≢ suc n = λ h. not_both (i == suc n) (eq-eqb i (suc n) h) e in
    let low : i ≤ n = omega arith in
    let rest : sum_to n f + d ≡ sum_to n g = sum_less n i d f g low here others in
    let last : f (suc n) ≡ g (suc n) = others (suc n) (λ h. not (sym h)) in
    omega arith)
