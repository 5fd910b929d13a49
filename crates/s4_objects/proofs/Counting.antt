-- How many values a flush erases, and what it tells of them.
use Rattle.std.proofs.Common.{◌≡◌, ℕ, zero, ◌+◌, Bool, true, false, cond, Option, Some, None, List, ◌∷◌, refl, sym, ◌∙◌, ap, subst, arith, take, length}
use Rattle.std.specs.Prelude.{slice_get, count_by, is_some, nat_le, IfSome, if◌then◌else◌}
use Rattle.std.specs.List.{cons_option}
use Rattle.std.proofs.lemmas.List.{take_all}
use Rattle.std.proofs.lemmas.List.Sums.{count_by_more_yes, count_by_more_no}
use Rattle.std.proofs.lemmas.List.Recursion.{is_count_by}
use Rattle.std.proofs.lemmas.Option.{slice_get_within, get_or_from_slice_get}
use Rattle.s4_types.specs.declared.version.Version.{Version}
use Rattle.s4_types.specs.Versions.{ends_by}
use Rattle.s4_types.proofs.Booleans.{by_test, both}
use Rattle.s4_store.specs.Chains.{reach}
use Rattle.s4_tracks.specs.Chain.{is_within, is_erasable, told, told_if, told_of, first_told, with_first_erased}
use Rattle.s4_tracks.proofs.Erasing.{told_next}

-- one value more was looked at
pub count_more : (p : Version → Bool) (vs : List Version) (i : ℕ) (v : Version) → slice_get vs i ≡ Some v → count_by p (take (i + 1) vs) ≡ count_by p (take i vs) + cond (p v) 1 0
count_more p vs i v got = by_test (p v)
    (λ e. count_by_more_yes p vs i v (slice_get_within vs i v got) (ap p (get_or_from_slice_get vs i v v got) ∙ e) ∙ sym (ap (λ b. count_by p (take i vs) + cond b 1 0) e))
    (λ e. let same : count_by p (take (i + 1) vs) ≡ count_by p (take i vs) = count_by_more_no p vs i v (slice_get_within vs i v got) (ap p (get_or_from_slice_get vs i v v got) ∙ e) in
    let none : cond {A = ℕ} (p v) 1 0 ≡ zero = ap (λ b. cond {A = ℕ} b 1 0) e in
    omega arith)

module _ (from to : ℕ) where
  -- a value that is yet to be erased has an end, and an item
  pub erasable_end : (v : Version) → is_erasable from to v ≡ true → (m : ℕ) × (v.end ≡ Some m)
  erasable_end v e = of v.end (both (nat_le from v.begin) (ends_by to v.end) (both (is_within from to v) (is_some v.item) e).0).1
    where
      of : (end : Option ℕ) → ends_by to end ≡ true → (m : ℕ) × (end ≡ Some m)
      of None f = cc
      of (Some m) f = (m, refl)

  pub told_erasable : (v : Version) (m : ℕ) → is_erasable from to v ≡ true → v.end ≡ Some m → told_if from to v ≡ Some (m, v.cost)
  told_erasable v m e f = ap (λ b. if b then told_of v else None) e ∙ ap (Rattle.s4_tracks.specs.Chain.told_by v.cost) f

  pub told_none : (v : Version) → is_erasable from to v ≡ false → told_if from to v ≡ None
  told_none v e = ap (λ b. if b then told_of v else None) e

  -- as many are told as are yet to be erased
  pub told_count : (vs : List Version) → length (told from to vs) ≡ count_by (is_erasable from to) vs
  told_count vs = is_count_by (λ us. length (told from to us)) (is_erasable from to) refl
      (λ v us. by_test (is_erasable from to v)
      (λ e. let end = erasable_end v e in
      let one : length (told from to (v ∷ us)) ≡ length ((end.0, v.cost) ∷ told from to us) = ap (λ o. length (cons_option o (told from to us))) (told_erasable v end.0 e end.1) in
      let more : cond (is_erasable from to v) (1 + length (told from to us)) (length (told from to us)) ≡ 1 + length (told from to us) = ap (λ b. cond b (1 + length (told from to us)) (length (told from to us))) e in
      omega arith)
      (λ e. ap (λ o. length (cons_option o (told from to us))) (told_none v e) ∙ sym (ap (λ b. cond b (1 + length (told from to us)) (length (told from to us))) e)))
      vs

  -- one value less is yet to be erased
  pub count_next : (vs : List Version) (t : ℕ × ℕ) → first_told from to vs ≡ Some t → count_by (is_erasable from to) (with_first_erased from to vs) + 1 ≡ count_by (is_erasable from to) vs
  count_next vs t e =
      let all : length (told from to vs) ≡ length (t ∷ told from to (with_first_erased from to vs)) = ap length (told_next from to vs t e) in
      omega (arith, told_count vs, told_count (with_first_erased from to vs))

-- FROM PLACE TO PLACE

-- all values are older than none
pub count_all : (p : Version → Bool) (vs : List Version) (n : ℕ) → n ≡ length vs → count_by p (take n vs) ≡ count_by p vs
count_all p vs n l = ap (count_by p) (take_all n vs (omega arith))

module _ {P : Type 0} (index chain_at : P → ℕ) (p : Version → Bool) (c count : ℕ) (items : ℕ → List Version) (at : Option P) (place : P) (v : Version)
    (here : at ≡ Some place) (same : IfSome at (λ q. chain_at q ≡ c)) (so_far : count + count_by p (take (reach index at) (items c)) ≡ count_by p (items c)) (there : slice_get (items (chain_at place)) (index place) ≡ Some v) where
  of_chain : chain_at place ≡ c
  of_chain = subst (λ (o : Option P). IfSome o (λ q. chain_at q ≡ c)) here same

  -- the value here counts, or it does not
  pub stepped : count + (count_by p (take (index place) (items c)) + cond (p v) 1 0) ≡ count_by p (items c)
  stepped = ap (λ n. count + n) (sym (count_more p (items c) (index place) v (subst (λ k. slice_get (items k) (index place) ≡ Some v) of_chain there)))
      ∙ ap (λ (o : Option P). count + count_by p (take (reach index o) (items c))) (sym here) ∙ so_far

  pub same_chain : (next : Option P) → IfSome next (λ q. chain_at q ≡ chain_at place) → IfSome next (λ q. chain_at q ≡ c)
  same_chain None h = h
  same_chain (Some q) h = h ∙ of_chain
