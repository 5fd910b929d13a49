-- Where the items of calls stand in the log.
use Rattle.std.proofs.Common.{◌≡◌, ℕ, zero, suc, ◌+◌, ◌<◌, Bool, true, false, cond, List, [], ◌∷◌, ◌++◌, length, append_assoc, length-append, sym, refl, ap, ◌∙◌, subst, ⊎_elim, arith}
use Rattle.std.specs.Prelude.{slice_get, slice_index, Some}
use Rattle.std.proofs.Math.Seq.{get_or-append_seam}
use Rattle.std.proofs.lemmas.Option.{slice_get_within}
use Rattle.s4_calls.specs.declared.hand.Noted.{Noted}
use Rattle.s4_calls.specs.Logs.{IsSublist, items_of, is_in, items_in, ArePlaced, places, position, StandInOrder}
use Rattle.s4_calls.proofs.Ones.{is_home}

module _ {A : Type 0} where
  some_inj : (x y : A) → Some x ≡ Some y → x ≡ y
  some_inj x y e = grind arith

  pub sub_at : (xs ys : List A) → IsSublist xs ys → (i : ℕ) (c : A) → slice_get xs i ≡ Some c → (a : ℕ) × (slice_get ys a ≡ Some c)
  sub_at [] ys s i c at = absurd (omega (arith, slice_get_within [] i c at))
  sub_at (x ∷ xs) [] s i c at = absurd s
  sub_at (x ∷ xs) (y ∷ ys) s zero c at =
      ⊎_elim
      (λ (t : (x ≡ y) × IsSublist xs ys). (0, ap (λ (z : A). Some z) (sym t.0) ∙ at))
      (λ (t : IsSublist (x ∷ xs) ys). let r = sub_at (x ∷ xs) ys t 0 c at in (suc r.0, r.1))
      s
  sub_at (x ∷ xs) (y ∷ ys) s (suc i) c at =
      ⊎_elim
      (λ (t : (x ≡ y) × IsSublist xs ys). let r = sub_at xs ys t.1 i c at in (suc r.0, r.1))
      (λ (t : IsSublist (x ∷ xs) ys). let r = sub_at (x ∷ xs) ys t (suc i) c at in (suc r.0, r.1))
      s

  abbrev Two : List A → A → A → Type 0
  Two ys c d = (a : ℕ) × (b : ℕ) × (a < b) × (slice_get ys a ≡ Some c) × (slice_get ys b ≡ Some d)

  further : (y : A) (ys : List A) (c d : A) → Two ys c d → Two (y ∷ ys) c d
  further y ys c d t = (suc t.0, suc t.1, omega (arith, t.2), t.3, t.4)

  sub_two : (xs ys : List A) → IsSublist xs ys → (i j : ℕ) (c d : A) → i < j → slice_get xs i ≡ Some c → slice_get xs j ≡ Some d → Two ys c d
  sub_two [] ys s i j c d lt at at_too = absurd (omega (arith, slice_get_within [] i c at))
  sub_two (x ∷ xs) [] s i j c d lt at at_too = absurd s
  sub_two (x ∷ xs) (y ∷ ys) s i zero c d lt at at_too = absurd (omega (arith, lt))
  sub_two (x ∷ xs) (y ∷ ys) s zero (suc j) c d lt at at_too =
      ⊎_elim
      (λ (t : (x ≡ y) × IsSublist xs ys). let r = sub_at xs ys t.1 j d at_too in (0, suc r.0, omega arith, ap (λ (z : A). Some z) (sym t.0) ∙ at, r.1))
      (λ (t : IsSublist (x ∷ xs) ys). further y ys c d (sub_two (x ∷ xs) ys t 0 (suc j) c d lt at at_too))
      s
  sub_two (x ∷ xs) (y ∷ ys) s (suc i) (suc j) c d lt at at_too =
      ⊎_elim
      (λ (t : (x ≡ y) × IsSublist xs ys). further y ys c d (sub_two xs ys t.1 i j c d (omega (arith, lt)) at at_too))
      (λ (t : IsSublist (x ∷ xs) ys). further y ys c d (sub_two (x ∷ xs) ys t (suc i) (suc j) c d lt at at_too))
      s

module _ {T : Type 0} (is_wide : T → Bool) (range : T → ℕ) (n : ℕ) where
  places_append : (k i : ℕ) (xs ys : List T) → places is_wide range n k i (xs ++ ys) ≡ places is_wide range n k i xs ++ places is_wide range n k (i + length xs) ys
  places_append k i [] ys = ap (λ (j : ℕ). places is_wide range n k j ys) (omega arith)
  places_append k i (x ∷ xs) ys = more (is_in is_wide range n k x) _ _ _ (places_append k (i + 1) xs ys ∙ ap (λ (j : ℕ). places is_wide range n k (i + 1) xs ++ places is_wide range n k j ys) (omega arith))
    where
      more : (b : Bool) (l m e : List ℕ) → l ≡ m ++ e → cond b (i ∷ l) l ≡ cond b (i ∷ m) m ++ e
      more true l m e q = ap (λ l. i ∷ l) q
      more false l m e q = q

  places_length : (k i : ℕ) (xs : List T) → length (places is_wide range n k i xs) ≡ length (items_in is_wide range n k xs)
  places_length k i [] = refl
  places_length k i (x ∷ xs) = more (is_in is_wide range n k x) (places_length k (i + 1) xs)
    where
      more : (b : Bool) → length (places is_wide range n k (i + 1) xs) ≡ length (items_in is_wide range n k xs) → length (cond b (i ∷ places is_wide range n k (i + 1) xs) (places is_wide range n k (i + 1) xs)) ≡ length (cond b (x ∷ items_in is_wide range n k xs) (items_in is_wide range n k xs))
      more true q = ap suc q
      more false q = q

  position_from : (done : List T) (log : List (Noted T)) → ArePlaced is_wide range n done log → (i : ℕ) (c : Noted T) → slice_get log i ≡ Some c → position is_wide range n (done ++ items_of log) c ≡ length done + i
  position_from done [] placed i c at = absurd (omega (arith, slice_get_within [] i c at))
  position_from done (d ∷ log) placed zero c at =
      subst (λ (c : Noted T). position is_wide range n (done ++ d.item ∷ items_of log) c ≡ length done + 0) (some_inj d c at)
      (ap (λ l. slice_index l d.place) (places_append d.cell 0 done (d.item ∷ items_of log) ∙ ap (λ (b : Bool). places is_wide range n d.cell 0 done ++ cond b ((0 + length done) ∷ rest) rest) (is_home is_wide range n d.item d.cell placed.0))
      ∙ (ap (λ (p : ℕ). slice_index (places is_wide range n d.cell 0 done ++ (0 + length done) ∷ rest) p) (placed.1 ∙ sym (places_length d.cell 0 done))
      ∙ (get_or-append_seam (places is_wide range n d.cell 0 done) (0 + length done) rest 0 ∙ omega arith)))
    where
      rest : List ℕ
      rest = places is_wide range n d.cell (0 + length done + 1) (items_of log)
  position_from done (d ∷ log) placed (suc i) c at =
      subst (λ l. position is_wide range n l c ≡ length done + suc i) (append_assoc done (d.item ∷ []) (items_of log))
      (position_from (done ++ d.item ∷ []) log placed.2 i c at ∙ (let e = length-append done (d.item ∷ []) in omega arith))

  pub stand_in_order : (log calls : List (Noted T)) → ArePlaced is_wide range n [] log → IsSublist calls log → StandInOrder is_wide range n (items_of log) calls
  stand_in_order log calls placed sub i j c d lt at at_too =
      let t = sub_two calls log sub i j c d lt at at_too in
      let p = position_from [] log placed t.0 c t.3 in
      let q = position_from [] log placed t.1 d t.4 in
      omega (arith, p, q, t.2)
