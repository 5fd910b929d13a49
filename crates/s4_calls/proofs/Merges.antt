-- Each list that has the items of each cell in the order of a log has the items of calls in their order.
use Rattle.std.proofs.Common.{◌≡◌, ℕ, zero, suc, ◌+◌, ◌<◌, ◌%◌, ◌==◌, ◌||◌, Bool, true, false, cond, List, [], ◌∷◌, length, filter, take, sym, refl, ap, ◌∙◌, subst, arith}
use Rattle.std.specs.Prelude.{slice_get, slice_index, Some}
use Rattle.std.proofs.lemmas.Bool.{eqb-true, true≢false}
use Rattle.std.proofs.lemmas.Option.{slice_get_within}
use Rattle.s4_calls.specs.declared.hand.Noted.{Noted}
use Rattle.s4_calls.specs.Logs.{IsSublist, items_of, is_in, home, items_in, ArePlaced, IsMergeOf, places, position, StandInCells, StandThere}
use Rattle.s4_calls.proofs.Ones.{one-to-one, names_home, home_below}
use Rattle.s4_calls.proofs.Orders.{sub_at, stand_in_order}

bool_case : (R : Type 0) (a : Bool) → (a ≡ true → R) → (a ≡ false → R) → R
bool_case R true f g = f refl
bool_case R false f g = g refl

suc_in : (i a : ℕ) → i + 1 + a ≡ i + suc a
suc_in i a = omega arith

zero_more : (a : ℕ) → 0 + a ≡ a
zero_more a = omega arith

home_touched : (m k : ℕ) (w : Bool) → w ≡ false → (w || (m == k)) ≡ true → cond w 0 m ≡ k
home_touched m k true e t = cc
home_touched m k false e t = eqb-true m k t

turn : (a b ra rb : ℕ) → ra < rb → (b < a → rb < ra) → (a ≡ b → ra ≡ rb) → a < b
turn a b ra rb lt less same = grind arith

module _ {T : Type 0} (is_wide : T → Bool) (range : T → ℕ) (n : ℕ) where
  abbrev In : ℕ → T → Bool
  In k x = is_in is_wide range n k x

  abbrev Only : ℕ → List T → List T
  Only k xs = items_in is_wide range n k xs

  abbrev Wide : List T → List T
  Wide xs = filter is_wide xs

  abbrev At : List T → Noted T → ℕ
  At xs c = position is_wide range n xs c

  -- how many items of a cell stand before q
  abbrev rank : ℕ → List T → ℕ → ℕ
  rank k xs q = length (Only k (take q xs))

  only_case : (k : ℕ) (x : T) (ys xs : List T) (b : Bool) → Only k ys ≡ take (length (Only k ys)) (Only k xs)
      → cond b (x ∷ Only k ys) (Only k ys) ≡ take (length (cond b (x ∷ Only k ys) (Only k ys))) (cond b (x ∷ Only k xs) (Only k xs))
  only_case k x ys xs true e = ap (λ l. x ∷ l) e
  only_case k x ys xs false e = e

  only_take : (k : ℕ) (xs : List T) (q : ℕ) → Only k (take q xs) ≡ take (rank k xs q) (Only k xs)
  only_take k [] zero = refl
  only_take k [] (suc q) = refl
  only_take k (x ∷ xs) zero = refl
  only_take k (x ∷ xs) (suc q) = only_case k x (take q xs) xs (In k x) (only_take k xs q)

  rank_case : (k q : ℕ) (x : T) (xs : List T) (r : T) (b : Bool) → slice_get (Only k xs) (rank k xs q) ≡ Some r
      → slice_get (cond b (x ∷ Only k xs) (Only k xs)) (length (cond b (x ∷ Only k (take q xs)) (Only k (take q xs)))) ≡ Some r
  rank_case k q x xs r true e = e
  rank_case k q x xs r false e = e

  rank_head : (k : ℕ) (x : T) (xs : List T) (b : Bool) → b ≡ true → slice_get (cond b (x ∷ Only k xs) (Only k xs)) 0 ≡ Some x
  rank_head k x xs true e = refl
  rank_head k x xs false e = cc

  rank_get : (k : ℕ) (xs : List T) (q : ℕ) (r : T) → slice_get xs q ≡ Some r → In k r ≡ true → slice_get (Only k xs) (rank k xs q) ≡ Some r
  rank_get k [] q r e c = absurd (omega (arith, slice_get_within [] q r e))
  rank_get k (x ∷ xs) zero r e c = let same : x ≡ r = cc in rank_head k x xs (In k x) (ap (In k) same ∙ c) ∙ ap Some same
  rank_get k (x ∷ xs) (suc q) r e c = rank_case k q x xs r (In k x) (rank_get k xs q r e c)

  less_case : (k p q : ℕ) (x : T) (xs : List T) (b : Bool) → rank k xs p < rank k xs q
      → length (cond b (x ∷ Only k (take p xs)) (Only k (take p xs))) < length (cond b (x ∷ Only k (take q xs)) (Only k (take q xs)))
  less_case k p q x xs true lt = omega arith
  less_case k p q x xs false lt = lt

  less_head : (x : T) (ys : List T) (b : Bool) → b ≡ true → 0 < length (cond b (x ∷ ys) ys)
  less_head x ys true e = omega arith
  less_head x ys false e = cc

  rank_less : (k : ℕ) (xs : List T) (p q : ℕ) (r : T) → slice_get xs p ≡ Some r → In k r ≡ true → p < q → rank k xs p < rank k xs q
  rank_less k [] p q r e c lt = absurd (omega (arith, slice_get_within [] p r e))
  rank_less k (x ∷ xs) p zero r e c lt = absurd (omega arith)
  rank_less k (x ∷ xs) zero (suc q) r e c lt = let same : x ≡ r = cc in less_head x (Only k (take q xs)) (In k x) (ap (In k) same ∙ c)
  rank_less k (x ∷ xs) (suc p) (suc q) r e c lt = less_case k p q x xs (In k x) (rank_less k xs p q r e c (omega arith))

  wide_case : (x : T) (ys xs : List T) (w b : Bool) → is_wide x ≡ w → Wide ys ≡ Wide xs → Wide (cond (w || b) (x ∷ ys) ys) ≡ cond w (x ∷ Wide xs) (Wide xs)
  wide_case x ys xs true b is e = rw is (ap (λ l. x ∷ l) e)
  wide_case x ys xs false true is e = rw is e
  wide_case x ys xs false false is e = e

  wide_of_only : (k : ℕ) (xs : List T) → Wide (Only k xs) ≡ Wide xs
  wide_of_only k [] = refl
  wide_of_only k (x ∷ xs) = wide_case x (Only k xs) xs (is_wide x) (range x % n == k) refl (wide_of_only k xs)

  -- the wide items before q, by those of a cell
  clock : (k : ℕ) (xs h : List T) (q : ℕ) → Only k xs ≡ h → Wide (take (rank k xs q) h) ≡ Wide (take q xs)
  clock k xs h q e = ap (λ l. Wide (take (rank k xs q) l)) (sym e) ∙ (ap (λ l. Wide l) (sym (only_take k xs q)) ∙ wide_of_only k (take q xs))

  none_case : (x : T) (ys : List T) (w : Bool) → w ≡ true → 0 ≡ length (cond w (x ∷ Wide ys) (Wide ys)) → ⊥
  none_case x ys true is e = absurd (omega arith)
  none_case x ys false is e = absurd (true≢false (sym is))

  cancel : (x : T) (ys zs : List T) (w : Bool) → length (cond w (x ∷ Wide ys) (Wide ys)) ≡ length (cond w (x ∷ Wide zs) (Wide zs)) → length (Wide ys) ≡ length (Wide zs)
  cancel x ys zs true e = omega arith
  cancel x ys zs false e = e

  -- two wide items with as many wide ones before them are one
  wide_unique : (h : List T) (a b : ℕ) (r s : T) → slice_get h a ≡ Some r → slice_get h b ≡ Some s → is_wide r ≡ true → is_wide s ≡ true → length (Wide (take a h)) ≡ length (Wide (take b h)) → a ≡ b
  wide_unique [] a b r s e f w v same = absurd (omega (arith, slice_get_within [] a r e))
  wide_unique (x ∷ h) zero zero r s e f w v same = refl
  wide_unique (x ∷ h) zero (suc b) r s e f w v same = let is : x ≡ r = cc in absurd (none_case x (take b h) (is_wide x) (ap is_wide is ∙ w) same)
  wide_unique (x ∷ h) (suc a) zero r s e f w v same = let is : x ≡ s = cc in absurd (none_case x (take a h) (is_wide x) (ap is_wide is ∙ v) (sym same))
  wide_unique (x ∷ h) (suc a) (suc b) r s e f w v same = ap suc (wide_unique h a b r s e f w v (cancel x (take a h) (take b h) (is_wide x) same))

  abbrev StandsAt : ℕ → ℕ → List T → ℕ → T → Type 0
  StandsAt k i xs p r = (q : ℕ) × (slice_index (places is_wide range n k i xs) p ≡ i + q) × (slice_get xs q ≡ Some r) × (rank k xs q ≡ p)

  stands_case : (k i : ℕ) (x : T) (xs : List T) (p : ℕ) (r : T) (b : Bool) → In k x ≡ b → ((p : ℕ) → slice_get (Only k xs) p ≡ Some r → StandsAt k (i + 1) xs p r)
      → slice_get (cond b (x ∷ Only k xs) (Only k xs)) p ≡ Some r
      → (q : ℕ) × (slice_index (cond b (i ∷ places is_wide range n k (i + 1) xs) (places is_wide range n k (i + 1) xs)) p ≡ i + q) × (slice_get (x ∷ xs) q ≡ Some r) × (rank k (x ∷ xs) q ≡ p)
  stands_case k i x xs zero r true is more e = (0, omega arith, e, refl)
  stands_case k i x xs (suc p) r true is more e = let s = more p e in (suc s.0, s.1 ∙ suc_in i s.0, s.2, rw is (ap suc s.3))
  stands_case k i x xs p r false is more e = let s = more p e in (suc s.0, s.1 ∙ suc_in i s.0, s.2, rw is s.3)

  stands : (k i : ℕ) (xs : List T) (p : ℕ) (r : T) → slice_get (Only k xs) p ≡ Some r → StandsAt k i xs p r
  stands k i [] p r e = absurd (omega (arith, slice_get_within [] p r e))
  stands k i (x ∷ xs) p r e = stands_case k i x xs p r (In k x) refl (λ p e. stands k (i + 1) xs p r e) e

  -- where the item of a call stands, and how many items of its cell stand before
  record Stood (xs : List T) (c : Noted T) : Type 0 where
    is : slice_get xs (At xs c) ≡ Some c.item
    place : rank c.cell xs (At xs c) ≡ c.place

  stood : (xs : List T) (c : Noted T) → slice_get (Only c.cell xs) c.place ≡ Some c.item → Stood xs c
  stood xs c at =
      let s = stands c.cell 0 xs c.place c.item at in
      let here : At xs c ≡ s.0 = s.1 ∙ zero_more s.0 in
      record {
        is = ap (λ (q : ℕ). slice_get xs q) here ∙ s.2;
        place = ap (λ (q : ℕ). rank c.cell xs q) here ∙ s.3;
      }

  -- as many items of a cell stand before a call of it, whatever the merge
  rank_same : (xs ys : List T) (c : Noted T) (k : ℕ) → IsMergeOf is_wide range n xs ys → k < n → c.cell < n → c.cell ≡ home is_wide range n c.item
      → Stood xs c → Stood ys c → In k c.item ≡ true → rank k xs (At xs c) ≡ rank k ys (At ys c)
  rank_same xs ys c k merge lt inside named sx sy t =
      let p = At xs c in
      let q = At ys c in
      let o = c.cell in
      let h = Only k ys in
      let g = Only o ys in
      bool_case (rank k xs p ≡ rank k ys q) (is_wide c.item)
      (λ w. let a = rank_get k xs p c.item sx.is t in
      let b = rank_get k ys q c.item sy.is t in
      let cx : Wide (take (rank k xs p) h) ≡ Wide (take c.place g) = clock k xs h p (merge k lt) ∙ (sym (clock o xs g p (merge o inside)) ∙ ap (λ (m : ℕ). Wide (take m g)) sx.place) in
      let cy : Wide (take (rank k ys q) h) ≡ Wide (take c.place g) = clock k ys h q refl ∙ (sym (clock o ys g q refl) ∙ ap (λ (m : ℕ). Wide (take m g)) sy.place) in
      wide_unique h (rank k xs p) (rank k ys q) c.item c.item (ap (λ l. slice_get l (rank k xs p)) (sym (merge k lt)) ∙ a) b w w (ap (λ l. length l) (cx ∙ sym cy)))
      (λ w. let is : o ≡ k = named ∙ home_touched (range c.item % n) k (is_wide c.item) w t in
      ap (λ (m : ℕ). rank m xs p) (sym is) ∙ (sx.place ∙ (sym sy.place ∙ ap (λ (m : ℕ). rank m ys q) is)))

  module _ (log : List (Noted T)) (all : List T) (some_cell : 0 < n) (placed : ArePlaced is_wide range n [] log) (merge : IsMergeOf is_wide range n all (items_of log)) where
    inside : (i : ℕ) (c : Noted T) → slice_get log i ≡ Some c → c.cell < n
    inside i c at = subst (λ (k : ℕ). k < n) (sym (names_home is_wide range n [] log placed i c at)) (home_below is_wide range n c.item some_cell)

    in_log : (i : ℕ) (c : Noted T) → slice_get log i ≡ Some c → Stood (items_of log) c
    in_log i c at = stood (items_of log) c ((one-to-one is_wide range n log placed).stands i c at)

    in_all : (i : ℕ) (c : Noted T) → slice_get log i ≡ Some c → Stood all c
    in_all i c at = stood all c (ap (λ l. slice_get l c.place) (merge c.cell (inside i c at)) ∙ (one-to-one is_wide range n log placed).stands i c at)

    pub stand_there : StandThere is_wide range n all log
    stand_there i c at = (in_all i c at).is

    pub in_cells : (calls : List (Noted T)) → IsSublist calls log → StandInCells is_wide range n all calls
    in_cells calls sub k i j c d lt less e f t u =
        let ys = items_of log in
        let ic = sub_at calls log sub i c e in
        let id = sub_at calls log sub j d f in
        let cx = in_all ic.0 c ic.1 in
        let cy = in_log ic.0 c ic.1 in
        let dx = in_all id.0 d id.1 in
        let dy = in_log id.0 d id.1 in
        let first = rank_less k ys (At ys c) (At ys d) c.item cy.is t (stand_in_order is_wide range n log calls placed sub i j c d less e f) in
        let rc = rank_same all ys c k merge lt (inside ic.0 c ic.1) (names_home is_wide range n [] log placed ic.0 c ic.1) cx cy t in
        let rd = rank_same all ys d k merge lt (inside id.0 d id.1) (names_home is_wide range n [] log placed id.0 d id.1) dx dy u in
        turn (At all c) (At all d) (rank k all (At all c)) (rank k all (At all d)) (omega (arith, first, rc, rd))
        (λ l. rank_less k all (At all d) (At all c) d.item dx.is u l)
        (λ s. ap (λ (q : ℕ). rank k all q) s)
