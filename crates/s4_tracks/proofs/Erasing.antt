-- Values of a chain lose their items.
use Rattle.std.proofs.Common.{◌≡◌, ℕ, zero, suc, ◌+◌, ◌<◌, Bool, true, false, Option, Some, None, IfNone, List, [], ◌∷◌, refl, sym, ◌∙◌, ap, subst, true≢false, arith, take, length}
use Rattle.std.proofs.Math.Numerals.{suc-eq-add-one}
use Rattle.std.specs.Prelude.{◌&&◌, ◌||◌, is_some, nat_le, slice_get, slice_set, if◌then◌else◌}
use Rattle.std.specs.List.{list_any, cons_option}
use Rattle.std.specs.FinMap as finmap
use Rattle.s4_types.specs.declared.version.Version.{Version}
use Rattle.s4_types.specs.declared.version.Item.{Item}
use Rattle.s4_types.specs.Versions.{ends_by}
use Rattle.s4_types.proofs.Booleans.{by_test, both, &&-false}
use Rattle.s4_store.specs.Chains.{Chains, items_of}
use Rattle.s4_store.specs.Laws.{insert_twice, items_here}
use Rattle.s4_tracks.specs.Chain.{is_within, erased, flushed_one, flushed, is_erasable, told_by, told_of, first_told, with_first_erased, told_if, told}

-- ONE VALUE IS CHANGED

set-twice : (vs : List Version) (i : ℕ) (w x : Version) → slice_set (slice_set vs i w) i x ≡ slice_set vs i x
set-twice [] i w x = refl
set-twice (v ∷ vs) zero w x = refl
set-twice (v ∷ vs) (suc i) w x = ap (λ us. v ∷ us) (set-twice vs i w x)

-- a value is taken out, is changed, and is put back
pub changed_in : (m m1 m2 : Chains Version) (c i : ℕ) (w x : Version)
    → m1 ≡ finmap.insert m c (slice_set (items_of m c) i w) → m2 ≡ finmap.insert m1 c (slice_set (items_of m1 c) i x)
    → m2 ≡ finmap.insert m c (slice_set (items_of m c) i x)
changed_in m m1 m2 c i w x first second =
    let there : List Version = slice_set (items_of m c) i w in
    let here : items_of m1 c ≡ there = ap (λ a. items_of a c) first ∙ items_here m c there in
    second
    ∙ ap (λ xs. finmap.insert m1 c (slice_set xs i x)) here
    ∙ ap (λ a. finmap.insert a c (slice_set there i x)) first
    ∙ insert_twice m c there (slice_set there i x)
    ∙ ap (finmap.insert m c) (set-twice (items_of m c) i w x)

-- THE NEXT VALUE

neither : (a b : Bool) → (a || b) ≡ false → (a ≡ false) × (b ≡ false)
neither false b e = (refl, e)
neither true b e = cc

same_value : (u v : Version) → Some u ≡ Some v → u ≡ v
same_value u v e = cc

-- a longer look past values
pub any-take : {A : Type 0} (p : A → Bool) (i : ℕ) (xs : List A) → list_any p xs ≡ false → list_any p (take i xs) ≡ false
any-take p zero xs e = refl
any-take p (suc i) [] e = refl
any-take p (suc i) (x ∷ xs) e = let parts = neither (p x) (list_any p xs) e in ap (λ b. b || list_any p (take i xs)) parts.0 ∙ any-take p i xs parts.1

-- a look at one item more
any-next : {A : Type 0} (p : A → Bool) (xs : List A) (i : ℕ) (x : A) → slice_get xs i ≡ Some x → list_any p (take i xs) ≡ false → p x ≡ false → list_any p (take (suc i) xs) ≡ false
any-next p [] i x got behind e = refl
any-next p (y ∷ xs) zero x got behind e = ap (λ o. list_any p (Rattle.std.specs.Option.unwrap_or o y ∷ [])) got ∙ ap (λ b. b || false) e
any-next p (y ∷ xs) (suc i) x got behind e =
    let parts = neither (p y) (list_any p (take i xs)) behind in
    ap (λ b. b || list_any p (take (suc i) xs)) parts.0 ∙ any-next p xs i x got parts.1 e

pub any-more : {A : Type 0} (p : A → Bool) (xs : List A) (i : ℕ) (x : A) → slice_get xs i ≡ Some x → list_any p (take i xs) ≡ false → p x ≡ false → list_any p (take (i + 1) xs) ≡ false
any-more p xs i x got behind e = subst (λ k. list_any p (take k xs) ≡ false) (suc-eq-add-one i) (any-next p xs i x got behind e)

-- an item stands at each place
pub item_at : {A : Type 0} (xs : List A) (i : ℕ) → i < length xs → (x : A) × (slice_get xs i ≡ Some x)
item_at [] i l = absurd (omega arith)
item_at (x ∷ xs) zero l = (x, refl)
item_at (x ∷ xs) (suc i) l = item_at xs i (omega arith)

module _ (from to : ℕ) where
  ended-told : (P : Type 0) (cost : ℕ) (end : Option ℕ) → ends_by to end ≡ true → IfNone (told_by cost end) P
  ended-told P cost None e = absurd (true≢false (sym e))
  ended-told P cost (Some end) e = tt

  -- a value that is yet to be erased has an end, so it is told
  pub is_told : (P : Type 0) (v : Version) → is_erasable from to v ≡ true → IfNone (told_of v) P
  is_told P v e = ended-told P v.cost v.end (both (nat_le from v.begin) (ends_by to v.end) (both (is_within from to v) (is_some v.item) e).0).1

  pub first_at : (vs : List Version) (i : ℕ) (v : Version) → slice_get vs i ≡ Some v → list_any (is_erasable from to) (take i vs) ≡ false → is_erasable from to v ≡ true → first_told from to vs ≡ told_of v
  first_at [] i v got behind e = cc
  first_at (u ∷ vs) zero v got behind e =
      ap (λ w. if is_erasable from to w then told_of w else first_told from to vs) (same_value u v got) ∙ ap (λ b. if b then told_of v else first_told from to vs) e
  first_at (u ∷ vs) (suc i) v got behind e =
      let parts = neither (is_erasable from to u) (list_any (is_erasable from to) (take i vs)) behind in
      ap (λ b. if b then told_of u else first_told from to vs) parts.0 ∙ first_at vs i v got parts.1 e

  pub with_first_at : (vs : List Version) (i : ℕ) (v : Version) → slice_get vs i ≡ Some v → list_any (is_erasable from to) (take i vs) ≡ false → is_erasable from to v ≡ true → slice_set vs i (erased v) ≡ with_first_erased from to vs
  with_first_at [] i v got behind e = refl
  with_first_at (u ∷ vs) zero v got behind e =
      sym (ap (λ w. if is_erasable from to w then erased w ∷ vs else w ∷ with_first_erased from to vs) (same_value u v got) ∙ ap (λ b. if b then erased v ∷ vs else v ∷ with_first_erased from to vs) e)
  with_first_at (u ∷ vs) (suc i) v got behind e =
      let parts = neither (is_erasable from to u) (list_any (is_erasable from to) (take i vs)) behind in
      ap (λ ws. u ∷ ws) (with_first_at vs i v got parts.1 e) ∙ sym (ap (λ b. if b then erased u ∷ vs else u ∷ with_first_erased from to vs) parts.0)

  erased-passed : (v : Version) → is_erasable from to (erased v) ≡ false
  erased-passed v = &&-false (is_within from to v)

  pub passed_at : (vs : List Version) (i : ℕ) (v : Version) → slice_get vs i ≡ Some v → list_any (is_erasable from to) (take i vs) ≡ false → list_any (is_erasable from to) (take (suc i) (slice_set vs i (erased v))) ≡ false
  passed_at [] i v got behind = refl
  passed_at (u ∷ vs) zero v got behind = ap (λ b. b || false) (erased-passed v)
  passed_at (u ∷ vs) (suc i) v got behind =
      let parts = neither (is_erasable from to u) (list_any (is_erasable from to) (take i vs)) behind in
      ap (λ b. b || list_any (is_erasable from to) (take (suc i) (slice_set vs i (erased v)))) parts.0 ∙ passed_at vs i v got parts.1

  pub first_none : (vs : List Version) → list_any (is_erasable from to) vs ≡ false → first_told from to vs ≡ None
  first_none [] e = refl
  first_none (v ∷ vs) e =
      let parts = neither (is_erasable from to v) (list_any (is_erasable from to) vs) e in
      ap (λ b. if b then told_of v else first_told from to vs) parts.0 ∙ first_none vs parts.1

  pub with_first_none : (vs : List Version) → list_any (is_erasable from to) vs ≡ false → with_first_erased from to vs ≡ vs
  with_first_none [] e = refl
  with_first_none (v ∷ vs) e =
      let parts = neither (is_erasable from to v) (list_any (is_erasable from to) vs) e in
      ap (λ b. if b then erased v ∷ vs else v ∷ with_first_erased from to vs) parts.0 ∙ ap (λ ws. v ∷ ws) (with_first_none vs parts.1)

  -- A WHOLE FLUSH, FOR ITS CALLERS

  flushed-once : (v : Version) → is_erasable from to v ≡ true → flushed_one from to (erased v) ≡ flushed_one from to v
  flushed-once v e =
      let within = (both (is_within from to v) (is_some v.item) e).0 in
      ap (λ b. if b then erased v else erased v) within ∙ sym (ap (λ b. if b then erased v else v) within)

  -- an erased value is what the flush makes of it
  pub flushed_next : (vs : List Version) → flushed from to (with_first_erased from to vs) ≡ flushed from to vs
  flushed_next [] = refl
  flushed_next (v ∷ vs) = by_test (is_erasable from to v)
      (λ e. ap (λ b. flushed from to (if b then erased v ∷ vs else v ∷ with_first_erased from to vs)) e ∙ ap (λ w. w ∷ flushed from to vs) (flushed-once v e))
      (λ e. ap (λ b. flushed from to (if b then erased v ∷ vs else v ∷ with_first_erased from to vs)) e ∙ ap (λ ws. flushed_one from to v ∷ ws) (flushed_next vs))

  -- what was told is the first of what was to be told
  pub told_next : (vs : List Version) (t : ℕ × ℕ) → first_told from to vs ≡ Some t → told from to vs ≡ t ∷ told from to (with_first_erased from to vs)
  told_next [] t e = cc
  told_next (v ∷ vs) t e = by_test (is_erasable from to v)
      (λ f. let is : told_if from to v ≡ Some t = ap (λ b. if b then told_of v else None) f ∙ sym (ap (λ b. if b then told_of v else first_told from to vs) f) ∙ e in
      let none : told_if from to (erased v) ≡ None = ap (λ b. if b then told_of v else None) (erased-passed v) in
      ap (λ o. cons_option o (told from to vs)) is
      ∙ sym (ap (λ ws. t ∷ ws) (ap (λ b. told from to (if b then erased v ∷ vs else v ∷ with_first_erased from to vs)) f ∙ ap (λ o. cons_option o (told from to vs)) none)))
      (λ f. let none : told_if from to v ≡ None = ap (λ b. if b then told_of v else None) f in
      let rest : first_told from to vs ≡ Some t = sym (ap (λ b. if b then told_of v else first_told from to vs) f) ∙ e in
      ap (λ o. cons_option o (told from to vs)) none ∙ told_next vs t rest
      ∙ sym (ap (λ ws. t ∷ ws) (ap (λ b. told from to (if b then erased v ∷ vs else v ∷ with_first_erased from to vs)) f ∙ ap (λ o. cons_option o (told from to (with_first_erased from to vs))) none)))

  -- a value that is within the moments has an end
  told-there : (v : Version) → is_erasable from to v ≡ true → told_of v ≡ None → ⊥
  told-there v e none = of v.end (both (nat_le from v.begin) (ends_by to v.end) (both (is_within from to v) (is_some v.item) e).0).1 none
    where
      of : (end : Option ℕ) → ends_by to end ≡ true → told_by v.cost end ≡ None → ⊥
      of None f g = cc
      of (Some end) f g = cc

  -- nothing is left to be erased
  pub all_passed : (vs : List Version) → first_told from to vs ≡ None → list_any (is_erasable from to) vs ≡ false
  all_passed [] e = refl
  all_passed (v ∷ vs) e = by_test (is_erasable from to v)
      (λ f. absurd (told-there v f (sym (ap (λ b. if b then told_of v else first_told from to vs) f) ∙ e)))
      (λ f. ap (λ b. b || list_any (is_erasable from to) vs) f ∙ all_passed vs (sym (ap (λ b. if b then told_of v else first_told from to vs) f) ∙ e))

  flushed-same : (v : Version) → is_erasable from to v ≡ false → flushed_one from to v ≡ v
  flushed-same v e = by_test (is_within from to v)
      (λ f. ap (λ b. if b then erased v else v) f ∙ ap (λ (i : Option Item). record v { item = i }) (sym (gone v.item (sym (ap (λ b. b && is_some v.item) f) ∙ e))))
      (λ f. ap (λ b. if b then erased v else v) f)
    where
      gone : (i : Option Item) → is_some i ≡ false → i ≡ None
      gone None f = refl
      gone (Some x) f = cc

  passed-flushed : (vs : List Version) → list_any (is_erasable from to) vs ≡ false → flushed from to vs ≡ vs
  passed-flushed [] e = refl
  passed-flushed (v ∷ vs) e =
      let parts = neither (is_erasable from to v) (list_any (is_erasable from to) vs) e in
      ap (λ w. w ∷ flushed from to vs) (flushed-same v parts.0) ∙ ap (λ ws. v ∷ ws) (passed-flushed vs parts.1)

  passed-told : (vs : List Version) → list_any (is_erasable from to) vs ≡ false → told from to vs ≡ []
  passed-told [] e = refl
  passed-told (v ∷ vs) e =
      let parts = neither (is_erasable from to v) (list_any (is_erasable from to) vs) e in
      ap (λ o. cons_option o (told from to vs)) (ap (λ b. if b then told_of v else None) parts.0) ∙ passed-told vs parts.1

  -- where nothing is told any more the flush is done
  pub flushed_done : (vs : List Version) → first_told from to vs ≡ None → flushed from to vs ≡ vs
  flushed_done vs e = passed-flushed vs (all_passed vs e)

  pub told_done : (vs : List Version) → first_told from to vs ≡ None → told from to vs ≡ []
  told_done vs e = passed-told vs (all_passed vs e)
