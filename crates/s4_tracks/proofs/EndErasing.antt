-- The values of a track that ended at one moment, where values stand in the order of their ends.
use Rattle.std.proofs.Common.{◌≡◌, ℕ, zero, suc, ◌+◌, ◌<◌, ◌≤◌, Bool, true, false, cond, Option, Some, None, List, [], ◌∷◌, refl, sym, ◌∙◌, ap, arith, take}
use Rattle.std.specs.Prelude.{◌&&◌, ◌||◌, is_some, nat_le, slice_get, slice_set}
use Rattle.std.proofs.Math.Numerals.{suc-eq-add-one}
use Rattle.std.specs.List.{list_any, prefix_len}
use Rattle.std.specs.FinMap as finmap
use Rattle.s4_types.specs.declared.version.Version.{Version}
use Rattle.s4_types.specs.Versions.{ends_by}
use Rattle.s4_types.proofs.Booleans.{by_test}
use Rattle.s4_store.specs.Chains.{Chains, items_of}
use Rattle.s4_store.specs.Laws.{items_here}
use Rattle.s4_tracks.specs.declared.end_eraser.EndEraser.{EndEraser}
use Rattle.s4_tracks.specs.Chain.{erased, is_erasable, with_first_erased, ended_before, end_is_before, EndsBefore, IsInOrder}
use Rattle.s4_tracks.specs.Eraser.{IsNext}
use Rattle.s4_tracks.specs.EndEraser.{HasPassed, SameSpan}
use Rattle.s4_tracks.proofs.Erasing.{any-take, any-more, with_first_at, passed_at}

same_value : (u v : Version) → Some u ≡ Some v → u ≡ v
same_value u v e = cc

-- WHERE THE VALUES STAND THAT ENDED EARLIER

earlier-before : (m : ℕ) (end later : Option ℕ) → EndsBefore end later → end_is_before m later ≡ true → end_is_before m end ≡ true
earlier-before m None later b e = absurd b
earlier-before m (Some end) None b e = cc
earlier-before m (Some end) (Some later) b e = grind (arith, b, e)

-- a value that ended before the moment has none before it that didn't
pub before_all : (m : ℕ) (vs : List Version) (i : ℕ) (v : Version) → IsInOrder vs → slice_get vs i ≡ Some v → ended_before m v ≡ true → i + 1 ≤ prefix_len (ended_before m) vs
before_all m [] i v o got e = cc
before_all m (u ∷ vs) zero v o got e =
    let here : ended_before m u ≡ true = ap (ended_before m) (same_value u v got) ∙ e in
    let is : prefix_len (ended_before m) (u ∷ vs) ≡ 1 + prefix_len (ended_before m) vs = ap (λ b. cond b (1 + prefix_len (ended_before m) vs) 0) here in
    omega arith
before_all m (u ∷ []) (suc i) v o got e = cc
before_all m (u ∷ w ∷ vs) (suc i) v o got e =
    let rest : i + 1 ≤ prefix_len (ended_before m) (w ∷ vs) = before_all m (w ∷ vs) i v o.1 got e in
    let here : ended_before m u ≡ true = earlier-before m u.end w.end o.0 (first-passes (w ∷ vs) w refl (omega arith)) in
    let is : prefix_len (ended_before m) (u ∷ w ∷ vs) ≡ 1 + prefix_len (ended_before m) (w ∷ vs) = ap (λ b. cond b (1 + prefix_len (ended_before m) (w ∷ vs)) 0) here in
    omega arith
  where
    first-passes : (xs : List Version) (x : Version) → slice_get xs 0 ≡ Some x → 0 < prefix_len (ended_before m) xs → ended_before m x ≡ true
    first-passes [] x e l = cc
    first-passes (y ∷ xs) x e l = by_test (ended_before m y)
        (λ t. ap (ended_before m) (sym (same_value y x e)) ∙ t)
        (λ f. let none : prefix_len (ended_before m) (y ∷ xs) ≡ 0 = ap (λ b. cond b (1 + prefix_len (ended_before m) xs) 0) f in absurd (omega arith))

-- one that didn't has only others of its kind behind it
pub before_none : (m : ℕ) (vs : List Version) (i : ℕ) (v : Version) → slice_get vs i ≡ Some v → ended_before m v ≡ false → prefix_len (ended_before m) vs ≤ i
before_none m [] i v got e = cc
before_none m (u ∷ vs) zero v got e =
    let none : prefix_len (ended_before m) (u ∷ vs) ≡ 0 = ap (λ b. cond b (1 + prefix_len (ended_before m) vs) 0) (ap (ended_before m) (same_value u v got) ∙ e) in
    omega arith
before_none m (u ∷ vs) (suc i) v got e =
    let rest : prefix_len (ended_before m) vs ≤ i = before_none m vs i v got e in
    by_test (ended_before m u)
    (λ t. let is : prefix_len (ended_before m) (u ∷ vs) ≡ 1 + prefix_len (ended_before m) vs = ap (λ b. cond b (1 + prefix_len (ended_before m) vs) 0) t in omega arith)
    (λ f. let none : prefix_len (ended_before m) (u ∷ vs) ≡ 0 = ap (λ b. cond b (1 + prefix_len (ended_before m) vs) 0) f in omega arith)

-- WHERE A WALK ENDS

later-above : (m : ℕ) (end later : Option ℕ) → EndsBefore end later → ends_by m end ≡ false → ends_by m later ≡ false
later-above m None later b e = absurd b
later-above m (Some end) None b e = refl
later-above m (Some end) (Some later) b e = grind (arith, b, e)

module _ (from m : ℕ) where
  not-within : (v : Version) → ends_by m v.end ≡ false → is_erasable from m v ≡ false
  not-within v e = ap (λ b. nat_le from v.begin && b && is_some v.item) e ∙ of (nat_le from v.begin)
    where
      of : (b : Bool) → (b && false && is_some v.item) ≡ false
      of true = refl
      of false = refl

  none-above : (v : Version) (vs : List Version) → IsInOrder (v ∷ vs) → ends_by m v.end ≡ false → list_any (is_erasable from m) (v ∷ vs) ≡ false
  none-above v [] o e = ap (λ b. b || false) (not-within v e)
  none-above v (w ∷ vs) o e = ap (λ b. b || list_any (is_erasable from m) (w ∷ vs)) (not-within v e) ∙ none-above w vs o.1 (later-above m v.end w.end o.0 e)

  -- behind a value that ended later none is to be erased
  pub none_behind : (vs : List Version) (i : ℕ) (v : Version) → IsInOrder vs → slice_get vs i ≡ Some v → ends_by m v.end ≡ false → list_any (is_erasable from m) (take i vs) ≡ false → list_any (is_erasable from m) vs ≡ false
  none_behind [] i v o got e passed = refl
  none_behind (u ∷ vs) zero v o got e passed = none-above u vs o (ap (λ (x : Version). ends_by m x.end) (same_value u v got) ∙ e)
  none_behind (u ∷ []) (suc i) v o got e passed = cc
  none_behind (u ∷ w ∷ vs) (suc i) v o got e passed = by_test (is_erasable from m u)
      (λ t. let some : list_any (is_erasable from m) (take (suc i) (u ∷ w ∷ vs)) ≡ true = ap (λ b. b || list_any (is_erasable from m) (take i (w ∷ vs))) t in cc)
      (λ f. ap (λ b. b || list_any (is_erasable from m) (w ∷ vs)) f
      ∙ none_behind (w ∷ vs) i v o.1 got e (sym (ap (λ b. b || list_any (is_erasable from m) (take i (w ∷ vs))) f) ∙ passed))

-- A WALK

module _ (first walk : EndEraser) (vs : List Version) (v : Version) (same : SameSpan first walk) (passed : HasPassed walk vs) (there : slice_get vs walk.next ≡ Some v) where
  -- the value isn't to be erased, and the walk goes on
  pub passed_on : is_erasable walk.from walk.end v ≡ false → HasPassed (record { chain = walk.chain; from = walk.from; end = walk.end; next = walk.next + 1 }) vs
  passed_on e = record { passed = any-more (is_erasable walk.from walk.end) vs walk.next v there passed.passed e }

  -- the value ended later, and the walk is over
  pub over_at : IsInOrder vs → ends_by walk.end v.end ≡ false → list_any (is_erasable first.from first.end) vs ≡ false
  over_at o e =
      ap (λ k. list_any (is_erasable k first.end) vs) (sym same.from) ∙ ap (λ k. list_any (is_erasable walk.from k) vs) (sym same.end)
      ∙ none_behind walk.from walk.end vs walk.next v o there e passed.passed

-- none is left
pub passed_all : (first walk : EndEraser) (vs : List Version) → SameSpan first walk → list_any (is_erasable first.from first.end) vs ≡ false → HasPassed walk vs
passed_all first walk vs same none = record {
  passed = any-take (is_erasable walk.from walk.end) walk.next vs (ap (λ k. list_any (is_erasable k walk.end) vs) same.from ∙ ap (λ k. list_any (is_erasable first.from k) vs) same.end ∙ none);
}

-- the value was erased, and the walk stands behind it
pub passed_after : (first walk : EndEraser) (index : ℕ) (m new : Chains Version) → SameSpan first walk → walk.next ≡ index + 1 → IsNext first.from first.end (items_of m first.chain) index
    → new ≡ finmap.insert m first.chain (with_first_erased first.from first.end (items_of m first.chain)) → HasPassed walk (items_of new walk.chain)
passed_after first walk index m new same reached next changed =
    let vs : List Version = items_of m first.chain in
    let after : List Version = slice_set vs index (erased next.value) in
    let is_after : items_of new first.chain ≡ after = ap (λ a. items_of a first.chain) changed ∙ items_here m first.chain (with_first_erased first.from first.end vs)
    ∙ sym (with_first_at first.from first.end vs index next.value next.there next.passed next.erasable) in
    record {
      passed = ap (λ k. list_any (is_erasable k walk.end) (take walk.next (items_of new walk.chain))) same.from
          ∙ ap (λ k. list_any (is_erasable first.from k) (take walk.next (items_of new walk.chain))) same.end
          ∙ ap (λ k. list_any (is_erasable first.from first.end) (take walk.next (items_of new k))) same.chain
          ∙ ap (λ k. list_any (is_erasable first.from first.end) (take k (items_of new first.chain))) (reached ∙ sym (suc-eq-add-one index))
          ∙ ap (λ us. list_any (is_erasable first.from first.end) (take (suc index) us)) is_after
          ∙ passed_at first.from first.end vs index next.value next.there next.passed;
    }
