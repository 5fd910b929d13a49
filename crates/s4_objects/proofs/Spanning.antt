-- The ends that a flush goes over.
use Rattle.std.proofs.Common.{◌≡◌, ℕ, zero, suc, ◌+◌, ◌<◌, ◌≤◌, Bool, true, false, Option, Some, None, List, [], ◌∷◌, refl, sym, ◌∙◌, ap, subst, arith, get_or, drop, length, count_by}
use Rattle.std.specs.Prelude.{◌&&◌, ◌==◌, nat_le, if◌then◌else◌}
use Rattle.std.specs.List.{AllWithin, list_all}
use Rattle.std.specs.List.Sorted.{IsPartitionedBy}
use Rattle.std.specs.Ordering.{nat_cmp, is_le, is_lt}
use Rattle.std.specs.FinMap as finmap
use Rattle.std.proofs.lemmas.Bool.{eqb-true}
use Rattle.s4_types.specs.declared.object.ObjectId.{ObjectId}
use Rattle.s4_types.specs.declared.version.Version.{Version}
use Rattle.s4_types.specs.Names.{same_object}
use Rattle.s4_types.proofs.Booleans.{by_test, both}
use Rattle.s4_types.proofs.SameNames.{object_self}
use Rattle.s4_store.specs.Chains.{Chains, items_of, item_count}
use Rattle.s4_store.specs.Counts.{item_count-insert}
use Rattle.s4_tracks.specs.Chain.{EndsBefore, IsInOrder}
use Rattle.s4_objects.specs.declared.kept.Which.{Which}
use Rattle.s4_objects.specs.declared.kept.Kept.{Kept}
use Rattle.s4_objects.specs.declared.ends.Ended.{Ended}
use Rattle.s4_objects.specs.Chains.{same_which, chain_of, held, Chained}
use Rattle.s4_objects.specs.Ends.{is_of, ends_of, all_ends, IsRising, HasEnds}
use Rattle.s4_objects.proofs.Standing.{which_self}
use Rattle.s4_objects.proofs.Queueing.{freed_has}
use Rattle.s4_objects.proofs.Holding.{chained_by, held_by}
use Rattle.s4_objects.proofs.Dues.{count_cons}

-- IN ORDER

module _ (x : ℕ) where
  le-at : (es : List Ended) (j : ℕ) (d : Ended) → list_all (nat_le x) (all_ends es) ≡ true → j < length es → x ≤ (get_or es j d).end
  le-at [] j d all l = absurd (omega arith)
  le-at (e ∷ es) zero d all l = let first = (both (nat_le x e.end) (list_all (nat_le x) (all_ends es)) all).0 in grind (arith, first)
  le-at (e ∷ es) (suc j) d all l = le-at es j d (both (nat_le x e.end) (list_all (nat_le x) (all_ends es)) all).1 (omega arith)

  -- so are those of one track
  all-of : (o : ObjectId) (w : Which) (es : List Ended) → list_all (nat_le x) (all_ends es) ≡ true → list_all (nat_le x) (ends_of o w es) ≡ true
  all-of o w [] all = refl
  all-of o w (e ∷ es) all =
      let parts = both (nat_le x e.end) (list_all (nat_le x) (all_ends es)) all in
      by_test (is_of o w e)
      (λ t. ap (λ b. list_all (nat_le x) (if b then e.end ∷ ends_of o w es else ends_of o w es)) t ∙ ap (λ b. b && list_all (nat_le x) (ends_of o w es)) parts.0 ∙ all-of o w es parts.1)
      (λ f. ap (λ b. list_all (nat_le x) (if b then e.end ∷ ends_of o w es else ends_of o w es)) f ∙ all-of o w es parts.1)

pub rising_at : (es : List Ended) (i j : ℕ) (d : Ended) → IsRising (all_ends es) → i ≤ j → j < length es → (get_or es i d).end ≤ (get_or es j d).end
rising_at [] i j d r le l = absurd (omega arith)
rising_at (e ∷ es) zero zero d r le l = omega arith
rising_at (e ∷ es) zero (suc j) d r le l = le-at e.end es j d r.0 (omega arith)
rising_at (e ∷ es) (suc i) zero d r le l = absurd (omega arith)
rising_at (e ∷ es) (suc i) (suc j) d r le l = rising_at es i j d r.1 (omega arith) (omega arith)

pub rising_drop : (n : ℕ) (es : List Ended) → IsRising (all_ends es) → IsRising (all_ends (drop n es))
rising_drop zero es r = r
rising_drop (suc n) [] r = r
rising_drop (suc n) (e ∷ es) r = rising_drop n es r.1

pub rising_of : (o : ObjectId) (w : Which) (es : List Ended) → IsRising (all_ends es) → IsRising (ends_of o w es)
rising_of o w [] r = _
rising_of o w (e ∷ es) r = by_test (is_of o w e)
    (λ t. subst (λ b. IsRising (if b then e.end ∷ ends_of o w es else ends_of o w es)) (sym t) (all-of e.end o w es r.0, rising_of o w es r.1))
    (λ f. subst (λ b. IsRising (if b then e.end ∷ ends_of o w es else ends_of o w es)) (sym f) (rising_of o w es r.1))

-- values with such ends stand in their order
pub in_order : (ends : List ℕ) (vs : List Version) → IsRising ends → HasEnds ends vs → IsInOrder vs
in_order [] [] r has = _
in_order [] (v ∷ []) r has = _
in_order [] (v ∷ w ∷ vs) r has = absurd has
in_order (x ∷ ends) [] r has = absurd has
in_order (x ∷ ends) (v ∷ []) r has = _
in_order (x ∷ []) (v ∷ w ∷ []) r has = (subst (λ o. EndsBefore o w.end) (sym has.0) (subst (EndsBefore (Some x)) (sym has.1) _), _)
in_order (x ∷ []) (v ∷ w ∷ u ∷ vs) r has = absurd has.1
in_order (x ∷ y ∷ ends) (v ∷ w ∷ vs) r has =
    let up : x ≤ y = first in
    (subst (λ o. EndsBefore o w.end) (sym has.0) (subst (EndsBefore (Some x)) (sym has.1.0) up), in_order (y ∷ ends) (w ∷ vs) r.1 has.1)
  where
    first : x ≤ y
    first = let le = (both (nat_le x y) (list_all (nat_le x) ends) r.0).0 in grind (arith, le)

-- WHAT A SEARCH TESTS

pub le_by : (a b : ℕ) → is_le (nat_cmp a b) ≡ true → a ≤ b
le_by a b e = grind (arith, e)

by-le : (a b : ℕ) → a ≤ b → is_le (nat_cmp a b) ≡ true
by-le a b l = grind (arith, l)

pub le_above : (a b : ℕ) → is_le (nat_cmp a b) ≡ false → b < a
le_above a b e = grind (arith, e)

pub lt_before : (a b : ℕ) → is_lt (nat_cmp a b) ≡ true → a < b
lt_before a b e = grind (arith, e)

before-lt : (a b : ℕ) → a < b → is_lt (nat_cmp a b) ≡ true
before-lt a b l = grind (arith, l)

pub lt_from : (a b : ℕ) → is_lt (nat_cmp a b) ≡ false → b ≤ a
lt_from a b e = grind (arith, e)

-- a search for the first end that fails the test finds it
pub parted_le : (es : List Ended) (m : ℕ) → IsRising (all_ends es) → IsPartitionedBy (λ e. is_le (nat_cmp e.end m)) es
parted_le es m r i j d le l e =
    let low = rising_at es i j d r le l in
    let at : (get_or es j d).end ≤ m = le_by _ m e in
    by-le (get_or es i d).end m (omega (arith, low, at))

pub parted_lt : (es : List Ended) (m : ℕ) → IsRising (all_ends es) → IsPartitionedBy (λ e. is_lt (nat_cmp e.end m)) es
parted_lt es m r i j d le l e =
    let low = rising_at es i j d r le l in
    let at : (get_or es j d).end < m = lt_before _ m e in
    before-lt (get_or es i d).end m (omega (arith, low, at))

-- HOW MANY ENDS A TRACK HAS AT A MOMENT

module _ (o : ObjectId) (w : Which) (m : ℕ) where
  abbrev pub end_count : List Ended → ℕ
  end_count es = count_by (λ end. end == m) (ends_of o w es)

  other-end : (e : Ended) (es : List Ended) → (e.end == m) ≡ false → end_count (e ∷ es) ≡ end_count es
  other-end e es other = by_test (is_of o w e)
      (λ t. let now : end_count (e ∷ es) ≡ count_by (λ end. end == m) (e.end ∷ ends_of o w es) = ap (λ b. count_by (λ end. end == m) (if b then e.end ∷ ends_of o w es else ends_of o w es)) t in
      let none : Rattle.std.proofs.Common.cond (e.end == m) 1 0 ≡ zero = ap (λ b. Rattle.std.proofs.Common.cond {A = ℕ} b 1 0) other in
      omega (arith, now, none, count_cons (λ end. end == m) e.end (ends_of o w es)))
      (λ f. ap (λ b. count_by (λ end. end == m) (if b then e.end ∷ ends_of o w es else ends_of o w es)) f)

  differs : (a : ℕ) → (a ≡ m → ⊥) → (a == m) ≡ false
  differs a ne = by_test (a == m) (λ t. absurd (ne (eqb-true a m t))) (λ f. f)

  -- behind ends that are before the moment
  pub end_count_behind : (from n : ℕ) (es : List Ended) → AllWithin (λ e. e.end < from) es 0 n → from ≤ m → end_count (drop n es) ≡ end_count es
  end_count_behind from zero es before l = refl
  end_count_behind from (suc n) [] before l = refl
  end_count_behind from (suc n) (e ∷ es) before l =
      let first : e.end < from = before 0 e (omega arith) (omega arith) in
      end_count_behind from n es (λ k d a b. before (suc k) d (omega arith) (omega arith)) l
      ∙ sym (other-end e es (differs e.end (λ same. absurd (omega (arith, same, first, l)))))

  -- at ends that are above the moment
  pub end_count_above : (to n : ℕ) (es : List Ended) → AllWithin (λ e. to < e.end) es n (length es) → m ≤ to → end_count (drop n es) ≡ 0
  end_count_above to zero [] above l = refl
  end_count_above to zero (e ∷ es) above l =
      let first : to < e.end = above 0 e (omega arith) (omega arith) in
      other-end e es (differs e.end (λ same. absurd (omega (arith, same, first, l))))
      ∙ end_count_above to zero es (λ k d a b. above (suc k) d (omega arith) (omega arith)) l
  end_count_above to (suc n) [] above l = refl
  end_count_above to (suc n) (e ∷ es) above l = end_count_above to n es (λ k d a b. above (suc k) d (omega arith) (omega arith)) l

  rest-above : (x : ℕ) → m < x → (es : List Ended) → list_all (nat_le x) (all_ends es) ≡ true → end_count es ≡ 0
  rest-above x l [] all = refl
  rest-above x l (e ∷ es) all =
      let parts = both (nat_le x e.end) (list_all (nat_le x) (all_ends es)) all in
      let up : x ≤ e.end = ge e.end parts.0 in
      other-end e es (differs e.end (λ same. absurd (omega (arith, same, up, l)))) ∙ rest-above x l es parts.1
    where
      ge : (y : ℕ) → nat_le x y ≡ true → x ≤ y
      ge y t = grind (arith, t)

  -- before the first end
  pub end_count_first : (e : Ended) (es : List Ended) → IsRising (all_ends (e ∷ es)) → m < e.end → end_count (e ∷ es) ≡ 0
  end_count_first e es r l = other-end e es (differs e.end (λ same. absurd (omega (arith, same, l)))) ∙ rest-above e.end l es r.0

  -- an end of another track
  pub end_count_other : (e : Ended) (es : List Ended) → is_of o w e ≡ false → end_count (e ∷ es) ≡ end_count es
  end_count_other e es f = ap (λ b. count_by (λ end. end == m) (if b then e.end ∷ ends_of o w es else ends_of o w es)) f

  -- an end of this one
  pub end_count_next : (e : Ended) (es : List Ended) → end_count (e ∷ es) ≤ suc (end_count es)
  end_count_next e es = by_test (is_of o w e)
      (λ t. let now : end_count (e ∷ es) ≡ count_by (λ end. end == m) (e.end ∷ ends_of o w es) = ap (λ b. count_by (λ end. end == m) (if b then e.end ∷ ends_of o w es else ends_of o w es)) t in
      let one : Rattle.std.proofs.Common.cond {A = ℕ} (e.end == m) 1 0 ≤ 1 = at-most (e.end == m) in
      omega (arith, now, one, count_cons (λ end. end == m) e.end (ends_of o w es)))
      (λ f. let now = end_count_other e es f in omega (arith, now))
    where
      at-most : (b : Bool) → Rattle.std.proofs.Common.cond {A = ℕ} b 1 0 ≤ 1
      at-most true = omega arith
      at-most false = omega arith

  -- at another moment
  pub end_count_elsewhere : (e : Ended) (es : List Ended) → (e.end ≡ m → ⊥) → end_count (e ∷ es) ≡ end_count es
  end_count_elsewhere e es ne = other-end e es (differs e.end ne)

-- AS MANY ENDS AS VALUES

one-less : (x : ℕ) (ends : List ℕ) (vs : List Version) → HasEnds (x ∷ ends) vs → length (drop 1 vs) + 1 ≡ length vs
one-less x ends [] has = absurd has
one-less x ends (v ∷ vs) has = omega arith

-- each end that waits is that of a value that is held
pub queue_fits : {found : ObjectId → Option Kept} (queue : List Ended) (chains : Chains Version) → Chained chains found → ((o : ObjectId) (w : Which) → HasEnds (ends_of o w queue) (held chains (found o) w)) → length queue ≤ item_count chains
queue_fits [] chains c has = omega arith
queue_fits {found} (e ∷ queue) chains c has = of (λ less c' has'. queue_fits queue less c' has') (found e.object) refl
  where
    first : HasEnds (e.end ∷ ends_of e.object e.which queue) (held chains (found e.object) e.which)
    first = subst (λ ends. HasEnds ends (held chains (found e.object) e.which))
        (ap (λ b. if b then e.end ∷ ends_of e.object e.which queue else ends_of e.object e.which queue) (ap (λ b. b && same_which e.which e.which) (object_self e.object) ∙ which_self e.which))
        (has e.object e.which)

    of : ((less : Chains Version) → Chained less found → ((o : ObjectId) (w : Which) → HasEnds (ends_of o w queue) (held less (found o) w)) → length queue ≤ item_count less)
        → (f : Option Kept) → found e.object ≡ f → length (e ∷ queue) ≤ item_count chains
    of rest_fits None got = absurd (subst (λ f. HasEnds (e.end ∷ ends_of e.object e.which queue) (held chains f e.which)) got first)
    of rest_fits (Some k) got =
        let chain : ℕ = chain_of e.which k in
        let items : List Version = items_of chains chain in
        let less : Chains Version = finmap.insert chains chain (drop 1 items) in
        let there : HasEnds (e.end ∷ ends_of e.object e.which queue) items = subst (λ f. HasEnds (e.end ∷ ends_of e.object e.which queue) (held chains f e.which)) got first in
        let one : length (drop 1 items) + 1 ≡ length items = one-less e.end (ends_of e.object e.which queue) items there in
        let all : item_count less + length items ≡ item_count chains + length (drop 1 items) = item_count-insert chains chain (drop 1 items) in
        let rest : length queue ≤ item_count less = rest_fits less (chained_by c e.object k got e.which (drop 1) refl) (λ q u. subst (HasEnds (ends_of q u queue)) (sym (held_by c e.object k got e.which (drop 1) refl q u)) (by_test (same_object e.object q && same_which e.which u)
        (λ t. subst (λ b. HasEnds (ends_of q u queue) (if b then drop 1 (held chains (found q) u) else held chains (found q) u)) (sym t)
        (freed_has e.end (ends_of q u queue) (held chains (found q) u) (subst (λ b. HasEnds (if b then e.end ∷ ends_of q u queue else ends_of q u queue) (held chains (found q) u)) t (has q u))))
        (λ t. subst (λ b. HasEnds (ends_of q u queue) (if b then drop 1 (held chains (found q) u) else held chains (found q) u)) (sym t)
        (subst (λ b. HasEnds (if b then e.end ∷ ends_of q u queue else ends_of q u queue) (held chains (found q) u)) t (has q u))))) in
        omega (arith, one, all, rest)
