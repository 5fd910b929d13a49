-- What a flush does at one end, and from one end to the next.
use Rattle.std.proofs.Common.{◌≡◌, ℕ, ◌+◌, ◌<◌, ◌≤◌, Bool, true, false, Option, Some, None, List, [], ◌∷◌, ◌++◌, refl, sym, ◌∙◌, ap, subst, arith, drop, length}
use Rattle.std.specs.Prelude.{◌&&◌, ◌==◌, nat_lt, is_some, map, if◌then◌else◌}
use Rattle.std.specs.List.{AllWithin, cons_option}
use Rattle.std.specs.FinMap as finmap
use Rattle.std.proofs.lemmas.Bool.{eqb-true, eq-eqb}
use Rattle.s4_types.specs.declared.object.Purse.{Purse}
use Rattle.s4_types.specs.declared.object.ObjectId.{ObjectId}
use Rattle.s4_types.specs.declared.version.Version.{Version}
use Rattle.s4_types.specs.Names.{same_purse, same_object, object_in}
use Rattle.s4_types.specs.Spending.{sum_to}
use Rattle.s4_types.proofs.Booleans.{by_test, both, not_both}
use Rattle.s4_types.proofs.SameNames.{object_is, object_self, purse_is}
use Rattle.s4_store.specs.Chains.{Chains, items_of, item_count, StillOpen}
use Rattle.s4_store.specs.Counts.{item_count-more}
use Rattle.s4_store.specs.Laws.{items_elsewhere, StillOpen-insert}
use Rattle.s4_tracks.specs.Chain.{flushed, first_told, with_first_erased, IsInOrder}
use Rattle.s4_tracks.proofs.Erasing.{first_none, flushed_done}
use Rattle.s4_objects.specs.declared.kept.Which.{Which}
use Rattle.s4_objects.specs.declared.kept.Which.TheVariants as which
use Rattle.s4_objects.specs.declared.kept.Kept.{Kept}
use Rattle.s4_objects.specs.declared.ends.Ended.{Ended}
use Rattle.s4_objects.specs.declared.flushes.Refund.{Refund}
use Rattle.s4_objects.specs.Chains.{same_which, chain_of, held, Chained}
use Rattle.s4_objects.specs.Ends.{is_of, ends_of, all_ends, IsRising, HasEnds}
use Rattle.s4_objects.specs.Flushes.{is_flushed_on, flushed_on, past_weight, track_weight, refunded, refund_to, Flushes}
use Rattle.s4_objects.specs.Table.{HoldsFor}
use Rattle.s4_objects.specs.Erasing.{IsPassedBefore, next_erased, next_refunds, ErasesNext}
use Rattle.s4_objects.proofs.Standing.{which_self, which_is, open_before}
use Rattle.s4_objects.proofs.Weighing.{refunded_none, refunded_next, refunded_both, sums_alike, sum_less}
use Rattle.s4_objects.proofs.Holding.{held_by}
use Rattle.s4_objects.proofs.Dues.{due_count, due_fewer, due_next, due_ends, due_early, none_due, none_before, flushed_by_next, next_has, next_length}
use Rattle.s4_objects.proofs.Spanning.{rising_of, in_order, end_count, end_count_behind, end_count_first, end_count_other, end_count_next, end_count_elsewhere}

-- AT ONE END

-- of a track that a flush reaches
module _ (m : Chains Version) (found : ObjectId → Option Kept) (from : ℕ) (e : Ended) (c : Chained m found) (k : Kept) (kept : found e.object ≡ Some k) (reached : is_flushed_on e.which ≡ true) where
  abbrev its : List Version
  its = items_of m (chain_of e.which k)

  pub next_erases : (new : Chains Version) → new ≡ finmap.insert m (chain_of e.which k) (with_first_erased from e.end its) → ErasesNext m new found from e
  next_erases new changed = record {
    tracks = held_by c e.object k kept e.which (next_erased from e) (changed ∙ ap (λ b. finmap.insert m (chain_of e.which k) (if b then with_first_erased from e.end its else its)) (sym reached));
    others = λ x foreign. ap (λ a. items_of a x) changed ∙ items_elsewhere m (chain_of e.which k) x (with_first_erased from e.end its) (foreign e.object k e.which kept);
    still = StillOpen-insert m new (chain_of e.which k) (with_first_erased from e.end its) changed;
    unopened = open_before m new (chain_of e.which k) (with_first_erased from e.end its) changed (c.opened e.object k e.which kept);
    used = let same : length (with_first_erased from e.end its) ≡ length its = next_length from e.end its in
        let all : item_count (finmap.insert m (chain_of e.which k) (with_first_erased from e.end its)) ≡ item_count m + 0 = item_count-more m (chain_of e.which k) 0 (with_first_erased from e.end its) (omega arith) in
        ap item_count changed ∙ omega arith;
  }

-- at most one value is refunded
pub next_short : (from : ℕ) (e : Ended) (vs : List Version) → length (next_refunds from e vs) ≤ 1
next_short from e vs = of (is_flushed_on e.which) (first_told from e.end vs)
  where
    of : (b : Bool) (t : Option (ℕ × ℕ)) → length (if b then map (refund_to e.object.purse) (cons_option t []) else []) ≤ 1
    of true None = omega arith
    of true (Some t) = omega arith
    of false t = omega arith

-- WHAT IT WEIGHS

module _ {m new : Chains Version} {found : ObjectId → Option Kept} {from : ℕ} {e : Ended} (f : ErasesNext m new found from e) where
  apart-held : (q : ObjectId) (w : Which) → same_object e.object q ≡ false → held new (found q) w ≡ held m (found q) w
  apart-held q w other = f.tracks q w ∙ ap (λ b. if b && same_which e.which w then next_erased from e (held m (found q) w) else held m (found q) w) other

  own-held : (w : Which) → held new (found e.object) w ≡ (if same_which e.which w then next_erased from e (held m (found e.object) w) else held m (found e.object) w)
  own-held w = f.tracks e.object w ∙ ap (λ b. if b && same_which e.which w then next_erased from e (held m (found e.object) w) else held m (found e.object) w) (object_self e.object)

  module _ (weight : ℕ → ℕ → ℕ) (p : Purse) where
    abbrev part : Chains Version → ℕ → ℕ
    part x s = past_weight weight x (found (object_in p s))

    abbrev weighs : Chains Version → Which → ℕ
    weighs x w = track_weight weight (held x (found e.object) w)

    abbrev back : ℕ
    back = refunded weight p (next_refunds from e (held m (found e.object) e.which))

    same-part : (s : ℕ) → same_object e.object (object_in p s) ≡ false → part new s ≡ part m s
    same-part s other =
        let d : track_weight weight (held new (found (object_in p s)) which.Data) ≡ track_weight weight (held m (found (object_in p s)) which.Data) = ap (track_weight weight) (apart-held (object_in p s) which.Data other) in
        let a : track_weight weight (held new (found (object_in p s)) which.Attributes) ≡ track_weight weight (held m (found (object_in p s)) which.Attributes) = ap (track_weight weight) (apart-held (object_in p s) which.Attributes other) in
        let l : track_weight weight (held new (found (object_in p s)) which.Acl) ≡ track_weight weight (held m (found (object_in p s)) which.Acl) = ap (track_weight weight) (apart-held (object_in p s) which.Acl other) in
        omega arith

    module _ (own : same_purse e.object.purse p ≡ true) where
      next-weighs : (vs : List Version) → track_weight weight (next_erased from e vs) + refunded weight p (next_refunds from e vs) ≡ track_weight weight vs
      next-weighs vs = by_test (is_flushed_on e.which)
          (λ t. ap (λ b. track_weight weight (if b then with_first_erased from e.end vs else vs) + refunded weight p (if b then map (refund_to e.object.purse) (cons_option (first_told from e.end vs) []) else [])) t
          ∙ refunded_next weight from e.end e.object.purse p vs own)
          (λ f. ap (λ b. track_weight weight (if b then with_first_erased from e.end vs else vs) + refunded weight p (if b then map (refund_to e.object.purse) (cons_option (first_told from e.end vs) []) else [])) f
          ∙ omega arith)

      here : (w : Which) → e.which ≡ w → weighs new w + back ≡ weighs m w
      here w is =
          let there : held new (found e.object) w ≡ next_erased from e (held m (found e.object) w) =
          own-held w ∙ ap (λ b. if b then next_erased from e (held m (found e.object) w) else held m (found e.object) w) (ap (same_which e.which) (sym is) ∙ which_self e.which) in
          let same : back ≡ refunded weight p (next_refunds from e (held m (found e.object) w)) = ap (λ u. refunded weight p (next_refunds from e (held m (found e.object) u))) is in
          let now : weighs new w ≡ track_weight weight (next_erased from e (held m (found e.object) w)) = ap (track_weight weight) there in
          let all : track_weight weight (next_erased from e (held m (found e.object) w)) + refunded weight p (next_refunds from e (held m (found e.object) w)) ≡ weighs m w = next-weighs (held m (found e.object) w) in
          omega arith

      beside : (w : Which) → same_which e.which w ≡ false → weighs new w ≡ weighs m w
      beside w other = ap (track_weight weight) (own-held w ∙ ap (λ b. if b then next_erased from e (held m (found e.object) w) else held m (found e.object) w) other)

      less-part : past_weight weight new (found e.object) + back ≡ past_weight weight m (found e.object)
      less-part = of e.which refl
        where
          of : (w : Which) → e.which ≡ w → past_weight weight new (found e.object) + back ≡ past_weight weight m (found e.object)
          of which.Data is =
              let d = here which.Data is in
              let a = beside which.Attributes (ap (λ u. same_which u which.Attributes) is) in
              let l = beside which.Acl (ap (λ u. same_which u which.Acl) is) in
              omega (arith, d, a, l)
          of which.Attributes is =
              let d = beside which.Data (ap (λ u. same_which u which.Data) is) in
              let a = here which.Attributes is in
              let l = beside which.Acl (ap (λ u. same_which u which.Acl) is) in
              omega (arith, d, a, l)
          of which.Acl is =
              let d = beside which.Data (ap (λ u. same_which u which.Data) is) in
              let a = beside which.Attributes (ap (λ u. same_which u which.Attributes) is) in
              let l = here which.Acl is in
              omega (arith, d, a, l)

      -- an object that isn't kept has nothing
      none-back : found e.object ≡ None → back ≡ 0
      none-back none =
          let less : past_weight weight new (found e.object) + back ≡ past_weight weight m (found e.object) = less-part in
          let nothing : past_weight weight m (found e.object) ≡ 0 = ap (past_weight weight m) none in
          omega arith

      none-part : found e.object ≡ None → (s : ℕ) → part new s ≡ part m s
      none-part none s = by_test (same_object e.object (object_in p s))
          (λ t. let is : found (object_in p s) ≡ None = ap found (sym (object_is e.object (object_in p s) t)) ∙ none in
          ap (past_weight weight new) is ∙ sym (ap (past_weight weight m) is))
          (same-part s)

    pub next_weights : (n : ℕ) → ((q : ObjectId) → is_some (found q) ≡ true → q.purse ≡ p → q.serial ≤ n) → sum_to n (part new) + back ≡ sum_to n (part m)
    next_weights n high = by_test (same_purse e.object.purse p) of other
      where
        kept-case : (own : same_purse e.object.purse p ≡ true) (k : Option Kept) → found e.object ≡ k → sum_to n (part new) + back ≡ sum_to n (part m)
        kept-case own None got =
            let none : back ≡ 0 = none-back own got in
            let same : sum_to n (part new) ≡ sum_to n (part m) = sums_alike n (part new) (part m) (λ s l. none-part own got s) in
            omega arith
        kept-case own (Some k) got =
            let is : e.object.purse ≡ p = purse_is e.object.purse p own in
            let low : e.object.serial ≤ n = high e.object (ap is_some got) is in
            let less : past_weight weight new (found (object_in p e.object.serial)) + back ≡ past_weight weight m (found (object_in p e.object.serial)) =
            subst (λ x. past_weight weight new (found (object_in x e.object.serial)) + back ≡ past_weight weight m (found (object_in x e.object.serial))) is (less-part own) in
            sum_less n e.object.serial back (part new) (part m) low less
            (λ s ne. same-part s (by_test (same_object e.object (object_in p s)) (λ h. absurd (ne (sym (eqb-true e.object.serial s (both (same_purse e.object.purse p) (e.object.serial == s) h).1)))) (λ h. h)))

        of : same_purse e.object.purse p ≡ true → sum_to n (part new) + back ≡ sum_to n (part m)
        of own = kept-case own (found e.object) refl

        other : same_purse e.object.purse p ≡ false → sum_to n (part new) + back ≡ sum_to n (part m)
        other o =
            let none : back ≡ 0 = by_test (is_flushed_on e.which)
            (λ t. ap (λ b. refunded weight p (if b then map (refund_to e.object.purse) (cons_option (first_told from e.end (held m (found e.object) e.which)) []) else [])) t
            ∙ refunded_none weight from e.end e.object.purse p (cons_option (first_told from e.end (held m (found e.object) e.which)) []) o)
            (λ f. ap (λ b. refunded weight p (if b then map (refund_to e.object.purse) (cons_option (first_told from e.end (held m (found e.object) e.which)) []) else [])) f) in
            let same : sum_to n (part new) ≡ sum_to n (part m) = sums_alike n (part new) (part m) (λ s l. same-part s (ap (λ b. b && (e.object.serial == s)) o)) in
            omega arith

-- FROM ONE END TO THE NEXT

-- nothing else changed, and what the past weighs less is refunded
pub record IsRefunded (before after : Chains Version) (found : ObjectId → Option Kept) (refunds : List Refund) : Type 0 where
  pub others : (c : ℕ) → ((o : ObjectId) (k : Kept) (w : Which) → found o ≡ Some k → (c == chain_of w k) ≡ false) → items_of after c ≡ items_of before c
  pub still : StillOpen before after
  pub unopened : StillOpen after before
  pub used : item_count after ≡ item_count before
  pub weights : (weight : ℕ → ℕ → ℕ) (p : Purse) (n : ℕ) → ((o : ObjectId) → is_some (found o) ≡ true → o.purse ≡ p → o.serial ≤ n)
      → sum_to n (λ s. past_weight weight after (found (object_in p s))) + refunded weight p refunds ≡ sum_to n (λ s. past_weight weight before (found (object_in p s)))

pub refunded_at_first : (m : Chains Version) (found : ObjectId → Option Kept) → IsRefunded m m found []
refunded_at_first m found = record {
  others = λ c foreign. refl;
  still = λ c opened. opened;
  unopened = λ c opened. opened;
  used = refl;
  weights = λ weight p n high. omega arith;
}

pub refunded_then : {m now new : Chains Version} {found : ObjectId → Option Kept} {from : ℕ} {e : Ended} {rs : List Refund} → IsRefunded m now found rs → ErasesNext now new found from e
    → IsRefunded m new found (rs ++ next_refunds from e (held now (found e.object) e.which))
refunded_then {m} {now} {new} {found} {from} {e} {rs} i f = record {
  others = λ c foreign. f.others c foreign ∙ i.others c foreign;
  still = λ c opened. f.still c (i.still c opened);
  unopened = λ c opened. i.unopened c (f.unopened c opened);
  used = f.used ∙ i.used;
  weights = λ weight p n high.
      let first : sum_to n (λ s. past_weight weight now (found (object_in p s))) + refunded weight p rs ≡ sum_to n (λ s. past_weight weight m (found (object_in p s))) = i.weights weight p n high in
      let second : sum_to n (λ s. past_weight weight new (found (object_in p s))) + refunded weight p (next_refunds from e (held now (found e.object) e.which)) ≡ sum_to n (λ s. past_weight weight now (found (object_in p s))) = next_weights f weight p n high in
      let all : refunded weight p (rs ++ next_refunds from e (held now (found e.object) e.which)) ≡ refunded weight p rs + refunded weight p (next_refunds from e (held now (found e.object) e.which)) = refunded_both weight p rs (next_refunds from e (held now (found e.object) e.which)) in
      omega arith;
}

-- a track has no more values that are yet to be erased than ends that are left, at each moment
pub record IsErasing (before now : Chains Version) (found : ObjectId → Option Kept) (queue : List Ended) (from to : ℕ) (left : List Ended) : Type 0 where
  pub chained : Chained now found
  pub same : (o : ObjectId) (w : Which) → flushed_on from to w (held now (found o) w) ≡ flushed_on from to w (held before (found o) w)
  pub queued : (o : ObjectId) (w : Which) → HasEnds (ends_of o w queue) (held now (found o) w)
  pub due : (o : ObjectId) (w : Which) (n : ℕ) → is_flushed_on w ≡ true → n ≤ to → due_count from n (held now (found o) w) ≤ end_count o w n left

-- before the first end
pub erasing_first : {m : Chains Version} {found : ObjectId → Option Kept} {queue : List Ended} {reversed : Bool} (h : HoldsFor m found queue reversed) (from to first : ℕ)
    → (reversed ≡ false → AllWithin (λ e. e.end < from) queue 0 first) → (reversed ≡ true → first ≡ 0) → IsErasing m m found queue from to (drop first queue)
erasing_first {m} {found} {queue} {reversed} h from to first timely all = record {
  chained = h.chained;
  same = λ o w. refl;
  queued = h.queued;
  due = λ o w n reached l.
      let ends = due_ends from n (ends_of o w queue) (held m (found o) w) (h.queued o w) in
      by_test reversed
      (λ t. let none : end_count o w n (drop first queue) ≡ end_count o w n queue = ap (λ k. end_count o w n (drop k queue)) (all t) in omega (arith, ends, none))
      (λ f. by_test (nat_lt n from)
      (λ t. let early = due_early from n (held m (found o) w) (h.timely f o w) (is-before n from t) in omega (arith, early))
      (λ t. let behind = end_count_behind o w n from first queue (timely f) (not-before n from t) in omega (arith, ends, behind)));
}
  where
    is-before : (a b : ℕ) → nat_lt a b ≡ true → a < b
    is-before a b t = grind (arith, t)

    not-before : (a b : ℕ) → nat_lt a b ≡ false → b ≤ a
    not-before a b t = grind (arith, t)

module _ {m now : Chains Version} {found : ObjectId → Option Kept} {queue : List Ended} {from to : ℕ} where
  -- the values of each track stand in the order of their ends
  pub erasing_order : {left : List Ended} → IsErasing m now found queue from to left → IsRising (all_ends queue) → (o : ObjectId) (w : Which) → IsInOrder (held now (found o) w)
  erasing_order i rising o w = in_order (ends_of o w queue) (held now (found o) w) (rising_of o w queue rising) (i.queued o w)

  module _ {e : Ended} {left : List Ended} (i : IsErasing m now found queue from to (e ∷ left)) (rising : IsRising (all_ends (e ∷ left))) (by : e.end ≤ to) where
    none-earlier : (o : ObjectId) (w : Which) → is_flushed_on w ≡ true → (n : ℕ) → n < e.end → due_count from n (held now (found o) w) ≡ 0
    none-earlier o w reached n l =
        let none = end_count_first o w n e left rising l in
        let due = i.due o w n reached (omega (arith, l, by)) in
        omega (arith, none, due)

    -- no value that ended before this end is yet to be erased
    pub erasing_passed : is_flushed_on e.which ≡ true → IsPassedBefore from e.end (held now (found e.object) e.which)
    erasing_passed reached = record { passed = none_before from e.end (held now (found e.object) e.which) (none-earlier e.object e.which reached) }

    module _ {new : Chains Version} (f : ErasesNext now new found from e) where
      module _ (o : ObjectId) (w : Which) where
        abbrev vs : List Version
        vs = held now (found o) w

        on-it : is_of o w e ≡ true → is_flushed_on w ≡ true → held new (found o) w ≡ with_first_erased from e.end vs
        on-it t reached =
            let parts = both (same_object e.object o) (same_which e.which w) t in
            f.tracks o w ∙ ap (λ b. if b then next_erased from e vs else vs) t
            ∙ ap (λ u. if is_flushed_on u then with_first_erased from e.end vs else vs) (which_is e.which w parts.1)
            ∙ ap (λ b. if b then with_first_erased from e.end vs else vs) reached

        off-it : is_of o w e ≡ true → is_flushed_on w ≡ false → held new (found o) w ≡ vs
        off-it t unreached =
            let parts = both (same_object e.object o) (same_which e.which w) t in
            f.tracks o w ∙ ap (λ b. if b then next_erased from e vs else vs) t
            ∙ ap (λ u. if is_flushed_on u then with_first_erased from e.end vs else vs) (which_is e.which w parts.1)
            ∙ ap (λ b. if b then with_first_erased from e.end vs else vs) unreached

        beside-it : is_of o w e ≡ false → held new (found o) w ≡ vs
        beside-it other = f.tracks o w ∙ ap (λ b. if b then next_erased from e vs else vs) other

        -- either a value was erased, or none
        either : {A : Type 0} → (held new (found o) w ≡ with_first_erased from e.end vs → is_of o w e ≡ true → is_flushed_on w ≡ true → A) → (held new (found o) w ≡ vs → A) → A
        either one none = by_test (is_of o w e)
            (λ t. by_test (is_flushed_on w) (λ reached. one (on-it t reached) t reached) (λ unreached. none (off-it t unreached)))
            (λ other. none (beside-it other))

        same-next : flushed_on from to w (held new (found o) w) ≡ flushed_on from to w vs
        same-next = either
            (λ is t reached. ap (flushed_on from to w) is
            ∙ ap (λ b. if b then flushed from to (with_first_erased from e.end vs) else with_first_erased from e.end vs) reached
            ∙ flushed_by_next from to e.end by vs
            ∙ sym (ap (λ b. if b then flushed from to vs else vs) reached))
            (λ is. ap (flushed_on from to w) is)

        queued-next : HasEnds (ends_of o w queue) (held new (found o) w)
        queued-next = either
            (λ is t reached. subst (HasEnds (ends_of o w queue)) (sym is) (next_has from e.end (ends_of o w queue) vs (i.queued o w)))
            (λ is. subst (HasEnds (ends_of o w queue)) (sym is) (i.queued o w))

        due-next : (n : ℕ) → is_flushed_on w ≡ true → n ≤ to → due_count from n (held new (found o) w) ≤ end_count o w n left
        due-next n reached l = by_test (is_of o w e)
            (λ t. let is : due_count from n (held new (found o) w) ≡ due_count from n (with_first_erased from e.end vs) = ap (due_count from n) (on-it t reached) in
            by_test (e.end == n)
            (λ same. let at : e.end ≡ n = eqb-true e.end n same in
            let next : due_count from e.end (with_first_erased from e.end vs) ≤ end_count o w e.end left =
            due_next from e.end (end_count o w e.end left) vs (none-earlier o w reached)
            (let due = i.due o w e.end reached by in let one = end_count_next o w e.end e left in omega (arith, due, one)) in
            let here : due_count from n (with_first_erased from e.end vs) ≤ end_count o w n left = subst (λ x. due_count from x (with_first_erased from e.end vs) ≤ end_count o w x left) at next in
            omega (arith, is, here))
            (λ apart. let fewer = due_fewer from n e.end vs in
            let due = i.due o w n reached l in
            let elsewhere = end_count_elsewhere o w n e left (λ h. not_both (e.end == n) (eq-eqb e.end n h) apart) in
            omega (arith, is, fewer, due, elsewhere)))
            (λ other. let is : due_count from n (held new (found o) w) ≡ due_count from n vs = ap (due_count from n) (beside-it other) in
            let due = i.due o w n reached l in
            let elsewhere = end_count_other o w n e left other in
            omega (arith, is, due, elsewhere))

      pub erasing_next : IsErasing m new found queue from to left
      erasing_next = record {
        chained = record { opened = λ o k w got. f.still (chain_of w k) (i.chained.opened o k w got); apart = i.chained.apart };
        same = λ o w. same-next o w ∙ i.same o w;
        queued = queued-next;
        due = due-next;
      }

  -- where no end is left all is flushed
  pub erasing_done : {left : List Ended} {rs : List Refund} → IsErasing m now found queue from to left → IsRefunded m now found rs
      → ((o : ObjectId) (w : Which) (n : ℕ) → n ≤ to → end_count o w n left ≡ 0) → Flushes m now found (λ o. true) from to rs
  erasing_done {left} i r none = record {
    tracks = λ o w. by_test (is_flushed_on w) (flushed-on o w) (kept-on o w);
    others = r.others;
    still = r.still;
    unopened = r.unopened;
    used = r.used;
    weights = r.weights;
  }
    where
      flushed-on : (o : ObjectId) (w : Which) → is_flushed_on w ≡ true → held now (found o) w ≡ flushed_on from to w (held m (found o) w)
      flushed-on o w reached =
          let us : List Version = held now (found o) w in
          let passed = none_due from to us (λ n l. let due = i.due o w n reached l in let gone = none o w n l in omega (arith, due, gone)) in
          sym (flushed_done from to us (first_none from to us passed)) ∙ sym (ap (λ b. if b then flushed from to us else us) reached) ∙ i.same o w

      kept-on : (o : ObjectId) (w : Which) → is_flushed_on w ≡ false → held now (found o) w ≡ flushed_on from to w (held m (found o) w)
      kept-on o w unreached = let us : List Version = held now (found o) w in sym (ap (λ b. if b then flushed from to us else us) unreached) ∙ i.same o w
