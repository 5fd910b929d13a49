-- The flush of a track, and of an object.
use Rattle.std.proofs.Common.{◌≡◌, ℕ, ◌+◌, ◌≤◌, Bool, true, false, Option, Some, None, List, [], ◌∷◌, ◌++◌, refl, sym, ◌∙◌, ap, subst, arith, length}
use Rattle.std.specs.Prelude.{is_some, map, count_by, ◌&&◌, ◌==◌, if◌then◌else◌}
use Rattle.std.proofs.lemmas.List.{length-map}
use Rattle.std.specs.FinMap as finmap
use Rattle.std.proofs.lemmas.Bool.{eqb-true, eq-eqb}
use Rattle.s4_types.specs.declared.object.Purse.{Purse}
use Rattle.s4_types.specs.declared.object.ObjectId.{ObjectId}
use Rattle.s4_types.specs.declared.version.Version.{Version}
use Rattle.s4_types.specs.Names.{same_purse, same_object, object_in}
use Rattle.s4_types.specs.Spending.{sum_to}
use Rattle.s4_types.proofs.Booleans.{by_test, both, not_both}
use Rattle.s4_types.proofs.SameNames.{object_is, object_self, purse_is}
use Rattle.s4_store.specs.Counts.{item_count-more}
use Rattle.s4_store.specs.Chains.{Chains, items_of, IsOpen, StillOpen, item_count}
use Rattle.s4_store.specs.Laws.{items_here, items_elsewhere, insert_twice, StillOpen-insert}
use Rattle.s4_tracks.specs.declared.eraser.Eraser.{Eraser}
use Rattle.s4_tracks.specs.Chain.{flushed_one, flushed, is_erasable, told, first_told, with_first_erased}
use Rattle.s4_tracks.proofs.Erasing.{flushed_next, told_next, flushed_done, told_done, all_passed, with_first_none}
use Rattle.s4_objects.specs.declared.kept.Which.{Which}
use Rattle.s4_objects.specs.declared.kept.Which.TheVariants as which
use Rattle.s4_objects.specs.declared.kept.Kept.{Kept}
use Rattle.s4_objects.specs.declared.flushes.Refund.{Refund}
use Rattle.s4_objects.specs.Chains.{chain_of, held, Chained}
use Rattle.s4_objects.specs.Flushes.{flushed_on, past_weight, track_weight, refunded, refund_to, refunds_of, Flushes}
use Rattle.s4_objects.proofs.Counting.{count_next, told_count}
use Rattle.s4_objects.proofs.Standing.{open_before}
use Rattle.s4_objects.proofs.Weighing.{refunded_other, refunded_track, refunded_both, sums_alike, sum_less}

pub turned : (a b : ℕ) → (a == b) ≡ false → (b == a) ≡ false
turned a b e = by_test (b == a) (λ f. absurd (not_both _ (eq-eqb a b (sym (eqb-true b a f))) e)) (λ f. f)

-- A TRACK

module _ {P : Type 0} (m0 m new : Chains Version) (t from to : ℕ) (e : Eraser P) (chain : e.chain ≡ t) (is_from : e.from ≡ from) (is_to : e.to ≡ to) (so_far : m ≡ finmap.insert m0 t (items_of m t))
    (step : new ≡ finmap.insert m e.chain (with_first_erased e.from e.to (items_of m e.chain))) where
  erased_is : new ≡ finmap.insert m t (with_first_erased from to (items_of m t))
  erased_is = step ∙ ap (λ x. finmap.insert m x (with_first_erased e.from e.to (items_of m x))) chain
      ∙ ap (λ x. finmap.insert m t (with_first_erased x e.to (items_of m t))) is_from ∙ ap (λ x. finmap.insert m t (with_first_erased from x (items_of m t))) is_to

  told_is : first_told e.from e.to (items_of m e.chain) ≡ first_told from to (items_of m t)
  told_is = ap (λ x. first_told e.from e.to (items_of m x)) chain ∙ ap (λ x. first_told x e.to (items_of m t)) is_from ∙ ap (λ x. first_told from x (items_of m t)) is_to

  items_now : items_of new t ≡ with_first_erased from to (items_of m t)
  items_now = ap (λ x. items_of x t) erased_is ∙ items_here m t (with_first_erased from to (items_of m t))

  -- no other chain was changed
  pub one_changed : new ≡ finmap.insert m0 t (items_of new t)
  one_changed = erased_is ∙ ap (λ x. finmap.insert x t (with_first_erased from to (items_of m t))) so_far ∙ insert_twice m0 t (items_of m t) (with_first_erased from to (items_of m t))
      ∙ ap (finmap.insert m0 t) (sym items_now)

  -- what the flush leaves is as before
  pub leaves_same : flushed from to (items_of new t) ≡ flushed from to (items_of m t)
  leaves_same = ap (flushed from to) items_now ∙ flushed_next from to (items_of m t)

  module _ (told_now : ℕ × ℕ) (told' : Some told_now ≡ first_told e.from e.to (items_of m e.chain)) where
    first_is : first_told from to (items_of m t) ≡ Some told_now
    first_is = sym (told' ∙ told_is)

    -- the refund of the value, and those of the values that are left
    pub refunds_next : (p : Purse) → refunds_of p from to (items_of m t) ≡ refund_to p told_now ∷ refunds_of p from to (items_of new t)
    refunds_next p = ap (map (refund_to p)) (told_next from to (items_of m t) told_now first_is) ∙ ap (λ vs. refund_to p told_now ∷ refunds_of p from to vs) (sym items_now)

    pub fewer_left : count_by (is_erasable from to) (items_of new t) + 1 ≡ count_by (is_erasable from to) (items_of m t)
    fewer_left = ap (λ vs. count_by (is_erasable from to) vs + 1) items_now ∙ count_next from to (items_of m t) told_now first_is

  module _ (none : None ≡ first_told e.from e.to (items_of m e.chain)) where
    none_is : first_told from to (items_of m t) ≡ None
    none_is = sym (none ∙ told_is)

    -- the flush is done
    pub all_flushed : flushed from to (items_of m t) ≡ flushed from to (items_of m0 t) → new ≡ finmap.insert m0 t (flushed from to (items_of m0 t))
    all_flushed same = one_changed ∙ ap (finmap.insert m0 t) (items_now ∙ with_first_none from to (items_of m t) (all_passed from to (items_of m t) none_is) ∙ sym (flushed_done from to (items_of m t) none_is) ∙ same)

    pub no_refunds : (p : Purse) → refunds_of p from to (items_of m t) ≡ []
    no_refunds p = ap (map (refund_to p)) (told_done from to (items_of m t) none_is)

-- AN OBJECT

-- an erased value is held still
pub used_still : (m new : Chains Version) (t from to : ℕ) → new ≡ finmap.insert m t (flushed from to (items_of m t)) → item_count new ≡ item_count m
used_still m new t from to changed =
    let same : length (flushed from to (items_of m t)) ≡ length (items_of m t) = length-map (items_of m t) (flushed_one from to) in
    let all : item_count (finmap.insert m t (flushed from to (items_of m t))) ≡ item_count m + 0 = item_count-more m t 0 (flushed from to (items_of m t)) (omega arith) in
    ap item_count changed ∙ omega arith

-- one track after the other
module _ (m a b : Chains Version) (d t from to : ℕ) (apart : (t == d) ≡ false) (first : a ≡ finmap.insert m d (flushed from to (items_of m d))) where
  pub second_before : items_of a t ≡ items_of m t
  second_before = ap (λ x. items_of x t) first ∙ items_elsewhere m d t (flushed from to (items_of m d)) apart

  module _ (second : b ≡ finmap.insert a t (flushed from to (items_of a t))) where
    pub first_after : items_of b d ≡ flushed from to (items_of m d)
    first_after = ap (λ x. items_of x d) second ∙ items_elsewhere a t d (flushed from to (items_of a t)) (turned t d apart)
        ∙ ap (λ x. items_of x d) first ∙ items_here m d (flushed from to (items_of m d))

    pub second_after : items_of b t ≡ flushed from to (items_of m t)
    second_after = ap (λ x. items_of x t) second ∙ items_here a t (flushed from to (items_of a t)) ∙ ap (flushed from to) second_before

    pub others_after : (c : ℕ) → (c == d) ≡ false → (c == t) ≡ false → items_of b c ≡ items_of m c
    others_after c e f = ap (λ x. items_of x c) second ∙ items_elsewhere a t c (flushed from to (items_of a t)) f ∙ ap (λ x. items_of x c) first ∙ items_elsewhere m d c (flushed from to (items_of m d)) e

    pub none_opened : IsOpen m d → IsOpen m t → StillOpen b m
    none_opened od ot c opened =
        let mid : StillOpen m a = StillOpen-insert m a d (flushed from to (items_of m d)) first in
        open_before m a d (flushed from to (items_of m d)) first od c (open_before a b t (flushed from to (items_of a t)) second (mid t ot) c opened)

    pub both_open : StillOpen m b
    both_open c opened = StillOpen-insert a b t (flushed from to (items_of a t)) second c (StillOpen-insert m a d (flushed from to (items_of m d)) first c opened)

-- OBJECTS

module _ (from to : ℕ) where
  flushed_nothing : (w : Which) → flushed_on from to w [] ≡ []
  flushed_nothing which.Data = refl
  flushed_nothing which.Attributes = refl
  flushed_nothing which.Acl = refl

module _ {found : ObjectId → Option Kept} (from to : ℕ) where
  -- nothing is asked for
  pub flushes_none : (m : Chains Version) → Flushes m m found (λ o. false) from to []
  flushes_none m = record {
    tracks = λ o w. refl;
    others = λ c foreign. refl;
    still = λ c opened. opened;
    unopened = λ c opened. opened;
    used = refl;
    weights = λ weight p n high. omega arith;
  }

  -- only what is asked of objects that are kept matters
  pub flushes_asked : {m new : Chains Version} {asked other : ObjectId → Bool} {rs : List Refund} → Flushes m new found asked from to rs → ((o : ObjectId) (k : Kept) → found o ≡ Some k → asked o ≡ other o) → Flushes m new found other from to rs
  flushes_asked {m} {new} {asked} {other} f same = record {
    tracks = λ o w. f.tracks o w ∙ of o w (found o) refl;
    others = f.others;
    still = f.still;
    unopened = f.unopened;
    used = f.used;
    weights = f.weights;
  }
    where
      nothing : (w : Which) (b : Bool) → (if b then flushed_on from to w [] else []) ≡ []
      nothing w true = flushed_nothing from to w
      nothing w false = refl

      of : (o : ObjectId) (w : Which) (k : Option Kept) → found o ≡ k → (if asked o then flushed_on from to w (held m k w) else held m k w) ≡ (if other o then flushed_on from to w (held m k w) else held m k w)
      of o w None e = nothing w (asked o) ∙ sym (nothing w (other o))
      of o w (Some k) e = ap (λ b. if b then flushed_on from to w (items_of m (chain_of w k)) else items_of m (chain_of w k)) (same o k e)

  -- a flush of one object
  module _ {m new : Chains Version} (c : Chained m found) (o : ObjectId) (k : Kept) (kept : found o ≡ Some k)
      (data' : items_of new k.data.chain ≡ flushed from to (items_of m k.data.chain))
      (attributes : items_of new k.attributes.chain ≡ flushed from to (items_of m k.attributes.chain))
      (others : (d : ℕ) → (d == k.data.chain) ≡ false → (d == k.attributes.chain) ≡ false → items_of new d ≡ items_of m d)
      (still : StillOpen m new) (unopened : StillOpen new m) (used : item_count new ≡ item_count m) where
    -- chains of other tracks are other chains
    chain-apart : (q : ObjectId) (l : Kept) (w u : Which) → found q ≡ Some l → ((o ≡ q) × (w ≡ u) → ⊥) → (chain_of u l == chain_of w k) ≡ false
    chain-apart q l w u got other = by_test (chain_of u l == chain_of w k) (λ e. absurd (other (c.apart o q k l w u kept got (sym (eqb-true (chain_of u l) (chain_of w k) e))))) (λ e. e)

    acl-kept : items_of new k.acl.chain ≡ items_of m k.acl.chain
    acl-kept = others k.acl.chain (chain-apart o k which.Data which.Acl kept (λ e. differ e.1)) (chain-apart o k which.Attributes which.Acl kept (λ e. differ' e.1))
      where
        differ : which.Data ≡ which.Acl → ⊥
        differ e = cc

        differ' : which.Attributes ≡ which.Acl → ⊥
        differ' e = cc

    own : (w : Which) → items_of new (chain_of w k) ≡ flushed_on from to w (items_of m (chain_of w k))
    own which.Data = data'
    own which.Attributes = attributes
    own which.Acl = acl-kept

    apart-kept : (q : ObjectId) (l : Kept) (w : Which) → same_object o q ≡ false → found q ≡ Some l → items_of new (chain_of w l) ≡ items_of m (chain_of w l)
    apart-kept q l w e got =
        let other : (o ≡ q) → ⊥ = λ h. not_both (same_object o q) (ap (same_object o) (sym h) ∙ object_self o) e in
        others (chain_of w l) (chain-apart q l which.Data w got (λ h. other h.0)) (chain-apart q l which.Attributes w got (λ h. other h.0))

    elsewhere : (q : ObjectId) (w : Which) → same_object o q ≡ false → held new (found q) w ≡ held m (found q) w
    elsewhere q w e = of (found q) refl
      where
        of : (f : Option Kept) → found q ≡ f → held new f w ≡ held m f w
        of None got = refl
        of (Some l) got = apart-kept q l w e got

    here : (w : Which) → held new (found o) w ≡ flushed_on from to w (held m (found o) w)
    here w = ap (λ f. held new f w) kept ∙ own w ∙ sym (ap (λ f. flushed_on from to w (held m f w)) kept)

    one-tracks : (q : ObjectId) (w : Which) → held new (found q) w ≡ (if same_object o q then flushed_on from to w (held m (found q) w) else held m (found q) w)
    one-tracks q w = by_test (same_object o q)
        (λ e. subst (λ x. held new (found x) w ≡ flushed_on from to w (held m (found x) w)) (object_is o q e) (here w) ∙ sym (ap (λ b. if b then flushed_on from to w (held m (found q) w) else held m (found q) w) e))
        (λ e. elsewhere q w e ∙ sym (ap (λ b. if b then flushed_on from to w (held m (found q) w) else held m (found q) w) e))

    -- the refunds of its data, and of its attributes
    abbrev one_refunds : List Refund
    one_refunds = refunds_of o.purse from to (items_of m k.data.chain) ++ refunds_of o.purse from to (items_of m k.attributes.chain)

    module _ (weight : ℕ → ℕ → ℕ) (p : Purse) where
      abbrev part : Chains Version → ℕ → ℕ
      part x s = past_weight weight x (found (object_in p s))

      same-part : (s : ℕ) → same_object o (object_in p s) ≡ false → part new s ≡ part m s
      same-part s e =
          let d : track_weight weight (held new (found (object_in p s)) which.Data) ≡ track_weight weight (held m (found (object_in p s)) which.Data) = ap (track_weight weight) (elsewhere (object_in p s) which.Data e) in
          let a : track_weight weight (held new (found (object_in p s)) which.Attributes) ≡ track_weight weight (held m (found (object_in p s)) which.Attributes) = ap (track_weight weight) (elsewhere (object_in p s) which.Attributes e) in
          let l : track_weight weight (held new (found (object_in p s)) which.Acl) ≡ track_weight weight (held m (found (object_in p s)) which.Acl) = ap (track_weight weight) (elsewhere (object_in p s) which.Acl e) in
          omega arith

      less-part : same_purse o.purse p ≡ true → past_weight weight new (found o) + refunded weight p one_refunds ≡ past_weight weight m (found o)
      less-part e =
          let after : past_weight weight new (found o) ≡ past_weight weight new (Some k) = ap (past_weight weight new) kept in
          let before : past_weight weight m (found o) ≡ past_weight weight m (Some k) = ap (past_weight weight m) kept in
          let d : track_weight weight (flushed from to (items_of m k.data.chain)) + refunded weight p (refunds_of o.purse from to (items_of m k.data.chain)) ≡ track_weight weight (items_of m k.data.chain) = refunded_track weight from to o.purse p (items_of m k.data.chain) e in
          let a : track_weight weight (flushed from to (items_of m k.attributes.chain)) + refunded weight p (refunds_of o.purse from to (items_of m k.attributes.chain)) ≡ track_weight weight (items_of m k.attributes.chain) = refunded_track weight from to o.purse p (items_of m k.attributes.chain) e in
          let d' : track_weight weight (items_of new k.data.chain) ≡ track_weight weight (flushed from to (items_of m k.data.chain)) = ap (track_weight weight) data' in
          let a' : track_weight weight (items_of new k.attributes.chain) ≡ track_weight weight (flushed from to (items_of m k.attributes.chain)) = ap (track_weight weight) attributes in
          let l' : track_weight weight (items_of new k.acl.chain) ≡ track_weight weight (items_of m k.acl.chain) = ap (track_weight weight) acl-kept in
          let all : refunded weight p one_refunds ≡ refunded weight p (refunds_of o.purse from to (items_of m k.data.chain)) + refunded weight p (refunds_of o.purse from to (items_of m k.attributes.chain)) = refunded_both weight p (refunds_of o.purse from to (items_of m k.data.chain)) (refunds_of o.purse from to (items_of m k.attributes.chain)) in
          omega arith

      one-weights : (n : ℕ) → ((q : ObjectId) → is_some (found q) ≡ true → q.purse ≡ p → q.serial ≤ n) → sum_to n (part new) + refunded weight p one_refunds ≡ sum_to n (part m)
      one-weights n high = by_test (same_purse o.purse p)
          (λ e. let is : o.purse ≡ p = purse_is o.purse p e in
          let low : o.serial ≤ n = high o (ap is_some kept) is in
          let less : past_weight weight new (found (object_in p o.serial)) + refunded weight p one_refunds ≡ past_weight weight m (found (object_in p o.serial)) =
          subst (λ x. past_weight weight new (found (object_in x o.serial)) + refunded weight p one_refunds ≡ past_weight weight m (found (object_in x o.serial))) is (less-part e) in
          sum_less n o.serial (refunded weight p one_refunds) (part new) (part m) low less
          (λ s ne. same-part s (by_test (same_object o (object_in p s)) (λ h. absurd (ne (sym (eqb-true o.serial s (both (same_purse o.purse p) (o.serial == s) h).1)))) (λ h. h))))
          (λ e. let d : refunded weight p (refunds_of o.purse from to (items_of m k.data.chain)) ≡ 0 = refunded_other weight from to o.purse p (items_of m k.data.chain) e in
          let a : refunded weight p (refunds_of o.purse from to (items_of m k.attributes.chain)) ≡ 0 = refunded_other weight from to o.purse p (items_of m k.attributes.chain) e in
          let all : refunded weight p one_refunds ≡ refunded weight p (refunds_of o.purse from to (items_of m k.data.chain)) + refunded weight p (refunds_of o.purse from to (items_of m k.attributes.chain)) = refunded_both weight p (refunds_of o.purse from to (items_of m k.data.chain)) (refunds_of o.purse from to (items_of m k.attributes.chain)) in
          let same : sum_to n (part new) ≡ sum_to n (part m) = sums_alike n (part new) (part m) (λ s l. same-part s (ap (λ b. b && (o.serial == s)) e)) in
          omega arith)

    pub flushes_one : Flushes m new found (same_object o) from to one_refunds
    flushes_one = record {
      tracks = one-tracks;
      others = λ d foreign. others d (foreign o k which.Data kept) (foreign o k which.Attributes kept);
      still = still;
      unopened = unopened;
      used = used;
      weights = one-weights;
    }

  -- what is kept has chains of its own after a flush too
  pub flushed_chained : {m new : Chains Version} {asked : ObjectId → Bool} {rs : List Refund} → Chained m found → Flushes m new found asked from to rs → Chained new found
  flushed_chained c f = record { opened = λ o k w got. f.still (chain_of w k) (c.opened o k w got); apart = c.apart }

  -- an object that isn't kept has nothing to flush
  pub flushes_unkept : (m : Chains Version) (o : ObjectId) → found o ≡ None → Flushes m m found (same_object o) from to []
  flushes_unkept m o none = flushes_asked (flushes_none m) (λ q k got. sym (by_test (same_object o q) (λ e. absurd (differ q k e got)) (λ e. e)))
    where
      differ : (q : ObjectId) (k : Kept) → same_object o q ≡ true → found q ≡ Some k → ⊥
      differ q k e got = let gone : found q ≡ None = ap found (sym (object_is o q e)) ∙ none in cc

-- data and attributes have chains of their own
pub chained_apart : {m : Chains Version} {found : ObjectId → Option Kept} → Chained m found → (o : ObjectId) (k : Kept) → found o ≡ Some k → (k.attributes.chain == k.data.chain) ≡ false
chained_apart c o k kept = by_test (k.attributes.chain == k.data.chain)
    (λ e. absurd (differ (c.apart o o k k which.Attributes which.Data kept kept (eqb-true k.attributes.chain k.data.chain e)).1))
    (λ e. e)
  where
    differ : which.Attributes ≡ which.Data → ⊥
    differ e = cc

-- AS MANY REFUNDS AS VALUES THAT ARE ERASED

module _ (from to : ℕ) where
  pub refunds_count : (p : Purse) (vs : List Version) → length (refunds_of p from to vs) ≡ count_by (is_erasable from to) vs
  refunds_count p vs = length-map (told from to vs) (refund_to p) ∙ told_count from to vs
