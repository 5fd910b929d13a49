-- What is kept stands over a store, as objects are made, values are put, end, are erased and are freed.
use Rattle.std.proofs.Common.{◌≡◌, ℕ, Bool, true, false, Option, Some, None, Result, Ok, Err, List, [], ◌∷◌, ◌++◌, refl, sym, ◌∙◌, ap, subst, drop}
use Rattle.std.specs.Prelude.{◌&&◌, ◌||◌, ◌==◌, nat_le, is_some, IfOk, OnErr, if◌then◌else◌}
use Rattle.std.specs.List.{list_all}
use Rattle.std.specs.FinMap as finmap
use Rattle.std.proofs.lemmas.Bool.{eqb-true, eq-eqb}
use Rattle.std.proofs.lemmas.List.{append-nil}
use Rattle.s4_types.specs.declared.object.ObjectId.{ObjectId}
use Rattle.s4_types.specs.declared.version.Version.{Version}
use Rattle.s4_types.specs.Names.{same_object}
use Rattle.s4_types.proofs.Booleans.{by_test, both, not_both, ||-true}
use Rattle.s4_types.proofs.SameNames.{object_is, object_self}
use Rattle.s4_store.specs.Chains.{Chains, items_of, IsOpen}
use Rattle.s4_store.specs.Laws.{items_elsewhere, StillOpen-insert}
use Rattle.s4_tracks.specs.Swept.{IsSwept}
use Rattle.s4_tracks.proofs.Sweeping.{swept_none}
use Rattle.s4_objects.specs.declared.kept.Which.{Which}
use Rattle.s4_objects.specs.declared.kept.Which.TheVariants as which
use Rattle.s4_objects.specs.declared.kept.Kept.{Kept}
use Rattle.s4_objects.specs.declared.ends.Ended.{Ended}
use Rattle.s4_objects.specs.declared.flushes.Refund.{Refund}
use Rattle.s4_objects.specs.Chains.{same_which, chain_of, held, Chained}
use Rattle.s4_objects.specs.Ends.{is_of, ends_of, all_ends, all_by, IsRising, HasEnds, is_any, is_timely}
use Rattle.s4_objects.specs.Flushes.{flushed_on, Flushes}
use Rattle.s4_objects.specs.Opening.{Begins, first_on, IsHollow, without}
use Rattle.s4_objects.specs.Table.{holds_any, HoldsFor, SparesOthers, LeavesNone, Frees}
use Rattle.std.proofs.Common.{arith}
use Rattle.std.proofs.lemmas.List.Sorted.{IsNonDecreasingBy-short, IsNonDecreasingBy-drop}
use Rattle.s4_tracks.proofs.Beginning.{InOrder}
use Rattle.s4_objects.proofs.Beginning.{order_flushed}
use Rattle.s4_objects.proofs.Flushing.{flushed_chained}
use Rattle.s4_objects.proofs.Timing.{timely_flushed, timely_rest}
use Rattle.s4_objects.proofs.Opening.{items_without, open_without, open_within}
use Rattle.s4_objects.proofs.Standing.{which_self, which_is, open_before, chained_still, held_now}
use Rattle.s4_objects.proofs.Queueing.{rising_more, all_ends_more, ends_more, flushed_has, flushed_any, freed_has, freed_any, freed_swept, none_wait}

same-kept : (k l : Kept) → Some k ≡ Some l → k ≡ l
same-kept k l e = cc

-- where something was held on a track, something is
any-still : (old new : Chains Version) (k : Kept) → ((w : Which) → is_any (items_of old (chain_of w k)) ≡ true → is_any (items_of new (chain_of w k)) ≡ true) → holds_any old k ≡ true → holds_any new k ≡ true
any-still old new k up e = of (is_any (items_of old k.data.chain)) (is_any (items_of old k.attributes.chain)) (is_any (items_of old k.acl.chain)) (is_any (items_of new k.data.chain)) (is_any (items_of new k.attributes.chain)) (is_any (items_of new k.acl.chain))
    (up which.Data) (up which.Attributes) (up which.Acl) e
  where
    of : (a b c x y z : Bool) → (a ≡ true → x ≡ true) → (b ≡ true → y ≡ true) → (c ≡ true → z ≡ true) → (a || b || c) ≡ true → (x || y || z) ≡ true
    of true b c x y z f g h e = ap (λ v. v || y || z) (f refl)
    of false true c x y z f g h e = ap (λ v. x || v || z) (g refl) ∙ ap (λ v. v || z) (||-true x)
    of false false true x y z f g h e = ap (λ v. x || y || v) (h refl) ∙ ||-true (x || y)
    of false false false x y z f g h e = cc

-- no change of the store, and one after the other
pub spares_none : (m : Chains Version) (found : ObjectId → Option Kept) → SparesOthers m m found found
spares_none m found = record { still = λ c o u. o; items = λ c o u. refl; foreign = λ c o u. u }

pub spares_then : {a b c : Chains Version} {f g h : ObjectId → Option Kept} → SparesOthers a b f g → SparesOthers b c g h → SparesOthers a c f h
spares_then s t = record {
  still = λ x o u. t.still x (s.still x o u) (s.foreign x o u);
  items = λ x o u. t.items x (s.still x o u) (s.foreign x o u) ∙ s.items x o u;
  foreign = λ x o u. t.foreign x (s.still x o u) (s.foreign x o u);
}

-- neither leaves a chain behind
pub leaves_none : (m : Chains Version) (found : ObjectId → Option Kept) → LeavesNone m m found found
leaves_none m found c o u = (o, u)

pub leaves_then : {a b c : Chains Version} {f g h : ObjectId → Option Kept} → LeavesNone a b f g → LeavesNone b c g h → LeavesNone a c f h
leaves_then s t x o u = let mid = t x o u in s x mid.0 mid.1

-- ONE CHAIN IS CHANGED

module _ {chains new : Chains Version} {found : ObjectId → Option Kept} (c : Chained chains found) (o : ObjectId) (k : Kept) (kept : found o ≡ Some k) (w : Which) (f : List Version → List Version)
    (changed : new ≡ finmap.insert chains (chain_of w k) (f (items_of chains (chain_of w k)))) where
  pub held_by : (q : ObjectId) (u : Which) → held new (found q) u ≡ (if same_object o q && same_which w u then f (held chains (found q) u) else held chains (found q) u)
  held_by q u = held_now c o k kept w (f (items_of chains (chain_of w k))) changed q u ∙ by_test (same_object o q && same_which w u)
      (λ e. let parts = both (same_object o q) (same_which w u) e in
      let is : f (items_of chains (chain_of w k)) ≡ f (held chains (found q) u) = ap f (sym (ap (λ x. held chains x w) kept) ∙ ap (λ x. held chains (found x) w) (object_is o q parts.0) ∙ ap (held chains (found q)) (which_is w u parts.1)) in
      ap (λ b. if b then f (items_of chains (chain_of w k)) else held chains (found q) u) e ∙ is ∙ sym (ap (λ b. if b then f (held chains (found q) u) else held chains (found q) u) e))
      (λ e. ap (λ b. if b then f (items_of chains (chain_of w k)) else held chains (found q) u) e ∙ sym (ap (λ b. if b then f (held chains (found q) u) else held chains (found q) u) e))

  pub chained_by : Chained new found
  chained_by = chained_still c o k kept w (f (items_of chains (chain_of w k))) changed

  pub spares_by : SparesOthers chains new found found
  spares_by = record {
    still = λ x opened u. StillOpen-insert chains new (chain_of w k) (f (items_of chains (chain_of w k))) changed x opened;
    items = λ x opened u. ap (λ m. items_of m x) changed ∙ items_elsewhere chains (chain_of w k) x (f (items_of chains (chain_of w k))) (u o k w kept);
    foreign = λ x opened u. u;
  }

  pub leaves_by : LeavesNone chains new found found
  leaves_by x opened u = (open_before chains new (chain_of w k) (f (items_of chains (chain_of w k))) changed (c.opened o k w kept) x opened, u)

  -- what was held on a track is still there, where the change leaves something
  any-by : is_any (f (items_of chains (chain_of w k))) ≡ true → (q : ObjectId) (l : Kept) → found q ≡ Some l → holds_any chains l ≡ true → holds_any new l ≡ true
  any-by some q l got = any-still chains new l (λ u e.
      let now : held new (Some l) u ≡ (if same_object o q && same_which w u then f (items_of chains (chain_of w k)) else held chains (Some l) u) =
      subst (λ x. held new x u ≡ (if same_object o q && same_which w u then f (items_of chains (chain_of w k)) else held chains x u)) got (held_now c o k kept w (f (items_of chains (chain_of w k))) changed q u) in
      ap is_any now ∙ by_test (same_object o q && same_which w u)
      (λ t. ap (λ b. is_any (if b then f (items_of chains (chain_of w k)) else held chains (Some l) u)) t ∙ some)
      (λ t. ap (λ b. is_any (if b then f (items_of chains (chain_of w k)) else held chains (Some l) u)) t ∙ e))

-- the current value of a track ends, and its end waits behind the others
module _ {chains new : Chains Version} {found : ObjectId → Option Kept} {queue : List Ended} {reversed : Bool} (h : HoldsFor chains found queue reversed) (o : ObjectId) (k : Kept) (kept : found o ≡ Some k) (w : Which) (f : List Version → List Version)
    (changed : new ≡ finmap.insert chains (chain_of w k) (f (items_of chains (chain_of w k)))) (t : ℕ) where
  abbrev ended_now : Ended
  ended_now = record { end = t; object = o; which = w }

  held-kept : items_of chains (chain_of w k) ≡ held chains (found o) w
  held-kept = sym (ap (λ x. held chains x w) kept)

  pub holds_more : HasEnds (ends_of o w queue ++ t ∷ []) (f (held chains (found o) w)) → is_any (f (held chains (found o) w)) ≡ true → all_by t (all_ends queue) ≡ true → InOrder (f (held chains (found o) w)) → (more : Bool) → (more ≡ false → reversed ≡ false) → (more ≡ false → list_all is_timely (f (held chains (found o) w)) ≡ true)
      → HoldsFor new found (queue ++ ended_now ∷ []) more
  holds_more has some later in_order more never in_time = record {
    timely = λ none q u. ap (list_all is_timely) (held_by h.chained o k kept w f changed q u) ∙ by_test (same_object o q && same_which w u)
        (λ e. let parts = both (same_object o q) (same_which w u) e in
        ap (λ b. list_all is_timely (if b then f (held chains (found q) u) else held chains (found q) u)) e
        ∙ subst (λ x. list_all is_timely (f (held chains (found q) x)) ≡ true) (which_is w u parts.1) (subst (λ x. list_all is_timely (f (held chains (found x) w)) ≡ true) (object_is o q parts.0) (in_time none)))
        (λ e. ap (λ b. list_all is_timely (if b then f (held chains (found q) u) else held chains (found q) u)) e ∙ h.timely (never none) q u);
    begun = λ q u. subst InOrder (sym (held_by h.chained o k kept w f changed q u)) (by_test (same_object o q && same_which w u)
        (λ e. let parts = both (same_object o q) (same_which w u) e in
        subst (λ b. InOrder (if b then f (held chains (found q) u) else held chains (found q) u)) (sym e)
        (subst (λ x. InOrder (f (held chains (found q) x))) (which_is w u parts.1) (subst (λ x. InOrder (f (held chains (found x) w))) (object_is o q parts.0) in_order)))
        (λ e. subst (λ b. InOrder (if b then f (held chains (found q) u) else held chains (found q) u)) (sym e) (h.begun q u)));
    chained = chained_by h.chained o k kept w f changed;
    queued = λ q u. subst (λ x. HasEnds x (held new (found q) u)) (sym (ends_more q u queue ended_now)) (queued q u);
    rising = subst IsRising (sym (all_ends_more queue ended_now)) (rising_more (all_ends queue) t h.rising later);
    living = λ q l got. any-by h.chained o k kept w f changed (ap (λ x. is_any (f x)) held-kept ∙ some) q l got (h.living q l got);
  }
    where
      queued : (q : ObjectId) (u : Which) → HasEnds (ends_of q u queue ++ (if is_of q u ended_now then t ∷ [] else [])) (held new (found q) u)
      queued q u = by_test (same_object o q && same_which w u)
          (λ e. let parts = both (same_object o q) (same_which w u) e in
          subst (λ b. HasEnds (ends_of q u queue ++ (if b then t ∷ [] else [])) (held new (found q) u)) (sym e)
          (subst (HasEnds (ends_of q u queue ++ t ∷ [])) (sym (held_by h.chained o k kept w f changed q u ∙ ap (λ b. if b then f (held chains (found q) u) else held chains (found q) u) e))
          (subst (λ x. HasEnds (ends_of q x queue ++ t ∷ []) (f (held chains (found q) x))) (which_is w u parts.1)
          (subst (λ x. HasEnds (ends_of x w queue ++ t ∷ []) (f (held chains (found x) w))) (object_is o q parts.0) has))))
          (λ e. subst (λ b. HasEnds (ends_of q u queue ++ (if b then t ∷ [] else [])) (held new (found q) u)) (sym e)
          (subst (λ x. HasEnds x (held new (found q) u)) (sym (append-nil (ends_of q u queue)))
          (subst (HasEnds (ends_of q u queue)) (sym (held_by h.chained o k kept w f changed q u ∙ ap (λ b. if b then f (held chains (found q) u) else held chains (found q) u) e)) (h.queued q u))))

-- VALUES ARE ERASED

module _ (from to : ℕ) where
  has-flushed : (w : Which) (b : Bool) (ends : List ℕ) (vs : List Version) → HasEnds ends vs → HasEnds ends (if b then flushed_on from to w vs else vs)
  has-flushed w false ends vs e = e
  has-flushed which.Data true ends vs e = flushed_has from to ends vs e
  has-flushed which.Attributes true ends vs e = flushed_has from to ends vs e
  has-flushed which.Acl true ends vs e = e

  any-flushed : (w : Which) (b : Bool) (vs : List Version) → is_any (if b then flushed_on from to w vs else vs) ≡ is_any vs
  any-flushed w false vs = refl
  any-flushed which.Data true vs = flushed_any from to vs
  any-flushed which.Attributes true vs = flushed_any from to vs
  any-flushed which.Acl true vs = refl

  timely-flushed : (w : Which) (b : Bool) (vs : List Version) → list_all is_timely (if b then flushed_on from to w vs else vs) ≡ list_all is_timely vs
  timely-flushed w false vs = refl
  timely-flushed which.Data true vs = timely_flushed from to vs
  timely-flushed which.Attributes true vs = timely_flushed from to vs
  timely-flushed which.Acl true vs = refl

module _ {chains new : Chains Version} {found : ObjectId → Option Kept} {queue : List Ended} {reversed : Bool} (h : HoldsFor chains found queue reversed) (from to : ℕ) where
  pub holds_flushed : {asked : ObjectId → Bool} {rs : List Refund} → Flushes chains new found asked from to rs → HoldsFor new found queue reversed
  holds_flushed {asked} f = record {
    chained = flushed_chained from to h.chained f;
    begun = λ o w. subst InOrder (sym (f.tracks o w)) (order_flushed from to w (asked o) (held chains (found o) w) (h.begun o w));
    queued = λ o w. subst (HasEnds (ends_of o w queue)) (sym (f.tracks o w)) (has-flushed from to w (asked o) (ends_of o w queue) (held chains (found o) w) (h.queued o w));
    rising = h.rising;
    living = λ o k got. any-still chains new k (λ w e.
        ap is_any (subst (λ x. held new x w ≡ (if asked o then flushed_on from to w (held chains x w) else held chains x w)) got (f.tracks o w))
        ∙ any-flushed from to w (asked o) (items_of chains (chain_of w k)) ∙ e) (h.living o k got);
    timely = λ never o w. ap (list_all is_timely) (f.tracks o w) ∙ timely-flushed from to w (asked o) (held chains (found o) w) ∙ h.timely never o w;
  }

  -- whether there was memory or not
  pub holds_either : {A E : Type 0} (asked : ObjectId → Bool) (told : A → List Refund) (r : Result A E) → IfOk r (λ rs. Flushes chains new found asked from to (told rs)) → OnErr r (new ≡ chains) → HoldsFor new found queue reversed
  holds_either asked told (Ok rs) f e = holds_flushed f
  holds_either asked told (Err x) f e = subst (λ m. HoldsFor m found queue reversed) (sym e) h

  pub leaves_either : {A E : Type 0} (asked : ObjectId → Bool) (told : A → List Refund) (r : Result A E) → IfOk r (λ rs. Flushes chains new found asked from to (told rs)) → OnErr r (new ≡ chains) → LeavesNone chains new found found
  leaves_either asked told (Ok rs) f e c o u = (f.unopened c o, u)
  leaves_either asked told (Err x) f e c o u = (subst (λ m. IsOpen m c) e o, u)

-- AN OBJECT IS MADE

module _ {chains new : Chains Version} {found found' : ObjectId → Option Kept} {queue : List Ended} {reversed : Bool} (h : HoldsFor chains found queue reversed) (o : ObjectId) (fresh : found o ≡ None) {k : Kept} {m creator : ℕ} (b : Begins chains new k m creator)
    (keeps : (q : ObjectId) → found' q ≡ (if same_object o q then Some k else found q)) where
  here : (q : ObjectId) → same_object o q ≡ true → found' q ≡ Some k
  here q e = keeps q ∙ ap (λ x. if x then Some k else found q) e

  there : (q : ObjectId) → same_object o q ≡ false → found' q ≡ found q
  there q e = keeps q ∙ ap (λ x. if x then Some k else found q) e

  -- a chain that was there is none of the new ones
  strange : {A : Type 0} (q : ObjectId) (l : Kept) (w u : Which) → found q ≡ Some l → chain_of u l ≡ chain_of w k → A
  strange q l w u got e = absurd (not_both _ (eq-eqb _ _ e) (b.fresh w (chain_of u l) (h.chained.opened q l u got)))

  chained-made : Chained new found'
  chained-made = record {
    opened = λ q l w got. by_test (same_object o q)
        (λ e. subst (λ x. IsOpen new (chain_of w x)) (same-kept k l (sym (here q e) ∙ got)) (b.opened w))
        (λ e. b.still (chain_of w l) (h.chained.opened q l w (sym (there q e) ∙ got)));
    apart = λ p q l n w u got gots same. by_test (same_object o p)
        (λ e. let is : k ≡ l = same-kept k l (sym (here p e) ∙ got) in by_test (same_object o q)
        (λ f. let are : k ≡ n = same-kept k n (sym (here q f) ∙ gots) in
        (sym (object_is o p e) ∙ object_is o q f, b.apart w u (ap (chain_of w) is ∙ same ∙ ap (chain_of u) (sym are))))
        (λ f. strange q n w u (sym (there q f) ∙ gots) (sym same ∙ ap (chain_of w) (sym is))))
        (λ e. by_test (same_object o q)
        (λ f. let are : k ≡ n = same-kept k n (sym (here q f) ∙ gots) in strange p l u w (sym (there p e) ∙ got) (same ∙ ap (chain_of u) (sym are)))
        (λ f. h.chained.apart p q l n w u (sym (there p e) ∙ got) (sym (there q f) ∙ gots) same));
  }

  pub held_made : (q : ObjectId) (w : Which) → held new (found' q) w ≡ (if same_object o q then first_on w m creator ∷ [] else held chains (found q) w)
  held_made q w = by_test (same_object o q)
      (λ e. ap (λ f. held new f w) (here q e) ∙ b.items w ∙ sym (ap (λ x. if x then first_on w m creator ∷ [] else held chains (found q) w) e))
      (λ e. ap (λ f. held new f w) (there q e) ∙ still (found q) refl ∙ sym (ap (λ x. if x then first_on w m creator ∷ [] else held chains (found q) w) e))
    where
      still : (f : Option Kept) → found q ≡ f → held new f w ≡ held chains f w
      still None got = refl
      still (Some l) got = b.others (chain_of w l) (h.chained.opened q l w got)

  pub kept_made : (q : ObjectId) → is_some (found' q) ≡ (same_object o q || is_some (found q))
  kept_made q = by_test (same_object o q)
      (λ e. ap is_some (here q e) ∙ sym (ap (λ x. x || is_some (found q)) e))
      (λ e. ap is_some (there q e) ∙ sym (ap (λ x. x || is_some (found q)) e))

  first-endless : (w : Which) → (first_on w m creator).end ≡ None
  first-endless which.Data = refl
  first-endless which.Attributes = refl
  first-endless which.Acl = refl

  none-waits : (w : Which) → ends_of o w queue ≡ []
  none-waits w = none_wait (ends_of o w queue) (subst (HasEnds (ends_of o w queue)) (ap (λ f. held chains f w) fresh) (h.queued o w))

  first-timely : (w : Which) → list_all is_timely (first_on w m creator ∷ []) ≡ true
  first-timely which.Data = refl
  first-timely which.Attributes = refl
  first-timely which.Acl = refl

  pub holds_made : HoldsFor new found' queue reversed
  holds_made = record {
    timely = λ never q w. ap (list_all is_timely) (held_made q w) ∙ by_test (same_object o q)
        (λ e. ap (λ x. list_all is_timely (if x then first_on w m creator ∷ [] else held chains (found q) w)) e ∙ first-timely w)
        (λ e. ap (λ x. list_all is_timely (if x then first_on w m creator ∷ [] else held chains (found q) w)) e ∙ h.timely never q w);
    chained = chained-made;
    begun = λ q w. subst InOrder (sym (held_made q w)) (by_test (same_object o q)
        (λ e. subst (λ x. InOrder (if x then first_on w m creator ∷ [] else held chains (found q) w)) (sym e) (IsNonDecreasingBy-short (λ (v : Version). v.begin) (first_on w m creator ∷ []) (omega arith)))
        (λ e. subst (λ x. InOrder (if x then first_on w m creator ∷ [] else held chains (found q) w)) (sym e) (h.begun q w)));
    queued = λ q w. subst (HasEnds (ends_of q w queue)) (sym (held_made q w)) (by_test (same_object o q)
        (λ e. subst (λ x. HasEnds (ends_of q w queue) (if x then first_on w m creator ∷ [] else held chains (found q) w)) (sym e)
        (subst (λ x. HasEnds (ends_of x w queue) (first_on w m creator ∷ [])) (object_is o q e)
        (subst (λ ends. HasEnds ends (first_on w m creator ∷ [])) (sym (none-waits w)) (first-endless w))))
        (λ e. subst (λ x. HasEnds (ends_of q w queue) (if x then first_on w m creator ∷ [] else held chains (found q) w)) (sym e) (h.queued q w)));
    rising = h.rising;
    living = λ q l got. by_test (same_object o q)
        (λ e. subst (λ x. holds_any new x ≡ true) (same-kept k l (sym (here q e) ∙ got)) (ap (λ vs. is_any vs || is_any (items_of new k.attributes.chain) || is_any (items_of new k.acl.chain)) (b.items which.Data)))
        (λ e. let was : found q ≡ Some l = sym (there q e) ∙ got in
        any-still chains new l (λ w f. ap is_any (b.others (chain_of w l) (h.chained.opened q l w was)) ∙ f) (h.living q l was));
  }

  pub spares_made : SparesOthers chains new found found'
  spares_made = record {
    still = λ c opened u. b.still c opened;
    items = λ c opened u. b.others c opened;
    foreign = λ c opened u q l w got. by_test (same_object o q)
        (λ e. subst (λ x. (c == chain_of w x) ≡ false) (same-kept k l (sym (here q e) ∙ got)) (b.fresh w c opened))
        (λ e. u q l w (sym (there q e) ∙ got));
  }

  pub leaves_made : LeavesNone chains new found found'
  leaves_made c opened u = (
    b.only c opened (λ w. u o k w (here o (object_self o))),
    λ q l w got. by_test (same_object o q)
        (λ e. absurd (differ l (sym fresh ∙ ap found (object_is o q e) ∙ got)))
        (λ e. u q l w (there q e ∙ got)),
  )
    where
      differ : (l : Kept) → None ≡ Some l → ⊥
      differ l e = cc

-- A VALUE IS FREED

nothing : (vs : List Version) → is_any vs ≡ false → vs ≡ []
nothing [] e = refl
nothing (v ∷ vs) e = cc

-- an object whose tracks hold nothing any more gives up its entry
module _ {mid : Chains Version} {found : ObjectId → Option Kept} (c : Chained mid found) (o : ObjectId) (k : Kept) (kept : found o ≡ Some k) (none : holds_any mid k ≡ false) where
  empty : (w : Which) → items_of mid (chain_of w k) ≡ []
  empty w = nothing (items_of mid (chain_of w k)) (of w (is_any (items_of mid k.data.chain)) (is_any (items_of mid k.attributes.chain)) (is_any (items_of mid k.acl.chain)) refl refl refl none)
    where
      of : (w : Which) (x y z : Bool) → is_any (items_of mid k.data.chain) ≡ x → is_any (items_of mid k.attributes.chain) ≡ y → is_any (items_of mid k.acl.chain) ≡ z → (x || y || z) ≡ false → is_any (items_of mid (chain_of w k)) ≡ false
      of w true y z a b d e = cc
      of w false true z a b d e = cc
      of w false false true a b d e = cc
      of which.Data false false false a b d e = a
      of which.Attributes false false false a b d e = b
      of which.Acl false false false a b d e = d

  pub hollow_left : IsHollow mid k
  hollow_left = record { opened = λ w. c.opened o k w kept; empty = empty; apart = λ w u e. (c.apart o o k k w u kept kept e).1 }

  module _ {new : Chains Version} {found' : ObjectId → Option Kept} (closed : new ≡ without k mid) (gone : (q : ObjectId) → found' q ≡ (if same_object o q then None else found q)) where
    gone-here : (q : ObjectId) → same_object o q ≡ true → found' q ≡ None
    gone-here q e = gone q ∙ ap (λ x. if x then None else found q) e

    gone-there : (q : ObjectId) → same_object o q ≡ false → found' q ≡ found q
    gone-there q e = gone q ∙ ap (λ x. if x then None else found q) e

    left-apart : (q : ObjectId) (l : Kept) (u : Which) → same_object o q ≡ false → found q ≡ Some l → (w : Which) → (chain_of u l == chain_of w k) ≡ false
    left-apart q l u e got w = by_test (chain_of u l == chain_of w k)
        (λ t. let one = c.apart o q k l w u kept got (sym (eqb-true (chain_of u l) (chain_of w k) t)) in
        absurd (not_both (same_object o q) (ap (same_object o) (sym one.0) ∙ object_self o) e))
        (λ t. t)

    pub gone_held : (q : ObjectId) (u : Which) → held new (found' q) u ≡ held mid (found q) u
    gone_held q u = by_test (same_object o q)
        (λ e. ap (λ f. held new f u) (gone-here q e) ∙ sym (empty u) ∙ sym (ap (λ f. held mid f u) (ap found (sym (object_is o q e)) ∙ kept)))
        (λ e. ap (λ f. held new f u) (gone-there q e) ∙ still (found q) refl e)
      where
        still : (f : Option Kept) → found q ≡ f → same_object o q ≡ false → held new f u ≡ held mid f u
        still None got e = refl
        still (Some l) got e = ap (λ m. items_of m (chain_of u l)) closed ∙ items_without mid k (chain_of u l) (left-apart q l u e got)

    pub gone_kept : (q : ObjectId) (l : Kept) → found' q ≡ Some l → found q ≡ Some l
    gone_kept q l got = by_test (same_object o q)
        (λ e. absurd (differ (sym (gone-here q e) ∙ got)))
        (λ e. sym (gone-there q e) ∙ got)
      where
        differ : None ≡ Some l → ⊥
        differ e = cc

    pub gone_chained : Chained new found'
    gone_chained = record {
      opened = λ q l w got. by_test (same_object o q)
          (λ e. absurd (differ l (sym (gone-here q e) ∙ got)))
          (λ e. let was : found q ≡ Some l = gone_kept q l got in
          subst (λ m. IsOpen m (chain_of w l)) (sym closed) (open_without mid k (chain_of w l) (left-apart q l w e was) (c.opened q l w was)));
      apart = λ p q l n w u got gots same. c.apart p q l n w u (gone_kept p l got) (gone_kept q n gots) same;
    }
      where
        differ : (l : Kept) → None ≡ Some l → ⊥
        differ l e = cc

    pub gone_spares : SparesOthers mid new found found'
    gone_spares = record {
      still = λ x opened u. subst (λ m. IsOpen m x) (sym closed) (open_without mid k x (λ w. u o k w kept) opened);
      items = λ x opened u. ap (λ m. items_of m x) closed ∙ items_without mid k x (λ w. u o k w kept);
      foreign = λ x opened u q l w got. u q l w (gone_kept q l got);
    }

    pub gone_leaves : LeavesNone mid new found found'
    gone_leaves x opened u =
        let within = open_within mid k x (subst (λ m. IsOpen m x) closed opened) in (
          within.1,
          λ q l w got. by_test (same_object o q)
              (λ e. subst (λ y. (x == chain_of w y) ≡ false) (same-kept k l (sym kept ∙ ap found (object_is o q e) ∙ got)) (within.0 w))
              (λ e. u q l w (gone-there q e ∙ got)),
        )

    gone-none : (l : Kept) → found' o ≡ Some l → ⊥
    gone-none l got = differ (sym (gone-here o (object_self o)) ∙ got)
      where
        differ : None ≡ Some l → ⊥
        differ e = cc

    -- after the oldest value of one of the tracks was freed
    pub frees_last : {chains : Chains Version} (w : Which) → Chained chains found → mid ≡ finmap.insert chains (chain_of w k) (drop 1 (items_of chains (chain_of w k))) → Frees chains new found found' o w
    frees_last {chains} w before changed = record {
      chained = gone_chained;
      tracks = λ q u. gone_held q u ∙ held_by before o k kept w (drop 1) changed q u;
      kept = gone_kept;
      living = λ l got. absurd (gone-none l got);
      others = spares_then (spares_by before o k kept w (drop 1) changed) gone_spares;
      leaves = leaves_then (leaves_by before o k kept w (drop 1) changed) gone_leaves;
    }

-- some value is left
pub frees_one : {chains new : Chains Version} {found : ObjectId → Option Kept} (c : Chained chains found) (o : ObjectId) (k : Kept) (kept : found o ≡ Some k) (w : Which) → new ≡ finmap.insert chains (chain_of w k) (drop 1 (items_of chains (chain_of w k))) → holds_any new k ≡ true → Frees chains new found found o w
frees_one {chains} {new} c o k kept w changed some = record {
  chained = chained_by c o k kept w (drop 1) changed;
  tracks = held_by c o k kept w (drop 1) changed;
  kept = λ q l got. got;
  living = λ l got. subst (λ x. holds_any new x ≡ true) (same-kept k l (sym kept ∙ got)) some;
  others = spares_by c o k kept w (drop 1) changed;
  leaves = leaves_by c o k kept w (drop 1) changed;
}

-- the value whose end waits first
module _ {chains : Chains Version} {found : ObjectId → Option Kept} {queue : List Ended} {reversed : Bool} (e : Ended) (h : HoldsFor chains found (e ∷ queue) reversed) where
  first-has : HasEnds (e.end ∷ ends_of e.object e.which queue) (held chains (found e.object) e.which)
  first-has = subst (λ ends. HasEnds ends (held chains (found e.object) e.which))
      (ap (λ b. if b then e.end ∷ ends_of e.object e.which queue else ends_of e.object e.which queue) (ap (λ b. b && same_which e.which e.which) (object_self e.object) ∙ which_self e.which))
      (h.queued e.object e.which)

  pub first_any : is_any (held chains (found e.object) e.which) ≡ true
  first_any = freed_any e.end (ends_of e.object e.which queue) (held chains (found e.object) e.which) first-has

  module _ {new : Chains Version} {found' : ObjectId → Option Kept} (f : Frees chains new found found' e.object e.which) where
    pub holds_drained : HoldsFor new found' queue reversed
    holds_drained = record {
      timely = λ never q u. ap (list_all is_timely) (f.tracks q u) ∙ by_test (same_object e.object q && same_which e.which u)
          (λ t. ap (λ b. list_all is_timely (if b then drop 1 (held chains (found q) u) else held chains (found q) u)) t ∙ timely_rest (held chains (found q) u) (h.timely never q u))
          (λ t. ap (λ b. list_all is_timely (if b then drop 1 (held chains (found q) u) else held chains (found q) u)) t ∙ h.timely never q u);
      chained = f.chained;
      begun = λ q u. subst InOrder (sym (f.tracks q u)) (by_test (same_object e.object q && same_which e.which u)
          (λ t. subst (λ b. InOrder (if b then drop 1 (held chains (found q) u) else held chains (found q) u)) (sym t) (IsNonDecreasingBy-drop (λ (v : Version). v.begin) 1 (held chains (found q) u) (h.begun q u)))
          (λ t. subst (λ b. InOrder (if b then drop 1 (held chains (found q) u) else held chains (found q) u)) (sym t) (h.begun q u)));
      queued = λ q u. subst (HasEnds (ends_of q u queue)) (sym (f.tracks q u)) (by_test (same_object e.object q && same_which e.which u)
          (λ t. subst (λ b. HasEnds (ends_of q u queue) (if b then drop 1 (held chains (found q) u) else held chains (found q) u)) (sym t)
          (freed_has e.end (ends_of q u queue) (held chains (found q) u) (subst (λ b. HasEnds (if b then e.end ∷ ends_of q u queue else ends_of q u queue) (held chains (found q) u)) t (h.queued q u))))
          (λ t. subst (λ b. HasEnds (ends_of q u queue) (if b then drop 1 (held chains (found q) u) else held chains (found q) u)) (sym t)
          (subst (λ b. HasEnds (if b then e.end ∷ ends_of q u queue else ends_of q u queue) (held chains (found q) u)) t (h.queued q u))));
      rising = h.rising.1;
      living = λ q l got. by_test (same_object e.object q)
          (λ t. f.living l (ap found' (object_is e.object q t) ∙ got))
          (λ t. any-still chains new l (λ u some. ap is_any (same q l u t got) ∙ some) (h.living q l (f.kept q l got)));
    }
      where
        same : (q : ObjectId) (l : Kept) (u : Which) → same_object e.object q ≡ false → found' q ≡ Some l → items_of new (chain_of u l) ≡ items_of chains (chain_of u l)
        same q l u t got =
            sym (ap (λ x. held new x u) got) ∙ f.tracks q u ∙ ap (λ b. if b && same_which e.which u then drop 1 (held chains (found q) u) else held chains (found q) u) t
            ∙ ap (λ x. held chains x u) (f.kept q l got)

    -- what is left is all but an expired value
    pub swept_drained : (hz : ℕ) → nat_le e.end hz ≡ true → (q : ObjectId) (u : Which) → IsSwept hz (held new (found' q) u) (held chains (found q) u)
    swept_drained hz gone q u = subst (λ vs. IsSwept hz vs (held chains (found q) u)) (sym (f.tracks q u)) (by_test (same_object e.object q && same_which e.which u)
        (λ t. subst (λ b. IsSwept hz (if b then drop 1 (held chains (found q) u) else held chains (found q) u) (held chains (found q) u)) (sym t)
        (freed_swept hz e.end (ends_of q u queue) (held chains (found q) u) (subst (λ b. HasEnds (if b then e.end ∷ ends_of q u queue else ends_of q u queue) (held chains (found q) u)) t (h.queued q u)) gone))
        (λ t. subst (λ b. IsSwept hz (if b then drop 1 (held chains (found q) u) else held chains (found q) u) (held chains (found q) u)) (sym t) (swept_none hz (held chains (found q) u))))
