-- One more of the bindings that wait is gone.
use Rattle.std.proofs.Common.{◌≡◌, ℕ, ◌+◌, true, false, Option, Some, None, List, ◌∷◌, refl, sym, ◌∙◌, ap, subst, arith, filter, drop}
use Rattle.std.specs.Prelude.{◌&&◌, is_some, if◌then◌else◌}
use Rattle.std.specs.Option.{option_map}
use Rattle.std.proofs.lemmas.List.{drop-drop}
use Rattle.s4_types.specs.declared.object.ObjectId.{ObjectId}
use Rattle.s4_types.specs.declared.object.Purse.{Purse}
use Rattle.s4_types.specs.declared.version.Version.{Version}
use Rattle.s4_types.specs.Names.{same_purse}
use Rattle.s4_types.specs.Name.{same_name}
use Rattle.s4_types.proofs.Booleans.{by_test, not_both}
use Rattle.s4_types.proofs.SameNames.{purse_self, name_self}
use Rattle.s4_store.specs.Chains.{Chains, item_count}
use Rattle.s4_tracks.specs.Swept.{IsSwept}
use Rattle.s4_tracks.proofs.Sweeping.{swept_none, swept_through, swept_current}
use Rattle.s4_parts.specs.declared.ends.Ended.{Ended}
use Rattle.s4_parts.specs.declared.parts.Parts.{Parts}
use Rattle.s4_parts.specs.Table.{shelf_of, names_on, chain_at, bindings_in, names_in, is_any, object_of, serial_now, IsForeign, KeepsForeign, LeavesNoChain, GivesUpEmpty}
use Rattle.s4_parts.specs.Waiting.{is_of, ends_of, is_gone, IsRising, HasEnds, waiting_in, bound_in, Waits, Sweeps}
use Rattle.s4_parts.proofs.Queueing.{freed-has, freed-any, freed-swept}
use Rattle.s4_types.proofs.Ordered.{filter-twice}
use Rattle.s4_parts.proofs.Freeing.{any-drop}

-- nothing is gone
pub sweeps-none : (hz : ℕ) (chains : Chains Version) (parts : Parts) → Sweeps hz chains chains parts parts 0
sweeps-none hz chains parts = record {
  waiting = refl;
  bindings = λ p n. swept_none hz (bindings_in chains parts p n);
  names = λ p. sym (filter-twice (λ n. is_any (bindings_in chains parts p n)) (λ n. is_any (bindings_in chains parts p n)) (names_on (shelf_of parts p)) (λ n e. e));
  own = λ p n c got. got;
  given_up = λ p n had there. had;
  others = record { still = λ c open' foreign. open'; items = λ c open' foreign. refl };
  leaves = λ c open' foreign. (open', foreign);
  used = omega arith;
}

-- the ends of a name are those of its bindings, the first one first
pub first-has : {chains : Chains Version} {parts : Parts} (w : Waits chains parts) (e : Ended) (es : List Ended) → waiting_in parts ≡ e ∷ es → (q : Purse) (m : List ℕ) → is_of q m e ≡ true → HasEnds (e.end ∷ ends_of q m es) (bindings_in chains parts q m)
first-has {chains} {parts} w e es is q m here =
    subst (λ x. HasEnds x (bindings_in chains parts q m)) (ap (ends_of q m) is ∙ ap (λ b. if b then e.end ∷ ends_of q m es else ends_of q m es) here) (w.queued q m)

other-has : {chains : Chains Version} {parts : Parts} (w : Waits chains parts) (e : Ended) (es : List Ended) → waiting_in parts ≡ e ∷ es → (q : Purse) (m : List ℕ) → is_of q m e ≡ false → HasEnds (ends_of q m es) (bindings_in chains parts q m)
other-has {chains} {parts} w e es is q m there =
    subst (λ x. HasEnds x (bindings_in chains parts q m)) (ap (ends_of q m) is ∙ ap (λ b. if b then e.end ∷ ends_of q m es else ends_of q m es) there) (w.queued q m)

itself : (e : Ended) → is_of e.purse e.name e ≡ true
itself e = rw (purse_self e.purse, name_self e.name) refl

-- the name of the first that waits has bindings, and its oldest is not current
pub first-any : {chains : Chains Version} {parts : Parts} (w : Waits chains parts) (e : Ended) (es : List Ended) → waiting_in parts ≡ e ∷ es → is_any (bindings_in chains parts e.purse e.name) ≡ true
first-any {chains} {parts} w e es is = freed-any e.end (ends_of e.purse e.name es) (bindings_in chains parts e.purse e.name) (first-has w e es is e.purse e.name (itself e))

pub first-current : (hz : ℕ) {chains : Chains Version} {parts : Parts} (w : Waits chains parts) (e : Ended) (es : List Ended) → waiting_in parts ≡ e ∷ es → is_gone hz e ≡ true
    → serial_now (drop 1 (bindings_in chains parts e.purse e.name)) ≡ serial_now (bindings_in chains parts e.purse e.name)
first-current hz {chains} {parts} w e es is gone =
    let vs = bindings_in chains parts e.purse e.name in
    ap (λ x. option_map (λ (o : ObjectId). o.serial) (object_of x)) (swept_current hz (drop 1 vs) vs (freed-swept hz e.end (ends_of e.purse e.name es) vs (first-has w e es is e.purse e.name (itself e)) gone))

module _ (hz : ℕ) {chains : Chains Version} {before : Parts} (new : Chains Version) (after : Parts) (w : Waits chains before) (e : Ended) (is : waiting_in before ≡ e ∷ waiting_in after) (gone : is_gone hz e ≡ true)
    (bindings : (q : Purse) (m : List ℕ) → bindings_in new after q m ≡ (if same_purse e.purse q && same_name e.name m then drop 1 (bindings_in chains before q m) else bindings_in chains before q m)) where
  drained-here : (q : Purse) (m : List ℕ) → is_of q m e ≡ true → bindings_in new after q m ≡ drop 1 (bindings_in chains before q m)
  drained-here q m f = bindings q m ∙ ap (λ b. if b then drop 1 (bindings_in chains before q m) else bindings_in chains before q m) f

  drained-there : (q : Purse) (m : List ℕ) → is_of q m e ≡ false → bindings_in new after q m ≡ bindings_in chains before q m
  drained-there q m f = bindings q m ∙ ap (λ b. if b then drop 1 (bindings_in chains before q m) else bindings_in chains before q m) f

  pub waits-drained : bound_in after ≡ bound_in before → after.ends.awaited ≡ before.ends.awaited → Waits new after
  waits-drained bound awaited = record {
    queued = λ q m. by_test (is_of q m e)
        (λ f. subst (HasEnds (ends_of q m (waiting_in after))) (sym (drained-here q m f)) (freed-has e.end (ends_of q m (waiting_in after)) (bindings_in chains before q m) (first-has w e (waiting_in after) is q m f)))
        (λ f. subst (HasEnds (ends_of q m (waiting_in after))) (sym (drained-there q m f)) (other-has w e (waiting_in after) is q m f));
    rising = (subst IsRising is w.rising).1;
    awaited = bound ∙ w.awaited ∙ sym awaited;
  }

  swept-one : (q : Purse) (m : List ℕ) → IsSwept hz (bindings_in new after q m) (bindings_in chains before q m)
  swept-one q m = by_test (is_of q m e)
      (λ f. subst (λ vs. IsSwept hz vs (bindings_in chains before q m)) (sym (drained-here q m f)) (freed-swept hz e.end (ends_of q m (waiting_in after)) (bindings_in chains before q m) (first-has w e (waiting_in after) is q m f) gone))
      (λ f. subst (λ vs. IsSwept hz vs (bindings_in chains before q m)) (sym (drained-there q m f)) (swept_none hz (bindings_in chains before q m)))

  none-drained : (q : Purse) (m : List ℕ) → is_any (bindings_in chains before q m) ≡ false → is_any (bindings_in new after q m) ≡ false
  none-drained q m none = by_test (is_of q m e)
      (λ f. ap is_any (drained-here q m f) ∙ any-drop (bindings_in chains before q m) none)
      (λ f. ap is_any (drained-there q m f) ∙ none)

  pub sweeps-more : (first : Chains Version) (start : Parts) (k : ℕ) (s : Sweeps hz first chains start before k)
      → ((q : Purse) → names_in new after q ≡ filter (λ m. is_any (bindings_in new after q m)) (names_in chains before q))
      → ((q : Purse) (m : List ℕ) (c : ℕ) → chain_at after q m ≡ Some c → chain_at before q m ≡ Some c)
      → GivesUpEmpty chains new before after → KeepsForeign chains new before → LeavesNoChain chains new before after → item_count new + 1 ≡ item_count chains → Sweeps hz first new start after (k + 1)
  sweeps-more first start k s names own given others leaves used = record {
    waiting = ap (drop 1) (sym is) ∙ ap (drop 1) s.waiting ∙ drop-drop 1 k (waiting_in start);
    bindings = λ q m. swept_through hz (bindings_in new after q m) (bindings_in chains before q m) (bindings_in first start q m) (swept-one q m) (s.bindings q m);
    names = λ q. names q ∙ ap (filter (λ m. is_any (bindings_in new after q m))) (s.names q)
        ∙ filter-twice (λ m. is_any (bindings_in new after q m)) (λ m. is_any (bindings_in chains before q m)) (names_in first start q) (none-drained q);
    own = λ q m c got. s.own q m c (own q m c got);
    given_up = λ q m had there. given q m (s.given_up q m had (chain-was q m (chain_at after q m) refl there)) there;
    others = record {
      still = λ c open' foreign. others.still c (s.others.still c open' foreign) (still-foreign c foreign);
      items = λ c open' foreign. others.items c (s.others.still c open' foreign) (still-foreign c foreign) ∙ s.others.items c open' foreign;
    };
    leaves = λ c open' foreign. let was = leaves c open' foreign in s.leaves c was.0 was.1;
    used = let before' = s.used in omega arith;
  }
    where
      chain-was : (q : Purse) (m : List ℕ) (f : Option ℕ) → chain_at after q m ≡ f → is_some f ≡ true → is_some (chain_at before q m) ≡ true
      chain-was q m None got there = absurd (not_both _ there refl)
      chain-was q m (Some c) got there = ap is_some (own q m c got)

      still-foreign : (c : ℕ) → IsForeign start c → IsForeign before c
      still-foreign c foreign q m got = foreign q m (s.own q m c got)
