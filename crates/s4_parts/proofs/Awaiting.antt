-- The queue of ends stands as names are bound and bound no longer.
use Rattle.std.proofs.Common.{◌≡◌, ℕ, ◌+◌, true, None, List, [], ◌∷◌, ◌++◌, sym, ◌∙◌, ap, subst, arith}
use Rattle.std.specs.Prelude.{◌&&◌, is_some, if◌then◌else◌}
use Rattle.std.proofs.lemmas.List.{append-nil}
use Rattle.s4_types.specs.declared.object.Purse.{Purse}
use Rattle.s4_types.specs.declared.version.Version.{Version}
use Rattle.s4_types.specs.Names.{same_purse}
use Rattle.s4_types.specs.Name.{same_name}
use Rattle.s4_types.proofs.Booleans.{by_test, both}
use Rattle.s4_types.proofs.SameNames.{purse_is, name_is}
use Rattle.s4_store.specs.Chains.{Chains}
use Rattle.s4_tracks.specs.Chain.{current_of, with_end}
use Rattle.s4_parts.specs.declared.ends.Ended.{Ended}
use Rattle.s4_parts.specs.declared.parts.Parts.{Parts}
use Rattle.s4_parts.specs.Table.{bindings_in, object_of, serial_now}
use Rattle.s4_parts.specs.Waiting.{ends_of, all_by, IsRising, IsBound, HasEnds, waiting_in, bound_in, Waits}
use Rattle.s4_parts.proofs.Queueing.{rising-more, ends-more, ended-has, bound-has}

pub same-ended : (a b : Ended) → a.end ≡ b.end → a.purse ≡ b.purse → a.name ≡ b.name → a ≡ b
same-ended a b e p n = λ i. record { end = e i; purse = p i; name = n i }

-- a fact of one name in one purse, at those that equal it
at-same : (P : Purse → List ℕ → Type 0) (p q : Purse) (n m : List ℕ) → (same_purse p q && same_name n m) ≡ true → P p n → P q m
at-same P p q n m e fact =
    let parts = both (same_purse p q) (same_name n m) e in
    subst (λ y. P q y) (name_is n m parts.1) (subst (λ x. P x n) (purse_is p q parts.0) fact)

module _ {chains : Chains Version} {before : Parts} (w : Waits chains before) (new : Chains Version) (after : Parts) where
  same-ends : waiting_in after ≡ waiting_in before → (q : Purse) (m : List ℕ) (vs : List Version) → HasEnds (ends_of q m (waiting_in before)) vs → HasEnds (ends_of q m (waiting_in after)) vs
  same-ends waiting q m vs h = subst (λ es. HasEnds (ends_of q m es) vs) (sym waiting) h

  -- all bindings are as before
  pub waits-kept : ((p : Purse) (n : List ℕ) → bindings_in new after p n ≡ bindings_in chains before p n) → waiting_in after ≡ waiting_in before → bound_in after ≡ bound_in before → after.ends.awaited ≡ before.ends.awaited → Waits new after
  waits-kept same waiting bound awaited = record {
    queued = λ p n. same-ends waiting p n (bindings_in new after p n) (subst (HasEnds (ends_of p n (waiting_in before))) (sym (same p n)) (w.queued p n));
    rising = subst IsRising (sym waiting) w.rising;
    awaited = bound ∙ w.awaited ∙ sym awaited;
  }

  module _ (p : Purse) (n : List ℕ) where
    -- a name is bound
    pub waits-bound : (b : Version) → IsBound b → object_of (current_of (bindings_in chains before p n)) ≡ None
        → ((q : Purse) (m : List ℕ) → bindings_in new after q m ≡ (if same_purse p q && same_name n m then bindings_in chains before q m ++ b ∷ [] else bindings_in chains before q m))
        → waiting_in after ≡ waiting_in before → bound_in after ≡ bound_in before + 1 → after.ends.awaited ≡ before.ends.awaited + 1 → Waits new after
    waits-bound b is none bindings waiting bound awaited = record {
      queued = λ q m. same-ends waiting q m (bindings_in new after q m) (by_test (same_purse p q && same_name n m)
          (λ e. let none' : object_of (current_of (bindings_in chains before q m)) ≡ None = at-same (λ x y. object_of (current_of (bindings_in chains before x y)) ≡ None) p q n m e none in
          subst (HasEnds (ends_of q m (waiting_in before))) (sym (bindings q m ∙ ap (λ t. if t then bindings_in chains before q m ++ b ∷ [] else bindings_in chains before q m) e))
          (bound-has (ends_of q m (waiting_in before)) (bindings_in chains before q m) b (w.queued q m) none' is))
          (λ e. subst (HasEnds (ends_of q m (waiting_in before))) (sym (bindings q m ∙ ap (λ t. if t then bindings_in chains before q m ++ b ∷ [] else bindings_in chains before q m) e)) (w.queued q m)));
      rising = subst IsRising (sym waiting) w.rising;
      awaited = bound ∙ ap (λ k. k + 1) w.awaited ∙ sym awaited;
    }

    -- a name is bound no longer
    pub waits-unbound : (moment : ℕ) → is_some (serial_now (bindings_in chains before p n)) ≡ true → all_by moment (waiting_in before) ≡ true
        → ((q : Purse) (m : List ℕ) → bindings_in new after q m ≡ (if same_purse p q && same_name n m then with_end moment (bindings_in chains before q m) else bindings_in chains before q m))
        → waiting_in after ≡ waiting_in before ++ record { end = moment; purse = p; name = n } ∷ [] → bound_in after + 1 ≡ bound_in before → after.ends.awaited + 1 ≡ before.ends.awaited → Waits new after
    waits-unbound moment now later bindings waiting bound awaited = record {
      queued = λ q m. subst (λ es. HasEnds es (bindings_in new after q m)) (sym (ap (ends_of q m) waiting ∙ ends-more q m (waiting_in before) one)) (by_test (same_purse p q && same_name n m)
          (λ e. let now' : is_some (serial_now (bindings_in chains before q m)) ≡ true = at-same (λ x y. is_some (serial_now (bindings_in chains before x y)) ≡ true) p q n m e now in
          subst (λ es. HasEnds es (bindings_in new after q m)) (sym (ap (λ t. ends_of q m (waiting_in before) ++ (if t then moment ∷ [] else [])) e))
          (subst (HasEnds (ends_of q m (waiting_in before) ++ moment ∷ [])) (sym (bindings q m ∙ ap (λ t. if t then with_end moment (bindings_in chains before q m) else bindings_in chains before q m) e))
          (ended-has moment (ends_of q m (waiting_in before)) (bindings_in chains before q m) (w.queued q m) now')))
          (λ e. subst (λ es. HasEnds es (bindings_in new after q m)) (sym (ap (λ t. ends_of q m (waiting_in before) ++ (if t then moment ∷ [] else [])) e ∙ append-nil (ends_of q m (waiting_in before))))
          (subst (HasEnds (ends_of q m (waiting_in before))) (sym (bindings q m ∙ ap (λ t. if t then with_end moment (bindings_in chains before q m) else bindings_in chains before q m) e)) (w.queued q m))));
      rising = subst IsRising (sym waiting) (rising-more (waiting_in before) one w.rising later);
      awaited = let same : bound_in before ≡ before.ends.awaited = w.awaited in omega arith;
    }
      where
        one : Ended
        one = record { end = moment; purse = p; name = n }
