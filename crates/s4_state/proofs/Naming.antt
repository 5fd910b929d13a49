-- What is kept of names stands for the history, as chains and records come.
use Rattle.std.proofs.Common.{◌≡◌, ℕ, zero, suc, ◌≤◌, ◌-◌, Bool, true, Option, Some, None, List, [], ◌∷◌, ◌++◌, refl, sym, ◌∙◌, ap, subst, arith, length, filter}
use Rattle.std.specs.Prelude.{◌+◌, ◌&&◌, nat_le, slice_get, unwrap_or, map}
use Rattle.std.specs.List.{list_all}
use Rattle.std.specs.Option.{option_map}
use Rattle.s4_types.specs.Base.{Base}
use Rattle.s4_types.specs.declared.object.Purse.{Purse}
use Rattle.s4_types.specs.declared.record.Record.{Record}
use Rattle.s4_types.specs.declared.version.Version.{Version}
use Rattle.s4_types.specs.declared.version.Item.TheVariants as item
use Rattle.s4_types.specs.Names.{object_in}
use Rattle.s4_types.specs.Bindings.{bindings, names_of}
use Rattle.s4_types.specs.Versions.{Value}
use Rattle.s4_types.specs.Play.{last_of}
use Rattle.s4_types.proofs.Booleans.{both}
use Rattle.s4_types.proofs.Snoc.{bindings-snoc, names_of-snoc}
use Rattle.s4_store.specs.Chains.{Chains}
use Rattle.s4_tracks.specs.Swept.{unexpired, AgreesWith}
use Rattle.s4_tracks.proofs.Sweeping.{agrees_up}
use Rattle.s4_objects.specs.declared.objects.Objects.{Objects}
use Rattle.s4_objects.specs.Table.{IsForeign, KeepsOthers}
use Rattle.s4_parts.specs.declared.parts.Parts.{Parts as Table}
use Rattle.s4_parts.specs.Table.{bindings_in, chain_at, is_any}
use Rattle.s4_parts.specs.Waiting.{waiting_in}
use Rattle.s4_parts.specs.Laws.{KeepsTable, bindings_still, names_still, holds_still, waits_still}
use Rattle.s4_types.specs.Counts.{bindings_ended_by, counted}
use Rattle.s4_state.specs.Laid.{laid_by, bindings_on}
use Rattle.s4_state.specs.Stands.{is_lasting, NamesStand, RebindsNone}
use Rattle.s4_types.proofs.Ordered.{filter-less}
use Rattle.s4_state.proofs.Left.{lasting-up}
use Rattle.s4_state.proofs.Waiting.{no-more, waiting_next}

-- NO LATER THAN THE LAST RECORD

all-at : {A : Type 0} (p : A → Bool) (xs : List A) (i : ℕ) (x : A) → list_all p xs ≡ true → slice_get xs i ≡ Some x → p x ≡ true
all-at p [] i x e got = cc
all-at p (y ∷ xs) zero x e got = ap p (same x y got) ∙ (both (p y) (list_all p xs) e).0
  where
    same : {A : Type 0} (a b : A) → Some b ≡ Some a → a ≡ b
    same a b f = cc
all-at p (y ∷ xs) (suc i) x e got = all-at p xs i x (both (p y) (list_all p xs) e).1 got

all-front : {A : Type 0} (p : A → Bool) (xs ys : List A) → list_all p (xs ++ ys) ≡ true → list_all p xs ≡ true
all-front p [] ys e = refl
all-front p (x ∷ xs) ys e = let parts = both (p x) (list_all p (xs ++ ys)) e in ap (λ b. b && list_all p xs) parts.0 ∙ all-front p xs ys parts.1

-- a history's last moment is not above that of a longer one
pub last-up : (h : List Record) (r : Record) → list_all (λ x. nat_le x.moment (last_of (h ++ r ∷ []))) (h ++ r ∷ []) ≡ true → last_of h ≤ last_of (h ++ r ∷ [])
last-up h r all = of (slice_get h (length h - 1)) refl
  where
    of : (o : Option Record) → slice_get h (length h - 1) ≡ o → unwrap_or (option_map (λ (x : Record). x.moment) o) 0 ≤ last_of (h ++ r ∷ [])
    of None got = omega arith
    of (Some x) got = let here : nat_le x.moment (last_of (h ++ r ∷ [])) ≡ true = all-at (λ y. nat_le y.moment (last_of (h ++ r ∷ []))) h (length h - 1) x (all-front (λ y. nat_le y.moment (last_of (h ++ r ∷ []))) h (r ∷ []) all) got in grind arith

-- where the bindings and the names are as before
pub lasting_as : (hz : ℕ) (chains new : Chains Version) (table table' : Table) (p : Purse) → ((n : List ℕ) → bindings_in new table' p n ≡ bindings_in chains table p n) → {old now all whole : List (List ℕ)} → now ≡ old → whole ≡ all
    → filter (is_lasting hz chains table p) old ≡ filter (is_lasting hz chains table p) all → filter (is_lasting hz new table' p) now ≡ filter (is_lasting hz new table' p) whole
lasting_as hz chains new table table' p bindings {old} {now} {all} {whole} e f s =
    let same : is_lasting hz new table' p ≡ is_lasting hz chains table p = λ i n. is_any (unexpired hz (bindings n i)) in
    ap (filter (is_lasting hz new table' p)) e ∙ ap (λ test. filter test old) same ∙ s ∙ sym (ap (λ test. filter test all) same) ∙ sym (ap (filter (is_lasting hz new table' p)) f)

module _ {hz : ℕ} {chains : Chains Version} {kept : Objects} {table : Table} {base : Base} {h : List Record} (s : NamesStand base hz chains kept table h) where
  -- a record that binds no name
  pub names_with : (r : Record) → {hz' : ℕ} → hz ≤ hz' → RebindsNone r → counted bindings_ended_by r ≡ 0 → NamesStand base hz' chains kept table (h ++ r ∷ [])
  names_with r {hz'} up none ended = record {
    holds = s.holds;
    waits = s.waits;
    bindings = λ p n. agrees_up hz hz' _ _ up (subst (AgreesWith hz (bindings_in chains table p n)) (sym (ap (laid-on p n) (bindings-snoc p n base h r ∙ none.bindings p n (bindings base p n h)))) (s.bindings p n));
    names = λ p. filter-less (is_lasting hz' chains table p) (is_lasting hz chains table p) _ _ (λ n e. lasting-up hz hz' (bindings_in chains table p n) up e)
        (s.names p ∙ ap (filter (is_lasting hz chains table p)) (sym (names_of-snoc p base h r ∙ none.names p (names_of base p h))));
    ends = waiting_next up bindings_ended_by h r (no-more (map (λ e. e.end) (waiting_in table)) r.moment ended) s.ends;
    none_empty = s.none_empty;
    apart = s.apart;
  }
    where
      laid-on : (p : Purse) (n : List ℕ) → List (Value ℕ) → List Version
      laid-on p n values = laid_by (λ serial. 64 + length n) (λ v. Some (item.Bind (object_in p v.value))) values

  -- other chains, of which those of the names are as before
  pub names_over : (new : Chains Version) (kept' : Objects) → KeepsTable chains new table → ((p : Purse) (n : List ℕ) (c : ℕ) → chain_at table p n ≡ Some c → IsForeign kept' c) → NamesStand base hz new kept' table h
  names_over new kept' keeps apart = record {
    holds = holds_still keeps s.holds;
    waits = waits_still keeps s.waits;
    bindings = λ p n. subst (λ vs. AgreesWith hz vs (bindings_on base p n h)) (sym (bindings_still keeps p n)) (s.bindings p n);
    names = λ p. lasting_as hz chains new table table p (λ n. bindings_still keeps p n) (names_still keeps p) refl (s.names p);
    ends = s.ends;
    none_empty = λ p n there. ap is_any (bindings_still keeps p n) ∙ s.none_empty p n there;
    apart = apart;
  }

  -- the chains of objects' tracks were changed
  pub names_beside : {new : Chains Version} {kept' : Objects} → KeepsOthers chains new kept kept' → NamesStand base hz new kept' table h
  names_beside {new} {kept'} others = names_over new kept' (record {
    opened = λ p n c got. others.still c (s.holds.opened p n c got) (s.apart p n c got);
    items = λ p n c got. others.items c (s.holds.opened p n c got) (s.apart p n c got);
  }) (λ p n c got. others.foreign c (s.holds.opened p n c got) (s.apart p n c got))
