-- What is past stays in its list as it is; of data and attributes flushes erase what they cover, and nothing else.
use Rattle.std.proofs.Common.{◌≡◌, ℕ, Bool, true, false, Option, Some, None, List, [], ◌∷◌, ◌++◌, refl, sym, ◌∙◌, ap, fold}
use Rattle.std.specs.Prelude.{◌&&◌, ◌||◌, map, if◌then◌else◌}
use Rattle.std.specs.List.{list_any}
use Rattle.std.specs.Option.{option_map}
use Rattle.std.proofs.lemmas.List.Sums.{fold-append}
use Rattle.s4_types.specs.declared.object.ObjectId.{ObjectId}
use Rattle.s4_types.specs.declared.record.Record.{Record}
use Rattle.s4_types.specs.Kinds.{concerns}
use Rattle.s4_types.specs.Base.{Base}
use Rattle.s4_types.specs.Versions.{Track, Value, Span, span_of, begun, ended, on_current, only_kept, with_value, erased, flushed_by, makes, deletes, after_mutation, after_change, versions_after, versions}
use Rattle.s4_types.specs.Erased.{span_by, is_in, covers}
use Rattle.s4_types.proofs.Booleans.{||-false}
use Rattle.s4_laws.specs.Later.{left_by, newer_by}

-- TESTS

joined : (e f c d : Bool) → ((e || (f && c)) || (f && d)) ≡ (e || (f && (c || d)))
joined true f c d = refl
joined false true c d = refl
joined false false c d = refl

never : (e f : Bool) → (e || (f && false)) ≡ e
never e true = ||-false e
never e false = ||-false e

-- ONE RECORD

abbrev is_cons : {A : Type 0} → List A → Bool
is_cons [] = false
is_cons (x ∷ xs) = true

module _ {V : Type 0} where
  -- the value, once a flush of the span stands, if there is one
  abbrev flushed_one : Option Span → Bool → Value V → Value V
  flushed_one span is_flushed v = record { begin = v.begin; end = v.end; value = v.value; is_erased = v.is_erased || (is_flushed && is_in span v.begin v.end) }

  map-same : (is_flushed : Bool) (vs : List (Value V)) → map (flushed_one None is_flushed) vs ≡ vs
  map-same is_flushed [] = refl
  map-same is_flushed (v ∷ vs) = ap (λ (b : Bool). record { begin = v.begin; end = v.end; value = v.value; is_erased = b } ∷ map (flushed_one None is_flushed) vs) (never v.is_erased is_flushed) ∙ ap (λ ws. v ∷ ws) (map-same is_flushed vs)

  unflushed-same : (span : Span) (vs : List (Value V)) → map (flushed_one (Some span) false) vs ≡ vs
  unflushed-same span [] = refl
  unflushed-same span (v ∷ vs) = ap (λ (b : Bool). record { begin = v.begin; end = v.end; value = v.value; is_erased = b } ∷ map (flushed_one (Some span) false) vs) (||-false v.is_erased) ∙ ap (λ ws. v ∷ ws) (unflushed-same span vs)

  erased-append : (span : Span) (us vs : List (Value V)) → map (erased span) (us ++ vs) ≡ map (erased span) us ++ map (flushed_one (Some span) true) vs
  erased-append span [] vs = refl
  erased-append span (u ∷ us) vs = ap (λ ws. erased span u ∷ ws) (erased-append span us vs)

  flushed-append : (span : Option Span) (is_flushed : Bool) (us vs : List (Value V)) → flushed_by span is_flushed (us ++ vs) ≡ flushed_by span is_flushed us ++ map (flushed_one span is_flushed) vs
  flushed-append None is_flushed us vs = ap (λ ws. us ++ ws) (sym (map-same is_flushed vs))
  flushed-append (Some span) true us vs = erased-append span us vs
  flushed-append (Some span) false us vs = ap (λ ws. us ++ ws) (sym (unflushed-same span vs))

  flushed-cons : (span : Option Span) (is_flushed : Bool) (us : List (Value V)) → is_cons us ≡ true → is_cons (flushed_by span is_flushed us) ≡ true
  flushed-cons None is_flushed us e = e
  flushed-cons (Some span) true [] e = cc
  flushed-cons (Some span) true (u ∷ us) e = refl
  flushed-cons (Some span) false us e = e

module _ {V : Type 0} (track : Track V) (o : ObjectId) where
  value-append : (m : ℕ) (next : Option V) (u : Value V) (us vs : List (Value V)) → with_value m next u (us ++ vs) ≡ with_value m next u us ++ vs
  value-append m None u us vs = refl
  value-append m (Some x) u us vs = refl

  value-cons : (m : ℕ) (next : Option V) (u : Value V) (us : List (Value V)) → is_cons (with_value m next u us) ≡ true
  value-cons m None u us = refl
  value-cons m (Some x) u us = refl

  -- a change touches the newest value alone
  mutation-append : (r : Record) (u : Value V) (us vs : List (Value V)) → after_mutation track o (u ∷ us ++ vs) r ≡ after_mutation track o (u ∷ us) r ++ vs
  mutation-append r u us vs =
      elim (makes o r) as (λ b. (if b then begun r.moment (track.start o) ∷ u ∷ us ++ vs else (if deletes o r then ended r.moment u ∷ us ++ vs else with_value r.moment (on_current (track.effect o r.request) u.end u.value) u (us ++ vs)))
      ≡ (if b then begun r.moment (track.start o) ∷ u ∷ us else (if deletes o r then ended r.moment u ∷ us else with_value r.moment (on_current (track.effect o r.request) u.end u.value) u us)) ++ vs) [
        | true ↦ refl
        | false ↦ (elim (deletes o r) as (λ b. (if b then ended r.moment u ∷ us ++ vs else with_value r.moment (on_current (track.effect o r.request) u.end u.value) u (us ++ vs))
            ≡ (if b then ended r.moment u ∷ us else with_value r.moment (on_current (track.effect o r.request) u.end u.value) u us) ++ vs) [
              | true ↦ refl
              | false ↦ value-append r.moment (on_current (track.effect o r.request) u.end u.value) u us vs
            ])
      ]

  mutation-cons : (r : Record) (u : Value V) (us : List (Value V)) → is_cons (after_mutation track o (u ∷ us) r) ≡ true
  mutation-cons r u us =
      elim (makes o r) as (λ b. is_cons (if b then begun r.moment (track.start o) ∷ u ∷ us else (if deletes o r then ended r.moment u ∷ us else with_value r.moment (on_current (track.effect o r.request) u.end u.value) u us)) ≡ true) [
        | true ↦ refl
        | false ↦ (elim (deletes o r) as (λ b. is_cons (if b then ended r.moment u ∷ us else with_value r.moment (on_current (track.effect o r.request) u.end u.value) u us) ≡ true) [
          | true ↦ refl
          | false ↦ value-cons r.moment (on_current (track.effect o r.request) u.end u.value) u us
        ])
      ]

  step-append : (r : Record) (us vs : List (Value V)) → is_cons us ≡ true → versions_after track o (us ++ vs) r ≡ versions_after track o us r ++ map (flushed_one (span_by o r) track.is_flushed) vs
  step-append r [] vs e = cc
  step-append r (u ∷ us) vs e =
      elim (concerns o.purse r) as (λ b. (if b then after_change track o (u ∷ us ++ vs) r else u ∷ us ++ vs) ≡ (if b then after_change track o (u ∷ us) r else u ∷ us) ++ map (flushed_one (if b then span_of o r.request else None) track.is_flushed) vs) [
        | true ↦ ap (flushed_by (span_of o r.request) track.is_flushed) (mutation-append r u us vs) ∙ flushed-append (span_of o r.request) track.is_flushed (after_mutation track o (u ∷ us) r) vs
        | false ↦ ap (λ ws. u ∷ us ++ ws) (sym (map-same track.is_flushed vs))
      ]

  step-cons : (r : Record) (us : List (Value V)) → is_cons us ≡ true → is_cons (versions_after track o us r) ≡ true
  step-cons r [] e = cc
  step-cons r (u ∷ us) e =
      elim (concerns o.purse r) as (λ b. is_cons (if b then after_change track o (u ∷ us) r else u ∷ us) ≡ true) [
        | true ↦ flushed-cons (span_of o r.request) track.is_flushed (after_mutation track o (u ∷ us) r) (mutation-cons r u us)
        | false ↦ refl
      ]

  -- ALL LATER RECORDS

  left-none : (vs : List (Value V)) → map (left_by track.is_flushed o []) vs ≡ vs
  left-none [] = refl
  left-none (v ∷ vs) = ap (λ (b : Bool). record { begin = v.begin; end = v.end; value = v.value; is_erased = b } ∷ map (left_by track.is_flushed o []) vs) (never v.is_erased track.is_flushed) ∙ ap (λ ws. v ∷ ws) (left-none vs)

  left-one : (r : Record) (k : List Record) (vs : List (Value V)) → map (left_by track.is_flushed o k) (map (flushed_one (span_by o r) track.is_flushed) vs) ≡ map (left_by track.is_flushed o (r ∷ k)) vs
  left-one r k [] = refl
  left-one r k (v ∷ vs) =
      ap (λ (b : Bool). record { begin = v.begin; end = v.end; value = v.value; is_erased = b } ∷ map (left_by track.is_flushed o k) (map (flushed_one (span_by o r) track.is_flushed) vs))
      (joined v.is_erased track.is_flushed (covers o v.begin v.end r) (list_any (covers o v.begin v.end) k))
      ∙ ap (λ ws. left_by track.is_flushed o (r ∷ k) v ∷ ws) (left-one r k vs)

  later-append : (k : List Record) (us vs : List (Value V)) → is_cons us ≡ true → fold (versions_after track o) (us ++ vs) k ≡ fold (versions_after track o) us k ++ map (left_by track.is_flushed o k) vs
  later-append [] us vs e = ap (λ ws. us ++ ws) (sym (left-none vs))
  later-append (r ∷ k) us vs e =
      ap (λ ws. fold (versions_after track o) ws k) (step-append r us vs e)
      ∙ later-append k (versions_after track o us r) (map (flushed_one (span_by o r) track.is_flushed) vs) (step-cons r us e)
      ∙ ap (λ ws. fold (versions_after track o) (versions_after track o us r) k ++ ws) (left-one r k vs)

  pub past-left : (base : Base) (h k : List Record) (newest : Value V) (past : List (Value V)) → versions base track o h ≡ newest ∷ past → versions base track o (h ++ k) ≡ newer_by track o k newest ++ map (left_by track.is_flushed o k) past
  past-left base h k newest past e = fold-append (versions_after track o) (only_kept (option_map track.kept (base.object o))) h k ∙ ap (λ vs. fold (versions_after track o) vs k) e ∙ later-append k (newest ∷ []) past refl
