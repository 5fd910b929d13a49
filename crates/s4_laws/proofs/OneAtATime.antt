-- An object that is made once has one value at a time on each of its tracks.
use Rattle.std.proofs.Common.{◌≡◌, ℕ, ◌+◌, ◌≤◌, Bool, true, false, cond, Option, Some, None, List, [], ◌∷◌, refl, sym, ◌∙◌, ap, subst, fold, is_some, count_by, arith}
use Rattle.std.specs.Prelude.{if◌then◌else◌}
use Rattle.std.specs.Option.{option_map}
use Rattle.std.proofs.lemmas.List.Sums.{sum_by-cons}
use Rattle.s4_types.specs.declared.object.ObjectId.{ObjectId}
use Rattle.s4_types.specs.declared.record.Record.{Record}
use Rattle.s4_types.specs.Kinds.{concerns}
use Rattle.s4_types.specs.Base.{Base, KeptObject}
use Rattle.s4_types.specs.Play.{InOrder}
use Rattle.s4_types.specs.Versions.{Track, Value, span_of, begun, with_end, with_effect, flushed_by, makes, deletes, after_mutation, after_change, versions_after, versions, only_kept}
use Rattle.s4_types.proofs.Booleans.{by_test}
use Rattle.s4_laws.specs.Bases.{IsBase}
use Rattle.s4_laws.specs.InForce.{made_count}
use Rattle.s4_laws.proofs.Old.{Old, IsKept, step-old}
use Rattle.s4_laws.proofs.Turns.{InTurn, old-still, flushed-turn, end-turn, effect-turn}

-- HOW OFTEN IT IS MADE

counted : (o : ObjectId) (r : Record) (h : List Record) → count_by (makes o) (r ∷ h) ≡ cond (makes o r) 1 0 + count_by (makes o) h
counted o r h = sum_by-cons (λ x. cond (makes o x) 1 0) r h

not-made : (o : ObjectId) (r : Record) (h : List Record) → count_by (makes o) (r ∷ h) ≡ 0 → (makes o r ≡ false) × (count_by (makes o) h ≡ 0)
not-made o r h e = of (makes o r) (sym (counted o r h) ∙ e)
  where
    of : (b : Bool) → cond b 1 0 + count_by (makes o) h ≡ 0 → (b ≡ false) × (count_by (makes o) h ≡ 0)
    of true f = absurd (omega (arith, f))
    of false f = (refl, omega (arith, f))

made-last : (o : ObjectId) (r : Record) (h : List Record) → count_by (makes o) (r ∷ h) ≤ 1 → makes o r ≡ true → count_by (makes o) h ≡ 0
made-last o r h e f = let g : count_by (makes o) (r ∷ h) ≡ 1 + count_by (makes o) h = counted o r h ∙ ap (λ b. cond b 1 0 + count_by (makes o) h) f in omega (arith, e, g)

made-later : (o : ObjectId) (r : Record) (h : List Record) → count_by (makes o) (r ∷ h) ≤ 1 → makes o r ≡ false → count_by (makes o) h ≤ 1
made-later o r h e f = let g : count_by (makes o) (r ∷ h) ≡ 0 + count_by (makes o) h = counted o r h ∙ ap (λ b. cond b 1 0 + count_by (makes o) h) f in omega (arith, e, g)

module _ {V : Type 0} (track : Track V) (o : ObjectId) where
  -- ONCE IT IS MADE

  step-turn : (us : List (Value V)) (r : Record) → makes o r ≡ false → Old r.moment us → InTurn us → InTurn (versions_after track o us r)
  step-turn us r e f s = elim (concerns o.purse r) as (λ b. InTurn (if b then after_change track o us r else us)) [
    | true ↦ flushed-turn (span_of o r.request) track.is_flushed (after_mutation track o us r) (of (makes o r) (deletes o r) e)
    | false ↦ s
  ]
    where
      of : (a b : Bool) → a ≡ false → InTurn (if a then begun r.moment (track.start o) ∷ us else (if b then with_end r.moment us else with_effect r.moment (track.effect o r.request) us))
      of true b g = cc
      of false true g = end-turn r.moment us s
      of false false g = effect-turn r.moment (track.effect o r.request) us f s

  fold-turn : (from : ℕ) (us : List (Value V)) (h : List Record) → InOrder from h → count_by (makes o) h ≡ 0 → Old from us → InTurn us → InTurn (fold (versions_after track o) us h)
  fold-turn from us [] i n f s = s
  fold-turn from us (r ∷ h) i n f s =
      let parts = not-made o r h n in
      let old : Old r.moment us = old-still from r.moment us i.0 f in
      fold-turn r.moment (versions_after track o us r) h i.1 parts.1 (step-old track o r.moment us r (omega arith) old) (step-turn us r parts.0 old s)

  -- BEFORE

  first-turn : (r : Record) → InTurn (versions_after track o [] r)
  first-turn r = elim (concerns o.purse r) as (λ b. InTurn {V = V} (if b then after_change track o [] r else [])) [
    | true ↦ flushed-turn (span_of o r.request) track.is_flushed (after_mutation track o [] r) (of (makes o r) (deletes o r))
    | false ↦ tt
  ]
    where
      of : (a b : Bool) → InTurn {V = V} (if a then begun r.moment (track.start o) ∷ [] else (if b then with_end r.moment [] else with_effect r.moment (track.effect o r.request) []))
      of true b = (tt, tt)
      of false true = tt
      of false false = tt

  nothing-yet : (r : Record) → makes o r ≡ false → versions_after track o [] r ≡ []
  nothing-yet r e = elim (concerns o.purse r) as (λ b. (if b then after_change track o [] r else []) ≡ []) [
    | true ↦ ap (flushed_by (span_of o r.request) track.is_flushed) (of (makes o r) (deletes o r) e) ∙ none-flushed (span_of o r.request) track.is_flushed
    | false ↦ refl
  ]
    where
      of : (a b : Bool) → a ≡ false → (if a then begun r.moment (track.start o) ∷ [] else (if b then with_end {V = V} r.moment [] else with_effect r.moment (track.effect o r.request) [])) ≡ []
      of true b g = cc
      of false true g = refl
      of false false g = refl

      none-flushed : (span : Option Rattle.s4_types.specs.Versions.Span) (is_flushed : Bool) → flushed_by {V = V} span is_flushed [] ≡ []
      none-flushed None is_flushed = refl
      none-flushed (Some span) true = refl
      none-flushed (Some span) false = refl

  fold-first : (from : ℕ) (h : List Record) → InOrder from h → count_by (makes o) h ≤ 1 → InTurn (fold (versions_after track o) [] h)
  fold-first from [] i n = tt
  fold-first from (r ∷ h) i n = by_test (makes o r)
      (λ e. fold-turn r.moment (versions_after track o [] r) h i.1 (made-last o r h n e) (step-old track o r.moment [] r (omega arith) tt) (first-turn r))
      (λ e. subst (λ us. InTurn (fold (versions_after track o) us h)) (sym (nothing-yet r e)) (fold-first r.moment h i.1 (made-later o r h n e)))

pub versions-turn : {V : Type 0} (track : Track V) → IsKept track → (base : Base) (o : ObjectId) (h : List Record) → IsBase base → InOrder base.cut h → made_count base o h ≤ 1 → InTurn (versions base track o h)
versions-turn track k base o h is i n = of (base.object o) refl n
  where
    of : (kept : Option KeptObject) → base.object o ≡ kept → cond (is_some kept) 1 0 + count_by (makes o) h ≤ 1 → InTurn (fold (versions_after track o) (only_kept (option_map track.kept kept)) h)
    of None e f = fold-first track o base.cut h i (omega (arith, f))
    of (Some object) e f =
        let began : (track.kept object).begin ≤ base.cut = k.began base.cut object (is.objects o object e) in
        fold-turn track o base.cut (begun (track.kept object).begin (track.kept object).value ∷ []) h i (omega (arith, f)) (began, tt, tt) (tt, tt)
