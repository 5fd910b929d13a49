-- What is in force is what the changes up to the moment leave, applied in their order.
use Rattle.std.proofs.Common.{◌≡◌, ℕ, ◌≤◌, ◌<◌, Bool, true, false, Option, Some, None, List, [], ◌∷◌, refl, sym, ◌∙◌, ap, fold, nat_le, map, unwrap_or, arith}
use Rattle.std.specs.Prelude.{◌&&◌, if◌then◌else◌}
use Rattle.std.specs.Option.{option_map}
use Rattle.std.proofs.lemmas.Bool.{le-leb, leb-true, leb-false}
use Rattle.s4_types.specs.declared.object.ObjectId.{ObjectId}
use Rattle.s4_types.specs.declared.record.Record.{Record}
use Rattle.s4_types.specs.Kinds.{concerns}
use Rattle.s4_types.specs.Base.{Base, Standing, KeptObject}
use Rattle.s4_types.specs.Versions.{Track, Value, Span, span_of, begun, end_at, ended, ends_by, on_current, with_end, with_value, with_effect, erased, flushed_by, makes, deletes, after_mutation, after_change, versions_after, in_force_by, only_kept, unended, standing, value_at}
use Rattle.s4_laws.specs.Applied.{affected, applied_to, applied_after, applied}
use Rattle.s4_types.specs.Play.{InOrder}
use Rattle.s4_laws.specs.Bases.{IsBase}
use Rattle.s4_types.proofs.Booleans.{by_test, &&-false, &&-true}
use Rattle.s4_laws.proofs.Old.{EndsBy, Old, IsKept, step-old}

pub not-by : (m n : ℕ) → m < n → nat_le n m ≡ false
not-by m n e = by_test (nat_le n m) (λ f. let g : n ≤ m = leb-true n m f in absurd (omega (arith, e, g))) (λ f. f)

ends-later : (m n : ℕ) (end : Option ℕ) → m < n → ends_by m (end_at n end) ≡ ends_by m end
ends-later m n None e = not-by m n e
ends-later m n (Some x) e = refl

module _ {V : Type 0} where
  -- the value, but for the moments at which it began and ended
  abbrev pub held : Option (Value V) → Option V
  held kept = option_map (λ (v : Value V). v.value) kept

  abbrev pub current : Option (Standing V) → Option V
  current kept = option_map (λ (v : Standing V). v.value) kept

  -- WHAT IS CURRENT

  unended-force : (m : ℕ) (v : Value V) (end : Option ℕ) → EndsBy m end → held (if ends_by m end then None else Some v) ≡ current (unended end v)
  unended-force m v None f = refl
  unended-force m v (Some x) f = ap (λ b. held (if b then None else Some v)) (le-leb x m f)

  -- of values that are old by then the current one is in force
  pub force-current : (m : ℕ) (vs : List (Value V)) → Old m vs → held (in_force_by m vs) ≡ current (standing vs)
  force-current m [] f = refl
  force-current m (v ∷ past) f =
      ap (λ b. held (if b then (if ends_by m v.end then None else Some v) else in_force_by m past)) (le-leb v.begin m f.0)
      ∙ unended-force m v v.end f.1

  pub current-end : (m : ℕ) (vs : List (Value V)) → current (standing (with_end m vs)) ≡ None
  current-end m [] = refl
  current-end m (v ∷ past) = of v.end
    where
      of : (end : Option ℕ) → current (unended (end_at m end) (ended m v)) ≡ None
      of None = refl
      of (Some x) = refl

  current-effect : (m : ℕ) (effect : V → Option V) (vs : List (Value V)) → current (standing (with_effect m effect vs)) ≡ affected effect (current (standing vs))
  current-effect m effect [] = refl
  current-effect m effect (v ∷ past) = of v.end refl
    where
      made : (next : Option V) → v.end ≡ None → current (standing (with_value m next v past)) ≡ Some (unwrap_or next v.value)
      made None e = ap (λ end. current (unended end v)) e
      made (Some x) e = refl

      of : (end : Option ℕ) → v.end ≡ end → current (standing (with_value m (on_current effect end v.value) v past)) ≡ affected effect (current (unended end v))
      of None e = made (effect v.value) e
      of (Some x) e = ap (λ end. current (unended end v)) e

  current-flush : (span : Option Span) (is_flushed : Bool) (vs : List (Value V)) → current (standing (flushed_by span is_flushed vs)) ≡ current (standing vs)
  current-flush None is_flushed vs = refl
  current-flush (Some span) true [] = refl
  current-flush (Some span) true (v ∷ past) = of v.end
    where
      of : (end : Option ℕ) → current (unended end (erased span v)) ≡ current (unended end v)
      of None = refl
      of (Some x) = refl
  current-flush (Some span) false vs = refl

  -- WHAT COMES LATER

  pub force-end : (m n : ℕ) (vs : List (Value V)) → m < n → held (in_force_by m (with_end n vs)) ≡ held (in_force_by m vs)
  force-end m n [] e = refl
  force-end m n (v ∷ past) e = of (nat_le v.begin m) (ends_by m v.end) (ends-later m n v.end e)
    where
      of : (a b : Bool) → ends_by m (end_at n v.end) ≡ b → held (if a then (if ends_by m (end_at n v.end) then None else Some (ended n v)) else in_force_by m past) ≡ held (if a then (if b then None else Some v) else in_force_by m past)
      of true true f = ap (λ c. held (if c then None else Some (ended n v))) f
      of true false f = ap (λ c. held (if c then None else Some (ended n v))) f
      of false b f = refl

  pub force-begun : (m n : ℕ) (x : V) (vs : List (Value V)) → m < n → held (in_force_by m (begun n x ∷ vs)) ≡ held (in_force_by m vs)
  force-begun m n x vs e = ap (λ b. held (if b then Some (begun n x) else in_force_by m vs)) (not-by m n e)

  force-value : (m n : ℕ) (next : Option V) (v : Value V) (past : List (Value V)) → m < n → held (in_force_by m (with_value n next v past)) ≡ held (in_force_by m (v ∷ past))
  force-value m n None v past e = refl
  force-value m n (Some x) v past e = force-begun m n x (ended n v ∷ past) e ∙ force-end m n (v ∷ past) e

  force-effect : (m n : ℕ) (effect : V → Option V) (vs : List (Value V)) → m < n → held (in_force_by m (with_effect n effect vs)) ≡ held (in_force_by m vs)
  force-effect m n effect [] e = refl
  force-effect m n effect (v ∷ past) e = force-value m n (on_current effect v.end v.value) v past e

  force-erased : (m : ℕ) (span : Span) (vs : List (Value V)) → held (in_force_by m (map (erased span) vs)) ≡ held (in_force_by m vs)
  force-erased m span [] = refl
  force-erased m span (v ∷ past) = of (nat_le v.begin m) (ends_by m v.end) (force-erased m span past)
    where
      of : (a b : Bool) → held (in_force_by m (map (erased span) past)) ≡ held (in_force_by m past) → held (if a then (if b then None else Some (erased span v)) else in_force_by m (map (erased span) past)) ≡ held (if a then (if b then None else Some v) else in_force_by m past)
      of true true f = refl
      of true false f = refl
      of false b f = f

  force-flush : (m : ℕ) (span : Option Span) (is_flushed : Bool) (vs : List (Value V)) → held (in_force_by m (flushed_by span is_flushed vs)) ≡ held (in_force_by m vs)
  force-flush m None is_flushed vs = refl
  force-flush m (Some span) true vs = force-erased m span vs
  force-flush m (Some span) false vs = refl

module _ {V : Type 0} (track : Track V) (o : ObjectId) (m : ℕ) where
  -- a change that has come by then
  current-step : (vs : List (Value V)) (r : Record) → r.moment ≤ m → current (standing (versions_after track o vs r)) ≡ applied_after track o m (current (standing vs)) r
  current-step vs r e =
      elim (concerns o.purse r) as (λ b. current (standing (if b then after_change track o vs r else vs)) ≡ (if b then applied_to track o r (current (standing vs)) else current (standing vs))) [
        | true ↦ current-flush (span_of o r.request) track.is_flushed (after_mutation track o vs r) ∙ of (makes o r) (deletes o r)
        | false ↦ refl
      ]
      ∙ sym (ap (λ b. if b then applied_to track o r (current (standing vs)) else current (standing vs)) (ap (λ b. concerns o.purse r && b) (le-leb r.moment m e) ∙ &&-true (concerns o.purse r)))
    where
      of : (a b : Bool) → current (standing (if a then begun r.moment (track.start o) ∷ vs else (if b then with_end r.moment vs else with_effect r.moment (track.effect o r.request) vs)))
          ≡ (if a then Some (track.start o) else (if b then None else affected (track.effect o r.request) (current (standing vs))))
      of true b = refl
      of false true = current-end r.moment vs
      of false false = current-effect r.moment (track.effect o r.request) vs

  -- and one that hasn't
  force-step : (vs : List (Value V)) (r : Record) → m < r.moment → held (in_force_by m (versions_after track o vs r)) ≡ held (in_force_by m vs)
  force-step vs r e = elim (concerns o.purse r) as (λ b. held (in_force_by m (if b then after_change track o vs r else vs)) ≡ held (in_force_by m vs)) [
    | true ↦ force-flush m (span_of o r.request) track.is_flushed (after_mutation track o vs r) ∙ of (makes o r) (deletes o r)
    | false ↦ refl
  ]
    where
      of : (a b : Bool) → held (in_force_by m (if a then begun r.moment (track.start o) ∷ vs else (if b then with_end r.moment vs else with_effect r.moment (track.effect o r.request) vs))) ≡ held (in_force_by m vs)
      of true b = force-begun m r.moment (track.start o) vs e
      of false true = force-end m r.moment vs e
      of false false = force-effect m r.moment (track.effect o r.request) vs e

  idle-step : (old : Option V) (r : Record) → m < r.moment → applied_after track o m old r ≡ old
  idle-step old r e = ap (λ b. if b then applied_to track o r old else old) (ap (λ b. concerns o.purse r && b) (not-by m r.moment e) ∙ &&-false (concerns o.purse r))

  later-all : (from : ℕ) (vs : List (Value V)) (old : Option V) (h : List Record) → m < from → InOrder from h → held (in_force_by m vs) ≡ old → held (in_force_by m (fold (versions_after track o) vs h)) ≡ fold (applied_after track o m) old h
  later-all from vs old [] e i f = f
  later-all from vs old (r ∷ h) e i f =
      let low : m < r.moment = omega (arith, e, i.0) in
      later-all r.moment (versions_after track o vs r) old h low i.1 (force-step vs r low ∙ f) ∙ sym (ap (λ x. fold (applied_after track o m) x h) (idle-step old r low))

  by-then : (from : ℕ) (vs : List (Value V)) (h : List Record) → InOrder from h → Old m vs → held (in_force_by m (fold (versions_after track o) vs h)) ≡ fold (applied_after track o m) (current (standing vs)) h
  by-then from vs [] i f = force-current m vs f
  by-then from vs (r ∷ h) i f = by_test (nat_le r.moment m)
      (λ e. let low : r.moment ≤ m = leb-true r.moment m e in
      by-then r.moment (versions_after track o vs r) h i.1 (step-old track o m vs r low f) ∙ ap (λ x. fold (applied_after track o m) x h) (current-step vs r low))
      (λ e. let high : m < r.moment = leb-false r.moment m e in
      later-all r.moment (versions_after track o vs r) (current (standing vs)) h high i.1 (force-step vs r high ∙ force-current m vs f)
      ∙ sym (ap (λ x. fold (applied_after track o m) x h) (idle-step (current (standing vs)) r high)))

-- the value in force at a moment from the base on is what the changes up to it leave
pub value_at-applied : {V : Type 0} (track : Track V) → IsKept track → (base : Base) → IsBase base → (o : ObjectId) (m : ℕ) (h : List Record) → base.cut ≤ m → InOrder base.cut h
    → option_map (λ v. v.value) (value_at base track o m h) ≡ applied base track o m h
value_at-applied track k base is o m h e i = of (base.object o) refl
  where
    of : (kept : Option KeptObject) → base.object o ≡ kept → option_map (λ v. v.value) (in_force_by m (fold (versions_after track o) (only_kept (option_map track.kept kept)) h)) ≡ fold (applied_after track o m) (option_map (λ object. (track.kept object).value) kept) h
    of None p = by-then track o m base.cut [] h i tt
    of (Some object) p =
        let began : (track.kept object).begin ≤ base.cut = k.began base.cut object (is.objects o object p) in
        by-then track o m base.cut (begun (track.kept object).begin (track.kept object).value ∷ []) h i (omega (arith, began, e), tt, tt)
