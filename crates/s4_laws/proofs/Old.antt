-- Values that began by a moment, and ended by it where they ended at all: later records up to the moment leave them so.
use Rattle.std.proofs.Common.{ℕ, ◌≤◌, Bool, true, false, Option, Some, None, List, [], ◌∷◌, map}
use Rattle.std.specs.Prelude.{if◌then◌else◌}
use Rattle.s4_types.specs.declared.object.ObjectId.{ObjectId}
use Rattle.s4_types.specs.declared.record.Record.{Record}
use Rattle.s4_types.specs.Kinds.{concerns}
use Rattle.s4_types.specs.Base.{KeptObject}
use Rattle.s4_types.specs.Versions.{Track, Value, Span, span_of, begun, end_at, on_current, with_end, with_value, with_effect, erased, flushed_by, makes, deletes, after_mutation, after_change, versions_after, data_track, attribute_track, acl_track}
use Rattle.s4_laws.specs.Bases.{BeganBy}

abbrev pub EndsBy : ℕ → Option ℕ → Type 0
EndsBy c None = Unit {0}
EndsBy c (Some end) = end ≤ c

-- all values began by the moment, and those that ended ended by it
abbrev pub Old : {V : Type 0} → ℕ → List (Value V) → Type 0
Old c [] = Unit {0}
Old c (v ∷ vs) = (v.begin ≤ c) × EndsBy c v.end × Old c vs

end-by : (c m : ℕ) (end : Option ℕ) → m ≤ c → EndsBy c end → EndsBy c (end_at m end)
end-by c m None e f = e
end-by c m (Some x) e f = f

module _ {V : Type 0} where
  erased-old : (c : ℕ) (span : Span) (us : List (Value V)) → Old c us → Old c (map (erased span) us)
  erased-old c span [] f = f
  erased-old c span (u ∷ us) f = (f.0, f.1, erased-old c span us f.2)

  pub flushed-old : (c : ℕ) (span : Option Span) (is_flushed : Bool) (us : List (Value V)) → Old c us → Old c (flushed_by span is_flushed us)
  flushed-old c None is_flushed us f = f
  flushed-old c (Some span) true us f = erased-old c span us f
  flushed-old c (Some span) false us f = f

  pub end-old : (c m : ℕ) (us : List (Value V)) → m ≤ c → Old c us → Old c (with_end m us)
  end-old c m [] e f = tt
  end-old c m (u ∷ us) e f = (f.0, end-by c m u.end e f.1, f.2)

  value-old : (c m : ℕ) (next : Option V) (u : Value V) (us : List (Value V)) → m ≤ c → Old c (u ∷ us) → Old c (with_value m next u us)
  value-old c m None u us e f = f
  value-old c m (Some x) u us e f = (e, tt, (f.0, end-by c m u.end e f.1, f.2))

  effect-old : (c m : ℕ) (effect : V → Option V) (us : List (Value V)) → m ≤ c → Old c us → Old c (with_effect m effect us)
  effect-old c m effect [] e f = tt
  effect-old c m effect (u ∷ us) e f = value-old c m (on_current effect u.end u.value) u us e f

module _ {V : Type 0} (track : Track V) (o : ObjectId) where
  mutation-old : (c : ℕ) (us : List (Value V)) (r : Record) → r.moment ≤ c → Old c us → Old c (after_mutation track o us r)
  mutation-old c us r e f = of (makes o r) (deletes o r)
    where
      of : (a b : Bool) → Old c (if a then begun r.moment (track.start o) ∷ us else (if b then with_end r.moment us else with_effect r.moment (track.effect o r.request) us))
      of true b = (e, tt, f)
      of false true = end-old c r.moment us e f
      of false false = effect-old c r.moment (track.effect o r.request) us e f

  pub step-old : (c : ℕ) (us : List (Value V)) (r : Record) → r.moment ≤ c → Old c us → Old c (versions_after track o us r)
  step-old c us r e f = elim (concerns o.purse r) as (λ b. Old c (if b then after_change track o us r else us)) [
    | true ↦ flushed-old c (span_of o r.request) track.is_flushed (after_mutation track o us r) (mutation-old c us r e f)
    | false ↦ f
  ]

-- THE VALUES THAT ARE KEPT

-- what is kept of the track of an object that began by a moment began by it
pub record IsKept {V : Type 0} (track : Track V) : Type 0 where
  pub began : (m : ℕ) (object : KeptObject) → BeganBy m object → (track.kept object).begin ≤ m

pub data-kept : IsKept data_track
data-kept = record { began = λ m object b. b.bytes }

pub attributes-kept : IsKept attribute_track
attributes-kept = record { began = λ m object b. b.attributes }

pub acl-kept : IsKept acl_track
acl-kept = record { began = λ m object b. b.acl }
