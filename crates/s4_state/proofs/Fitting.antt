-- Every value that a track ever had fits, the past ones too.
use Rattle.std.proofs.Common.{◌≡◌, ℕ, ◌≤◌, Bool, true, false, cond, Option, Some, None, List, [], ◌∷◌, ◌++◌, refl, sym, subst, arith, length}
use Rattle.std.specs.Prelude.{◌&&◌, nat_le, nat_lt, map, if◌then◌else◌}
use Rattle.std.specs.List.{list_all}
use Rattle.s4_types.specs.Base.{Base}
use Rattle.s4_types.specs.declared.acl.AclEntry.{AclEntry}
use Rattle.s4_types.specs.declared.object.ObjectId.{ObjectId}
use Rattle.s4_types.specs.declared.record.Record.{Record}
use Rattle.s4_types.specs.Acl.{IsAcl, one_each}
use Rattle.s4_types.specs.Kinds.{concerns}
use Rattle.s4_types.specs.Versions.{Track, Value, Span, span_of, erased, ends_by, in_force_by, flushed_by, begun, on_current, with_value, with_effect, with_end, versions, value_at, makes, deletes}
use Rattle.s4_types.proofs.Booleans.{by_test, both}
use Rattle.s4_types.proofs.Snoc.{versions-snoc}
use Rattle.s4_state.specs.Sound.{AllFit}
use Rattle.s4_state.proofs.Following.{effect-current}

-- an ACL has at most 16 entries, each of which gives some right
pub acl-entries : (acl : List AclEntry) → IsAcl acl → (length acl ≤ 16) × (list_all (λ entry. nat_lt 0 entry.rights) acl ≡ true)
acl-entries acl is =
    let outer = both (nat_le (length acl) 16 && one_each acl) (list_all (λ entry. nat_lt 0 entry.rights) acl) is in
    let low : nat_le (length acl) 16 ≡ true = (both (nat_le (length acl) 16) (one_each acl) outer.0).0 in
    (grind arith, outer.1)

-- THE NEXT RECORD

module _ {V : Type 0} (Fits : V → Type 0) where
  all-erased : (span : Span) (values : List (Value V)) → AllFit Fits values → AllFit Fits (map (erased span) values)
  all-erased span [] s = tt
  all-erased span (v ∷ past) s = (s.0, all-erased span past s.1)

  all-flushed : (span : Option Span) (is_flushed : Bool) (values : List (Value V)) → AllFit Fits values → AllFit Fits (flushed_by span is_flushed values)
  all-flushed None is_flushed values s = s
  all-flushed (Some span) true values s = all-erased span values s
  all-flushed (Some span) false values s = s

  all-ended : (m : ℕ) (values : List (Value V)) → AllFit Fits values → AllFit Fits (with_end m values)
  all-ended m [] s = tt
  all-ended m (v ∷ past) s = s

  all-either : (b : Bool) (xs ys : List (Value V)) → AllFit Fits xs → AllFit Fits ys → AllFit Fits (cond b xs ys)
  all-either true xs ys s t = s
  all-either false xs ys s t = t

-- what the record puts on the track fits
pub record IsFitting {V : Type 0} (track : Track V) (Fits : V → Type 0) (o : ObjectId) (base : Base) (h : List Record) (r : Record) : Type 0 where
  pub start_fits : Fits (track.start o)
  pub changes_fit : concerns o.purse r ≡ true → (v : Value V) (past : List (Value V)) → versions base track o h ≡ v ∷ past → (new : V) → track.effect o r.request v.value ≡ Some new → Fits v.value → Fits new

module _ {V : Type 0} (track : Track V) (Fits : V → Type 0) (o : ObjectId) (base : Base) (h : List Record) (r : Record) (f : IsFitting track Fits o base h r) where
  all-effect : concerns o.purse r ≡ true → (values : List (Value V)) → versions base track o h ≡ values → AllFit Fits values → AllFit Fits (with_effect r.moment (track.effect o r.request) values)
  all-effect c [] is s = tt
  all-effect c (v ∷ past) is s = of (on_current (track.effect o r.request) v.end v.value) refl
    where
      of : (next : Option V) → on_current (track.effect o r.request) v.end v.value ≡ next → AllFit Fits (with_value r.moment next v past)
      of None e = s
      of (Some x) e = (f.changes_fit c v past is x (effect-current (track.effect o r.request) v.end v.value x e) s.0, s)

  pub all_next : AllFit Fits (versions base track o h) → AllFit Fits (versions base track o (h ++ r ∷ []))
  all_next s = subst (AllFit Fits) (sym (versions-snoc base track o h r))
      (by_test (concerns o.purse r)
      (λ c. subst (λ b. AllFit Fits (if b then flushed_by (span_of o r.request) track.is_flushed changed else vs)) (sym c)
      (all-flushed Fits (span_of o r.request) track.is_flushed changed
      (all-either Fits (makes o r) (begun r.moment (track.start o) ∷ vs) unmade (f.start_fits, s)
      (all-either Fits (deletes o r) (with_end r.moment vs) (with_effect r.moment (track.effect o r.request) vs) (all-ended Fits r.moment vs s) (all-effect c vs refl s)))))
      (λ c. subst (λ b. AllFit Fits (if b then flushed_by (span_of o r.request) track.is_flushed changed else vs)) (sym c) s))
    where
      vs : List (Value V)
      vs = versions base track o h

      unmade : List (Value V)
      unmade = if deletes o r then with_end r.moment vs else with_effect r.moment (track.effect o r.request) vs

      changed : List (Value V)
      changed = if makes o r then begun r.moment (track.start o) ∷ vs else unmade

-- THE VALUE AT A MOMENT

-- where there is a value, it fits
abbrev pub FitsIf : {V : Type 0} → (V → Type 0) → Option (Value V) → Type 0
FitsIf Fits None = Unit {0}
FitsIf Fits (Some v) = Fits v.value

found-fits : {V : Type 0} (Fits : V → Type 0) (m : ℕ) (values : List (Value V)) → AllFit Fits values → FitsIf Fits (in_force_by m values)
found-fits Fits m [] s = tt
found-fits Fits m (v ∷ past) s = elim (nat_le v.begin m) as (λ b. FitsIf Fits (if b then (if ends_by m v.end then None else Some v) else in_force_by m past)) [
  | true ↦ (elim (ends_by m v.end) as (λ b. FitsIf Fits (if b then None else Some v)) [ true ↦ tt | false ↦ s.0 ])
  | false ↦ found-fits Fits m past s.1
]

pub value_at-fits : {V : Type 0} (track : Track V) (Fits : V → Type 0) (o : ObjectId) (m : ℕ) (base : Base) (h : List Record) → AllFit Fits (versions base track o h) → FitsIf Fits (value_at base track o m h)
value_at-fits track Fits o m base h s = found-fits Fits m (versions base track o h) s
