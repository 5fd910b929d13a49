-- A name is bound to what its bindings and unbindings up to the moment leave, carried out in their order.
use Rattle.std.proofs.Common.{◌≡◌, ℕ, ◌≤◌, ◌<◌, true, false, Option, Some, None, List, [], ◌∷◌, refl, sym, ◌∙◌, ap, fold, nat_le, arith}
use Rattle.std.specs.Prelude.{◌&&◌, if◌then◌else◌}
use Rattle.std.specs.Option.{option_map}
use Rattle.std.proofs.lemmas.Bool.{le-leb, leb-true, leb-false}
use Rattle.s4_types.specs.declared.object.Purse.{Purse}
use Rattle.s4_types.specs.declared.request.Request.{Request}
use Rattle.s4_types.specs.declared.request.Request.TheVariants.{PCreate, PDelete}
use Rattle.s4_types.specs.declared.record.Record.{Record}
use Rattle.s4_types.specs.Name.{same_name}
use Rattle.s4_types.specs.Names.{same_purse}
use Rattle.s4_types.specs.Kinds.{concerns}
use Rattle.s4_types.specs.Base.{Base, Standing}
use Rattle.s4_types.specs.Bindings.{rebound, bindings_after, bound_at}
use Rattle.s4_types.specs.Versions.{Value, begun, with_end, in_force_by, only_kept, standing}
use Rattle.s4_types.specs.Play.{InOrder}
use Rattle.s4_types.proofs.Booleans.{by_test, &&-false, &&-true}
use Rattle.s4_laws.specs.Applied.{bound_to, bound_after, bound_in_turn}
use Rattle.s4_laws.specs.Bases.{IsBase}
use Rattle.s4_laws.proofs.Applying.{not-by, held, current, force-current, current-end, force-end, force-begun}
use Rattle.s4_laws.proofs.Old.{Old, end-old}

module _ (purse : Purse) (name : List ℕ) where
  -- A CHANGE THAT HAS COME BY THEN

  current-rebound : (m : ℕ) (request : Request) (vs : List (Value ℕ)) → current (standing (rebound purse name m request vs)) ≡ bound_to purse name request (current (standing vs))
  current-rebound m (PCreate other o) vs = elim (same_purse o.purse purse && same_name other name) as (λ b. current (standing (if b then begun m o.serial ∷ vs else vs)) ≡ (if b then Some o.serial else current (standing vs))) [
    | true ↦ refl
    | false ↦ refl
  ]
  current-rebound m (PDelete place other) vs = elim (same_purse place purse && same_name other name) as (λ b. current (standing (if b then with_end m vs else vs)) ≡ (if b then None else current (standing vs))) [
    | true ↦ current-end m vs
    | false ↦ refl
  ]
  current-rebound m request vs = refl

  old-rebound : (c m : ℕ) (request : Request) (vs : List (Value ℕ)) → m ≤ c → Old c vs → Old c (rebound purse name m request vs)
  old-rebound c m (PCreate other o) vs e f = elim (same_purse o.purse purse && same_name other name) as (λ b. Old c (if b then begun m o.serial ∷ vs else vs)) [
    | true ↦ (e, tt, f)
    | false ↦ f
  ]
  old-rebound c m (PDelete place other) vs e f = elim (same_purse place purse && same_name other name) as (λ b. Old c (if b then with_end m vs else vs)) [
    | true ↦ end-old c m vs e f
    | false ↦ f
  ]
  old-rebound c m request vs e f = f

  old-step : (c : ℕ) (vs : List (Value ℕ)) (r : Record) → r.moment ≤ c → Old c vs → Old c (bindings_after purse name vs r)
  old-step c vs r e f = elim (concerns purse r) as (λ b. Old c (if b then rebound purse name r.moment r.request vs else vs)) [
    | true ↦ old-rebound c r.moment r.request vs e f
    | false ↦ f
  ]

  current-step : (m : ℕ) (vs : List (Value ℕ)) (r : Record) → r.moment ≤ m → current (standing (bindings_after purse name vs r)) ≡ bound_after purse name m (current (standing vs)) r
  current-step m vs r e =
      elim (concerns purse r) as (λ b. current (standing (if b then rebound purse name r.moment r.request vs else vs)) ≡ (if b then bound_to purse name r.request (current (standing vs)) else current (standing vs))) [
        | true ↦ current-rebound r.moment r.request vs
        | false ↦ refl
      ]
      ∙ sym (ap (λ b. if b then bound_to purse name r.request (current (standing vs)) else current (standing vs)) (ap (λ b. concerns purse r && b) (le-leb r.moment m e) ∙ &&-true (concerns purse r)))

  -- AND ONE THAT HASN'T

  force-rebound : (m n : ℕ) (request : Request) (vs : List (Value ℕ)) → m < n → held (in_force_by m (rebound purse name n request vs)) ≡ held (in_force_by m vs)
  force-rebound m n (PCreate other o) vs e = elim (same_purse o.purse purse && same_name other name) as (λ b. held (in_force_by m (if b then begun n o.serial ∷ vs else vs)) ≡ held (in_force_by m vs)) [
    | true ↦ force-begun m n o.serial vs e
    | false ↦ refl
  ]
  force-rebound m n (PDelete place other) vs e = elim (same_purse place purse && same_name other name) as (λ b. held (in_force_by m (if b then with_end n vs else vs)) ≡ held (in_force_by m vs)) [
    | true ↦ force-end m n vs e
    | false ↦ refl
  ]
  force-rebound m n request vs e = refl

  force-step : (m : ℕ) (vs : List (Value ℕ)) (r : Record) → m < r.moment → held (in_force_by m (bindings_after purse name vs r)) ≡ held (in_force_by m vs)
  force-step m vs r e = elim (concerns purse r) as (λ b. held (in_force_by m (if b then rebound purse name r.moment r.request vs else vs)) ≡ held (in_force_by m vs)) [
    | true ↦ force-rebound m r.moment r.request vs e
    | false ↦ refl
  ]

  idle-step : (m : ℕ) (old : Option ℕ) (r : Record) → m < r.moment → bound_after purse name m old r ≡ old
  idle-step m old r e = ap (λ b. if b then bound_to purse name r.request old else old) (ap (λ b. concerns purse r && b) (not-by m r.moment e) ∙ &&-false (concerns purse r))

  -- ALL OF THEM

  later-all : (m from : ℕ) (vs : List (Value ℕ)) (old : Option ℕ) (h : List Record) → m < from → InOrder from h → held (in_force_by m vs) ≡ old → held (in_force_by m (fold (bindings_after purse name) vs h)) ≡ fold (bound_after purse name m) old h
  later-all m from vs old [] e i f = f
  later-all m from vs old (r ∷ h) e i f =
      let low : m < r.moment = omega (arith, e, i.0) in
      later-all m r.moment (bindings_after purse name vs r) old h low i.1 (force-step m vs r low ∙ f) ∙ sym (ap (λ x. fold (bound_after purse name m) x h) (idle-step m old r low))

  by-then : (m from : ℕ) (vs : List (Value ℕ)) (h : List Record) → InOrder from h → Old m vs → held (in_force_by m (fold (bindings_after purse name) vs h)) ≡ fold (bound_after purse name m) (current (standing vs)) h
  by-then m from vs [] i f = force-current m vs f
  by-then m from vs (r ∷ h) i f = by_test (nat_le r.moment m)
      (λ e. let low : r.moment ≤ m = leb-true r.moment m e in
      by-then m r.moment (bindings_after purse name vs r) h i.1 (old-step m vs r low f) ∙ ap (λ x. fold (bound_after purse name m) x h) (current-step m vs r low))
      (λ e. let high : m < r.moment = leb-false r.moment m e in
      later-all m r.moment (bindings_after purse name vs r) (current (standing vs)) h high i.1 (force-step m vs r high ∙ force-current m vs f)
      ∙ sym (ap (λ x. fold (bound_after purse name m) x h) (idle-step m (current (standing vs)) r high)))

-- what a name is bound to at a moment from the base on
pub bound_at-in-turn : (base : Base) (purse : Purse) (name : List ℕ) (m : ℕ) (h : List Record) → IsBase base → base.cut ≤ m → InOrder base.cut h → bound_at base purse name m h ≡ bound_in_turn base purse name m h
bound_at-in-turn base purse name m h is e i = of (base.binding purse name) refl
  where
    of : (kept : Option (Standing ℕ)) → base.binding purse name ≡ kept → option_map (λ v. v.value) (in_force_by m (fold (bindings_after purse name) (only_kept kept) h)) ≡ fold (bound_after purse name m) (option_map (λ kept. kept.value) kept) h
    of None p = by-then purse name m base.cut [] h i tt
    of (Some kept) p =
        let began : kept.begin ≤ base.cut = is.bindings purse name kept p in
        by-then purse name m base.cut (begun kept.begin kept.value ∷ []) h i (omega (arith, began, e), tt, tt)
