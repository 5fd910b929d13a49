-- The ends of a history, and those of them that wait.
use Rattle.std.proofs.Common.{◌≡◌, ℕ, zero, suc, ◌+◌, ◌≤◌, true, false, cond, List, [], ◌∷◌, ◌++◌, refl, sym, ◌∙◌, ap, arith, length, fold}
use Rattle.std.specs.Prelude.{◌&&◌, nat_le, not, replicate}
use Rattle.std.specs.List.{list_all}
use Rattle.std.proofs.lemmas.Grind.{flat_map-append}
use Rattle.std.proofs.lemmas.List.Elements.{filter-append}
use Rattle.std.proofs.lemmas.List.Folds.{list_all-append}
use Rattle.std.proofs.lemmas.List.{append-nil, length-append, length-replicate}
use Rattle.s4_types.specs.declared.request.Request.{Request}
use Rattle.s4_types.specs.declared.request.Request.TheVariants.{SetWindow}
use Rattle.s4_types.specs.declared.record.Record.{Record}
use Rattle.s4_types.specs.Base.{Base}
use Rattle.s4_types.specs.Horizon.{Guarded, windowed_by, guarded_after, guarded_at, horizon_at}
use Rattle.s4_types.specs.Kinds.{concerns_all}
use Rattle.s4_types.proofs.Booleans.{by_test, both, not_both}
use Rattle.s4_objects.specs.Ends.{all_by, is_gone}
use Rattle.s4_types.specs.Changes.{Change}
use Rattle.s4_types.specs.Counts.{counted, moments_of}
use Rattle.s4_state.specs.Stands.{IsWaiting, ends_above}
use Rattle.s4_types.proofs.Ordered.{filter-less}

-- THE ENDS OF A HISTORY

pub moments-snoc : (count : Change → ℕ) (h : List Record) (r : Record) → moments_of count (h ++ r ∷ []) ≡ moments_of count h ++ replicate (counted count r) r.moment
moments-snoc count h r = flat_map-append (λ x. replicate (counted count x) x.moment) h (r ∷ []) ∙ ap (λ ends. moments_of count h ++ ends) (append-nil (replicate (counted count r) r.moment))

pub longer-by : (ends : List ℕ) (n m : ℕ) → length (ends ++ replicate n m) ≡ length ends + n
longer-by ends n m = length-append ends (replicate n m) ∙ ap (λ k. length ends + k) (length-replicate n m)

pub moments-length : (count : Change → ℕ) (h : List Record) (r : Record) → length (moments_of count (h ++ r ∷ [])) ≡ length (moments_of count h) + counted count r
moments-length count h r = ap length (moments-snoc count h r) ∙ longer-by (moments_of count h) (counted count r) r.moment

-- where none is added
pub no-more : (ends : List ℕ) (m : ℕ) {n : ℕ} → n ≡ 0 → ends ≡ ends ++ replicate n m
no-more ends m e = sym (ap (λ k. ends ++ replicate k m) e ∙ append-nil ends)

same-by : (n x m : ℕ) → nat_le x m ≡ true → all_by m (replicate n x) ≡ true
same-by zero x m e = refl
same-by (suc n) x m e = ap (λ b. b && all_by m (replicate n x)) e ∙ same-by n x m e

-- no end is later than the records
pub ends-by : (count : Change → ℕ) (m : ℕ) (h : List Record) → list_all (λ r. nat_le r.moment m) h ≡ true → all_by m (moments_of count h) ≡ true
ends-by count m [] e = refl
ends-by count m (r ∷ h) e =
    let parts = both (nat_le r.moment m) (list_all (λ x. nat_le x.moment m) h) e in
    list_all-append (λ end. nat_le end m) (replicate (counted count r) r.moment) (moments_of count h)
    ∙ ap (λ b. b && all_by m (moments_of count h)) (same-by (counted count r) r.moment m parts.0) ∙ ends-by count m h parts.1

-- THE HORIZON

-- the floor isn't above a moment that no record is above
floor-next : (m : ℕ) (g : Guarded) (b : ℕ) (request : Request) → g.floor ≤ b → m ≤ b → (windowed_by m request g).floor ≤ b
floor-next m g b (SetWindow ticks) l e = omega (arith, l, e)
floor-next m g b _ l e = l

floor-by : (b : ℕ) (g : Guarded) (h : List Record) → g.floor ≤ b → list_all (λ r. nat_le r.moment b) h ≡ true → (fold guarded_after g h).floor ≤ b
floor-by b g [] l e = l
floor-by b g (r ∷ h) l e =
    let parts = both (nat_le r.moment b) (list_all (λ x. nat_le x.moment b) h) e in
    let low : r.moment ≤ b = (let here : nat_le r.moment b ≡ true = parts.0 in grind arith) in
    floor-by b (guarded_after g r) h (elim (concerns_all r) as (λ c. (cond c (windowed_by r.moment r.request g) g).floor ≤ b) [ true ↦ floor-next r.moment g b r.request l low | false ↦ l ]) parts.1

-- nor is the horizon at a moment
pub horizon-by : (base : Base) (h : List Record) (t m : ℕ) → base.floor ≤ m → list_all (λ r. nat_le r.moment m) h ≡ true → t ≤ m → horizon_at base h t ≤ m
horizon-by base h t m l e low = let floor : (guarded_at base h).floor ≤ m = floor-by m (record { window = base.window; floor = base.floor }) h l e in omega (arith, floor, low)

-- THOSE THAT WAIT

above-by : (hz m : ℕ) (ends : List ℕ) → hz ≤ m → all_by m (ends_above hz ends) ≡ true → all_by m ends ≡ true
above-by hz m [] l e = refl
above-by hz m (x ∷ ends) l e = by_test (is_gone hz x)
    (λ f. ap (λ t. t && all_by m ends) (above x f) ∙ above-by hz m ends l (sym (ap (λ b. all_by m (cond (not b) (x ∷ ends_above hz ends) (ends_above hz ends))) f) ∙ e))
    (λ f. let parts = both (nat_le x m) (all_by m (ends_above hz ends)) (sym (ap (λ b. all_by m (cond (not b) (x ∷ ends_above hz ends) (ends_above hz ends))) f) ∙ e) in
    ap (λ t. t && all_by m ends) parts.0 ∙ above-by hz m ends l parts.1)
  where
    above : (end : ℕ) → nat_le end hz ≡ true → nat_le end m ≡ true
    above end f = grind arith

above-all : (hz m : ℕ) (ends : List ℕ) → all_by m ends ≡ true → all_by m (ends_above hz ends) ≡ true
above-all hz m [] e = refl
above-all hz m (x ∷ ends) e =
    let parts = both (nat_le x m) (all_by m ends) e in
    elim (not (is_gone hz x)) as (λ b. all_by m (cond b (x ∷ ends_above hz ends) (ends_above hz ends)) ≡ true) [
      | true ↦ ap (λ t. t && all_by m (ends_above hz ends)) parts.0 ∙ above-all hz m ends parts.1
      | false ↦ above-all hz m ends parts.1
    ]

-- what isn't above the one horizon isn't above a later one
gone-up : (hz hz' end : ℕ) → hz ≤ hz' → not (is_gone hz end) ≡ false → not (is_gone hz' end) ≡ false
gone-up hz hz' end l e = by_test (is_gone hz end)
    (λ f. let later : is_gone hz' end ≡ true = up f in ap not later)
    (λ f. absurd (not_both (not (is_gone hz end)) (ap not f) e))
  where
    up : nat_le end hz ≡ true → nat_le end hz' ≡ true
    up f = grind arith

module _ {hz : ℕ} {waiting all : List ℕ} where
  pub waiting_by : (m : ℕ) → hz ≤ m → all_by m all ≡ true → IsWaiting hz waiting all → all_by m waiting ≡ true
  waiting_by m l e s = above-by hz m waiting l (ap (all_by m) s.above ∙ above-all hz m all e)

  pub waiting_same : {waiting' all' : List ℕ} → waiting' ≡ waiting → all' ≡ all → IsWaiting hz waiting all → IsWaiting hz waiting' all'
  waiting_same e f s = record { above = ap (ends_above hz) e ∙ s.above ∙ sym (ap (ends_above hz) f) }

  pub waiting_up : {hz' : ℕ} → hz ≤ hz' → IsWaiting hz waiting all → IsWaiting hz' waiting all
  waiting_up {hz'} l s = record { above = filter-less (λ end. not (is_gone hz' end)) (λ end. not (is_gone hz end)) waiting all (λ end e. gone-up hz hz' end l e) s.above }

  waiting_more : (more : List ℕ) → IsWaiting hz waiting all → IsWaiting hz (waiting ++ more) (all ++ more)
  waiting_more more s = record { above = filter-append (λ end. not (is_gone hz end)) waiting more ∙ ap (λ ends. ends ++ ends_above hz more) s.above ∙ sym (filter-append (λ end. not (is_gone hz end)) all more) }

-- the ends of the next record wait behind the others
pub waiting_next : {hz hz' : ℕ} → hz ≤ hz' → (count : Change → ℕ) (h : List Record) (r : Record) → {waiting waiting' : List ℕ} → waiting' ≡ waiting ++ replicate (counted count r) r.moment
    → IsWaiting hz waiting (moments_of count h) → IsWaiting hz' waiting' (moments_of count (h ++ r ∷ []))
waiting_next l count h r e s = waiting_up l (waiting_same e (moments-snoc count h r) (waiting_more (replicate (counted count r) r.moment) s))
