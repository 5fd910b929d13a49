-- A charge that is given back is one that counts.
use Rattle.std.proofs.Common.{◌≡◌, ℕ, zero, suc, ◌+◌, ◌<◌, ◌≤◌, Bool, true, false, cond, List, [], ◌∷◌, length, refl, sym, ◌∙◌, ap, arith, get_or, drop, drop-cons, add-one}
use Rattle.std.specs.Prelude.{Contains, ◌&&◌, ◌==◌, nat_lt, sum_by, if◌then◌else◌}
use Rattle.std.specs.List.Sorted.{IsPermutation}
use Rattle.std.proofs.lemmas.Bool.{eqb-true, eq-eqb, lt-ltb}
use Rattle.std.proofs.lemmas.List.Sums.{sum_by-cons}
use Rattle.std.proofs.lemmas.List.Sorted.{sum_by_popped}
use Rattle.s4_types.specs.declared.object.Purse.{Purse}
use Rattle.s4_types.specs.Names.{same_purse}
use Rattle.s4_types.proofs.Booleans.{by_test}
use Rattle.s4_types.proofs.SameNames.{purse_is, purse_self}
use Rattle.s4_ledger.specs.declared.charge.Charge.{Charge}
use Rattle.s4_objects.specs.declared.flushes.Refund.{Refund}
use Rattle.s4_objects.specs.Flushes.{refund_weight, refunded}
use Rattle.s4_drive.specs.Stands.{above, charge_weight}

-- one for this end and cost, nothing for others
abbrev unit : ℕ → ℕ → ℕ → ℕ → ℕ
unit end cost e c = if (e == end) && (c == cost) then 1 else 0

-- the charge that a refund takes back
abbrev pub charge_of : Refund → Charge
charge_of r = record { purse = r.purse; end = r.end; cost = r.cost }

both : (a b : Bool) → a && b ≡ true → (a ≡ true) × (b ≡ true)
both true true e = (refl, refl)
both true false e = cc
both false b e = cc

-- a charge that weighs something is the one
is-the-one : (r : Refund) (c : Charge) → 0 < charge_weight (unit r.end r.cost) r.purse c → c ≡ charge_of r
is-the-one r c l = by_test (same_purse c.purse r.purse)
    (λ e. by_test ((c.end == r.end) && (c.cost == r.cost))
    (λ f. let two = both (c.end == r.end) (c.cost == r.cost) f in
    let p : c.purse ≡ r.purse = purse_is c.purse r.purse e in
    let x : c.end ≡ r.end = eqb-true c.end r.end two.0 in
    let y : c.cost ≡ r.cost = eqb-true c.cost r.cost two.1 in
    λ i. record { purse = p i; end = x i; cost = y i })
    (λ f. let none : charge_weight (unit r.end r.cost) r.purse c ≡ 0 = ap (λ b. cond b (unit r.end r.cost c.end c.cost) 0) e ∙ ap (λ b. cond b 1 0) f in absurd (omega (arith, l, none))))
    (λ e. let none : charge_weight (unit r.end r.cost) r.purse c ≡ 0 = ap (λ b. cond b (unit r.end r.cost c.end c.cost) 0) e in absurd (omega (arith, l, none)))

contains-later : (c d : Charge) (cs : List Charge) → Contains cs d → Contains (c ∷ cs) d
contains-later c d cs h = let l = h.1 in (suc h.0, omega (arith, l), h.2)

-- charges that weigh something have the one
pub holds : (r : Refund) (charges : List Charge) → 0 < sum_by (charge_weight (unit r.end r.cost) r.purse) charges → Contains charges (charge_of r)
holds r [] l = absurd (omega (arith, l))
holds r (c ∷ cs) l =
    let f : Charge → ℕ = charge_weight (unit r.end r.cost) r.purse in
    let whole : sum_by f (c ∷ cs) ≡ f c + sum_by f cs = sum_by-cons f c cs in
    by_test (nat_lt 0 (f c))
    (λ e. (zero, omega arith, is-the-one r c (grind (arith, e))))
    (λ e. contains-later c (charge_of r) cs (holds r cs (grind (arith, e, whole, l))))

module _ (horizon : ℕ) (r : Refund) (rest : List Refund) where
  -- where so much is given back in all, the first charge is there
  pub first-there : (charges : List Charge) → ((weight : ℕ → ℕ → ℕ) (p : Purse) → refunded (above horizon weight) p (r ∷ rest) ≤ sum_by (charge_weight weight p) charges) → horizon < r.end → Contains charges (charge_of r)
  first-there charges covers later =
      let w : ℕ → ℕ → ℕ = unit r.end r.cost in
      let f : Refund → ℕ = refund_weight (above horizon w) r.purse in
      let le = covers w r.purse in
      let whole : refunded (above horizon w) r.purse (r ∷ rest) ≡ f r + refunded (above horizon w) r.purse rest = sum_by-cons f r rest in
      let one : f r ≡ 1 = ap (λ b. cond b (above horizon w r.end r.cost) 0) (purse_self r.purse) ∙ ap (λ b. cond b (w r.end r.cost) 0) (lt-ltb horizon r.end later)
      ∙ ap (λ b. cond (b && (r.cost == r.cost)) 1 0) (eq-eqb r.end r.end refl) ∙ ap (λ b. cond b 1 0) (eq-eqb r.cost r.cost refl) in
      holds r charges (omega (arith, le, whole, one))

  -- what one refund takes
  pub takes-one : (old new : List Charge) → (horizon < r.end → IsPermutation old (charge_of r ∷ new)) → (r.end ≤ horizon → new ≡ old)
      → (weight : ℕ → ℕ → ℕ) (p : Purse) → sum_by (charge_weight weight p) new + refunded (above horizon weight) p (r ∷ rest) ≡ sum_by (charge_weight weight p) old + refunded (above horizon weight) p rest
  takes-one old new taken idle weight p =
      let f : Refund → ℕ = refund_weight (above horizon weight) p in
      let whole : refunded (above horizon weight) p (r ∷ rest) ≡ f r + refunded (above horizon weight) p rest = sum_by-cons f r rest in
      by_test (nat_lt horizon r.end)
      (λ e. let low : horizon < r.end = grind (arith, e) in
      let less : sum_by (charge_weight weight p) new + charge_weight weight p (charge_of r) ≡ sum_by (charge_weight weight p) old = sum_by_popped (charge_weight weight p) (charge_of r) old new (taken low) in
      let same : f r ≡ charge_weight weight p (charge_of r) = ap (λ b. cond (same_purse r.purse p) (cond b (weight r.end r.cost) 0) 0) e in
      omega (arith, whole, less, same))
      (λ e. let high : r.end ≤ horizon = grind (arith, e) in
      let none : f r ≡ 0 = ap (λ b. cond (same_purse r.purse p) (cond b (weight r.end r.cost) 0) 0) e ∙ nothing (same_purse r.purse p) in
      let same : sum_by (charge_weight weight p) new ≡ sum_by (charge_weight weight p) old = ap (sum_by (charge_weight weight p)) (idle high) in
      omega (arith, whole, none, same))
    where
      nothing : (b : Bool) → cond b zero zero ≡ zero
      nothing true = refl
      nothing false = refl

-- what is left to give back is still charged
pub left-covered : (horizon : ℕ) (old now : List Charge) (all left : List Refund) (weight : ℕ → ℕ → ℕ) (p : Purse) → refunded (above horizon weight) p all ≤ sum_by (charge_weight weight p) old
    → sum_by (charge_weight weight p) now + refunded (above horizon weight) p all ≡ sum_by (charge_weight weight p) old + refunded (above horizon weight) p left
    → refunded (above horizon weight) p left ≤ sum_by (charge_weight weight p) now
left-covered horizon old now all left weight p le e = omega (arith, le, e)

-- the refund at a place, and what is left behind it
pub item_at : (xs : List Refund) (i : ℕ) (x : Refund) → i < length xs → x ≡ get_or xs i x → drop i xs ≡ x ∷ drop (i + 1) xs
item_at xs i x l at = rw add-one (drop-cons xs i x l ∙ ap (λ y. y ∷ drop (suc i) xs) (sym at))
