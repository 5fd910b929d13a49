-- What the ledger's charges weigh, as it is advanced and charged.
use Rattle.std.proofs.Common.{length, Option, None, subst, sym, ◌≡◌, ℕ, zero, ◌+◌, ◌<◌, ◌≤◌, Bool, true, false, cond, Some, List, [], ◌∷◌, refl, ◌∙◌, ap, arith}
use Rattle.std.specs.Prelude.{nat_lt, sum_by, if◌then◌else◌}
use Rattle.std.specs.List.Sorted.{IsPermutation}
use Rattle.std.proofs.lemmas.List.Sums.{sum_by-cons}
use Rattle.std.proofs.lemmas.List.Sorted.{sum_by_pushed}
use Rattle.s4_types.specs.declared.object.Purse.{Purse}
use Rattle.s4_types.specs.declared.record.Record.{Record}
use Rattle.s4_types.specs.Base.{Base}
use Rattle.s4_types.specs.Names.{same_purse}
use Rattle.s4_types.proofs.Booleans.{by_test}
use Rattle.s4_ledger.specs.declared.charge.Charge.{Charge}
use Rattle.s4_ledger.specs.declared.accounts.Payer.{Payer}
use Rattle.s4_ledger.specs.Books.{Books, spending, lasting}
use Rattle.s4_ledger.specs.Laws.{sum_by-lasting}
use Rattle.s4_state.specs.Weights.{purse_weight}
use Rattle.s4_drive.specs.Stands.{charge_weight, above, charged, Pays, IsReady, paying}

-- ADVANCING

-- two tests in either order
swapped : (a b : Bool) (x : ℕ) → cond a (cond b x 0) 0 ≡ cond b (cond a x 0) 0
swapped true true x = refl
swapped true false x = refl
swapped false true x = refl
swapped false false x = refl

-- what lasts weighs as much as all, by the weight of what is above
lasting-weight : (horizon : ℕ) (weight : ℕ → ℕ → ℕ) (p : Purse) (charges : List Charge) → sum_by (charge_weight weight p) (lasting horizon charges) ≡ sum_by (charge_weight (above horizon weight) p) charges
lasting-weight horizon weight p charges =
    sum_by-lasting (charge_weight weight p) horizon charges
    ∙ ap (λ f. sum_by f charges) (λ i c. swapped (nat_lt horizon c.end) (same_purse c.purse p) (weight c.end c.cost) i)

-- what is above a later horizon is above an earlier one
above-above : (early late : ℕ) (weight : ℕ → ℕ → ℕ) → early ≤ late → above early (above late weight) ≡ above late weight
above-above early late weight le = λ i end cost. step end cost (nat_lt late end) (nat_lt early end) refl refl i
  where
    step : (end cost : ℕ) (a b : Bool) → nat_lt late end ≡ a → nat_lt early end ≡ b → cond b (cond a (weight end cost) 0) 0 ≡ cond a (weight end cost) 0
    step end cost true true e f = refl
    step end cost true false e f = absurd (grind (arith, le, e, f))
    step end cost false true e f = refl
    step end cost false false e f = refl

-- the ledger is advanced
pub advanced : (early late : ℕ) (base : Base) (h : List Record) (charges : List Charge) → ((weight : ℕ → ℕ → ℕ) (p : Purse) → sum_by (charge_weight weight p) charges ≡ purse_weight base (above early weight) p h) → early ≤ late
    → (weight : ℕ → ℕ → ℕ) (p : Purse) → sum_by (charge_weight weight p) (lasting late charges) ≡ purse_weight base (above late weight) p h
advanced early late base h charges stand le weight p = lasting-weight late weight p charges ∙ stand (above late weight) p ∙ ap (λ w. purse_weight base w p h) (above-above early late weight le)

-- CHARGING

-- a charge of so much at the moment is added, where it counts
abbrev pub Adds : ℕ → ℕ → Purse → ℕ → List Charge → List Charge → Type 0
Adds horizon m purse cost old new = (weight : ℕ → ℕ → ℕ) (p : Purse)
    → sum_by (charge_weight weight p) new ≡ sum_by (charge_weight weight p) old + (if same_purse purse p then above horizon weight m cost else 0)

nothing : (b : Bool) → cond b zero zero ≡ zero
nothing true = refl
nothing false = refl

pub adds : (horizon m : ℕ) (purse : Purse) (cost : ℕ) (old new : List Charge)
    → (horizon < m → IsPermutation (record { purse = purse; end = m; cost = cost } ∷ old) new) → (m ≤ horizon → new ≡ old) → Adds horizon m purse cost old new
adds horizon m purse cost old new counts idle weight p = by_test (nat_lt horizon m)
    (λ e. let low : horizon < m = grind (arith, e) in
    let c : Charge = record { purse = purse; end = m; cost = cost } in
    let more : sum_by (charge_weight weight p) new ≡ charge_weight weight p c + sum_by (charge_weight weight p) old = sum_by_pushed (charge_weight weight p) c old new (counts low) in
    let whole : cond (same_purse purse p) (above horizon weight m cost) 0 ≡ charge_weight weight p c = ap (λ b. cond (same_purse purse p) (cond b (weight m cost) 0) 0) e in
    omega (arith, more, whole))
    (λ e. let high : m ≤ horizon = grind (arith, e) in
    let none : cond (same_purse purse p) (above horizon weight m cost) 0 ≡ 0 = ap (λ b. cond (same_purse purse p) (cond b (weight m cost) 0) 0) e ∙ nothing (same_purse purse p) in
    let same : sum_by (charge_weight weight p) new ≡ sum_by (charge_weight weight p) old = ap (sum_by (charge_weight weight p)) (idle high) in
    omega (arith, none, same))

-- it adds no more than it is to what is spent
pub spends : (horizon m : ℕ) (purse : Purse) (cost : ℕ) (old new : List Charge) → Adds horizon m purse cost old new → spending purse new ≤ spending purse old + cost
spends horizon m purse cost old new more =
    let whole : spending purse new ≡ spending purse old + cond (same_purse purse purse) (cond (nat_lt horizon m) cost 0) 0 = more (λ end cost. cost) purse in
    let small = at-most (same_purse purse purse) (nat_lt horizon m) cost in
    omega (arith, whole, small)
  where
    at-most : (a b : Bool) (x : ℕ) → cond a (cond b x 0) 0 ≤ x
    at-most true true x = omega arith
    at-most true false x = omega arith
    at-most false b x = omega arith

pub charged-one : (horizon m : ℕ) (purse : Purse) (cost : ℕ) (old new : List Charge) → Adds horizon m purse cost old new
    → (weight : ℕ → ℕ → ℕ) (p : Purse) → sum_by (charge_weight weight p) new ≡ sum_by (charge_weight weight p) old + charged (above horizon weight) m (Some purse) (cost ∷ []) p
charged-one horizon m purse cost old new more weight p =
    let whole = more weight p in
    let one : sum_by (above horizon weight m) (cost ∷ []) ≡ above horizon weight m cost + 0 = sum_by-cons (above horizon weight m) cost [] in
    let same : cond (same_purse purse p) (sum_by (above horizon weight m) (cost ∷ [])) 0 ≡ cond (same_purse purse p) (above horizon weight m cost) 0 = ap (λ x. cond (same_purse purse p) x 0) (omega (arith, one)) in
    omega (arith, whole, same)

pub charged-three : (horizon m : ℕ) (purse : Purse) (a b c : ℕ) (old one two new : List Charge) → Adds horizon m purse a old one → Adds horizon m purse b one two → Adds horizon m purse c two new
    → (weight : ℕ → ℕ → ℕ) (p : Purse) → sum_by (charge_weight weight p) new ≡ sum_by (charge_weight weight p) old + charged (above horizon weight) m (Some purse) (a ∷ b ∷ c ∷ []) p
charged-three horizon m purse a b c old one two new first second third weight p =
    let f : ℕ → ℕ = above horizon weight m in
    let x = first weight p in
    let y = second weight p in
    let z = third weight p in
    let abc : sum_by f (a ∷ b ∷ c ∷ []) ≡ f a + sum_by f (b ∷ c ∷ []) = sum_by-cons f a (b ∷ c ∷ []) in
    let bc : sum_by f (b ∷ c ∷ []) ≡ f b + sum_by f (c ∷ []) = sum_by-cons f b (c ∷ []) in
    let last : sum_by f (c ∷ []) ≡ f c + 0 = sum_by-cons f c [] in
    let all = gathered (same_purse purse p) (f a) (f b) (f c) (sum_by f (a ∷ b ∷ c ∷ [])) (omega (arith, abc, bc, last)) in
    omega (arith, x, y, z, all)
  where
    gathered : (test : Bool) (x y z all : ℕ) → all ≡ x + y + z → cond test all 0 ≡ cond test x 0 + cond test y 0 + cond test z 0
    gathered true x y z all e = omega (arith, e)
    gathered false x y z all e = refl

-- WHO PAYS

pub pays-one : (payer : Payer) (told : Option Payer) (purse : Option Purse) (costs : List ℕ) (ledger : Books) → told ≡ Some payer → Pays told purse costs ledger → (purse ≡ Some payer.purse) × IsReady payer costs ledger
pays-one payer told purse costs ledger is pays = subst (λ o. Pays o purse costs ledger) is pays

-- what is charged to who pays is charged to the purse
pub paid : (f : ℕ → ℕ → ℕ) (m : ℕ) (payer : Option Payer) (purse : Option Purse) (costs : List ℕ) (ledger : Books) → Pays payer purse costs ledger → (p : Purse) → charged f m (paying payer) costs p ≡ charged f m purse costs p
paid f m (Some payer) purse costs ledger pays p = ap (λ o. charged f m o costs p) (sym pays.0)
paid f m None None costs ledger pays p = refl
paid f m None (Some q) [] ledger pays p = sym (nothing (same_purse q p))
paid f m None (Some q) (cost ∷ costs) ledger pays p = let none : length (cost ∷ costs) ≡ 0 = pays q refl in absurd (omega (arith, none))
