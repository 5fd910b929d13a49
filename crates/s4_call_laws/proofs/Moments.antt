-- Records by moment, and moments that never go down.
use Rattle.std.proofs.Common.{◌≡◌, ℕ, ◌<◌, ◌≤◌, ◌%◌, Bool, true, false, cond, List, [], ◌∷◌, ◌++◌, filter, nat_le, nat_lt, le_of_lt, mod-lt, arith, sym, refl, ap, ◌∙◌, subst}
use Rattle.std.proofs.lemmas.Bool.{leb-true, leb-false}
use Rattle.s4_types.specs.declared.record.Record.{Record}
use Rattle.s4_types.specs.Kinds.{range_of}
use Rattle.s4_types.specs.Play.{InOrder, UpTo}
use Rattle.s4_types.proofs.Booleans.{by_test}
use Rattle.s4_types.proofs.InTime.{order-from}
use Rattle.s4_cuts.specs.Cut.{before, since}
use Rattle.s4_cuts.proofs.CutPlay.{is-before}
use Rattle.s4_cuts.proofs.Cutting.{before-up}
use Rattle.s4_merge_laws.specs.Cells.{records_in}
use Rattle.s4_merge_laws.proofs.OfCell.{own-in}
use Rattle.s4_call_laws.specs.Left.{insert_record, by_moment, whole}

-- WHAT A TEST PASSES OF THEM

module _ (p : Record → Bool) where
  insert-other : (r : Record) (xs : List Record) → p r ≡ false → filter p (insert_record r xs) ≡ filter p xs
  insert-other r [] other = ap (λ (b : Bool). cond b (r ∷ []) []) other
  insert-other r (x ∷ xs) other = more _ (insert-other r xs other)
    where
      more : (b : Bool) → filter p (insert_record r xs) ≡ filter p xs → filter p (cond b (r ∷ x ∷ xs) (x ∷ insert_record r xs)) ≡ filter p (x ∷ xs)
      more true i = ap (λ (b : Bool). cond b (r ∷ filter p (x ∷ xs)) (filter p (x ∷ xs))) other
      more false i = ap (λ (l : List Record). cond (p x) (x ∷ l) l) i

  -- a record passes only those of smaller moments, so none that the test passes too
  insert-own : (r : Record) (xs : List Record) → p r ≡ true → InOrder r.moment (filter p xs) → filter p (insert_record r xs) ≡ r ∷ filter p xs
  insert-own r [] own o = ap (λ (b : Bool). cond b (r ∷ []) []) own
  insert-own r (x ∷ xs) own o = by_test (nat_le r.moment x.moment)
      (λ e. ap (λ (b : Bool). filter p (cond b (r ∷ x ∷ xs) (x ∷ insert_record r xs))) e ∙ ap (λ (b : Bool). cond b (r ∷ filter p (x ∷ xs)) (filter p (x ∷ xs))) own)
      (λ e. ap (λ (b : Bool). filter p (cond b (r ∷ x ∷ xs) (x ∷ insert_record r xs))) e ∙ more (leb-false r.moment x.moment e) (p x) o (λ later. insert-own r xs own later))
    where
      more : x.moment < r.moment → (b : Bool) → InOrder r.moment (cond b (x ∷ filter p xs) (filter p xs))
          → (InOrder r.moment (filter p xs) → filter p (insert_record r xs) ≡ r ∷ filter p xs)
          → cond b (x ∷ filter p (insert_record r xs)) (filter p (insert_record r xs)) ≡ r ∷ cond b (x ∷ filter p xs) (filter p xs)
      more low true later i = absurd (omega (arith, low, later.0))
      more low false later i = i later

  pub by_moment-same : (from : ℕ) (xs : List Record) → InOrder from (filter p xs) → filter p (by_moment xs) ≡ filter p xs
  by_moment-same from [] o = refl
  by_moment-same from (r ∷ xs) o = more (p r) refl o (λ m later. by_moment-same m xs later)
    where
      more : (b : Bool) → p r ≡ b → InOrder from (cond b (r ∷ filter p xs) (filter p xs)) → ((m : ℕ) → InOrder m (filter p xs) → filter p (by_moment xs) ≡ filter p xs)
          → filter p (by_moment (r ∷ xs)) ≡ cond b (r ∷ filter p xs) (filter p xs)
      more true own later i =
          let same : filter p (by_moment xs) ≡ filter p xs = i r.moment later.1 in
          insert-own r (by_moment xs) own (subst (InOrder r.moment) (sym same) later.1) ∙ ap (λ (l : List Record). r ∷ l) same
      more false other later i = insert-other r (by_moment xs) other ∙ i from later

-- THEIR MOMENTS

insert-order : (from : ℕ) (r : Record) (xs : List Record) → from ≤ r.moment → InOrder from xs → InOrder from (insert_record r xs)
insert-order from r [] e o = (e, tt)
insert-order from r (x ∷ xs) e o = by_test (nat_le r.moment x.moment)
    (λ t. subst (λ (b : Bool). InOrder from (cond b (r ∷ x ∷ xs) (x ∷ insert_record r xs))) (sym t) (e, (leb-true r.moment x.moment t, o.1)))
    (λ t. subst (λ (b : Bool). InOrder from (cond b (r ∷ x ∷ xs) (x ∷ insert_record r xs))) (sym t) (o.0, insert-order x.moment r xs (le_of_lt (leb-false r.moment x.moment t)) o.1))

by_moment-order : (xs : List Record) → InOrder 0 (by_moment xs)
by_moment-order [] = tt
by_moment-order (r ∷ xs) = insert-order 0 r (by_moment xs) (omega arith) (by_moment-order xs)

insert-up : (t : ℕ) (r : Record) (xs : List Record) → r.moment ≤ t → UpTo t xs → UpTo t (insert_record r xs)
insert-up t r [] e u = (e, tt)
insert-up t r (x ∷ xs) e u = more _ (insert-up t r xs e u.1)
  where
    more : (b : Bool) → UpTo t (insert_record r xs) → UpTo t (cond b (r ∷ x ∷ xs) (x ∷ insert_record r xs))
    more true i = (e, u)
    more false i = (u.0, i)

by_moment-up : (t : ℕ) (xs : List Record) → UpTo t xs → UpTo t (by_moment xs)
by_moment-up t [] u = tt
by_moment-up t (r ∷ xs) u = insert-up t r (by_moment xs) u.0 (by_moment-up t xs u.1)

order-joined : (from c : ℕ) (xs ys : List Record) → from ≤ c → InOrder from xs → UpTo c xs → InOrder c ys → InOrder from (xs ++ ys)
order-joined from c [] [] e o u later = tt
order-joined from c [] (y ∷ ys) e o u later = (omega (arith, e, later.0), later.1)
order-joined from c (x ∷ xs) ys e o u later = (o.0, order-joined x.moment c xs ys u.0 o.1 u.1 later)

-- what is left begins at the cut or after it
since-first : (cut : ℕ) (h rest : List Record) (r : Record) → since cut h ≡ r ∷ rest → cut ≤ r.moment
since-first cut [] rest r e = cc
since-first cut (x ∷ h) rest r e = by_test (nat_le cut x.moment)
    (λ t.
    let same : x ∷ since cut h ≡ r ∷ rest = sym (ap (λ (b : Bool). cond b (x ∷ since cut h) (since cut h)) t) ∙ e in
    let is : x ≡ r = cc in
    subst (λ (y : Record). cut ≤ y.moment) is (leb-true cut x.moment t))
    (λ t. since-first cut h rest r (sym (ap (λ (b : Bool). cond b (x ∷ since cut h) (since cut h)) t) ∙ e))

left-order : (n cut : ℕ) (log left : List Record) → 0 < n → ((k : ℕ) → k < n → records_in n k left ≡ since cut (records_in n k log)) → InOrder 0 left → InOrder cut left
left-order n cut log [] some_cell merge o = tt
left-order n cut log (r ∷ rest) some_cell merge o =
    let home : ℕ = range_of r.caller r.request % n in
    let first : records_in n home (r ∷ rest) ≡ r ∷ records_in n home rest = ap (λ (b : Bool). cond b (r ∷ records_in n home rest) (records_in n home rest)) (own-in n home r refl) in
    (since-first cut (records_in n home log) (records_in n home rest) r (sym (merge home (mod-lt (range_of r.caller r.request) some_cell)) ∙ first), o.1)

pub whole-order : (n cut : ℕ) (log left : List Record) → 0 < n → ((k : ℕ) → k < n → records_in n k left ≡ since cut (records_in n k log)) → InOrder 0 left → InOrder 0 (whole cut log left)
whole-order n cut log left some_cell merge o =
    order-joined 0 cut (by_moment (before cut log)) left (omega arith) (by_moment-order (before cut log))
    (by_moment-up cut (before cut log) (before-up cut (before cut log) (is-before cut log))) (left-order n cut log left some_cell merge o)

-- what went of one cell is in order
pub before-order : (cut from : ℕ) (h : List Record) → InOrder from h → InOrder from (before cut h)
before-order cut from [] o = tt
before-order cut from (r ∷ h) o = more (nat_lt r.moment cut) (before-order cut r.moment h o.1)
  where
    more : (b : Bool) → InOrder r.moment (before cut h) → InOrder from (cond b (r ∷ before cut h) (before cut h))
    more true i = (o.0, i)
    more false i = order-from r.moment from (before cut h) o.0 i
