-- A base that follows records goes on from one to the next.
use Rattle.std.proofs.Common.{◌≡◌, ℕ, ◌+◌, ◌≤◌, max, List, [], ◌∷◌, refl, sym, ◌∙◌, ap, subst, drop, arith, add-zero, le_refl}
use Rattle.s4_types.specs.declared.record.Record.{Record}
use Rattle.s4_types.specs.Base.{Base}
use Rattle.s4_types.specs.Play.{InOrder, UpTo}
use Rattle.s4_laws.specs.Bases.{IsBase}
use Rattle.s4_cuts.specs.Cut.{left}
use Rattle.s4_cuts.proofs.CutPlay.{left-base}
use Rattle.s4_cuts.proofs.Cutting.{standing-kept, object-kept, left-step}
use Rattle.s4_base.specs.Changes.{passed, CanFollow, CanFollowAll}
use Rattle.s4_base.specs.Through.{GoesOn}
use Rattle.s4_base.proofs.OneName.{AllBound, filter-all}
use Rattle.s4_base.proofs.SameBase.{same_base}
use mathlib.Core.Path.{fun_ext}
use Rattle.std.specs.Prelude.{filter, is_some}

-- NO RECORDS

-- no records leave all but the cut as it is
pub leaves-none : (base : Base) → AllBound base → (c : ℕ) → left base c [] ≡ passed c 0 base
leaves-none base bound c = same_base (left base c []) (passed c 0 base) (record {
  window = refl;
  floor = refl;
  cut = refl;
  count = refl;
  object = λ o. object-kept (base.object o);
  names = λ p. ap (λ test. filter test (base.names p)) (fun_ext (λ n. ap is_some (standing-kept (base.binding p n)))) ∙ filter-all (λ n. is_some (base.binding p n)) (base.names p) (bound p);
  binding = λ p n. standing-kept (base.binding p n);
  drawn = λ p. add-zero (base.drawn p);
  budget = λ p. refl;
})

-- ONE RECORD AFTER THE OTHER

pub goes-first : (base : Base) (c : ℕ) (h : List Record) → IsBase base → InOrder base.cut h → UpTo c h → CanFollowAll base h → GoesOn base base c h 0
goes-first base c h is order last fits = record { counted = sym (add-zero base.count); is_base = is; order = order; last = last; fits = fits; same = refl }

-- the base stayed as it was
pub goes-same : (old now next : Base) (c : ℕ) (h : List Record) (k : ℕ) → next ≡ now → GoesOn old now c h k → GoesOn old next c h k
goes-same old now next c h k e g = subst (λ base. GoesOn old base c h k) (sym e) g

module _ (old now : Base) (c : ℕ) (h : List Record) (k : ℕ) (g : GoesOn old now c h k) (r : Record) (next : drop k h ≡ r ∷ drop (k + 1) h) where
  order : InOrder now.cut (r ∷ drop (k + 1) h)
  order = subst (λ rest. InOrder now.cut rest) next g.order

  last : UpTo c (r ∷ drop (k + 1) h)
  last = subst (λ rest. UpTo c rest) next g.last

  fits : CanFollowAll now (r ∷ drop (k + 1) h)
  fits = subst (λ rest. CanFollowAll now rest) next g.fits

  pub next-fits : CanFollow now r
  next-fits = fits.0

  goes-left : GoesOn old (left now r.moment (r ∷ [])) c h (k + 1)
  goes-left =
      let cut : r.moment ≡ max now.cut r.moment = let low : now.cut ≤ r.moment = order.0 in omega (arith, low) in
      record {
        counted = let had : now.count ≡ old.count + k = g.counted in omega (arith, had);
        is_base = left-base now g.is_base r.moment order.0 (r ∷ []) (le_refl r.moment, tt);
        order = subst (λ n. InOrder n (drop (k + 1) h)) cut order.1;
        last = last.1;
        fits = fits.1;
        same = sym (left-step now g.is_base c r (drop (k + 1) h) order.0 last.0) ∙ ap (left now c) (sym next) ∙ g.same;
      }

  pub goes-next : (after : Base) → after ≡ left now r.moment (r ∷ []) → GoesOn old after c h (k + 1)
  goes-next after e = goes-same old (left now r.moment (r ∷ [])) after c h (k + 1) e goes-left

-- all records were followed
pub goes-done : (old now : Base) → AllBound now → (c : ℕ) (h : List Record) (k : ℕ) → GoesOn old now c h k → drop k h ≡ [] → passed c 0 now ≡ left old c h
goes-done old now bound c h k g done = sym (leaves-none now bound c) ∙ ap (left now c) (sym done) ∙ g.same
