-- What went and what is left, of all cells.
use Rattle.std.proofs.Common.{◌≡◌, ℕ, ◌<◌, ◌==◌, ◌%◌, ◌||◌, Bool, true, false, cond, List, [], ◌∷◌, ◌++◌, filter, arith, sym, refl, ap, ◌∙◌, subst}
use Rattle.std.specs.Prelude.{slice_get, Some}
use Rattle.s4_types.specs.declared.record.Record.{Record}
use Rattle.s4_types.specs.Base.{opened}
use Rattle.s4_types.specs.Kinds.{range_of}
use Rattle.s4_types.specs.Play.{InOrder}
use Rattle.s4_types.specs.Strike.{records_of}
use Rattle.s4_cuts.specs.Cut.{before, since}
use Rattle.s4_merge_laws.specs.Cells.{is_in_cell, records_in, requests_in, IsPlain}
use Rattle.s4_cuts.proofs.CutPlay.{split-at}
use Rattle.s4_merge_laws.proofs.Plain.{merged-plain}
use Rattle.s4_laws.proofs.Isolation.{records-strike}
use Rattle.s4_types.specs.Audit.{is_wide_record}
use Rattle.s4_calls.specs.declared.hand.Noted.{Noted}
use Rattle.s4_calls.specs.Logs.{ArePlaced, IsSublist, StandInCells, items_of}
use Rattle.s4_calls.proofs.Ones.{one-to-one, names_home, home_below}
use Rattle.s4_calls.proofs.Merges.{in_cells}
use Rattle.s4_call_laws.specs.Left.{AreLeftOf, BelongTogether, HaveRecords, IsOneLog, by_moment, whole}
use Rattle.s4_call_laws.proofs.Moments.{by_moment-same, before-order, whole-order}

module _ {A : Type 0} where
  filter_both : (p : A → Bool) (xs ys : List A) → filter p (xs ++ ys) ≡ filter p xs ++ filter p ys
  filter_both p [] ys = refl
  filter_both p (x ∷ xs) ys = more (p x) _ _ _ (filter_both p xs ys)
    where
      more : (b : Bool) (l m e : List A) → l ≡ m ++ e → cond b (x ∷ l) l ≡ cond b (x ∷ m) m ++ e
      more true l m e q = ap (λ l. x ∷ l) q
      more false l m e q = q

  -- two filters in either order
  filters : (p q : A → Bool) (xs : List A) → filter p (filter q xs) ≡ filter q (filter p xs)
  filters p q [] = refl
  filters p q (x ∷ xs) = more (p x) (q x) refl refl (filters p q xs)
    where
      more : (a b : Bool) → p x ≡ a → q x ≡ b → filter p (filter q xs) ≡ filter q (filter p xs)
          → filter p (cond b (x ∷ filter q xs) (filter q xs)) ≡ filter q (cond a (x ∷ filter p xs) (filter p xs))
      more true true is_a is_b i = ap (λ (b : Bool). cond b (x ∷ filter p (filter q xs)) (filter p (filter q xs))) is_a ∙ (ap (λ l. x ∷ l) i ∙ sym (ap (λ (b : Bool). cond b (x ∷ filter q (filter p xs)) (filter q (filter p xs))) is_b))
      more true false is_a is_b i = i ∙ sym (ap (λ (b : Bool). cond b (x ∷ filter q (filter p xs)) (filter q (filter p xs))) is_b)
      more false true is_a is_b i = ap (λ (b : Bool). cond b (x ∷ filter p (filter q xs)) (filter p (filter q xs))) is_a ∙ i
      more false false is_a is_b i = i

module _ {A : Type 0} where
  -- a filter that passes all that another does
  filter_in : (p q : A → Bool) → ((x : A) → p x ≡ true → q x ≡ true) → (xs : List A) → filter p (filter q xs) ≡ filter p xs
  filter_in p q in_it [] = refl
  filter_in p q in_it (x ∷ xs) = more (p x) (q x) refl refl (filter_in p q in_it xs)
    where
      more : (a b : Bool) → p x ≡ a → q x ≡ b → filter p (filter q xs) ≡ filter p xs → filter p (cond b (x ∷ filter q xs) (filter q xs)) ≡ cond a (x ∷ filter p xs) (filter p xs)
      more true true is_a is_b i = ap (λ (b : Bool). cond b (x ∷ filter p (filter q xs)) (filter p (filter q xs))) is_a ∙ ap (λ l. x ∷ l) i
      more true false is_a is_b i = absurd (differ (sym (in_it x is_a) ∙ is_b))
        where
          differ : true ≡ false → ⊥
          differ e = grind arith
      more false true is_a is_b i = ap (λ (b : Bool). cond b (x ∷ filter p (filter q xs)) (filter p (filter q xs))) is_a ∙ i
      more false false is_a is_b i = i

pub together : (n cut : ℕ) (log : List Record) → BelongTogether n cut log
together n cut log = record {
  home = λ k. filters (is_in_cell n k) _ (records_in n k log) ∙ ap (since cut) (filter_in (is_in_cell n k) (is_in_cell n k) (λ x e. e) log);
  wides = λ k. same k ∙ sym (same 0);
}
  where
    same : (k : ℕ) → filter is_wide_record (since cut (records_in n k log)) ≡ since cut (filter is_wide_record log)
    same k = filters is_wide_record _ (records_in n k log) ∙ ap (since cut) (filter_in is_wide_record (is_in_cell n k) (λ x e. ap (λ (b : Bool). b || (range_of x.caller x.request % n == k)) e) log)

pub one-log : (window n cut : ℕ) (log left : List Record) → 0 < n → AreLeftOf window n cut log left → IsOneLog window n cut log left
one-log window n cut log left some_cell parts = record {
  cells = cells;
  plain = plain;
  isolated = λ who other. records-strike window who (requests_in (whole cut log left)) other ∙ ap (records_of who) plain;
  rises = λ o. whole-order n cut log left some_cell parts.merge o;
}
  where
    cells : (k : ℕ) → k < n → records_in n k (whole cut log left) ≡ records_in n k log
    cells k lt =
        let went : records_in n k (before cut log) ≡ before cut (records_in n k log) = filters (is_in_cell n k) _ log in
        let ordered : InOrder 0 (records_in n k (before cut log)) = subst (InOrder 0) (sym went) (before-order cut 0 (records_in n k log) (parts.rises k lt)) in
        filter_both (is_in_cell n k) (by_moment (before cut log)) left
        ∙ (ap (λ l. l ++ records_in n k left) (by_moment-same (is_in_cell n k) 0 (before cut log) ordered ∙ went)
        ∙ (ap (λ l. before cut (records_in n k log) ++ l) (parts.merge k lt) ∙ sym (split-at cut 0 (records_in n k log) (parts.rises k lt))))

    plain : IsPlain (opened window) (whole cut log left)
    plain = merged-plain (opened window) n (whole cut log left) some_cell (λ k lt. subst (IsPlain (opened window)) (sym (cells k lt)) (parts.plain k lt))

abbrev range : Record → ℕ
range r = range_of r.caller r.request

module _ (window n cut : ℕ) (log : List (Noted Record)) (left : List Record) (some_cell : 0 < n) (placed : ArePlaced is_wide_record range n [] log) (parts : AreLeftOf window n cut (items_of log) left) where
  pub have-records : HaveRecords n (whole cut (items_of log) left) log
  have-records i c at =
      let inside : c.cell < n = subst (λ (k : ℕ). k < n) (sym (names_home is_wide_record range n [] log placed i c at)) (home_below is_wide_record range n c.item some_cell) in
      let same = (one-log window n cut (items_of log) left some_cell parts).cells c.cell inside in
      subst (λ (l : List Record). slice_get l c.place ≡ Some c.item) (sym same) ((one-to-one is_wide_record range n log placed).stands i c at)

  pub have-order : (calls : List (Noted Record)) → IsSublist calls log → StandInCells is_wide_record range n (whole cut (items_of log) left) calls
  have-order calls sub = in_cells is_wide_record range n log (whole cut (items_of log) left) some_cell placed (one-log window n cut (items_of log) left some_cell parts).cells calls sub
