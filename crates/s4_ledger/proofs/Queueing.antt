-- What an edit of the queue does to the charges that count.
use Rattle.std.proofs.Common.{◌≡◌, ℕ, zero, suc, ◌+◌, ◌-◌, ◌<◌, ◌≤◌, Bool, true, false, cond, List, [], ◌∷◌, ◌++◌, length, map, take, drop, refl, sym, ◌∙◌, ap, subst, arith, get_or, append_assoc}
use Rattle.std.specs.Prelude.{Contains, Result, Ok, Err, OnOk, Option, Some, None, IfSome, nat_lt, ◌&&◌, ◌==◌, slice_set, insert}
use Rattle.std.specs.List.{All}
use Rattle.std.specs.List.Sorted.{IsPermutation, IsPartitionedBy}
use Rattle.std.specs.Ordering.{nat_cmp, is_le, is_lt, is_gt}
use Rattle.std.specs.declared.cmp.Ordering.TheVariants.{Less, Equal, Greater}
use Rattle.std.proofs.lemmas.Bool.{eqb-true, eq-eqb, lt-ltb, ltb-true, le-ltb}
use Rattle.std.proofs.lemmas.List.{take-append-drop, set_split, set-get_or, get_or-map, map-append}
use Rattle.std.proofs.lemmas.List.Edits.{get_or-insert_below, get_or-insert_at, get_or-insert_above, length-insert}
use Rattle.std.proofs.lemmas.List.Elements.{All-head, All-tail, Contains-get_or}
use Rattle.std.proofs.lemmas.List.Sums.{sum_by-append}
use Rattle.std.proofs.lemmas.List.Sorted.{IsPermutation-sym, IsPermutation-middle, IsPermutation-map, IsPermutation-insert, Contains-permutation}
use Rattle.s4_types.specs.declared.object.Purse.{Purse}
use Rattle.s4_types.specs.Names.{same_purse}
use Rattle.s4_types.proofs.Booleans.{both, by_test, not_both}
use Rattle.s4_types.proofs.SameNames.{purse_is, purse_self}
use Rattle.s4_ledger.specs.declared.accounts.Payer.{Payer}
use Rattle.s4_ledger.specs.declared.charge.Charge.{Charge}
use Rattle.s4_ledger.specs.declared.charge.Entry.{Entry}
use Rattle.s4_ledger.specs.Books.{share, spending, lasting}
use Rattle.s4_ledger.specs.Queue.{charge_of, counted, charges_of, payers_of, counts_as, IsInOrder}
use Rattle.s4_ledger.proofs.Placing.{map-set_same, some_is}

-- THE CHARGES OF AN ENTRY

pub counted-one : (e : Entry) → 0 < e.cost → counted e ≡ charge_of e ∷ []
counted-one e l = ap (λ b. cond b (charge_of e ∷ []) []) (lt-ltb 0 e.cost l)

pub charges-append : (xs ys : List Entry) → charges_of (xs ++ ys) ≡ charges_of xs ++ charges_of ys
charges-append [] ys = refl
charges-append (x ∷ xs) ys = ap (λ cs. counted x ++ cs) (charges-append xs ys) ∙ sym (append_assoc (counted x) (charges_of xs) (charges_of ys))

charges-middle : (xs : List Entry) (e : Entry) (ys : List Entry) → 0 < e.cost → charges_of (xs ++ e ∷ ys) ≡ charges_of xs ++ charge_of e ∷ charges_of ys
charges-middle xs e ys l = charges-append xs (e ∷ ys) ∙ ap (λ cs. charges_of xs ++ (cs ++ charges_of ys)) (counted-one e l)

-- an entry more
module _ (xs : List Entry) (i : ℕ) (e : Entry) where
  pub charges-insert : 0 < e.cost → IsPermutation (charge_of e ∷ charges_of xs) (charges_of (insert xs i e))
  charges-insert l =
      let whole : charges_of xs ≡ charges_of (take i xs) ++ charges_of (drop i xs) = ap charges_of (sym (take-append-drop i xs)) ∙ charges-append (take i xs) (drop i xs) in
      subst (λ cs. IsPermutation (charge_of e ∷ cs) (charges_of (insert xs i e))) (sym whole)
      (subst (IsPermutation (charge_of e ∷ (charges_of (take i xs) ++ charges_of (drop i xs)))) (sym (charges-middle (take i xs) e (drop i xs) l))
      (IsPermutation-sym _ _ (IsPermutation-middle (charges_of (take i xs)) (charge_of e) (charges_of (drop i xs)))))

  pub payers-insert : (p : Payer) → Contains (payers_of (insert xs i e)) p → Contains (e.payer ∷ payers_of xs) p
  payers-insert p has =
      Contains-permutation (payers_of (insert xs i e)) (e.payer ∷ payers_of xs) p
      (IsPermutation-sym _ _ (IsPermutation-map (λ x. x.payer) (e ∷ xs) (insert xs i e) (IsPermutation-insert xs i e))) has

-- AN ENTRY THAT COUNTS AS A CHARGE

same_entry : (c : Charge) (e : Entry) → counts_as c e ≡ true → (0 < e.cost) × (charge_of e ≡ c)
same_entry c e is =
    let first = both (nat_lt 0 e.cost) ((e.end == c.end) && (same_purse e.payer.purse c.purse && (e.cost == c.cost))) is in
    let second = both (e.end == c.end) (same_purse e.payer.purse c.purse && (e.cost == c.cost)) first.1 in
    let third = both (same_purse e.payer.purse c.purse) (e.cost == c.cost) second.1 in
    let end : e.end ≡ c.end = eqb-true e.end c.end second.0 in
    let purse : e.payer.purse ≡ c.purse = purse_is e.payer.purse c.purse third.0 in
    let cost : e.cost ≡ c.cost = eqb-true e.cost c.cost third.1 in
    (ltb-true 0 e.cost first.0, λ i. record { end = end i; purse = purse i; cost = cost i })

pub counts-itself : (e : Entry) → 0 < e.cost → counts_as (charge_of e) e ≡ true
counts-itself e l =
    ap (λ b. b && ((e.end == e.end) && (same_purse e.payer.purse e.payer.purse && (e.cost == e.cost)))) (lt-ltb 0 e.cost l)
    ∙ ap (λ b. b && (same_purse e.payer.purse e.payer.purse && (e.cost == e.cost))) (eq-eqb e.end e.end refl)
    ∙ ap (λ b. b && (e.cost == e.cost)) (purse_self e.payer.purse) ∙ eq-eqb e.cost e.cost refl

pub other_end : (c : Charge) (e : Entry) → (e.end ≡ c.end → ⊥) → counts_as c e ≡ false
other_end c e other = by_test (counts_as c e)
    (λ t. absurd (other (ap (λ (x : Charge). x.end) (same_entry c e t).1)))
    (λ f. f)

-- one that was forgiven
abbrev pub forgiven : Entry → Entry
forgiven e = record { end = e.end; payer = e.payer; cost = 0 }

module _ (c : Charge) (xs : List Entry) (i : ℕ) (d : Entry) (within : i < length xs) (is : counts_as c (get_or xs i d) ≡ true) where
  split : xs ≡ take i xs ++ get_or xs i d ∷ drop (suc i) xs
  split = sym (set-get_or xs i d) ∙ set_split xs i (get_or xs i d) within

  before : charges_of xs ≡ charges_of (take i xs) ++ c ∷ charges_of (drop (suc i) xs)
  before = ap charges_of split ∙ charges-middle (take i xs) (get_or xs i d) (drop (suc i) xs) (same_entry c (get_or xs i d) is).0
      ∙ ap (λ x. charges_of (take i xs) ++ x ∷ charges_of (drop (suc i) xs)) (same_entry c (get_or xs i d) is).1

  pub charges-forgive : (e : Entry) → e ≡ forgiven (get_or xs i d) → IsPermutation (charges_of xs) (c ∷ charges_of (slice_set xs i e))
  charges-forgive e none =
      let after : charges_of (slice_set xs i e) ≡ charges_of (take i xs) ++ charges_of (drop (suc i) xs) =
      ap charges_of (set_split xs i e within) ∙ charges-append (take i xs) (e ∷ drop (suc i) xs)
      ∙ ap (λ (x : Entry). charges_of (take i xs) ++ (counted x ++ charges_of (drop (suc i) xs))) none in
      subst (λ cs. IsPermutation cs (c ∷ charges_of (slice_set xs i e))) (sym before)
      (subst (λ cs. IsPermutation (charges_of (take i xs) ++ c ∷ charges_of (drop (suc i) xs)) (c ∷ cs)) (sym after)
      (IsPermutation-middle (charges_of (take i xs)) c (charges_of (drop (suc i) xs))))

  pub charge-there : Contains (charges_of xs) c
  charge-there = Contains-permutation (c ∷ charges_of (slice_set xs i (forgiven (get_or xs i d)))) (charges_of xs) c
      (IsPermutation-sym _ _ (charges-forgive (forgiven (get_or xs i d)) refl)) (0, omega arith, refl)

  pub payers-forgive : (e : Entry) → e ≡ forgiven (get_or xs i d) → payers_of (slice_set xs i e) ≡ payers_of xs
  payers-forgive e none = map-set_same (λ x. x.payer) xs i e d within (ap (λ (x : Entry). x.payer) none)

  pub order-forgive : (e : Entry) → e ≡ forgiven (get_or xs i d) → IsInOrder xs → IsInOrder (slice_set xs i e)
  order-forgive e none rises a b x le lt =
      let long : length (slice_set xs i e) ≡ length xs = Rattle.std.proofs.lemmas.List.length-set xs i e in
      let ends : map (λ y. y.end) (slice_set xs i e) ≡ map (λ y. y.end) xs = map-set_same (λ y. y.end) xs i e d within (ap (λ (y : Entry). y.end) none) in
      let at : (k : ℕ) → k < length xs → (get_or (slice_set xs i e) k x).end ≡ (get_or xs k x).end = λ k l.
      sym (get_or-map (λ y. y.end) (slice_set xs i e) k x 0 (omega (arith, long, l))) ∙ ap (λ ns. get_or ns k 0) ends ∙ get_or-map (λ y. y.end) xs k x 0 l in
      let first = at a (omega (arith, le, lt, long)) in
      let second = at b (omega (arith, lt, long)) in
      let low = rises a b x le (omega (arith, lt, long)) in
      omega (arith, first, second, low)

  pub payer-there : Contains (payers_of xs) (get_or xs i d).payer
  payer-there =
      let long : length (payers_of xs) ≡ length xs = Rattle.std.proofs.lemmas.List.length-map xs (λ x. x.payer) in
      subst (Contains (payers_of xs)) (get_or-map (λ x. x.payer) xs i d (get_or xs i d).payer within)
      (Contains-get_or (payers_of xs) i (get_or xs i d).payer (omega (arith, long, within)))

  pub payer-purse : (get_or xs i d).payer.purse ≡ c.purse
  payer-purse = ap (λ (x : Charge). x.purse) (same_entry c (get_or xs i d) is).1

-- where no entry counts as the charge it isn't there
pub charge-missing : (c : Charge) (xs : List Entry) → All (λ e. counts_as c e ≡ false) xs → Contains (charges_of xs) c → ⊥
charge-missing c [] none has = absurd (omega (arith, has.1))
charge-missing c (x ∷ xs) none has =
    let rest = charge-missing c xs (All-tail (λ e. counts_as c e ≡ false) x xs none) in
    by_test (nat_lt 0 x.cost)
    (λ t. first (subst (λ cs. Contains (cs ++ charges_of xs) c) (ap (λ b. cond b (charge_of x ∷ []) []) t) has) rest (ltb-true 0 x.cost t))
    (λ f. rest (subst (λ cs. Contains (cs ++ charges_of xs) c) (ap (λ b. cond b (charge_of x ∷ []) []) f) has))
  where
    first : Contains (charge_of x ∷ charges_of xs) c → (Contains (charges_of xs) c → ⊥) → 0 < x.cost → ⊥
    first (zero, within, here) rest l = not_both (counts_as c x) (ap (λ k. counts_as k x) (sym here) ∙ counts-itself x l) (All-head (λ e. counts_as c e ≡ false) x xs none)
    first (suc k, within, here) rest l = rest (k, omega arith, here)

-- THE ORDER

by_place : {A : Type 0} (a i : ℕ) → (a < i → A) → (a ≡ i → A) → ((k : ℕ) → a ≡ k + 1 → i ≤ k → A) → A
by_place a i low same high = by_test (nat_lt a i)
    (λ t. low (ltb-true a i t))
    (λ f. by_test (nat_lt i a)
    (λ t. let above = ltb-true i a t in high (a - 1) (omega (arith, above)) (omega (arith, above)))
    (λ g. let le : i ≤ a = grind (arith, f) in let ge : a ≤ i = grind (arith, g) in same (omega (arith, le, ge))))

module _ (xs : List Entry) (i : ℕ) (e : Entry) (within : i ≤ length xs) (rises : IsInOrder xs)
    (low : (k : ℕ) (d : Entry) → k < i → (get_or xs k d).end ≤ e.end) (high : (k : ℕ) (d : Entry) → i ≤ k → k < length xs → e.end ≤ (get_or xs k d).end) where
  under : (a : ℕ) (d : Entry) → a < i → (get_or (insert xs i e) a d).end ≡ (get_or xs a d).end
  under a d l = ap (λ (x : Entry). x.end) (get_or-insert_below xs i e d a l within)

  exact : (a : ℕ) (d : Entry) → a ≡ i → (get_or (insert xs i e) a d).end ≡ e.end
  exact a d s = ap (λ k. (get_or (insert xs i e) k d).end) s ∙ ap (λ (x : Entry). x.end) (get_or-insert_at xs i e d within)

  over : (a : ℕ) (d : Entry) (k : ℕ) → a ≡ k + 1 → i ≤ k → (get_or (insert xs i e) a d).end ≡ (get_or xs k d).end
  over a d k s l = ap (λ n. (get_or (insert xs i e) n d).end) s ∙ ap (λ (x : Entry). x.end) (get_or-insert_above xs i e d k l within)

  pub order-insert : IsInOrder (insert xs i e)
  order-insert a b d le lt =
      let long = length-insert xs i e within in
      by_place a i
      (λ l. let x = under a d l in
      by_place b i
      (λ m. let y = under b d m in let z = rises a b d le (omega (arith, m, within)) in omega (arith, x, y, z))
      (λ m. let y = exact b d m in let z = low a d l in omega (arith, x, y, z))
      (λ k s m. let y = over b d k s m in let z = rises a k d (omega (arith, l, m)) (omega (arith, s, lt, long)) in omega (arith, x, y, z)))
      (λ l. let x = exact a d l in
      by_place b i
      (λ m. absurd (omega (arith, l, m, le)))
      (λ m. let y = exact b d m in omega (arith, x, y))
      (λ k s m. let y = over b d k s m in let z = high k d m (omega (arith, s, lt, long)) in omega (arith, x, y, z)))
      (λ j r l. let x = over a d j r l in
      by_place b i
      (λ m. absurd (omega (arith, l, m, le, r)))
      (λ m. absurd (omega (arith, l, m, le, r)))
      (λ k s m. let y = over b d k s m in let z = rises j k d (omega (arith, le, r, s)) (omega (arith, s, lt, long)) in omega (arith, x, y, z)))

pub order-tail : (x : Entry) (xs : List Entry) → IsInOrder (x ∷ xs) → IsInOrder xs
order-tail x xs rises a b d le lt = rises (suc a) (suc b) d (omega (arith, le)) (omega (arith, lt))

-- all entries of a queue end after its first one does
pub all_later : (horizon : ℕ) (x : Entry) (xs : List Entry) → IsInOrder (x ∷ xs) → horizon < x.end → All (λ e. horizon < e.end) (x ∷ xs)
all_later horizon x xs rises later k d l = let z = rises 0 k d (omega arith) l in omega (arith, z, later)

-- WHAT ENDS

-- an entry that has ended counts no longer
pub lasting-ended : (horizon : ℕ) (e : Entry) (xs : List Entry) → e.end ≤ horizon → lasting horizon (charges_of (e ∷ xs)) ≡ lasting horizon (charges_of xs)
lasting-ended horizon e xs past = by_test (nat_lt 0 e.cost)
    (λ t. ap (λ b. lasting horizon (cond b (charge_of e ∷ []) [] ++ charges_of xs)) t
    ∙ ap (λ b. cond b (charge_of e ∷ lasting horizon (charges_of xs)) (lasting horizon (charges_of xs))) (le-ltb horizon e.end past))
    (λ f. ap (λ b. lasting horizon (cond b (charge_of e ∷ []) [] ++ charges_of xs)) f)

pub lasting-later : (horizon : ℕ) (xs : List Entry) → All (λ e. horizon < e.end) xs → lasting horizon (charges_of xs) ≡ charges_of xs
lasting-later horizon [] later = refl
lasting-later horizon (e ∷ xs) later =
    let rest = lasting-later horizon xs (All-tail (λ x. horizon < x.end) e xs later) in
    by_test (nat_lt 0 e.cost)
    (λ t. ap (λ b. lasting horizon (cond b (charge_of e ∷ []) [] ++ charges_of xs)) t
    ∙ ap (λ b. cond b (charge_of e ∷ lasting horizon (charges_of xs)) (lasting horizon (charges_of xs))) (lt-ltb horizon e.end (All-head (λ x. horizon < x.end) e xs later))
    ∙ ap (λ cs. charge_of e ∷ cs) rest ∙ sym (ap (λ b. cond b (charge_of e ∷ []) [] ++ charges_of xs) t))
    (λ f. ap (λ b. lasting horizon (cond b (charge_of e ∷ []) [] ++ charges_of xs)) f ∙ rest ∙ sym (ap (λ b. cond b (charge_of e ∷ []) [] ++ charges_of xs) f))

-- what an entry costs its purse
pub spending-entry : (p : Purse) (e : Entry) (xs : List Entry) → spending p (charges_of (e ∷ xs)) ≡ cond (same_purse e.payer.purse p) e.cost 0 + spending p (charges_of xs)
spending-entry p e xs = sum_by-append (share p) (counted e) (charges_of xs) ∙ ap (λ n. n + spending p (charges_of xs)) own
  where
    none : (b : Bool) (n : ℕ) → n ≡ 0 → 0 ≡ cond b n 0
    none true n is = sym is
    none false n is = refl

    own : spending p (counted e) ≡ cond (same_purse e.payer.purse p) e.cost 0
    own = by_test (nat_lt 0 e.cost)
        (λ t. ap (λ b. spending p (cond b (charge_of e ∷ []) [])) t ∙ Rattle.std.proofs.lemmas.List.Sums.sum_by-cons (share p) (charge_of e) [] ∙ omega arith)
        (λ f. ap (λ b. spending p (cond b (charge_of e ∷ []) [])) f ∙ none (same_purse e.payer.purse p) e.cost (let low : e.cost ≤ 0 = grind (arith, f) in omega (arith, low)))

-- TESTS OF ENDS

pub from_le : (a b : ℕ) → is_le (nat_cmp a b) ≡ true → a ≤ b
from_le a b e = grind (arith, e)

pub from_lt : (a b : ℕ) → is_lt (nat_cmp a b) ≡ true → a < b
from_lt a b e = grind (arith, e)

pub to_lt : (a b : ℕ) → a < b → is_lt (nat_cmp a b) ≡ true
to_lt a b l = ap (λ t. is_lt (cond t Less (cond (a == b) Equal Greater))) (lt-ltb a b l)

pub from_gt : (a b : ℕ) → is_gt (nat_cmp a b) ≡ true → b < a
from_gt a b e = grind (arith, e)

pub to_le : (a b : ℕ) → a ≤ b → is_le (nat_cmp a b) ≡ true
to_le a b l = by_test (nat_lt a b)
    (λ t. ap (λ x. is_le (cond x Less (cond (a == b) Equal Greater))) t)
    (λ f. let ge : b ≤ a = grind (arith, f) in
    ap (λ x. is_le (cond x Less (cond (a == b) Equal Greater))) f ∙ ap (λ x. is_le (cond x Equal Greater)) (eq-eqb a b (omega (arith, l, ge))))

pub from_not_le : (a b : ℕ) → is_le (nat_cmp a b) ≡ false → b < a
from_not_le a b e = by_test (nat_lt b a) (λ t. ltb-true b a t) (λ f. absurd (not_both (is_le (nat_cmp a b)) (to_le a b (grind (arith, f))) e))

-- what `partition_point` asks
pub parted_le : (xs : List Entry) (end : ℕ) → IsInOrder xs → IsPartitionedBy (λ e. is_le (nat_cmp e.end end)) xs
parted_le xs end rises i j d le lt passes = let low = rises i j d le lt in let high = from_le (get_or xs j d).end end passes in to_le (get_or xs i d).end end (omega (arith, low, high))

pub parted_lt : (xs : List Entry) (end : ℕ) → IsInOrder xs → IsPartitionedBy (λ e. is_lt (nat_cmp e.end end)) xs
parted_lt xs end rises i j d le lt passes = let low = rises i j d le lt in let high = from_lt (get_or xs j d).end end passes in to_lt (get_or xs i d).end end (omega (arith, low, high))

-- what holds where a call succeeded
pub on_ok : {A E : Type 0} (P : Type 0) (r : Result A E) (x : A) → r ≡ Ok x → OnOk r P → P
on_ok P (Ok y) x e holds = holds
on_ok P (Err y) x e holds = cc

-- what holds of an answer that is there
pub on_some : {A : Type 0} (P : A → Type 0) (r : Option A) (x : A) → r ≡ Some x → IfSome r P → P x
on_some P (Some y) x e holds = subst P (some_is y x e) holds
on_some P None x e holds = cc
