-- Lists of lists, totals, and what all but one token know.
use Rattle.std.proofs.Common.{◌≡◌, ◌≢◌, ℕ, zero, suc, ◌+◌, ◌≤◌, List, [], ◌∷◌, ◌++◌, set, append_assoc, sym, ap, ◌∙◌, refl, subst, inl, inr, ⊎_elim, arith}
use Rattle.std.specs.Prelude.{IsPermutation}
use Rattle.std.proofs.lemmas.List.{append-nil}
use Rattle.std.proofs.lemmas.List.Sorted.{IsPermutation-sym, IsPermutation-trans, IsPermutation-append_left, IsPermutation-append_right, IsPermutation-append_comm}
use mathlib.Core.Option.{some, some-injective, some-ne-none}
use lib.ListN.{get_elem?}
use Rattle.atomic_table.proofs.Lists.{at_set, at_snoc}
use Rattle.s4_calls.specs.declared.hand.Hand.{Hand}
use Rattle.s4_calls.specs.Logs.{IsSublist}
use Rattle.s4_calls.specs.Hands.{total, flat, parts_of, shares_of, calls_of, Each, HaveParts, AreBareWithoutParts}

pub total_set : {A : Type 0} (f : A → ℕ) (xs : List A) (id : ℕ) (v w : A) → get_elem? xs id ≡ some v → total f (set xs id w) + f v ≡ total f xs + f w
total_set f [] id v w at = absurd (some-ne-none v (sym at))
total_set f (x ∷ xs) zero v w at = let e = ap f (some-injective x v at) in omega arith
total_set f (x ∷ xs) (suc id) v w at = let h = total_set f xs id v w at in omega arith

pub total_append : {A : Type 0} (f : A → ℕ) (xs ys : List A) → total f (xs ++ ys) ≡ total f xs + total f ys
total_append f [] ys = omega arith
total_append f (x ∷ xs) ys = let h = total_append f xs ys in omega arith

pub flat_append : {A X : Type 0} (f : A → List X) (xs ys : List A) → flat f (xs ++ ys) ≡ flat f xs ++ flat f ys
flat_append f [] ys = refl
flat_append f (x ∷ xs) ys = ap (λ l. f x ++ l) (flat_append f xs ys) ∙ sym (append_assoc (f x) (flat f xs) (flat f ys))

module _ {X : Type 0} where
  -- what is new comes to the front
  pub past : (a e b : List X) → IsPermutation (a ++ (e ++ b)) (e ++ (a ++ b))
  past a e b =
      subst (λ l. IsPermutation l (e ++ (a ++ b))) (append_assoc a e b)
      (subst (λ l. IsPermutation ((a ++ e) ++ b) l) (append_assoc e a b)
      (IsPermutation-append_left b (a ++ e) (e ++ a) (IsPermutation-append_comm a e)))

  pub mid : (a e b : List X) → IsPermutation ((a ++ e) ++ b) (e ++ (a ++ b))
  mid a e b = subst (λ l. IsPermutation l (e ++ (a ++ b))) (sym (append_assoc a e b)) (past a e b)

-- a list more of one is a list more of all
pub flat_set : {A X : Type 0} (f : A → List X) (e : List X) (xs : List A) (id : ℕ) (v w : A) → get_elem? xs id ≡ some v → IsPermutation (f w) (e ++ f v) → IsPermutation (flat f (set xs id w)) (e ++ flat f xs)
flat_set f e [] id v w at p = absurd (some-ne-none v (sym at))
flat_set f e (x ∷ xs) zero v w at p =
    subst (λ l. IsPermutation (f w ++ flat f xs) l) (append_assoc e (f x) (flat f xs))
    (IsPermutation-append_left (flat f xs) (f w) (e ++ f x) (subst (λ y. IsPermutation (f w) (e ++ f y)) (sym (some-injective x v at)) p))
flat_set f e (x ∷ xs) (suc id) v w at p =
    IsPermutation-trans _ _ _ (IsPermutation-append_right (f x) _ _ (flat_set f e xs id v w at p)) (past (f x) e (flat f xs))

-- and a list less
pub flat_loses : {A X : Type 0} (f : A → List X) (e : List X) (xs : List A) (id : ℕ) (v u : A) → get_elem? xs id ≡ some v → IsPermutation (f v) (e ++ f u) → IsPermutation (flat f xs) (e ++ flat f (set xs id u))
flat_loses f e [] id v u at p = absurd (some-ne-none v (sym at))
flat_loses f e (x ∷ xs) zero v u at p =
    subst (λ l. IsPermutation (f x ++ flat f xs) l) (append_assoc e (f u) (flat f xs))
    (IsPermutation-append_left (flat f xs) (f x) (e ++ f u) (subst (λ y. IsPermutation (f y) (e ++ f u)) (sym (some-injective x v at)) p))
flat_loses f e (x ∷ xs) (suc id) v u at p =
    IsPermutation-trans _ _ _ (IsPermutation-append_right (f x) _ _ (flat_loses f e xs id v u at p)) (past (f x) e (flat f (set xs id u)))

-- what is given out to a new one
pub flat_split : {A X : Type 0} (f : A → List X) (xs : List A) (id : ℕ) (v u w : A) → get_elem? xs id ≡ some v → IsPermutation (f v) (f w ++ f u) → IsPermutation (flat f (set xs id u ++ w ∷ [])) (flat f xs)
flat_split f xs id v u w at p =
    subst (λ l. IsPermutation l (flat f xs)) (sym (flat_append f (set xs id u) (w ∷ []) ∙ ap (λ l. flat f (set xs id u) ++ l) (append-nil (f w))))
    (IsPermutation-trans _ _ _ (IsPermutation-append_comm (flat f (set xs id u)) (f w)) (IsPermutation-sym _ _ (flat_loses f (f w) xs id v u at p)))

module _ {T : Type 0} where
  pub each_append : (P : Hand T → Type 0) (xs ys : List (Hand T)) → Each P xs → Each P ys → Each P (xs ++ ys)
  each_append P [] ys a b = b
  each_append P (x ∷ xs) ys a b = (a.0, each_append P xs ys a.1 b)

  pub each_then : (P Q : Hand T → Type 0) → ((h : Hand T) → P h → Q h) → (xs : List (Hand T)) → Each P xs → Each Q xs
  each_then P Q then [] a = tt
  each_then P Q then (x ∷ xs) a = (then x a.0, each_then P Q then xs a.1)

  -- of each token
  abbrev pub AreAll : (List (Hand T) → Type 0) → List (List (Hand T)) → Type 0
  AreAll P views = (id : ℕ) (hands : List (Hand T)) → get_elem? views id ≡ some hands → P hands

  pub all_set : (P : List (Hand T) → Type 0) (views : List (List (Hand T))) (id : ℕ) (w : List (Hand T)) → P w → AreAll P views → AreAll P (set views id w)
  all_set P views id w mine all j u at =
      ⊎_elim
      (λ (t : (j ≡ id) × (w ≡ u)). subst P t.1 mine)
      (λ (t : (j ≢ id) × (get_elem? views j ≡ some u)). all j u t.1)
      (at_set views id j w u at)

  -- where all others are given too
  pub all_anew : (P Q : List (Hand T) → Type 0) (views : List (List (Hand T))) (id : ℕ) (w : List (Hand T)) → Q w → ((j : ℕ) (u : List (Hand T)) → j ≢ id → get_elem? views j ≡ some u → Q u) → AreAll Q (set views id w)
  all_anew P Q views id w mine others j u at =
      ⊎_elim
      (λ (t : (j ≡ id) × (w ≡ u)). subst Q t.1 mine)
      (λ (t : (j ≢ id) × (get_elem? views j ≡ some u)). others j u t.0 t.1)
      (at_set views id j w u at)

  pub all_push : (P : List (Hand T) → Type 0) (views : List (List (Hand T))) (w : List (Hand T)) → P w → AreAll P views → AreAll P (views ++ w ∷ [])
  all_push P views w mine all j u at =
      ⊎_elim
      (λ (old : get_elem? views j ≡ some u). all j u old)
      (λ (new : w ≡ u). subst P new mine)
      (at_snoc views w u j at)

  -- who has parts is not bare
  pub bare_none : (hands : List (Hand T)) → HaveParts hands → AreBareWithoutParts hands
  bare_none hands held = each_then _ _ (λ h some_part none. absurd (omega (arith, some_part, none))) hands held

  -- hands without a part stand for no cell, and have no call
  pub no_shares : (hands : List (Hand T)) → AreBareWithoutParts hands → parts_of hands ≡ 0 → shares_of hands ≡ 0
  no_shares [] held none = refl
  no_shares (h ∷ hands) held none = let e = (held.0 (omega (arith, none))).0 in let i = no_shares hands held.1 (omega (arith, none)) in omega arith

  pub no_calls : (hands : List (Hand T)) → AreBareWithoutParts hands → parts_of hands ≡ 0 → calls_of hands ≡ []
  no_calls [] held none = refl
  no_calls (h ∷ hands) held none = ap (λ l. l ++ calls_of hands) (held.0 (omega (arith, none))).1 ∙ no_calls hands held.1 (omega (arith, none))

  -- such that hands without a part have nothing
  abbrev pub NeedsParts : {B : Type 0} → (List (Hand T) → B) → B → Type 0
  NeedsParts f nil = (hands : List (Hand T)) → AreBareWithoutParts hands → parts_of hands ≡ 0 → f hands ≡ nil

  nothing : {X : Type 0} (f : List (Hand T) → List X) → NeedsParts f [] → (views : List (List (Hand T))) → AreAll AreBareWithoutParts views → total parts_of views ≡ 0 → flat f views ≡ []
  nothing f nil [] held none = refl
  nothing f nil (hands ∷ views) held none =
      ap (λ l. l ++ flat f views) (nil hands (held 0 hands refl) (omega (arith, none)))
      ∙ nothing f nil views (λ j u at. held (suc j) u at) (omega (arith, none))

  pub there : (f : List (Hand T) → ℕ) (views : List (List (Hand T))) (id : ℕ) (v : List (Hand T)) → get_elem? views id ≡ some v → f v ≤ total f views
  there f [] id v at = absurd (some-ne-none v (sym at))
  there f (x ∷ views) zero v at = let p = ap f (some-injective x v at) in omega arith
  there f (x ∷ views) (suc id) v at = let h = there f views id v at in omega arith

  -- where one token has every part, the others have nothing that needs parts
  pub alone : {X : Type 0} (f : List (Hand T) → List X) → NeedsParts f [] → (views : List (List (Hand T))) (id : ℕ) (v : List (Hand T)) → get_elem? views id ≡ some v → AreAll AreBareWithoutParts views → total parts_of views ≤ parts_of v → flat f views ≡ f v
  alone f nil [] id v at held all = absurd (some-ne-none v (sym at))
  alone f nil (x ∷ views) zero v at held all =
      let same = some-injective x v at in
      let p = ap parts_of same in
      ap (λ l. f x ++ l) (nothing f nil views (λ j u a. held (suc j) u a) (omega (arith, all, p))) ∙ (append-nil (f x) ∙ ap f same)
  alone f nil (x ∷ views) (suc id) v at held all =
      let t = there parts_of views id v at in
      ap (λ l. l ++ flat f views) (nil x (held 0 x refl) (omega (arith, all, t)))
      ∙ alone f nil views id v at (λ j u a. held (suc j) u a) (omega (arith, all))

  nothing_total : (f : List (Hand T) → ℕ) → NeedsParts f 0 → (views : List (List (Hand T))) → AreAll AreBareWithoutParts views → total parts_of views ≡ 0 → total f views ≡ 0
  nothing_total f nil [] held none = refl
  nothing_total f nil (hands ∷ views) held none =
      let e = nil hands (held 0 hands refl) (omega (arith, none)) in
      let i = nothing_total f nil views (λ j u at. held (suc j) u at) (omega (arith, none)) in
      omega arith

  pub alone_total : (f : List (Hand T) → ℕ) → NeedsParts f 0 → (views : List (List (Hand T))) (id : ℕ) (v : List (Hand T)) → get_elem? views id ≡ some v → AreAll AreBareWithoutParts views → total parts_of views ≤ parts_of v → total f views ≡ f v
  alone_total f nil [] id v at held all = absurd (some-ne-none v (sym at))
  alone_total f nil (x ∷ views) zero v at held all =
      let same = some-injective x v at in
      let p = ap parts_of same in
      let q = ap f same in
      let i = nothing_total f nil views (λ j u a. held (suc j) u a) (omega (arith, all, p)) in
      omega arith
  alone_total f nil (x ∷ views) (suc id) v at held all =
      let t = there parts_of views id v at in
      let e = nil x (held 0 x refl) (omega (arith, all, t)) in
      let i = alone_total f nil views id v at (λ j u a. held (suc j) u a) (omega (arith, all)) in
      omega arith

  -- where one token has all of a number, the others have none of it
  pub elsewhere : (f : List (Hand T) → ℕ) (views : List (List (Hand T))) (id : ℕ) (v : List (Hand T)) → get_elem? views id ≡ some v → total f views ≤ f v
      → (j : ℕ) (u : List (Hand T)) → j ≢ id → get_elem? views j ≡ some u → f u ≡ 0
  elsewhere f [] id v at all j u away here = absurd (some-ne-none v (sym at))
  elsewhere f (x ∷ views) zero v at all zero u away here = absurd (away refl)
  elsewhere f (x ∷ views) zero v at all (suc j) u away here =
      let p = ap f (some-injective x v at) in let t = there f views j u here in omega (arith, all)
  elsewhere f (x ∷ views) (suc id) v at all zero u away here =
      let p = ap f (some-injective x u here) in let t = there f views id v at in omega (arith, all)
  elsewhere f (x ∷ views) (suc id) v at all (suc j) u away here =
      elsewhere f views id v at (let t = there f views id v at in omega (arith, all)) j u (λ e. away (ap suc e)) here

-- a list in another that goes on
pub sublist_on : {A : Type 0} (xs ys : List A) (y : A) → IsSublist xs ys → IsSublist xs (ys ++ y ∷ [])
sublist_on [] ys y s = tt
sublist_on (x ∷ xs) [] y s = absurd s
sublist_on (x ∷ xs) (z ∷ ys) y s = ⊎_elim (λ (t : (x ≡ z) × IsSublist xs ys). inl (t.0, sublist_on xs ys y t.1)) (λ (t : IsSublist (x ∷ xs) ys). inr (sublist_on (x ∷ xs) ys y t)) s

pub sublist_last : {A : Type 0} (xs ys : List A) (y : A) → IsSublist xs ys → IsSublist (xs ++ y ∷ []) (ys ++ y ∷ [])
sublist_last [] [] y s = inl (refl, tt)
sublist_last [] (z ∷ ys) y s = inr (sublist_last [] ys y tt)
sublist_last (x ∷ xs) [] y s = absurd s
sublist_last (x ∷ xs) (z ∷ ys) y s = ⊎_elim (λ (t : (x ≡ z) × IsSublist xs ys). inl (t.0, sublist_last xs ys y t.1)) (λ (t : IsSublist (x ∷ xs) ys). inr (sublist_last (x ∷ xs) ys y t)) s
