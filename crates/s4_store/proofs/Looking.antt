-- Looking back, from place to place, for the last item whose key is at most the moment.
use Rattle.std.proofs.Common.{◌≡◌, ℕ, ◌+◌, ◌≤◌, ◌<◌, true, false, Option, Some, None, List, [], ◌∷◌, ◌++◌, sym, ◌∙◌, ap, subst, arith, take, length}
use Rattle.std.specs.Prelude.{slice_get, IfSome, nat_le, if◌then◌else◌}
use Rattle.std.proofs.lemmas.List.{take_more, take_all}
use Rattle.std.proofs.lemmas.List.Sums.{fold-append}
use Rattle.std.proofs.lemmas.Option.{slice_get_within, get_or_from_slice_get}
use Rattle.std.proofs.lemmas.Bool.{le-leb}
use Rattle.std.proofs.lemmas.Bool.Decides.{nat_tests}
use Rattle.s4_store.specs.Chains.{reach}
use Rattle.s4_store.specs.Keys.{newer, last_by}

module _ {T : Type 0} (key : T → ℕ) (m : ℕ) where
  last-more : (xs : List T) (i : ℕ) (v : T) → slice_get xs i ≡ Some v → last_by key m (take (i + 1) xs) ≡ newer key m (last_by key m (take i xs)) v
  last-more xs i v e =
      let more : take (i + 1) xs ≡ take i xs ++ v ∷ [] = take_more xs i v (slice_get_within xs i v e) ∙ ap (λ w. take i xs ++ w ∷ []) (get_or_from_slice_get xs i v v e) in
      ap (last_by key m) more ∙ fold-append (newer key m) None (take i xs) (v ∷ [])

  pub all : (xs : List T) (n : ℕ) → n ≡ length xs → last_by key m xs ≡ last_by key m (take n xs)
  all xs n e = ap (last_by key m) (sym (take_all n xs (omega (arith, e))))

  module _ {P : Type 0} (index chain_at : P → ℕ) (c : ℕ) (items : ℕ → List T) (at : Option P) (p : P) (v : T)
      (here : at ≡ Some p) (same : IfSome at (λ q. chain_at q ≡ c)) (so_far : last_by key m (items c) ≡ last_by key m (take (reach index at) (items c))) (there : slice_get (items (chain_at p)) (index p) ≡ Some v) where
    of_chain : chain_at p ≡ c
    of_chain = subst (λ (o : Option P). IfSome o (λ q. chain_at q ≡ c)) here same

    stepped : last_by key m (items c) ≡ newer key m (last_by key m (take (index p) (items c))) v
    stepped = so_far ∙ ap (λ (o : Option P). last_by key m (take (reach index o) (items c))) here ∙ last-more (items c) (index p) v (subst (λ k. slice_get (items k) (index p) ≡ Some v) of_chain there)

    -- the item at this place is one by then
    pub found : key v ≤ m → Some v ≡ last_by key m (items c)
    found h = let e : nat_le (key v) m ≡ true = le-leb (key v) m h in sym (stepped ∙ ap (λ b. if b then Some v else last_by key m (take (index p) (items c))) e)

    -- it isn't, so the next place is of an older one
    pub on : m < key v → (next : Option P) → reach index next ≡ index p → last_by key m (items c) ≡ last_by key m (take (reach index next) (items c))
    on h next r = let e : nat_le (key v) m ≡ false = grind (arith, nat_tests) in
        stepped ∙ ap (λ b. if b then Some v else last_by key m (take (index p) (items c))) e ∙ ap (λ k. last_by key m (take k (items c))) (sym r)

    pub same_chain : (next : Option P) → IfSome next (λ q. chain_at q ≡ chain_at p) → IfSome next (λ q. chain_at q ≡ c)
    same_chain None h = h
    same_chain (Some q) h = h ∙ of_chain
