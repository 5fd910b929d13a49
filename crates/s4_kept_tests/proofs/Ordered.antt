-- Values in the order of their begins.
use Rattle.std.proofs.Common.{◌≡◌, ℕ, zero, suc, ◌+◌, ◌-◌, ◌<◌, ◌≤◌, Bool, true, false, Option, Some, None, List, ◌∷◌, [], ◌++◌, get_or, sym, ◌∙◌, ap, subst, arith}
use Rattle.std.specs.Prelude.{slice_get, is_some, IfSome, if◌then◌else◌}
use Rattle.std.specs.List.{AllAdjacentBelow}
use Rattle.std.proofs.lemmas.List.Sorted.{all_adjacent_more}
use Rattle.std.proofs.lemmas.Option.{get_or_from_slice_get}
use Rattle.s4_types.specs.declared.version.Version.{Version}
use Rattle.s4_types.proofs.Snoc.{newest-snoc}
use Rattle.s4_store.specs.Chains.{newest_of}
use Rattle.s4_tracks.specs.Chain.{endless}

abbrev pub Follows : Version → Version → Type 0
Follows v w = v.begin ≤ w.begin

module _ (vs : List Version) (i : ℕ) (v : Version) (there : slice_get vs i ≡ Some v) where
  pub low-more : (d : Version) → (get_or vs (i + 1 - 1) d).begin ≤ v.begin
  low-more d =
      let same : get_or vs (i + 1 - 1) d ≡ v = ap (λ n. get_or vs n d) (omega arith) ∙ get_or_from_slice_get vs i v d there in
      subst (λ (x : Version). x.begin ≤ v.begin) (sym same) (omega arith)

-- one value more that begins no earlier
pub adjacent-more : (vs : List Version) (i newest : ℕ) (v : Version) → slice_get vs i ≡ Some v → AllAdjacentBelow Follows vs i → ((d : Version) → 0 < i → (get_or vs (i - 1) d).begin ≤ newest) → newest ≤ v.begin → AllAdjacentBelow Follows vs (i + 1)
adjacent-more vs zero newest v there all low le = λ k d lt. absurd (omega (arith, lt))
adjacent-more vs (suc i) newest v there all low le = all_adjacent_more vs Follows (suc i) (omega arith) all (λ d.
    let before : (get_or vs (suc i - 1) d).begin ≤ newest = low d (omega arith) in
    let same : get_or vs (suc i) d ≡ v = get_or_from_slice_get vs (suc i) v d there in
    subst (λ (x : Version). (get_or vs (suc i - 1) d).begin ≤ x.begin) (sym same) (omega arith))

-- the newest is the current one, which began by then
pub newest-began : (m : ℕ) (x : Option Version) (v : Version) → Some v ≡ endless x → v.begin ≤ m → IfSome x (λ w. w.begin ≤ m)
newest-began m None v e h = tt
newest-began m (Some w) v e h = go (is_some w.end) e
  where
    go : (b : Bool) → Some v ≡ (if b then None else Some w) → w.begin ≤ m
    go true e = cc
    go false e = subst (λ (o : Option Version). IfSome o (λ x. x.begin ≤ m)) e h

-- a value that was added is the newest
pub newest-added : (vs : List Version) (v : Version) (t : ℕ) → v.begin ≤ t → IfSome (newest_of (vs ++ v ∷ [])) (λ w. w.begin ≤ t)
newest-added vs v t h = subst (λ (o : Option Version). IfSome o (λ w. w.begin ≤ t)) (sym (newest-snoc vs v)) h
