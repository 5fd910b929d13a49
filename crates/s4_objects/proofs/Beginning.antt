-- The order of begins, as values are put and erased.
use Rattle.std.proofs.Common.{◌≡◌, ℕ, ◌-◌, ◌≤◌, Bool, true, false, Option, Some, None, List, [], ◌∷◌, get_or, length, refl, ◌∙◌, ap, subst, arith}
use Rattle.std.specs.Prelude.{IfSome, slice_get, if◌then◌else◌}
use Rattle.std.proofs.lemmas.List.Sorted.{IsNonDecreasingBy-push}
use Rattle.std.proofs.lemmas.Option.{slice_get-get_or}
use Rattle.s4_store.specs.Chains.{newest_of}
use Rattle.s4_types.specs.declared.version.Version.{Version}
use Rattle.s4_types.specs.declared.version.Item.{Item}
use Rattle.s4_tracks.specs.Chain.{with_end, with_put, begun, flushed, flushed_one, is_within}
use Rattle.s4_objects.specs.declared.kept.Which.{Which}
use Rattle.s4_objects.specs.declared.kept.Which.TheVariants as which
use Rattle.s4_objects.specs.Flushes.{flushed_on}
use Rattle.s4_tracks.proofs.Beginning.{begins, InOrder, same-begin, same-length, order_kept, begins_ended, order_ended}

begin-flushed : (from to : ℕ) (v : Version) → (flushed_one from to v).begin ≡ v.begin
begin-flushed from to v = elim (is_within from to v) as (λ b. (if b then record v { item = None } else v).begin ≡ v.begin) [ true ↦ refl | false ↦ refl ]

begins-flushed : (from to : ℕ) (vs : List Version) → begins (flushed from to vs) ≡ begins vs
begins-flushed from to [] = refl
begins-flushed from to (v ∷ vs) = λ i. begin-flushed from to v i ∷ begins-flushed from to vs i

pub order_flushed : (from to : ℕ) (w : Which) (b : Bool) (vs : List Version) → InOrder vs → InOrder (if b then flushed_on from to w vs else vs)
order_flushed from to w false vs h = h
order_flushed from to which.Data true vs h = order_kept vs (flushed from to vs) (begins-flushed from to vs) h
order_flushed from to which.Attributes true vs h = order_kept vs (flushed from to vs) (begins-flushed from to vs) h
order_flushed from to which.Acl true vs h = h

-- a value that begins no earlier than the newest
pub order_put : (m : ℕ) (item : Item) (vs : List Version) → IfSome (newest_of vs) (λ v. v.begin ≤ m) → InOrder vs → InOrder (with_put m item vs)
order_put m item vs later h = IsNonDecreasingBy-push (λ (v : Version). v.begin) (with_end m vs) (begun m item) (order_ended m vs h) (λ d some.
    let long : length (with_end m vs) ≡ length vs = same-length vs (with_end m vs) (begins_ended m vs) in
    let last : (get_or (with_end m vs) (length (with_end m vs) - 1) d).begin ≡ (get_or vs (length vs - 1) d).begin = ap (λ n. (get_or (with_end m vs) (n - 1) d).begin) long ∙ same-begin vs (with_end m vs) (begins_ended m vs) (length vs - 1) d in
    let newest : slice_get vs (length vs - 1) ≡ Some (get_or vs (length vs - 1) d) = slice_get-get_or vs (length vs - 1) d (omega arith) in
    let le : (get_or vs (length vs - 1) d).begin ≤ m = subst (λ (o : Option Version). IfSome o (λ v. v.begin ≤ m)) newest later in
    omega arith)
