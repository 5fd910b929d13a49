-- The order of begins, as values are put and end.
use Rattle.std.proofs.Common.{◌≡◌, ℕ, ◌-◌, ◌≤◌, Option, Some, List, [], ◌∷◌, ◌++◌, get_or, map, length, refl, sym, ◌∙◌, ap, subst, arith}
use Rattle.std.specs.Prelude.{IfSome, slice_get}
use Rattle.std.specs.List.Sorted.{IsNonDecreasingBy}
use Rattle.std.proofs.lemmas.List.{length-map}
use Rattle.std.proofs.Math.ListN.{get_or-map}
use Rattle.std.proofs.lemmas.List.Sorted.{IsNonDecreasingBy-push}
use Rattle.std.proofs.lemmas.Option.{slice_get-get_or}
use Rattle.s4_types.specs.declared.version.Version.{Version}
use Rattle.s4_store.specs.Chains.{newest_of}
use Rattle.s4_tracks.specs.Chain.{with_end}

abbrev pub begins : List Version → List ℕ
begins vs = map (λ v. v.begin) vs

abbrev pub InOrder : List Version → Type 0
InOrder vs = IsNonDecreasingBy (λ v. v.begin) vs

begin-at : (vs : List Version) (i : ℕ) (d : Version) → (get_or vs i d).begin ≡ get_or (begins vs) i d.begin
begin-at vs i d = sym (get_or-map (λ (v : Version). v.begin) vs i d)

pub same-begin : (vs ws : List Version) → begins ws ≡ begins vs → (i : ℕ) (d : Version) → (get_or ws i d).begin ≡ (get_or vs i d).begin
same-begin vs ws e i d = begin-at ws i d ∙ ap (λ bs. get_or bs i d.begin) e ∙ sym (begin-at vs i d)

pub same-length : (vs ws : List Version) → begins ws ≡ begins vs → length ws ≡ length vs
same-length vs ws e = sym (length-map ws (λ (v : Version). v.begin)) ∙ ap length e ∙ length-map vs (λ (v : Version). v.begin)

pub order_kept : (vs ws : List Version) → begins ws ≡ begins vs → InOrder vs → InOrder ws
order_kept vs ws e h i j d le within =
    let long : length ws ≡ length vs = same-length vs ws e in
    let first : (get_or ws i d).begin ≡ (get_or vs i d).begin = same-begin vs ws e i d in
    let second : (get_or ws j d).begin ≡ (get_or vs j d).begin = same-begin vs ws e j d in
    let old : (get_or vs i d).begin ≤ (get_or vs j d).begin = h i j d le (omega arith) in
    omega arith

pub begins_ended : (m : ℕ) (vs : List Version) → begins (with_end m vs) ≡ begins vs
begins_ended m [] = refl
begins_ended m (v ∷ []) = refl
begins_ended m (v ∷ w ∷ vs) = ap (λ bs. v.begin ∷ bs) (begins_ended m (w ∷ vs))

pub order_ended : (m : ℕ) (vs : List Version) → InOrder vs → InOrder (with_end m vs)
order_ended m vs h = order_kept vs (with_end m vs) (begins_ended m vs) h

-- a value that begins no earlier than the newest
pub order_push : (vs : List Version) (w : Version) → IfSome (newest_of vs) (λ v. v.begin ≤ w.begin) → InOrder vs → InOrder (vs ++ w ∷ [])
order_push vs w later h = IsNonDecreasingBy-push (λ (v : Version). v.begin) vs w h (λ d some.
    let newest : slice_get vs (length vs - 1) ≡ Some (get_or vs (length vs - 1) d) = slice_get-get_or vs (length vs - 1) d (omega arith) in
    let le : (get_or vs (length vs - 1) d).begin ≤ w.begin = subst (λ (o : Option Version). IfSome o (λ v. v.begin ≤ w.begin)) newest later in le)
