-- The order of begins, and that none ends before it begins, as bindings begin, end and are freed.
use Rattle.std.proofs.Common.{◌≡◌, ℕ, ◌≤◌, true, Option, Some, None, List, [], ◌∷◌, ◌++◌, drop, refl, sym, ◌∙◌, ap, subst, arith}
use Rattle.std.specs.Prelude.{IfSome, is_some, nat_le, ◌&&◌, if◌then◌else◌}
use Rattle.std.specs.List.{list_all}
use Rattle.std.proofs.lemmas.Bool.{leb-true}
use Rattle.s4_types.specs.declared.object.Purse.{Purse}
use Rattle.std.proofs.lemmas.List.Sorted.{IsNonDecreasingBy-short, IsNonDecreasingBy-drop}
use Rattle.s4_store.specs.Chains.{newest_of}
use Rattle.s4_types.specs.declared.version.Version.{Version}
use Rattle.s4_types.proofs.Booleans.{both, by_test, not_both}
use Rattle.s4_tracks.specs.Chain.{end_at, with_end, current_of}
use Rattle.s4_parts.specs.declared.ends.Ended.{Ended}
use Rattle.s4_parts.proofs.Queueing.{newest-tail, current-tail}
use Rattle.s4_parts.specs.Table.{object_of, AreLasting, IsTimely}
use Rattle.s4_parts.specs.Waiting.{is_of, ends_of, all_by, HasEnds}
use Rattle.s4_tracks.proofs.Beginning.{order_ended, order_push}

end-lasts : (m b : ℕ) (x : Option ℕ) → b ≤ m → IfSome x (λ e. b ≤ e) → IfSome (end_at m x) (λ e. b ≤ e)
end-lasts m b None le h = le
end-lasts m b (Some e) le h = h

lasting-ended : (m : ℕ) (vs : List Version) → IfSome (newest_of vs) (λ v. v.begin ≤ m) → AreLasting vs → AreLasting (with_end m vs)
lasting-ended m [] later h = tt
lasting-ended m (v ∷ []) later h = (end-lasts m v.begin v.end later h.0, tt)
lasting-ended m (v ∷ w ∷ vs) later h = (h.0, lasting-ended m (w ∷ vs) (subst (λ (o : Option Version). IfSome o (λ x. x.begin ≤ m)) (newest-tail v w vs) later) h.1)

lasting-push : (vs : List Version) (w : Version) → IfSome w.end (λ e. w.begin ≤ e) → AreLasting vs → AreLasting (vs ++ w ∷ [])
lasting-push [] w l h = (l, tt)
lasting-push (v ∷ vs) w l h = (h.0, lasting-push vs w l h.1)

lasting-rest : (vs : List Version) → AreLasting vs → AreLasting (drop 1 vs)
lasting-rest [] h = tt
lasting-rest (v ∷ vs) h = h.1

-- WHAT IS TIMELY

pub timely_none : IsTimely []
timely_none = record { order = IsNonDecreasingBy-short (λ (v : Version). v.begin) [] (omega arith); lasting = tt }

pub timely_rest : (vs : List Version) → IsTimely vs → IsTimely (drop 1 vs)
timely_rest vs h = record { order = IsNonDecreasingBy-drop (λ (v : Version). v.begin) 1 vs h.order; lasting = lasting-rest vs h.lasting }

-- a value that begins no earlier than the newest
pub timely_push : (vs : List Version) (w : Version) → IfSome (newest_of vs) (λ v. v.begin ≤ w.begin) → IfSome w.end (λ e. w.begin ≤ e) → IsTimely vs → IsTimely (vs ++ w ∷ [])
timely_push vs w later l h = record { order = order_push vs w later h.order; lasting = lasting-push vs w l h.lasting }

-- the newest ends no earlier than it began
pub timely_ended : (m : ℕ) (vs : List Version) → IfSome (newest_of vs) (λ v. v.begin ≤ m) → IsTimely vs → IsTimely (with_end m vs)
timely_ended m vs later h = record { order = order_ended m vs h.order; lasting = lasting-ended m vs later h.lasting }

-- WHERE ALL ENDED

ends-by : (m : ℕ) (p : Purse) (n : List ℕ) (es : List Ended) → all_by m es ≡ true → list_all (λ e. nat_le e m) (ends_of p n es) ≡ true
ends-by m p n [] a = refl
ends-by m p n (e ∷ es) a =
    let parts = both (nat_le e.end m) (all_by m es) a in
    by_test (is_of p n e)
    (λ t. subst (λ b. list_all (λ x. nat_le x m) (if b then e.end ∷ ends_of p n es else ends_of p n es) ≡ true) (sym t)
    (ap (λ b. b && list_all (λ x. nat_le x m) (ends_of p n es)) parts.0 ∙ ends-by m p n es parts.1))
    (λ t. subst (λ b. list_all (λ x. nat_le x m) (if b then e.end ∷ ends_of p n es else ends_of p n es) ≡ true) (sym t) (ends-by m p n es parts.1))

newest-ended : (m : ℕ) (ends : List ℕ) (vs : List Version) → HasEnds ends vs → AreLasting vs → list_all (λ e. nat_le e m) ends ≡ true → object_of (current_of vs) ≡ None → IfSome (newest_of vs) (λ v. v.begin ≤ m)
newest-ended m [] [] has l a none = tt
newest-ended m [] (v ∷ []) has l a none =
    let there : is_some (object_of (current_of (v ∷ []))) ≡ true = ap (λ x. is_some (object_of (if is_some x then None else Some v))) has.endless ∙ has.object in
    absurd (not_both _ there (ap is_some none))
newest-ended m [] (v ∷ w ∷ vs) has l a none = absurd has
newest-ended m (e ∷ es) [] has l a none = absurd has
newest-ended m (e ∷ es) (v ∷ []) has l a none =
    let parts = both (nat_le e m) (list_all (λ x. nat_le x m) es) a in
    let begun : v.begin ≤ e = subst (λ (x : Option ℕ). IfSome x (λ x. v.begin ≤ x)) has.0 l.0 in
    let ends : e ≤ m = leb-true e m parts.0 in
    omega arith
newest-ended m (e ∷ es) (v ∷ w ∷ vs) has l a none = subst (λ (o : Option Version). IfSome o (λ x. x.begin ≤ m)) (sym (newest-tail v w vs)) (newest-ended m es (w ∷ vs) has.1 l.1 (both (nat_le e m) (list_all (λ x. nat_le x m) es) a).1 (ap object_of (sym (current-tail v w vs)) ∙ none))

-- all ended by the moment, and none is current: so the newest began by then
pub newest_by_then : (m : ℕ) (p : Purse) (n : List ℕ) (es : List Ended) (vs : List Version) → HasEnds (ends_of p n es) vs → IsTimely vs → all_by m es ≡ true → object_of (current_of vs) ≡ None → IfSome (newest_of vs) (λ v. v.begin ≤ m)
newest_by_then m p n es vs has h a none = newest-ended m (ends_of p n es) vs has h.lasting (ends-by m p n es a) none
