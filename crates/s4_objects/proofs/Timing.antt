-- Values that end no earlier than they begin, as values end, begin, are erased and are freed.
use Rattle.std.proofs.Common.{◌≡◌, ℕ, suc, ◌-◌, ◌≤◌, Bool, true, false, Option, Some, None, List, [], ◌∷◌, ◌++◌, refl, ◌∙◌, ap, subst, arith, length, drop}
use Rattle.std.specs.Prelude.{◌&&◌, ◌||◌, IfSome, is_some, slice_get, if◌then◌else◌}
use Rattle.std.specs.List.{list_all}
use Rattle.s4_types.specs.declared.version.Version.{Version}
use Rattle.s4_types.specs.declared.version.Item.{Item}
use Rattle.s4_types.proofs.Booleans.{by_test, both}
use Rattle.s4_store.specs.Chains.{newest_of}
use Rattle.s4_tracks.specs.Chain.{begun, end_at, erased, is_within, flushed_one, flushed, with_end, with_put, endless, current_of}
use Rattle.s4_objects.specs.Ends.{is_end_from, is_timely, is_later}

-- values are erased
flushed-timely : (from to : ℕ) (v : Version) → is_timely (flushed_one from to v) ≡ is_timely v
flushed-timely from to v = by_test (is_within from to v)
    (λ e. ap (λ b. is_timely (if b then erased v else v)) e)
    (λ e. ap (λ b. is_timely (if b then erased v else v)) e)

pub timely_flushed : (from to : ℕ) (vs : List Version) → list_all is_timely (flushed from to vs) ≡ list_all is_timely vs
timely_flushed from to [] = refl
timely_flushed from to (v ∷ vs) = ap (λ b. b && list_all is_timely (flushed from to vs)) (flushed-timely from to v) ∙ ap (λ b. is_timely v && b) (timely_flushed from to vs)

-- the oldest is freed
pub timely_rest : (vs : List Version) → list_all is_timely vs ≡ true → list_all is_timely (drop 1 vs) ≡ true
timely_rest [] e = refl
timely_rest (v ∷ vs) e = (both (is_timely v) (list_all is_timely vs) e).1

-- the newest ends, no earlier than it began
newest-tail : (v w : Version) (vs : List Version) → newest_of (v ∷ w ∷ vs) ≡ newest_of (w ∷ vs)
newest-tail v w vs =
    let down : suc (suc (length vs)) - 1 ≡ suc (length vs) = omega arith in
    let again : length vs ≡ suc (length vs) - 1 = omega arith in
    ap (slice_get (v ∷ w ∷ vs)) down ∙ ap (slice_get (w ∷ vs)) again

end-from : (m begin : ℕ) (end : Option ℕ) → begin ≤ m → is_end_from begin end ≡ true → is_end_from begin (end_at m end) ≡ true
end-from m begin None l e = grind arith
end-from m begin (Some end) l e = e

pub timely_ended : (m : ℕ) (vs : List Version) → IfSome (newest_of vs) (λ v. v.begin ≤ m) → list_all is_timely vs ≡ true → list_all is_timely (with_end m vs) ≡ true
timely_ended m [] later e = refl
timely_ended m (v ∷ []) later e = ap (λ b. b && true) (end-from m v.begin v.end later (both (is_timely v) true e).0)
timely_ended m (v ∷ w ∷ vs) later e =
    let parts = both (is_timely v) (list_all is_timely (w ∷ vs)) e in
    ap (λ b. b && list_all is_timely (with_end m (w ∷ vs))) parts.0
    ∙ timely_ended m (w ∷ vs) (subst (λ (o : Option Version). IfSome o (λ x. x.begin ≤ m)) (newest-tail v w vs) later) parts.1

-- another begins
timely-more : (vs : List Version) (v : Version) → is_timely v ≡ true → list_all is_timely vs ≡ true → list_all is_timely (vs ++ v ∷ []) ≡ true
timely-more [] v t e = ap (λ b. b && true) t
timely-more (u ∷ vs) v t e =
    let parts = both (is_timely u) (list_all is_timely vs) e in
    ap (λ b. b && list_all is_timely (vs ++ v ∷ [])) parts.0 ∙ timely-more vs v t parts.1

pub timely_put : (m : ℕ) (item : Item) (vs : List Version) → IfSome (newest_of vs) (λ v. v.begin ≤ m) → list_all is_timely vs ≡ true → list_all is_timely (with_put m item vs) ≡ true
timely_put m item vs later e = timely-more (with_end m vs) (begun m item) refl (timely_ended m vs later e)

-- the current value doesn't begin after the moment
pub begun_by : (m : ℕ) (vs : List Version) → is_some (current_of vs) ≡ true → is_later m (current_of vs) ≡ false → IfSome (newest_of vs) (λ v. v.begin ≤ m)
begun_by m vs now e = of (newest_of vs) now e
  where
    open-end : (v : Version) (end : Option ℕ) → is_some (if is_some end then None else Some v) ≡ true → is_later m (if is_some end then None else Some v) ≡ false → v.begin ≤ m
    open-end v None f g = grind (arith, g)
    open-end v (Some end) f g = cc

    of : (o : Option Version) → is_some (endless o) ≡ true → is_later m (endless o) ≡ false → IfSome o (λ v. v.begin ≤ m)
    of None f g = _
    of (Some v) f g = open-end v v.end f g

pub neither : (a b : Bool) → (a || b) ≡ false → (a ≡ false) × (b ≡ false)
neither false b e = (refl, e)
neither true b e = cc
