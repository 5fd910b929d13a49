-- What is done to what is held is done to all values, and what is held tells what all of them tell.
use Rattle.std.proofs.Common.{◌≡◌, ℕ, zero, suc, ◌+◌, ◌≤◌, Bool, true, false, cond, nat_le, Option, Some, None, List, [], ◌∷◌, ◌++◌, refl, sym, ◌∙◌, ap, subst, arith, fold, drop, length, ◌-◌, append_assoc}
use Rattle.std.specs.Prelude.{◌&&◌, slice_get, is_some, if◌then◌else◌}
use Rattle.std.specs.List.{list_all, prefix_len}
use Rattle.std.proofs.lemmas.List.Sums.{fold-append}
use Rattle.std.proofs.lemmas.List.{map-append}
use Rattle.s4_types.specs.declared.version.Version.{Version}
use Rattle.s4_types.specs.declared.version.Item.{Item}
use Rattle.s4_types.specs.Versions.{ends_by}
use Rattle.s4_types.proofs.Booleans.{by_test, both}
use Rattle.s4_store.specs.Chains.{newest_of}
use Rattle.s4_tracks.specs.Chain.{begun, end_at, ended, with_end, with_put, newer, unended, in_force, endless, current_of, version_in, is_within, erased, flushed_one, flushed, is_expired}
use Rattle.s4_tracks.specs.Swept.{IsSwept, unexpired, AgreesWith, IsFrom}

-- A SWEEP, AND A LATER ONE

pub swept_none : (hz : ℕ) (all : List Version) → IsSwept hz all all
swept_none hz all = record { gone = []; whole = refl; expired = refl }

by-up : (m n : ℕ) (end : Option ℕ) → m ≤ n → ends_by m end ≡ true → ends_by n end ≡ true
by-up m n None l e = e
by-up m n (Some end) l e = grind arith

all-up : (m n : ℕ) (gone : List Version) → m ≤ n → list_all (is_expired m) gone ≡ true → list_all (is_expired n) gone ≡ true
all-up m n [] l e = refl
all-up m n (v ∷ gone) l e =
    let parts = both (is_expired m v) (list_all (is_expired m) gone) e in
    ap (λ b. b && list_all (is_expired n) gone) (by-up m n v.end l parts.0) ∙ all-up m n gone l parts.1

-- the horizon went up
pub swept_up : (m n : ℕ) (held all : List Version) → m ≤ n → IsSwept m held all → IsSwept n held all
swept_up m n held all l s = record { gone = s.gone; whole = s.whole; expired = all-up m n s.gone l s.expired }

all-both : (p : Version → Bool) (xs ys : List Version) → list_all p xs ≡ true → list_all p ys ≡ true → list_all p (xs ++ ys) ≡ true
all-both p [] ys e f = f
all-both p (x ∷ xs) ys e f =
    let parts = both (p x) (list_all p xs) e in
    ap (λ b. b && list_all p (xs ++ ys)) parts.0 ∙ all-both p xs ys parts.1 f

-- more was freed
pub swept_through : (hz : ℕ) (less held all : List Version) → IsSwept hz less held → IsSwept hz held all → IsSwept hz less all
swept_through hz less held all s t = record {
  gone = t.gone ++ s.gone;
  whole = t.whole ∙ ap (λ vs. t.gone ++ vs) s.whole ∙ sym (append_assoc t.gone s.gone less);
  expired = all-both (is_expired hz) t.gone s.gone t.expired s.expired;
}

dropped : (hz k : ℕ) (vs : List Version) → k ≤ prefix_len (is_expired hz) vs → IsSwept hz (drop k vs) vs
dropped hz zero vs l = swept_none hz vs
dropped hz (suc k) [] l = absurd (omega arith)
dropped hz (suc k) (v ∷ vs) l = by_test (is_expired hz v)
    (λ e. let front : prefix_len (is_expired hz) (v ∷ vs) ≡ 1 + prefix_len (is_expired hz) vs = ap (λ b. cond b (1 + prefix_len (is_expired hz) vs) 0) e in
    let rest = dropped hz k vs (omega arith) in
    record { gone = v ∷ rest.gone; whole = ap (λ us. v ∷ us) rest.whole; expired = ap (λ b. b && list_all (is_expired hz) rest.gone) e ∙ rest.expired })
    (λ e. let front : prefix_len (is_expired hz) (v ∷ vs) ≡ 0 = ap (λ b. cond b (1 + prefix_len (is_expired hz) vs) 0) e in absurd (omega arith))

-- the oldest values were freed, as many as are expired at most
pub swept_drop : (hz k : ℕ) (held all : List Version) → k ≤ prefix_len (is_expired hz) held → IsSwept hz held all → IsSwept hz (drop k held) all
swept_drop hz k held all l s = swept_through hz (drop k held) held all (dropped hz k held l) s

-- CHANGES

-- a value that is expired has an end, and keeps it
ended-expired : (hz m : ℕ) (v : Version) → is_expired hz v ≡ true → ended m v ≡ v
ended-expired hz m v e = ap (λ (x : Option ℕ). record v { end = x }) (kept v.end e)
  where
    kept : (end : Option ℕ) → ends_by hz end ≡ true → end_at m end ≡ end
    kept None e = cc
    kept (Some end) e = refl

with_end-swept : (hz m : ℕ) (gone held : List Version) → list_all (is_expired hz) gone ≡ true → with_end m (gone ++ held) ≡ gone ++ with_end m held
with_end-swept hz m [] held e = refl
with_end-swept hz m (v ∷ []) [] e = ap (λ w. w ∷ []) (ended-expired hz m v (both (is_expired hz v) true e).0)
with_end-swept hz m (v ∷ []) (w ∷ held) e = refl
with_end-swept hz m (v ∷ u ∷ gone) held e = ap (λ ws. v ∷ ws) (with_end-swept hz m (u ∷ gone) held (both (is_expired hz v) (list_all (is_expired hz) (u ∷ gone)) e).1)

pub swept_end : (hz m : ℕ) (held all : List Version) → IsSwept hz held all → IsSwept hz (with_end m held) (with_end m all)
swept_end hz m held all s = record { gone = s.gone; whole = ap (with_end m) s.whole ∙ with_end-swept hz m s.gone held s.expired; expired = s.expired }

-- another value begins
pub swept_more : (hz : ℕ) (v : Version) (held all : List Version) → IsSwept hz held all → IsSwept hz (held ++ v ∷ []) (all ++ v ∷ [])
swept_more hz v held all s = record { gone = s.gone; whole = ap (λ vs. vs ++ v ∷ []) s.whole ∙ append_assoc s.gone held (v ∷ []); expired = s.expired }

pub swept_put : (hz m : ℕ) (item : Item) (held all : List Version) → IsSwept hz held all → IsSwept hz (with_put m item held) (with_put m item all)
swept_put hz m item held all s = swept_more hz (begun m item) (with_end m held) (with_end m all) (swept_end hz m held all s)

expired-flushed : (hz from to : ℕ) (v : Version) → is_expired hz (flushed_one from to v) ≡ is_expired hz v
expired-flushed hz from to v = by_test (is_within from to v)
    (λ e. ap (λ b. is_expired hz (if b then erased v else v)) e)
    (λ e. ap (λ b. is_expired hz (if b then erased v else v)) e)

all-flushed : (hz from to : ℕ) (gone : List Version) → list_all (is_expired hz) (flushed from to gone) ≡ list_all (is_expired hz) gone
all-flushed hz from to [] = refl
all-flushed hz from to (v ∷ gone) = ap (λ b. b && list_all (is_expired hz) (flushed from to gone)) (expired-flushed hz from to v) ∙ ap (λ b. is_expired hz v && b) (all-flushed hz from to gone)

pub swept_flush : (hz from to : ℕ) (held all : List Version) → IsSwept hz held all → IsSwept hz (flushed from to held) (flushed from to all)
swept_flush hz from to held all s = record {
  gone = flushed from to s.gone;
  whole = ap (flushed from to) s.whole ∙ map-append (flushed_one from to) s.gone held;
  expired = all-flushed hz from to s.gone ∙ s.expired;
}

-- LOOKING BACK

-- whether what was found has ended by the moment
abbrev is_over : ℕ → Option Version → Bool
is_over m None = true
is_over m (Some v) = ends_by m v.end

over-none : (m : ℕ) (old : Option Version) → is_over m old ≡ true → unended m old ≡ None
over-none m None e = refl
over-none m (Some v) e = ap (λ b. if b then None else Some v) e

over-newer : (hz m : ℕ) (old : Option Version) (gone : List Version) → hz ≤ m → is_over m old ≡ true → list_all (is_expired hz) gone ≡ true → is_over m (fold (newer m) old gone) ≡ true
over-newer hz m old [] l o e = o
over-newer hz m old (v ∷ gone) l o e =
    let parts = both (is_expired hz v) (list_all (is_expired hz) gone) e in
    over-newer hz m (newer m old v) gone l
    (elim (nat_le v.begin m) as (λ b. is_over m (cond b (Some v) old) ≡ true) [ true ↦ by-up hz m v.end l parts.0 | false ↦ o ])
    parts.1

same-from : (m : ℕ) (old : Option Version) (held : List Version) → is_over m old ≡ true → unended m (fold (newer m) old held) ≡ unended m (fold (newer m) None held)
same-from m old [] o = over-none m old o
same-from m old (v ∷ held) o =
    elim (nat_le v.begin m) as (λ b. unended m (fold (newer m) (cond b (Some v) old) held) ≡ unended m (fold (newer m) (cond b (Some v) None) held)) [
      | true ↦ refl
      | false ↦ same-from m old held o
    ]

-- at a moment that isn't before the horizon what is held tells what all values do
pub swept_in_force : (hz m : ℕ) (held all : List Version) → hz ≤ m → IsSwept hz held all → in_force m held ≡ in_force m all
swept_in_force hz m held all l s =
    sym (ap (in_force m) s.whole ∙ ap (unended m) (fold-append (newer m) None s.gone held)
    ∙ same-from m (fold (newer m) None s.gone) held (over-newer hz m None s.gone l refl s.expired))

-- the newest of values, looked for from the oldest on
abbrev last_of : List Version → Option Version
last_of [] = None
last_of (v ∷ []) = Some v
last_of (v ∷ w ∷ vs) = last_of (w ∷ vs)

newest-last : (vs : List Version) → newest_of vs ≡ last_of vs
newest-last [] = refl
newest-last (v ∷ []) = refl
newest-last (v ∷ w ∷ vs) =
    let down : suc (suc (length vs)) - 1 ≡ suc (length vs) = omega arith in
    let again : length vs ≡ suc (length vs) - 1 = omega arith in
    ap (slice_get (v ∷ w ∷ vs)) down ∙ ap (slice_get (w ∷ vs)) again ∙ newest-last (w ∷ vs)

expired-endless : (hz : ℕ) (v : Version) → is_expired hz v ≡ true → endless (Some v) ≡ None
expired-endless hz v e = of v.end e
  where
    of : (end : Option ℕ) → ends_by hz end ≡ true → (if is_some end then None else Some v) ≡ None
    of None f = cc
    of (Some x) f = refl

last-swept : (hz : ℕ) (gone held : List Version) → list_all (is_expired hz) gone ≡ true → endless (last_of (gone ++ held)) ≡ endless (last_of held)
last-swept hz [] held e = refl
last-swept hz (v ∷ []) [] e = expired-endless hz v (both (is_expired hz v) true e).0
last-swept hz (v ∷ []) (w ∷ held) e = refl
last-swept hz (v ∷ u ∷ gone) held e = last-swept hz (u ∷ gone) held (both (is_expired hz v) (list_all (is_expired hz) (u ∷ gone)) e).1

-- the current value isn't expired
pub swept_current : (hz : ℕ) (held all : List Version) → IsSwept hz held all → current_of held ≡ current_of all
swept_current hz held all s =
    ap endless (newest-last held) ∙ sym (ap current_of s.whole ∙ ap endless (newest-last (s.gone ++ held)) ∙ last-swept hz s.gone held s.expired)

-- and so for a value now, or at a moment that isn't before the horizon
pub swept_version_in : (hz : ℕ) (at : Option ℕ) (held all : List Version) → IsFrom hz at → IsSwept hz held all → version_in at held ≡ version_in at all
swept_version_in hz None held all l s = swept_current hz held all s
swept_version_in hz (Some m) held all l s = swept_in_force hz m held all l s

-- FROM THE FIRST VALUE ON THAT ISN'T EXPIRED

-- by whether the first value is expired
unexpired-past : (hz : ℕ) (v : Version) (vs : List Version) → is_expired hz v ≡ true → unexpired hz (v ∷ vs) ≡ unexpired hz vs
unexpired-past hz v vs e = ap (λ b. if b then unexpired hz vs else v ∷ vs) e

unexpired-here : (hz : ℕ) (v : Version) (vs : List Version) → is_expired hz v ≡ false → unexpired hz (v ∷ vs) ≡ v ∷ vs
unexpired-here hz v vs e = ap (λ b. if b then unexpired hz vs else v ∷ vs) e

-- they are all but some of the oldest, which are expired
pub unexpired_swept : (hz : ℕ) (vs : List Version) → IsSwept hz (unexpired hz vs) vs
unexpired_swept hz [] = swept_none hz []
unexpired_swept hz (v ∷ vs) = by_test (is_expired hz v)
    (λ e. let rest = unexpired_swept hz vs in
    subst (λ us. IsSwept hz us (v ∷ vs)) (sym (unexpired-past hz v vs e))
    (record { gone = v ∷ rest.gone; whole = ap (λ us. v ∷ us) rest.whole; expired = ap (λ b. b && list_all (is_expired hz) rest.gone) e ∙ rest.expired }))
    (λ e. subst (λ us. IsSwept hz us (v ∷ vs)) (sym (unexpired-here hz v vs e)) (swept_none hz (v ∷ vs)))

unexpired-gone : (hz : ℕ) (gone held : List Version) → list_all (is_expired hz) gone ≡ true → unexpired hz (gone ++ held) ≡ unexpired hz held
unexpired-gone hz [] held e = refl
unexpired-gone hz (v ∷ gone) held e =
    let parts = both (is_expired hz v) (list_all (is_expired hz) gone) e in
    unexpired-past hz v (gone ++ held) parts.0 ∙ unexpired-gone hz gone held parts.1

-- what a sweep leaves agrees with what was there
pub swept_agrees : (hz : ℕ) (held all : List Version) → IsSwept hz held all → AgreesWith hz held all
swept_agrees hz held all s = record { same = sym (ap (unexpired hz) s.whole ∙ unexpired-gone hz s.gone held s.expired) }

pub agrees_as : {hz : ℕ} {old new all whole : List Version} → new ≡ old → whole ≡ all → AgreesWith hz old all → AgreesWith hz new whole
agrees_as {hz} e f s = record { same = ap (unexpired hz) e ∙ s.same ∙ sym (ap (unexpired hz) f) }

pub agrees_self : (hz : ℕ) (vs : List Version) → AgreesWith hz vs vs
agrees_self hz vs = record { same = refl }

pub agrees_through : (hz : ℕ) (less held all : List Version) → AgreesWith hz less held → AgreesWith hz held all → AgreesWith hz less all
agrees_through hz less held all s t = record { same = s.same ∙ t.same }

pub unexpired_twice : (m n : ℕ) (vs : List Version) → m ≤ n → unexpired n (unexpired m vs) ≡ unexpired n vs
unexpired_twice m n [] l = refl
unexpired_twice m n (v ∷ vs) l = by_test (is_expired m v)
    (λ e. ap (unexpired n) (unexpired-past m v vs e) ∙ unexpired_twice m n vs l ∙ sym (unexpired-past n v vs (by-up m n v.end l e)))
    (λ e. ap (unexpired n) (unexpired-here m v vs e))

-- the horizon went up
pub agrees_up : (m n : ℕ) (held all : List Version) → m ≤ n → AgreesWith m held all → AgreesWith n held all
agrees_up m n held all l s = record { same = sym (unexpired_twice m n held l) ∙ ap (unexpired n) s.same ∙ unexpired_twice m n all l }

pub unexpired_end : (hz m : ℕ) (vs : List Version) → unexpired hz (with_end m vs) ≡ unexpired hz (with_end m (unexpired hz vs))
unexpired_end hz m [] = refl
unexpired_end hz m (v ∷ []) = by_test (is_expired hz v)
    (λ e. ap (λ w. unexpired hz (w ∷ [])) (ended-expired hz m v e) ∙ unexpired-past hz v [] e ∙ sym (ap (λ us. unexpired hz (with_end m us)) (unexpired-past hz v [] e)))
    (λ e. sym (ap (λ us. unexpired hz (with_end m us)) (unexpired-here hz v [] e)))
unexpired_end hz m (v ∷ w ∷ vs) = by_test (is_expired hz v)
    (λ e. unexpired-past hz v (with_end m (w ∷ vs)) e ∙ unexpired_end hz m (w ∷ vs) ∙ sym (ap (λ us. unexpired hz (with_end m us)) (unexpired-past hz v (w ∷ vs) e)))
    (λ e. sym (ap (λ us. unexpired hz (with_end m us)) (unexpired-here hz v (w ∷ vs) e)))

pub agrees_end : (hz m : ℕ) (held all : List Version) → AgreesWith hz held all → AgreesWith hz (with_end m held) (with_end m all)
agrees_end hz m held all s = record { same = unexpired_end hz m held ∙ ap (λ us. unexpired hz (with_end m us)) s.same ∙ sym (unexpired_end hz m all) }

unexpired-more : (hz : ℕ) (more vs : List Version) → unexpired hz (vs ++ more) ≡ unexpired hz (unexpired hz vs ++ more)
unexpired-more hz more [] = refl
unexpired-more hz more (v ∷ vs) = by_test (is_expired hz v)
    (λ e. unexpired-past hz v (vs ++ more) e ∙ unexpired-more hz more vs ∙ sym (ap (λ us. unexpired hz (us ++ more)) (unexpired-past hz v vs e)))
    (λ e. sym (ap (λ us. unexpired hz (us ++ more)) (unexpired-here hz v vs e)))

-- another value begins
pub agrees_more : (hz : ℕ) (v : Version) (held all : List Version) → AgreesWith hz held all → AgreesWith hz (held ++ v ∷ []) (all ++ v ∷ [])
agrees_more hz v held all s = record { same = unexpired-more hz (v ∷ []) held ∙ ap (λ us. unexpired hz (us ++ v ∷ [])) s.same ∙ sym (unexpired-more hz (v ∷ []) all) }

pub agrees_put : (hz m : ℕ) (item : Item) (held all : List Version) → AgreesWith hz held all → AgreesWith hz (with_put m item held) (with_put m item all)
agrees_put hz m item held all s = agrees_more hz (begun m item) (with_end m held) (with_end m all) (agrees_end hz m held all s)

unexpired-flushed : (hz from to : ℕ) (vs : List Version) → unexpired hz (flushed from to vs) ≡ flushed from to (unexpired hz vs)
unexpired-flushed hz from to [] = refl
unexpired-flushed hz from to (v ∷ vs) = by_test (is_expired hz v)
    (λ e. unexpired-past hz (flushed_one from to v) (flushed from to vs) (expired-flushed hz from to v ∙ e) ∙ unexpired-flushed hz from to vs ∙ sym (ap (flushed from to) (unexpired-past hz v vs e)))
    (λ e. unexpired-here hz (flushed_one from to v) (flushed from to vs) (expired-flushed hz from to v ∙ e) ∙ sym (ap (flushed from to) (unexpired-here hz v vs e)))

pub agrees_flush : (hz from to : ℕ) (held all : List Version) → AgreesWith hz held all → AgreesWith hz (flushed from to held) (flushed from to all)
agrees_flush hz from to held all s = record { same = unexpired-flushed hz from to held ∙ ap (flushed from to) s.same ∙ sym (unexpired-flushed hz from to all) }

-- now, and at a moment that isn't before the horizon, both tell the same
pub agrees_version_in : (hz : ℕ) (at : Option ℕ) (held all : List Version) → IsFrom hz at → AgreesWith hz held all → version_in at held ≡ version_in at all
agrees_version_in hz at held all l s =
    sym (swept_version_in hz at (unexpired hz held) held l (unexpired_swept hz held)) ∙ ap (version_in at) s.same ∙ swept_version_in hz at (unexpired hz all) all l (unexpired_swept hz all)
