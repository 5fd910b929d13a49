-- The ends of a track's past values, as values end, begin, are erased and are freed.
use Rattle.std.proofs.Common.{◌≡◌, ℕ, suc, ◌+◌, ◌-◌, ◌<◌, ◌≤◌, take, Bool, true, Some, None, List, [], ◌∷◌, ◌++◌, refl, sym, ◌∙◌, ap, arith, length, drop, false, zero, cond, count_by}
use Rattle.std.specs.Prelude.{◌&&◌, ◌||◌, nat_le, is_some, slice_get, if◌then◌else◌}
use Rattle.std.specs.List.{list_all, list_any, prefix_len}
use Rattle.std.specs.Ordering.{nat_cmp, is_le}
use Rattle.std.proofs.lemmas.Bool.{le-leb}
use Rattle.std.proofs.lemmas.Bool.Decides.{nat_tests}
use Rattle.std.proofs.lemmas.List.Sums.{sum_by-cons}
use Rattle.s4_types.specs.declared.object.ObjectId.{ObjectId}
use Rattle.s4_types.specs.declared.version.Version.{Version}
use Rattle.s4_types.specs.declared.version.Item.{Item}
use Rattle.s4_types.specs.Versions.{ends_by}
use Rattle.s4_types.proofs.Booleans.{by_test, both, not_both}
use Rattle.s4_tracks.specs.Chain.{end_at, erased, is_within, flushed_one, flushed, with_end, with_put, endless, current_of}
use Rattle.s4_tracks.specs.Swept.{IsSwept}
use Rattle.s4_objects.specs.declared.kept.Which.{Which}
use Rattle.s4_objects.specs.declared.ends.Ended.{Ended}
use Rattle.s4_objects.specs.Ends.{is_of, ends_of, all_ends, is_gone, all_by, IsRising, HasEnds, is_any}

-- IN ORDER

count-cons : (p : ℕ → Bool) (x : ℕ) (xs : List ℕ) → count_by p (x ∷ xs) ≡ cond (p x) (1 + count_by p xs) (count_by p xs)
count-cons p x xs = sum_by-cons (λ y. cond {A = ℕ} (p y) 1 0) x xs ∙ of (p x)
  where
    of : (b : Bool) → cond {A = ℕ} b 1 0 + count_by p xs ≡ cond b (1 + count_by p xs) (count_by p xs)
    of true = refl
    of false = omega arith

count-yes : (p : ℕ → Bool) (x : ℕ) (xs : List ℕ) → p x ≡ true → count_by p (x ∷ xs) ≡ 1 + count_by p xs
count-yes p x xs e = count-cons p x xs ∙ ap (λ b. cond b (1 + count_by p xs) (count_by p xs)) e

count-no : (p : ℕ → Bool) (x : ℕ) (xs : List ℕ) → p x ≡ false → count_by p (x ∷ xs) ≡ count_by p xs
count-no p x xs e = count-cons p x xs ∙ ap (λ b. cond b (1 + count_by p xs) (count_by p xs)) e

all-more : (p : ℕ → Bool) (xs : List ℕ) (y : ℕ) → list_all p xs ≡ true → p y ≡ true → list_all p (xs ++ y ∷ []) ≡ true
all-more p [] y e f = ap (λ b. b && true) f
all-more p (x ∷ xs) y e f =
    let parts = both (p x) (list_all p xs) e in
    ap (λ b. b && list_all p (xs ++ y ∷ [])) parts.0 ∙ all-more p xs y parts.1 f

pub rising_more : (ends : List ℕ) (end : ℕ) → IsRising ends → all_by end ends ≡ true → IsRising (ends ++ end ∷ [])
rising_more [] end r a = (refl, _)
rising_more (x ∷ ends) end r a =
    let parts = both (nat_le x end) (all_by end ends) a in
    (all-more (nat_le x) ends end r.0 parts.0, rising_more ends end r.1 parts.1)

le_self : (m : ℕ) → nat_le m m ≡ true
le_self m = grind arith

-- the moment of the last end isn't before it
pub by_more : (m : ℕ) (ends : List ℕ) → all_by m ends ≡ true → all_by m (ends ++ m ∷ []) ≡ true
by_more m ends e = all-more (λ end. nat_le end m) ends m e (le_self m)

pub all_ends_more : (es : List Ended) (e : Ended) → all_ends (es ++ e ∷ []) ≡ all_ends es ++ e.end ∷ []
all_ends_more [] e = refl
all_ends_more (x ∷ es) e = ap (λ ys. x.end ∷ ys) (all_ends_more es e)

all-drop : (m k : ℕ) (ends : List ℕ) → all_by m ends ≡ true → all_by m (drop k ends) ≡ true
all-drop m zero ends e = e
all-drop m (suc k) [] e = e
all-drop m (suc k) (x ∷ ends) e = all-drop m k ends (both (nat_le x m) (all_by m ends) e).1

-- the ends that are left aren't above the moment either
pub by_left : (m k : ℕ) (ends left : List ℕ) → left ≡ drop k ends → all_by m ends ≡ true → all_by m left ≡ true
by_left m k ends left is e = ap (all_by m) is ∙ all-drop m k ends e

above-up : (hz a b : ℕ) → nat_le a b ≡ true → is_gone hz a ≡ false → is_gone hz b ≡ false
above-up hz a b e f = grind arith

none-behind : (hz a : ℕ) (ends : List ℕ) → list_all (nat_le a) ends ≡ true → is_gone hz a ≡ false → count_by (is_gone hz) ends ≡ 0
none-behind hz a [] e f = refl
none-behind hz a (x ∷ ends) e f =
    let parts = both (nat_le a x) (list_all (nat_le a) ends) e in
    count-no (is_gone hz) x ends (above-up hz a x parts.0 f) ∙ none-behind hz a ends parts.1 f

-- those that are gone are the first ones
pub rising_count : (hz : ℕ) (ends : List ℕ) → IsRising ends → prefix_len (is_gone hz) ends ≡ count_by (is_gone hz) ends
rising_count hz [] r = refl
rising_count hz (x ∷ ends) r = by_test (is_gone hz x)
    (λ e. ap (λ b. cond b (1 + prefix_len (is_gone hz) ends) 0) e ∙ ap (λ n. 1 + n) (rising_count hz ends r.1) ∙ sym (count-yes (is_gone hz) x ends e))
    (λ e. ap (λ b. cond b (1 + prefix_len (is_gone hz) ends) 0) e ∙ sym (count-no (is_gone hz) x ends e ∙ none-behind hz x ends r.0 e))

-- ONE END MORE

pub ends_more : (o : ObjectId) (w : Which) (es : List Ended) (e : Ended) → ends_of o w (es ++ e ∷ []) ≡ ends_of o w es ++ (if is_of o w e then e.end ∷ [] else [])
ends_more o w [] e = refl
ends_more o w (x ∷ es) e = by_test (is_of o w x)
    (λ f. ap (λ b. if b then x.end ∷ ends_of o w (es ++ e ∷ []) else ends_of o w (es ++ e ∷ [])) f ∙ ap (λ ys. x.end ∷ ys) (ends_more o w es e)
    ∙ sym (ap (λ b. (if b then x.end ∷ ends_of o w es else ends_of o w es) ++ (if is_of o w e then e.end ∷ [] else [])) f))
    (λ f. ap (λ b. if b then x.end ∷ ends_of o w (es ++ e ∷ []) else ends_of o w (es ++ e ∷ [])) f ∙ ends_more o w es e
    ∙ sym (ap (λ b. (if b then x.end ∷ ends_of o w es else ends_of o w es) ++ (if is_of o w e then e.end ∷ [] else [])) f))

current-tail : (v w : Version) (vs : List Version) → current_of (v ∷ w ∷ vs) ≡ current_of (w ∷ vs)
current-tail v w vs =
    let down : suc (suc (length vs)) - 1 ≡ suc (length vs) = omega arith in
    let again : length vs ≡ suc (length vs) - 1 = omega arith in
    ap endless (ap (slice_get (v ∷ w ∷ vs)) down ∙ ap (slice_get (w ∷ vs)) again)

past-isnt : (e : ℕ) (v : Version) → v.end ≡ Some e → is_some (current_of (v ∷ [])) ≡ true → ⊥
past-isnt e v past now = not_both _ now (ap (λ x. is_some (if is_some x then None else Some v)) past)

-- the current value ends
pub ended_has : (m : ℕ) (ends : List ℕ) (vs : List Version) → HasEnds ends vs → is_some (current_of vs) ≡ true → HasEnds (ends ++ m ∷ []) (with_end m vs)
ended_has m [] [] h now = cc
ended_has m [] (v ∷ []) h now = (ap (end_at m) h, _)
ended_has m [] (v ∷ w ∷ vs) h now = absurd h
ended_has m (e ∷ ends) [] h now = absurd h
ended_has m (e ∷ ends) (v ∷ []) h now = absurd (past-isnt e v h.0 now)
ended_has m (e ∷ ends) (v ∷ w ∷ vs) h now = (h.0, ended_has m ends (w ∷ vs) h.1 (ap is_some (sym (current-tail v w vs)) ∙ now))

-- and another begins
pub put_has : (m : ℕ) (item : Item) (ends : List ℕ) (vs : List Version) → HasEnds ends vs → is_some (current_of vs) ≡ true → HasEnds (ends ++ m ∷ []) (with_put m item vs)
put_has m item [] [] h now = cc
put_has m item [] (v ∷ []) h now = (ap (end_at m) h, refl)
put_has m item [] (v ∷ w ∷ vs) h now = absurd h
put_has m item (e ∷ ends) [] h now = absurd h
put_has m item (e ∷ ends) (v ∷ []) h now = absurd (past-isnt e v h.0 now)
put_has m item (e ∷ ends) (v ∷ w ∷ vs) h now = (h.0, put_has m item ends (w ∷ vs) h.1 (ap is_some (sym (current-tail v w vs)) ∙ now))

pub ended_any : (m : ℕ) (vs : List Version) → is_some (current_of vs) ≡ true → is_any (with_end m vs) ≡ true
ended_any m [] now = cc
ended_any m (v ∷ []) now = refl
ended_any m (v ∷ w ∷ vs) now = refl

pub put_any : (m : ℕ) (item : Item) (vs : List Version) → is_any (with_put m item vs) ≡ true
put_any m item [] = refl
put_any m item (v ∷ []) = refl
put_any m item (v ∷ w ∷ vs) = refl

-- values are erased
flushed-end : (from to : ℕ) (v : Version) → (flushed_one from to v).end ≡ v.end
flushed-end from to v = by_test (is_within from to v) (λ e. ap (λ b. (if b then erased v else v).end) e) (λ e. ap (λ b. (if b then erased v else v).end) e)

pub flushed_has : (from to : ℕ) (ends : List ℕ) (vs : List Version) → HasEnds ends vs → HasEnds ends (flushed from to vs)
flushed_has from to [] [] h = h
flushed_has from to [] (v ∷ []) h = flushed-end from to v ∙ h
flushed_has from to [] (v ∷ w ∷ vs) h = h
flushed_has from to (e ∷ ends) [] h = h
flushed_has from to (e ∷ ends) (v ∷ vs) h = (flushed-end from to v ∙ h.0, flushed_has from to ends vs h.1)

pub flushed_any : (from to : ℕ) (vs : List Version) → is_any (flushed from to vs) ≡ is_any vs
flushed_any from to [] = refl
flushed_any from to (v ∷ vs) = refl

-- ONE END FEWER

pub freed_has : (e : ℕ) (ends : List ℕ) (vs : List Version) → HasEnds (e ∷ ends) vs → HasEnds ends (drop 1 vs)
freed_has e ends [] h = absurd h
freed_has e ends (v ∷ vs) h = h.1

pub freed_any : (e : ℕ) (ends : List ℕ) (vs : List Version) → HasEnds (e ∷ ends) vs → is_any vs ≡ true
freed_any e ends [] h = absurd h
freed_any e ends (v ∷ vs) h = refl

pub freed_swept : (hz e : ℕ) (ends : List ℕ) (vs : List Version) → HasEnds (e ∷ ends) vs → nat_le e hz ≡ true → IsSwept hz (drop 1 vs) vs
freed_swept hz e ends [] h gone = absurd h
freed_swept hz e ends (v ∷ vs) h gone = record { gone = v ∷ []; whole = refl; expired = ap (λ b. b && true) (ap (ends_by hz) h.0 ∙ gone) }

-- where nothing is held nothing waits
pub none_wait : (ends : List ℕ) → HasEnds ends [] → ends ≡ []
none_wait [] h = refl
none_wait (e ∷ ends) h = absurd h

-- THE FIRST END

-- what `<=` answers of two moments
le-test : (a b : ℕ) → is_le (nat_cmp a b) ≡ nat_le a b
le-test a b = by_test (is_le (nat_cmp a b))
    (λ t. let l : a ≤ b = grind (arith, t) in t ∙ sym (le-leb a b l))
    (λ f. by_test (nat_le a b) (λ t. let l : a ≤ b = grind (arith, t) in let m : b < a = grind (arith, nat_tests, f) in absurd (omega arith)) (λ g. f ∙ sym g))

pub first_gone : (horizon : ℕ) (es : List Ended) (e : Ended) → slice_get es 0 ≡ Some e → is_le (nat_cmp e.end horizon) ≡ list_any (is_gone horizon) (take 1 (all_ends es))
first_gone horizon [] e first = absurd cc
first_gone horizon (x ∷ es) e first =
    let same : x ≡ e = some_is x e first in
    le-test e.end horizon ∙ sym (or-false (nat_le e.end horizon)) ∙ ap (λ y. nat_le y.end horizon || false) (sym same)
  where
    or-false : (b : Bool) → (b || false) ≡ b
    or-false true = refl
    or-false false = refl

    some_is : (x y : Ended) → Some x ≡ Some y → x ≡ y
    some_is x y e = cc

pub none_gone : (horizon : ℕ) (es : List Ended) → slice_get es 0 ≡ None → false ≡ list_any (is_gone horizon) (take 1 (all_ends es))
none_gone horizon [] none = refl
none_gone horizon (x ∷ es) none = absurd cc
