-- The ends of a name's bindings, as bindings begin, end and are freed.
use Rattle.std.proofs.Common.{◌≡◌, ℕ, suc, ◌+◌, ◌-◌, ◌≤◌, Bool, true, false, cond, Option, Some, None, List, [], ◌∷◌, ◌++◌, refl, sym, ◌∙◌, ap, subst, arith, length, drop}
use Rattle.std.specs.Prelude.{◌&&◌, nat_le, is_some, slice_get, count_by, if◌then◌else◌}
use Rattle.std.specs.List.{list_all, prefix_len}
use Rattle.s4_types.specs.declared.object.Purse.{Purse}
use Rattle.s4_types.specs.declared.version.Version.{Version}
use Rattle.s4_types.specs.Versions.{ends_by}
use Rattle.s4_types.proofs.Booleans.{by_test, both, not_both}
use Rattle.s4_store.specs.Chains.{newest_of}
use Rattle.s4_tracks.specs.Chain.{end_at, with_end, endless, current_of}
use Rattle.s4_tracks.specs.Swept.{IsSwept}
use Rattle.s4_parts.specs.declared.ends.Ended.{Ended}
use Rattle.s4_parts.specs.Table.{is_any, object_of, serial_now}
use Rattle.s4_parts.specs.Waiting.{is_of, ends_of, is_gone, all_by, IsRising, IsBound, HasEnds}
use Rattle.s4_types.proofs.Ordered.{tally, count-cons}

-- IN ORDER

all-more : {A : Type 0} (p : A → Bool) (xs : List A) (y : A) → list_all p xs ≡ true → p y ≡ true → list_all p (xs ++ y ∷ []) ≡ true
all-more p [] y e f = ap (λ b. b && true) f
all-more p (x ∷ xs) y e f =
    let parts = both (p x) (list_all p xs) e in
    ap (λ b. b && list_all p (xs ++ y ∷ [])) parts.0 ∙ all-more p xs y parts.1 f

pub rising-more : (es : List Ended) (e : Ended) → IsRising es → all_by e.end es ≡ true → IsRising (es ++ e ∷ [])
rising-more [] e r a = (refl, _)
rising-more (x ∷ es) e r a =
    let parts = both (nat_le x.end e.end) (all_by e.end es) a in
    (all-more (λ f. nat_le x.end f.end) es e r.0 parts.0, rising-more es e r.1 parts.1)

above-up : (hz a b : ℕ) → nat_le a b ≡ true → nat_le a hz ≡ false → nat_le b hz ≡ false
above-up hz a b e f = grind arith

none-behind : (hz a : ℕ) (es : List Ended) → list_all (λ f. nat_le a f.end) es ≡ true → nat_le a hz ≡ false → count_by (is_gone hz) es ≡ 0
none-behind hz a [] e f = refl
none-behind hz a (x ∷ es) e f =
    let parts = both (nat_le a x.end) (list_all (λ g. nat_le a g.end) es) e in
    let all : count_by (is_gone hz) (x ∷ es) ≡ tally (is_gone hz x) + count_by (is_gone hz) es = count-cons (is_gone hz) x es in
    let none : tally (is_gone hz x) ≡ 0 = ap tally (above-up hz a x.end parts.0 f) in
    let rest : count_by (is_gone hz) es ≡ 0 = none-behind hz a es parts.1 f in
    omega arith

-- those that are gone are the first ones
pub rising-count : (hz : ℕ) (es : List Ended) → IsRising es → prefix_len (is_gone hz) es ≡ count_by (is_gone hz) es
rising-count hz [] r = refl
rising-count hz (x ∷ es) r =
    let all : count_by (is_gone hz) (x ∷ es) ≡ tally (is_gone hz x) + count_by (is_gone hz) es = count-cons (is_gone hz) x es in
    by_test (is_gone hz x)
    (λ e. let front : prefix_len (is_gone hz) (x ∷ es) ≡ 1 + prefix_len (is_gone hz) es = ap (λ b. cond b (1 + prefix_len (is_gone hz) es) 0) e in
    let rest : prefix_len (is_gone hz) es ≡ count_by (is_gone hz) es = rising-count hz es r.1 in
    let one : tally (is_gone hz x) ≡ 1 = ap tally e in
    omega arith)
    (λ e. let front : prefix_len (is_gone hz) (x ∷ es) ≡ 0 = ap (λ b. cond b (1 + prefix_len (is_gone hz) es) 0) e in
    let none : count_by (is_gone hz) es ≡ 0 = none-behind hz x.end es r.0 e in
    let nothing : tally (is_gone hz x) ≡ 0 = ap tally e in
    omega arith)

pub rising-rest : (k : ℕ) (es : List Ended) → IsRising es → IsRising (drop k es)
rising-rest Rattle.std.proofs.Common.zero es r = r
rising-rest (suc k) [] r = r
rising-rest (suc k) (x ∷ es) r = rising-rest k es r.1

-- ONE END MORE

pub ends-more : (p : Purse) (n : List ℕ) (es : List Ended) (e : Ended) → ends_of p n (es ++ e ∷ []) ≡ ends_of p n es ++ (if is_of p n e then e.end ∷ [] else [])
ends-more p n [] e = refl
ends-more p n (x ∷ es) e = by_test (is_of p n x)
    (λ f. ap (λ b. if b then x.end ∷ ends_of p n (es ++ e ∷ []) else ends_of p n (es ++ e ∷ [])) f ∙ ap (λ ys. x.end ∷ ys) (ends-more p n es e)
    ∙ sym (ap (λ b. (if b then x.end ∷ ends_of p n es else ends_of p n es) ++ (if is_of p n e then e.end ∷ [] else [])) f))
    (λ f. ap (λ b. if b then x.end ∷ ends_of p n (es ++ e ∷ []) else ends_of p n (es ++ e ∷ [])) f ∙ ends-more p n es e
    ∙ sym (ap (λ b. (if b then x.end ∷ ends_of p n es else ends_of p n es) ++ (if is_of p n e then e.end ∷ [] else [])) f))

pub newest-tail : (v w : Version) (vs : List Version) → newest_of (v ∷ w ∷ vs) ≡ newest_of (w ∷ vs)
newest-tail v w vs =
    let down : suc (suc (length vs)) - 1 ≡ suc (length vs) = omega arith in
    let again : length vs ≡ suc (length vs) - 1 = omega arith in
    ap (slice_get (v ∷ w ∷ vs)) down ∙ ap (slice_get (w ∷ vs)) again

pub current-tail : (v w : Version) (vs : List Version) → current_of (v ∷ w ∷ vs) ≡ current_of (w ∷ vs)
current-tail v w vs = ap endless (newest-tail v w vs)

-- the current binding ends
pub ended-has : (m : ℕ) (es : List ℕ) (vs : List Version) → HasEnds es vs → is_some (serial_now vs) ≡ true → HasEnds (es ++ m ∷ []) (with_end m vs)
ended-has m [] [] h now = cc
ended-has m [] (v ∷ []) h now = (ap (end_at m) h.endless, _)
ended-has m [] (v ∷ w ∷ vs) h now = absurd h
ended-has m (e ∷ es) [] h now = absurd h
ended-has m (e ∷ es) (v ∷ []) h now =
    absurd (not_both _ now (ap (λ x. is_some (Rattle.std.specs.Option.option_map (λ (o : Rattle.s4_types.specs.declared.object.ObjectId.ObjectId). o.serial) (object_of (if is_some x then None else Some v)))) h.0))
ended-has m (e ∷ es) (v ∷ w ∷ vs) h now =
    (h.0, ended-has m es (w ∷ vs) h.1 (ap (λ x. is_some (Rattle.std.specs.Option.option_map (λ (o : Rattle.s4_types.specs.declared.object.ObjectId.ObjectId). o.serial) (object_of x))) (sym (current-tail v w vs)) ∙ now))

-- where none is current another begins
pub bound-has : (es : List ℕ) (vs : List Version) (b : Version) → HasEnds es vs → object_of (current_of vs) ≡ None → IsBound b → HasEnds es (vs ++ b ∷ [])
bound-has [] [] b h none new = new
bound-has [] (v ∷ []) b h none new =
    let there : is_some (object_of (current_of (v ∷ []))) ≡ true = ap (λ x. is_some (object_of (if is_some x then None else Some v))) h.endless ∙ h.object in
    absurd (not_both _ there (ap is_some none))
bound-has [] (v ∷ w ∷ vs) b h none new = absurd h
bound-has (e ∷ es) [] b h none new = absurd h
bound-has (e ∷ es) (v ∷ []) b h none new = (h.0, bound-has es [] b h.1 refl new)
bound-has (e ∷ es) (v ∷ w ∷ vs) b h none new = (h.0, bound-has es (w ∷ vs) b h.1 (ap object_of (sym (current-tail v w vs)) ∙ none) new)

-- ONE END FEWER

pub freed-has : (e : ℕ) (es : List ℕ) (vs : List Version) → HasEnds (e ∷ es) vs → HasEnds es (drop 1 vs)
freed-has e es [] h = absurd h
freed-has e es (v ∷ vs) h = h.1

pub freed-any : (e : ℕ) (es : List ℕ) (vs : List Version) → HasEnds (e ∷ es) vs → is_any vs ≡ true
freed-any e es [] h = absurd h
freed-any e es (v ∷ vs) h = refl

pub freed-swept : (hz e : ℕ) (es : List ℕ) (vs : List Version) → HasEnds (e ∷ es) vs → nat_le e hz ≡ true → IsSwept hz (drop 1 vs) vs
freed-swept hz e es [] h gone = absurd h
freed-swept hz e es (v ∷ vs) h gone = record { gone = v ∷ []; whole = refl; expired = ap (λ b. b && true) (ap (ends_by hz) h.0 ∙ gone) }
