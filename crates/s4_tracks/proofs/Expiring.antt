-- Values are freed from the oldest on.
use Rattle.std.proofs.Common.{◌≡◌, ℕ, zero, suc, ◌+◌, ◌≤◌, ◌<◌, Bool, true, false, cond, Option, Some, None, List, [], ◌∷◌, refl, ap, arith, drop, take, length}
use Rattle.std.specs.Prelude.{◌||◌, count_by}
use Rattle.std.specs.List.{list_any, prefix_len}
use Rattle.std.proofs.lemmas.List.Sums.{sum_by-cons}
use Rattle.s4_types.specs.declared.version.Version.{Version}
use Rattle.s4_types.specs.Versions.{ends_by}
use Rattle.s4_types.proofs.Booleans.{by_test}
use Rattle.s4_tracks.specs.Chain.{is_expired, EndsBefore, IsInOrder}

pub prefix_drop : {X : Type 0} (p : X → Bool) (n : ℕ) (xs : List X) → n ≤ prefix_len p xs → prefix_len p (drop n xs) + n ≡ prefix_len p xs
prefix_drop p zero xs l = omega arith
prefix_drop p (suc n) [] l = absurd (omega arith)
prefix_drop p (suc n) (x ∷ xs) l =
    elim (p x) as (λ b. suc n ≤ cond b (1 + prefix_len p xs) 0 → prefix_len p (drop n xs) + suc n ≡ cond b (1 + prefix_len p xs) 0) [
      | true ↦ λ k. let rest : prefix_len p (drop n xs) + n ≡ prefix_len p xs = prefix_drop p n xs (omega arith) in omega arith
      | false ↦ λ k. absurd (omega arith)
    ] l

-- what the front of a list tells of how long it passes
pub front_passes : {X : Type 0} (p : X → Bool) (xs : List X) → list_any p (take 1 xs) ≡ true → 0 < prefix_len p xs
front_passes p [] e = cc
front_passes p (x ∷ xs) e = by_test (p x)
    (λ f. let is : prefix_len p (x ∷ xs) ≡ 1 + prefix_len p xs = ap (λ b. cond b (1 + prefix_len p xs) 0) f in omega arith)
    (λ f. let no : list_any p (x ∷ []) ≡ false = ap (λ b. b || false) f in cc)

pub front_fails : {X : Type 0} (p : X → Bool) (xs : List X) → list_any p (take 1 xs) ≡ false → prefix_len p xs ≡ 0
front_fails p [] e = refl
front_fails p (x ∷ xs) e = by_test (p x)
    (λ f. let yes : list_any p (x ∷ []) ≡ true = ap (λ b. b || false) f in cc)
    (λ f. ap (λ b. cond b (1 + prefix_len p xs) 0) f)

pub front_there : {X : Type 0} (p : X → Bool) (xs : List X) → list_any p (take 1 xs) ≡ true → length (drop 1 xs) + 1 ≡ length xs
front_there p [] e = cc
front_there p (x ∷ xs) e = omega arith

-- so many are gone, and the next one goes
pub one_more : {X : Type 0} (p : X → Bool) (n : ℕ) (xs : List X) → n ≤ prefix_len p xs → list_any p (take 1 (drop n xs)) ≡ true → n + 1 ≤ prefix_len p xs
one_more p n xs l e =
    let all : prefix_len p (drop n xs) + n ≡ prefix_len p xs = prefix_drop p n xs l in
    let some : 0 < prefix_len p (drop n xs) = front_passes p (drop n xs) e in
    omega arith

-- so many are gone, and no more go
pub no_more : {X : Type 0} (p : X → Bool) (n : ℕ) (xs : List X) → n ≤ prefix_len p xs → list_any p (take 1 (drop n xs)) ≡ false → n ≡ prefix_len p xs
no_more p n xs l e =
    let all : prefix_len p (drop n xs) + n ≡ prefix_len p xs = prefix_drop p n xs l in
    let none : prefix_len p (drop n xs) ≡ 0 = front_fails p (drop n xs) e in
    omega arith

-- BY THE ORDER OF THEIR ENDS

abbrev tally : Bool → ℕ
tally b = cond b 1 0

count-cons : {A : Type 0} (p : A → Bool) (x : A) (xs : List A) → count_by p (x ∷ xs) ≡ tally (p x) + count_by p xs
count-cons p x xs = sum_by-cons (λ y. tally (p y)) x xs

-- behind a value that isn't expired none is
up-unexpired : (hz : ℕ) (end later : Option ℕ) → EndsBefore end later → ends_by hz end ≡ false → ends_by hz later ≡ false
up-unexpired hz None later b e = absurd b
up-unexpired hz (Some end) None b e = refl
up-unexpired hz (Some end) (Some later) b e = grind (arith, b, e)

none-behind : (hz : ℕ) (v : Version) (vs : List Version) → IsInOrder (v ∷ vs) → is_expired hz v ≡ false → count_by (is_expired hz) vs ≡ 0
none-behind hz v [] o e = refl
none-behind hz v (w ∷ vs) o e =
    let here : is_expired hz w ≡ false = up-unexpired hz v.end w.end o.0 e in
    let all : count_by (is_expired hz) (w ∷ vs) ≡ tally (is_expired hz w) + count_by (is_expired hz) vs = count-cons (is_expired hz) w vs in
    let none : tally (is_expired hz w) ≡ 0 = ap tally here in
    let rest : count_by (is_expired hz) vs ≡ 0 = none-behind hz w vs o.1 here in
    omega arith

tail-in-order : (v : Version) (vs : List Version) → IsInOrder (v ∷ vs) → IsInOrder vs
tail-in-order v [] o = _
tail-in-order v (w ∷ vs) o = o.1

-- the values that are expired are the oldest ones
pub in_order_count : (hz : ℕ) (vs : List Version) → IsInOrder vs → prefix_len (is_expired hz) vs ≡ count_by (is_expired hz) vs
in_order_count hz [] o = refl
in_order_count hz (v ∷ vs) o =
    let all : count_by (is_expired hz) (v ∷ vs) ≡ tally (is_expired hz v) + count_by (is_expired hz) vs = count-cons (is_expired hz) v vs in
    by_test (is_expired hz v)
    (λ e. let front : prefix_len (is_expired hz) (v ∷ vs) ≡ 1 + prefix_len (is_expired hz) vs = ap (λ b. cond b (1 + prefix_len (is_expired hz) vs) 0) e in
    let rest : prefix_len (is_expired hz) vs ≡ count_by (is_expired hz) vs = in_order_count hz vs (tail-in-order v vs o) in
    let one : tally (is_expired hz v) ≡ 1 = ap tally e in
    omega arith)
    (λ e. let front : prefix_len (is_expired hz) (v ∷ vs) ≡ 0 = ap (λ b. cond b (1 + prefix_len (is_expired hz) vs) 0) e in
    let none : count_by (is_expired hz) vs ≡ 0 = none-behind hz v vs o e in
    let zero' : tally (is_expired hz v) ≡ 0 = ap tally e in
    omega arith)
