-- The newest value of a chain ends.
use Rattle.std.proofs.Common.{◌≡◌, ℕ, ◌+◌, ◌-◌, ◌<◌, true, false, Option, Some, None, List, [], ◌∷◌, ◌++◌, refl, sym, ◌∙◌, ap, arith, take, length}
use Rattle.std.specs.Prelude.{slice_get, slice_set, is_some, set}
use Rattle.std.proofs.lemmas.List.{take_more, take_all, set_at, length-take, length-set}
use Rattle.std.proofs.lemmas.Option.{slice_get_within, get_or_from_slice_get}
use Rattle.s4_types.specs.declared.version.Version.{Version}
use Rattle.std.specs.FinMap as finmap
use Rattle.s4_store.specs.Chains.{Chains, items_of}
use Rattle.s4_store.specs.Laws.{insert_twice, items_here}
use Rattle.s4_tracks.specs.Chain.{end_at, ended, with_end}

pub with_end-snoc : (m : ℕ) (vs : List Version) (v : Version) → with_end m (vs ++ v ∷ []) ≡ vs ++ ended m v ∷ []
with_end-snoc m [] v = refl
with_end-snoc m (u ∷ []) v = refl
with_end-snoc m (u ∷ w ∷ vs) v = ap (λ ws. u ∷ ws) (with_end-snoc m (w ∷ vs) v)

pub take_at_get : (vs : List Version) (i : ℕ) (v : Version) → slice_get vs i ≡ Some v → take (i + 1) vs ≡ take i vs ++ v ∷ []
take_at_get vs i v e = take_more vs i v (slice_get_within vs i v e) ∙ ap (λ w. take i vs ++ w ∷ []) (get_or_from_slice_get vs i v v e)

-- a list whose last element is known
pub last_is : (vs : List Version) (n : ℕ) (v : Version) → n ≡ length vs → slice_get vs (n - 1) ≡ Some v → (front : List Version) × (vs ≡ front ++ v ∷ []) × (n - 1 ≡ length front)
last_is vs n v is got =
    let within : n - 1 < length vs = slice_get_within vs (n - 1) v got in
    let all : take (n - 1 + 1) vs ≡ vs = take_all (n - 1 + 1) vs (omega arith) in
    (take (n - 1) vs, sym all ∙ take_at_get vs (n - 1) v got, omega (arith, length-take (n - 1) vs))

pub ends_last : (m : ℕ) (vs : List Version) (n : ℕ) (v w : Version) → n ≡ length vs → slice_get vs (n - 1) ≡ Some v → v.end ≡ None → slice_set (slice_set vs (n - 1) w) (n - 1) (record v { end = Some m }) ≡ with_end m vs
ends_last m vs n v w is got open' =
    let l = last_is vs n v is got in
    let x : Version = record v { end = Some m } in
    ap (λ us. set (set us (n - 1) w) (n - 1) x) l.1
    ∙ ap (λ us. set us (n - 1) x) (set_at l.0 v [] w (n - 1) (sym l.2))
    ∙ set_at l.0 w [] x (n - 1) (sym l.2)
    ∙ ap (λ e. l.0 ++ record v { end = e } ∷ []) (sym (ap (end_at m) open'))
    ∙ sym (with_end-snoc m l.0 v) ∙ ap (with_end m) (sym l.1)

pub ended_before : (m : ℕ) (vs : List Version) (n : ℕ) (v : Version) → n ≡ length vs → slice_get vs (n - 1) ≡ Some v → is_some v.end ≡ true → with_end m vs ≡ vs
ended_before m vs n v is got past =
    let l = last_is vs n v is got in
    ap (with_end m) l.1 ∙ with_end-snoc m l.0 v ∙ ap (λ e. l.0 ++ record v { end = e } ∷ []) (stays v.end past) ∙ sym l.1
  where
    stays : (e : Option ℕ) → is_some e ≡ true → end_at m e ≡ e
    stays None f = cc
    stays (Some x) f = refl

pub empty_is : (m : ℕ) (vs : List Version) → length vs ≡ 0 → with_end m vs ≡ vs
empty_is m [] e = refl
empty_is m (v ∷ vs) e = absurd (omega arith)

-- the newest value is taken out, is given its end, and is put back
pub ended_in : (m m1 m2 : Chains Version) (c k n : ℕ) (v w : Version)
    → n ≡ length (items_of m c) → slice_get (items_of m c) (n - 1) ≡ Some v → v.end ≡ None
    → m1 ≡ finmap.insert m c (slice_set (items_of m c) (n - 1) w)
    → m2 ≡ finmap.insert m1 c (slice_set (items_of m1 c) (n - 1) (record v { end = Some k }))
    → m2 ≡ finmap.insert m c (with_end k (items_of m c))
ended_in m m1 m2 c k n v w is got none first second =
    let x : Version = record v { end = Some k } in
    let here : items_of m1 c ≡ slice_set (items_of m c) (n - 1) w = ap (λ a. items_of a c) first ∙ items_here m c (slice_set (items_of m c) (n - 1) w) in
    second
    ∙ ap (λ xs. finmap.insert m1 c (slice_set xs (n - 1) x)) here
    ∙ ap (λ a. finmap.insert a c (slice_set (slice_set (items_of m c) (n - 1) w) (n - 1) x)) first
    ∙ insert_twice m c (slice_set (items_of m c) (n - 1) w) (slice_set (slice_set (items_of m c) (n - 1) w) (n - 1) x)
    ∙ ap (finmap.insert m c) (ends_last k (items_of m c) n v w is got none)

pub none_end : (e : Option ℕ) → is_some e ≡ false → e ≡ None
none_end None f = refl
none_end (Some x) f = cc

pub within_still : (m m1 : Chains Version) (c i : ℕ) (w : Version) → m1 ≡ finmap.insert m c (slice_set (items_of m c) i w) → i < length (items_of m c) → i < length (items_of m1 c)
within_still m m1 c i w e l =
    let here : length (items_of m1 c) ≡ length (items_of m c) = ap (λ a. length (items_of a c)) e ∙ ap length (items_here m c (slice_set (items_of m c) i w)) ∙ length-set (items_of m c) i w in
    omega arith
