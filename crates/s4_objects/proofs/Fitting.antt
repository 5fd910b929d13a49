-- A flush erases no more values than the store holds.
use Rattle.std.proofs.Common.{◌≡◌, ◌≤◌, ℕ, ◌+◌, Bool, false, Option, Some, None, refl, arith, ap, length, count_by}
use Rattle.std.specs.Prelude.{◌==◌, is_some}
use Rattle.std.specs.FinMap as finmap
use Rattle.std.proofs.lemmas.List.Sums.{count_by-le-length}
use Rattle.s4_types.specs.declared.version.Version.{Version}
use Rattle.s4_types.proofs.Booleans.{by_test}
use Rattle.s4_store.specs.Chains.{Chains, items_of, item_count}
use Rattle.s4_store.specs.Counts.{item_count-remove}
use Rattle.s4_store.specs.Laws.{remove_by_get, items_elsewhere-remove, items_fresh}
use Rattle.s4_tracks.specs.Chain.{is_erasable}
use Rattle.s4_objects.specs.declared.kept.Kept.{Kept}
use Rattle.s4_objects.specs.Flushes.{erasable_count}

isnt_some : {A : Type 0} (x : Option A) → is_some x ≡ false → x ≡ None
isnt_some None e = refl
isnt_some (Some y) e = cc

-- to close a chain takes its items off the count, and nothing where it isn't open
count_closed : (m : Chains Version) (c : ℕ) → item_count (finmap.remove m c) + length (items_of m c) ≡ item_count m
count_closed m c = by_test (is_some (finmap.get m c))
    (λ e. item_count-remove m c (record { is_open = e }))
    (λ e. let none : finmap.get m c ≡ None = isnt_some (finmap.get m c) e in
    let same : item_count m ≡ item_count (finmap.remove m c) = ap item_count (remove_by_get m m c none (λ q ne. refl)) in
    let nothing : length (items_of m c) ≡ 0 = ap length (items_fresh m c none) in
    omega arith)

-- how many values are held on the tracks that a flush reaches
abbrev held_count : Chains Version → Kept → ℕ
held_count m k = length (items_of m k.data.chain) + length (items_of m k.attributes.chain)

abbrev closed : Chains Version → Kept → Chains Version
closed m k = finmap.remove (finmap.remove m k.data.chain) k.attributes.chain

-- the values of an object's data and attributes go with their chains
count_less : (m : Chains Version) (k : Kept) → (k.attributes.chain == k.data.chain) ≡ false → item_count (closed m k) + held_count m k ≡ item_count m
count_less m k apart =
    let first = count_closed m k.data.chain in
    let second = count_closed (finmap.remove m k.data.chain) k.attributes.chain in
    let same : length (items_of (finmap.remove m k.data.chain) k.attributes.chain) ≡ length (items_of m k.attributes.chain) = ap length (items_elsewhere-remove m k.data.chain k.attributes.chain apart) in
    omega (arith, first, second, same)

module _ (m : Chains Version) (from to : ℕ) where
  fewer : (k : Kept) → erasable_count m from to k ≤ held_count m k
  fewer k =
      let d = count_by-le-length (is_erasable from to) (items_of m k.data.chain) in
      let a = count_by-le-length (is_erasable from to) (items_of m k.attributes.chain) in
      omega (arith, d, a)

  -- of one object
  pub erasable_fits : (k : Kept) → (k.attributes.chain == k.data.chain) ≡ false → erasable_count m from to k ≤ item_count m
  erasable_fits k apart = let less = count_less m k apart in let one = fewer k in omega (arith, less, one)

-- no track holds more values than the store
pub track_fits : (m : Chains Version) (c : ℕ) (p : Version → Bool) → count_by p (items_of m c) ≤ item_count m
track_fits m c p = let closed = count_closed m c in let some = count_by-le-length p (items_of m c) in omega (arith, closed, some)
