-- What is kept stands where expired values and bindings were freed.
use Rattle.std.proofs.Common.{◌≡◌, ℕ, zero, suc, ◌+◌, ◌-◌, ◌≤◌, true, false, cond, Option, Some, None, List, [], ◌∷◌, refl, sym, ◌∙◌, ap, subst, arith, length, drop, min, filter}
use Rattle.std.specs.Prelude.{nat_le, not, is_some, map, count_by}
use Rattle.std.specs.List.{prefix_len}
use Rattle.std.proofs.lemmas.List.{length-drop, length-map, drop-map}
use Rattle.std.proofs.lemmas.List.Sums.{sum_by-append, sum_by-cons, prefix_len-le-length}
use Rattle.s4_types.specs.Base.{Base}
use Rattle.s4_types.specs.declared.object.Purse.{Purse}
use Rattle.s4_types.specs.declared.object.ObjectId.{ObjectId}
use Rattle.s4_types.specs.declared.record.Record.{Record}
use Rattle.s4_types.specs.declared.version.Version.{Version}
use Rattle.s4_types.specs.Bindings.{names_of}
use Rattle.s4_types.proofs.Booleans.{by_test, not_both}
use Rattle.s4_store.specs.Chains.{Chains, item_count}
use Rattle.s4_tracks.specs.Swept.{IsSwept, unexpired}
use Rattle.s4_tracks.proofs.Sweeping.{swept_agrees, agrees_through}
use Rattle.s4_objects.specs.declared.kept.Which.{Which}
use Rattle.s4_objects.specs.declared.objects.Objects.{Objects}
use Rattle.s4_objects.specs.Chains.{chain_of}
use Rattle.s4_objects.specs.Ends.{is_gone}
use Rattle.s4_objects.specs.Table.{kept_in, held_in, ends_in, Holds, KeepsOthers, LeavesNoChain}
use Rattle.s4_parts.specs.declared.ends.Ended.{Ended}
use Rattle.s4_parts.specs.declared.parts.Parts.{Parts as Table}
use Rattle.s4_parts.specs.Table.{bindings_in, names_in, chain_at, is_any, Holds as TableHolds}
use Rattle.s4_parts.specs.Waiting.{waiting_in, Waits, Sweeps, is_gone as is_gone_of}
use Rattle.s4_parts.proofs.Queueing.{rising-count}
use Rattle.s4_types.specs.Counts.{made_count, object_ends, binding_ends, ended_count}
use Rattle.s4_state.specs.Stands.{IsWaiting, ends_above, is_lasting, horizon_now, ObjectsStand, NamesStand, StandsFor}
use Rattle.s4_types.proofs.Ordered.{filter-twice}
use Rattle.s4_state.proofs.Binding.{objects_beside, strange, tidy_named}
use Rattle.s4_state.proofs.Standing.{tidy_beside}
use Rattle.s4_state.proofs.Naming.{names_beside}

-- THE FIRST ENDS THAT WAIT ARE GONE

above-dropped : (hz n : ℕ) (ends : List ℕ) → n ≤ prefix_len (is_gone hz) ends → ends_above hz (drop n ends) ≡ ends_above hz ends
above-dropped hz zero ends l = refl
above-dropped hz (suc n) [] l = refl
above-dropped hz (suc n) (x ∷ ends) l = by_test (is_gone hz x)
    (λ e. let front : prefix_len (is_gone hz) (x ∷ ends) ≡ 1 + prefix_len (is_gone hz) ends = ap (λ b. cond b (1 + prefix_len (is_gone hz) ends) 0) e in
    above-dropped hz n ends (omega arith) ∙ sym (ap (λ b. cond (not b) (x ∷ ends_above hz ends) (ends_above hz ends)) e))
    (λ e. let front : prefix_len (is_gone hz) (x ∷ ends) ≡ 0 = ap (λ b. cond b (1 + prefix_len (is_gone hz) ends) 0) e in absurd (omega arith))

-- each end is at most the horizon or above it
above-count : (hz : ℕ) (ends : List ℕ) → length ends ≡ count_by (is_gone hz) ends + length (ends_above hz ends)
above-count hz [] = refl
above-count hz (x ∷ ends) =
    let rest : length ends ≡ count_by (is_gone hz) ends + length (ends_above hz ends) = above-count hz ends in
    let all : count_by (is_gone hz) (x ∷ ends) ≡ cond {A = ℕ} (is_gone hz x) 1 0 + count_by (is_gone hz) ends = sum_by-cons (λ y. cond {A = ℕ} (is_gone hz y) 1 0) x ends in
    by_test (is_gone hz x)
    (λ e. let one : cond {A = ℕ} (is_gone hz x) 1 0 ≡ 1 = ap (λ b. cond {A = ℕ} b 1 0) e in
    let same : length (ends_above hz (x ∷ ends)) ≡ length (ends_above hz ends) = ap (λ b. length (cond (not b) (x ∷ ends_above hz ends) (ends_above hz ends))) e in
    omega (arith, rest, all, one, same))
    (λ e. let none : cond {A = ℕ} (is_gone hz x) 1 0 ≡ 0 = ap (λ b. cond {A = ℕ} b 1 0) e in
    let more : length (ends_above hz (x ∷ ends)) ≡ suc (length (ends_above hz ends)) = ap (λ b. length (cond (not b) (x ∷ ends_above hz ends) (ends_above hz ends))) e in
    omega (arith, rest, all, none, more))

module _ {hz : ℕ} {waiting all : List ℕ} (s : IsWaiting hz waiting all) where
  waiting-dropped : (n : ℕ) → n ≤ prefix_len (is_gone hz) waiting → IsWaiting hz (drop n waiting) all
  waiting-dropped n l = record { above = above-dropped hz n waiting l ∙ s.above }

  -- but for those up to the horizon as many wait as there are
  waiting-count : count_by (is_gone hz) all + length waiting ≡ length all + count_by (is_gone hz) waiting
  waiting-count =
      let a : length waiting ≡ count_by (is_gone hz) waiting + length (ends_above hz waiting) = above-count hz waiting in
      let b : length all ≡ count_by (is_gone hz) all + length (ends_above hz all) = above-count hz all in
      let same : length (ends_above hz waiting) ≡ length (ends_above hz all) = ap length s.above in
      omega (arith, a, b, same)

-- THE SAME OF BINDINGS

ends-prefix : (hz : ℕ) (es : List Ended) → prefix_len (is_gone hz) (map (λ e. e.end) es) ≡ prefix_len (is_gone_of hz) es
ends-prefix hz [] = refl
ends-prefix hz (e ∷ es) = ap (λ n. cond {A = ℕ} (nat_le e.end hz) (1 + n) 0) (ends-prefix hz es)

ends-count : (hz : ℕ) (es : List Ended) → count_by (is_gone hz) (map (λ e. e.end) es) ≡ count_by (is_gone_of hz) es
ends-count hz [] = refl
ends-count hz (e ∷ es) =
    sum_by-cons (λ end. cond {A = ℕ} (is_gone hz end) 1 0) e.end (map (λ x. x.end) es)
    ∙ ap (λ n. cond {A = ℕ} (nat_le e.end hz) 1 0 + n) (ends-count hz es)
    ∙ sym (sum_by-cons (λ x. cond {A = ℕ} (is_gone_of hz x) 1 0) e es)

-- where none is left none lasts
lasting-left : (hz : ℕ) (vs : List Version) → is_any vs ≡ false → is_any (unexpired hz vs) ≡ false
lasting-left hz [] e = refl
lasting-left hz (v ∷ vs) e = cc

-- A SWEEP

module _ {base : Base} {size : ℕ} {chains : Chains Version} {kept : Objects} {serials : Purse → ℕ} {table : Table} {h : List Record} (s : StandsFor base size chains kept serials table h) (hz : ℕ) (now : hz ≡ horizon_now base h) where
  objects-then : ObjectsStand base hz chains kept h
  objects-then = subst (λ m. ObjectsStand base m chains kept h) (sym now) s.objects

  names-then : NamesStand base hz chains kept table h
  names-then = subst (λ m. NamesStand base m chains kept table h) (sym now) s.partitions

  -- of objects
  pub stands_expired : {new : Chains Version} {kept' : Objects} (n most : ℕ) → n ≡ min most (prefix_len (is_gone hz) (ends_in kept)) → Holds new kept' → ((o : ObjectId) → kept_in kept' o ≡ true → kept_in kept o ≡ true)
      → ((o : ObjectId) (w : Which) → IsSwept hz (held_in new kept' o w) (held_in chains kept o w)) → ends_in kept' ≡ drop n (ends_in kept) → KeepsOthers chains new kept kept' → LeavesNoChain chains new kept kept' → item_count new + n ≡ item_count chains
      → StandsFor base (size - n) new kept' serials table h
  stands_expired {new} {kept'} n most first holds keeps held ends others leaves used = record {
    sound = s.sound;
    objects = subst (λ m. ObjectsStand base m new kept' h) now (record {
      holds = holds;
      numbered = λ o e. s.objects.numbered o (keeps o e);
      tracks = λ o w. agrees_through hz _ _ _ (swept_agrees hz _ _ (held o w)) (objects-then.tracks o w);
      ends = subst (λ waiting. IsWaiting hz waiting (object_ends h)) (sym ends) (waiting-dropped objects-then.ends n (omega (arith, first)));
    });
    names = s.names;
    partitions = names_beside s.partitions others;
    tidy = tidy_beside s.tidy leaves;
    used = omega (arith, used, s.used);
    balance =
        let fewer : length (ends_in kept') ≡ length (ends_in kept) - n = ap length ends ∙ length-drop n (ends_in kept) in
        let low : prefix_len (is_gone hz) (ends_in kept) ≤ length (ends_in kept) = prefix_len-le-length (is_gone hz) (ends_in kept) in
        let even = s.balance.even in
        record { begun = s.balance.begun; keeps = s.balance.keeps; even = omega (arith, even, s.used, used, fewer, low, first) };
  }

  -- of names
  pub stands_unnamed : {new : Chains Version} {table' : Table} (n most : ℕ) → n ≡ min most (count_by (is_gone_of hz) (waiting_in table)) → TableHolds new table' → Waits new table' → Sweeps hz chains new table table' n → StandsFor base (size - n) new kept serials table' h
  stands_unnamed {new} {table'} n most first holds waits sweeps =
      let rising : prefix_len (is_gone_of hz) (waiting_in table) ≡ count_by (is_gone_of hz) (waiting_in table) = rising-count hz (waiting_in table) s.partitions.waits.rising in
      let prefix : prefix_len (is_gone hz) (map (λ e. e.end) (waiting_in table)) ≡ prefix_len (is_gone_of hz) (waiting_in table) = ends-prefix hz (waiting_in table) in
      record {
        sound = s.sound;
        objects = objects_beside s.objects (record {
          opened = λ o k w got. sweeps.others.still (chain_of w k) (s.objects.holds.chained.opened o k w got) (strange s.partitions o k w got);
          items = λ o k w got. sweeps.others.items (chain_of w k) (s.objects.holds.chained.opened o k w got) (strange s.partitions o k w got);
        });
        names = s.names;
        partitions = subst (λ m. NamesStand base m new kept table' h) now (record {
          holds = holds;
          waits = waits;
          bindings = λ p m. agrees_through hz _ _ _ (swept_agrees hz _ _ (sweeps.bindings p m)) (names-then.bindings p m);
          names = λ p.
              let same : is_lasting hz new table' p ≡ is_lasting hz chains table p = λ i m. is_any ((swept_agrees hz _ _ (sweeps.bindings p m)).same i) in
              ap (filter (is_lasting hz new table' p)) (sweeps.names p)
              ∙ filter-twice (is_lasting hz new table' p) (λ m. is_any (bindings_in new table' p m)) (names_in chains table p) (λ m e. lasting-left hz (bindings_in new table' p m) e)
              ∙ ap (λ test. filter test (names_in chains table p)) same ∙ names-then.names p ∙ sym (ap (λ test. filter test (names_of base p h)) same);
          ends = subst (λ waiting. IsWaiting hz waiting (binding_ends h)) (drop-map (λ e. e.end) n (waiting_in table) ∙ sym (ap (map (λ e. e.end)) sweeps.waiting))
              (waiting-dropped names-then.ends n (omega (arith, first, rising, prefix)));
          none_empty = λ p m there. sweeps.given_up p m (s.partitions.none_empty p m (chain-was p m (chain_at table' p m) refl there)) there;
          apart = λ p m c has. s.partitions.apart p m c (sweeps.own p m c has);
        });
        tidy = tidy_named s.tidy sweeps.leaves;
        used = omega (arith, sweeps.used, s.used);
        balance =
            let fewer : length (waiting_in table') ≡ length (waiting_in table) - n = ap length sweeps.waiting ∙ length-drop n (waiting_in table) in
            let low : prefix_len (is_gone_of hz) (waiting_in table) ≤ length (waiting_in table) = prefix_len-le-length (is_gone_of hz) (waiting_in table) in
            let even = s.balance.even in
            record { begun = s.balance.begun; keeps = s.balance.keeps; even = omega (arith, even, s.used, sweeps.used, fewer, low, first, rising) };
      }
    where
      -- a name that has a chain had one
      chain-was : (p : Purse) (m : List ℕ) (f : Option ℕ) → chain_at table' p m ≡ f → is_some f ≡ true → is_some (chain_at table p m) ≡ true
      chain-was p m None got there = absurd (not_both _ there refl)
      chain-was p m (Some c) got there = ap is_some (sweeps.own p m c got)

  -- those that are held are those that aren't expired, and those that wait and are
  pub still_ended : size + ended_count hz h ≡ s.balance.begun + made_count h + (count_by (is_gone hz) (ends_in kept) + count_by (is_gone_of hz) (waiting_in table))
  still_ended =
      let all : ended_count hz h ≡ count_by (is_gone hz) (object_ends h) + count_by (is_gone hz) (binding_ends h) = sum_by-append (λ end. cond {A = ℕ} (is_gone hz end) 1 0) (object_ends h) (binding_ends h) in
      let values = waiting-count objects-then.ends in
      let bindings = waiting-count names-then.ends in
      let count = ends-count hz (waiting_in table) in
      let long : length (map (λ e. e.end) (waiting_in table)) ≡ length (waiting_in table) = length-map (waiting_in table) (λ e. e.end) in
      let even = s.balance.even in
      omega (arith, all, values, bindings, count, long, even)

  -- what isn't expired is held
  pub needed-held : s.balance.begun + made_count h - ended_count hz h ≤ item_count chains
  needed-held = omega (arith, still_ended, s.used)

-- values first, and then bindings
pub freed_both : (most values bindings a b ended all made size : ℕ) → a ≡ min most values → b ≡ min (most - a) bindings → size + ended ≡ all + (values + bindings) → ended ≤ all → all ≡ made → a + b ≡ min most (size - (made - ended))
freed_both most values bindings a b ended all made size e f g l k = omega (arith, e, f, g, l, k)

pub one_after_other : (size a b : ℕ) → size - a - b ≡ size - (a + b)
one_after_other size a b = omega arith
