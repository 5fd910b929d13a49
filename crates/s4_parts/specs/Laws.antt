-- What a change of other chains leaves of a table.
use Rattle.std.proofs.Common.{◌≡◌, ℕ, Option, Some, None, List, refl, sym, ◌∙◌, ap, subst}
use Rattle.std.specs.Prelude.{count_by, filter}
use Rattle.s4_types.specs.declared.object.Purse.{Purse}
use Rattle.s4_types.specs.declared.version.Version.{Version}
use Rattle.s4_store.specs.Chains.{Chains, items_of, IsOpen}
use Rattle.s4_parts.specs.declared.parts.Parts.{Parts}
use Rattle.s4_parts.specs.Table.{shelf_of, names_on, chain_at, items_on, bindings_in, names_in, is_any, passes, serial_now, IsTimely, Holds}
use Rattle.s4_parts.specs.Waiting.{HasEnds, ends_of, waiting_in, Waits}

-- the chains of the table's names are open, and hold what they held
pub record KeepsTable (old new : Chains Version) (parts : Parts) : Type 0 where
  pub opened : (p : Purse) (n : List ℕ) (c : ℕ) → chain_at parts p n ≡ Some c → IsOpen new c
  pub items : (p : Purse) (n : List ℕ) (c : ℕ) → chain_at parts p n ≡ Some c → items_of new c ≡ items_of old c

module _ {old new : Chains Version} {parts : Parts} (k : KeepsTable old new parts) where
  -- each name has the bindings that it had
  pub bindings_still : (p : Purse) (n : List ℕ) → bindings_in new parts p n ≡ bindings_in old parts p n
  bindings_still p n = of (chain_at parts p n) refl
    where
      of : (f : Option ℕ) → chain_at parts p n ≡ f → items_on new f ≡ items_on old f
      of None got = refl
      of (Some c) got = k.items p n c got

  -- and the purses have the names that they had
  pub names_still : (p : Purse) → names_in new parts p ≡ names_in old parts p
  names_still p = ap (λ f. filter f (names_on (shelf_of parts p))) (λ i n. is_any (bindings_still p n i))

  -- the queue of ends stands
  pub waits_still : Waits old parts → Waits new parts
  waits_still w = record {
    queued = λ p n. subst (HasEnds (ends_of p n (waiting_in parts))) (sym (bindings_still p n)) (w.queued p n);
    rising = w.rising;
    awaited = w.awaited;
  }

  -- the table stands
  pub holds_still : Holds old parts → Holds new parts
  holds_still s = record {
    opened = k.opened;
    apart = s.apart;
    named = s.named;
    sorted = s.sorted;
    timely = λ p n. subst IsTimely (sym (bindings_still p n)) (s.timely p n);
    known = λ p test. s.known p test ∙ sym (ap (λ f. count_by f (names_on (shelf_of parts p))) (λ i n. passes test (serial_now (bindings_still p n i))));
  }
