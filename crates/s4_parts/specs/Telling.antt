-- What a table tells stays as it was.
use Rattle.std.specs.Prelude.{◌≡◌, ℕ, Option, List, is_some, count_by}
use Rattle.std.specs.List.{list_any}
use Rattle.s4_types.specs.declared.object.Purse.{Purse}
use Rattle.s4_types.specs.declared.object.ObjectId.{ObjectId}
use Rattle.s4_types.specs.declared.version.Version.{Version}
use Rattle.s4_types.specs.declared.request.After.{After}
use Rattle.s4_types.specs.declared.reply.Grant.{Grant}
use Rattle.s4_types.specs.Bindings.{is_serial}
use Rattle.s4_store.specs.Chains.{Chains}
use Rattle.s4_tracks.specs.Chain.{version_in}
use Rattle.s4_tracks.specs.Swept.{IsFrom}
use Rattle.s4_parts.specs.declared.parts.Parts.{Parts}
use Rattle.s4_parts.specs.Table.{bindings_in, names_in, object_of, serial_now}
use Rattle.s4_parts.specs.Page.{lines_of}

-- now, and at each moment that isn't before the horizon
pub record TellsSame (horizon : ℕ) (old new : Chains Version) (before after : Parts) : Type 0 where
  pub mounted : (p : Purse) (n : List ℕ) (at : Option ℕ) → IsFrom horizon at
      → object_of (version_in at (bindings_in new after p n)) ≡ object_of (version_in at (bindings_in old before p n))
  pub listed : (visible : ObjectId → Option Grant) (range : ℕ) (place : Option After) (at : Option ℕ) → IsFrom horizon at
      → lines_of new after visible range place at ≡ lines_of old before visible range place at
  pub bound : (p : Purse) → count_by (λ n. is_some (serial_now (bindings_in new after p n))) (names_in new after p)
      ≡ count_by (λ n. is_some (serial_now (bindings_in old before p n))) (names_in old before p)
  pub named : (p : Purse) (serial : ℕ) → list_any (λ n. is_serial serial (serial_now (bindings_in new after p n)))
      (names_in new after p) ≡ list_any (λ n. is_serial serial (serial_now (bindings_in old before p n))) (names_in old before p)
