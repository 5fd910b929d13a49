-- A sweep changes nothing that is told.
use Rattle.std.proofs.Common.{◌≡◌, ℕ, Bool, false, Option, Some, None, List, [], ◌∷◌, refl, sym, ◌∙◌, ap, filter}
use Rattle.std.specs.Prelude.{is_some, count_by, filter_map, flat_map, nat_lt}
use Rattle.std.specs.Option.{option_map}
use Rattle.s4_types.specs.declared.object.Purse.{Purse}
use Rattle.s4_types.specs.declared.object.ObjectId.{ObjectId}
use Rattle.s4_types.specs.declared.version.Version.{Version}
use Rattle.s4_types.specs.declared.request.After.{After}
use Rattle.s4_types.specs.declared.reply.Grant.{Grant}
use Rattle.s4_types.specs.Answer.{is_after, purse_numbers}
use Rattle.s4_types.specs.Bindings.{is_serial}
use Rattle.s4_store.specs.Chains.{Chains}
use Rattle.s4_tracks.specs.Chain.{version_in}
use Rattle.s4_tracks.specs.Swept.{IsFrom}
use Rattle.s4_tracks.proofs.Sweeping.{swept_current, swept_version_in}
use Rattle.s4_parts.specs.declared.parts.Parts.{Parts}
use Rattle.s4_parts.specs.Table.{bindings_in, names_in, is_any, object_of, serial_now}
use Rattle.s4_parts.specs.Page.{line_to, line_of, lines_in}
use Rattle.s4_parts.specs.Waiting.{Sweeps}
use Rattle.s4_parts.specs.Telling.{TellsSame}
use Rattle.s4_types.proofs.Ordered.{count-filter, lines-filter}
use Rattle.s4_parts.proofs.Counting.{any-count}

none-left : (vs : List Version) → is_any vs ≡ false → vs ≡ []
none-left [] e = refl
none-left (v ∷ vs) e = cc

none-told : (at : Option ℕ) → object_of (version_in at []) ≡ None
none-told None = refl
none-told (Some m) = refl

module _ {hz : ℕ} {old new : Chains Version} {before after : Parts} {freed : ℕ} (s : Sweeps hz old new before after freed) where
  same-version : (p : Purse) (n : List ℕ) (at : Option ℕ) → IsFrom hz at → object_of (version_in at (bindings_in new after p n)) ≡ object_of (version_in at (bindings_in old before p n))
  same-version p n at l = ap object_of (swept_version_in hz at (bindings_in new after p n) (bindings_in old before p n) l (s.bindings p n))

  same-serial : (p : Purse) (n : List ℕ) → serial_now (bindings_in new after p n) ≡ serial_now (bindings_in old before p n)
  same-serial p n = ap (λ x. option_map (λ (o : ObjectId). o.serial) (object_of x)) (swept_current hz (bindings_in new after p n) (bindings_in old before p n) (s.bindings p n))

  no-serial : (p : Purse) (n : List ℕ) → is_any (bindings_in new after p n) ≡ false → serial_now (bindings_in old before p n) ≡ None
  no-serial p n e = sym (same-serial p n) ∙ ap serial_now (none-left (bindings_in new after p n) e)

  same-lines : (visible : ObjectId → Option Grant) (range : ℕ) (place : Option After) (at : Option ℕ) → IsFrom hz at → (number : ℕ) → lines_in new after visible range place at number ≡ lines_in old before visible range place at number
  same-lines visible range place at l number =
      let purse : Purse = record { creator = range; number = number } in
      ap (λ f. filter_map f (filter (is_after place number) (names_in new after purse))) (λ i n. line_to visible n (same-version purse n at l i))
      ∙ ap (λ ns. filter_map (λ n. line_of visible at n (bindings_in old before purse n)) (filter (is_after place number) ns)) (s.names purse)
      ∙ lines-filter (λ n. line_of visible at n (bindings_in old before purse n)) (is_after place number) (λ n. is_any (bindings_in new after purse n)) (names_in old before purse)
      (λ n e. ap (line_to visible n) (sym (same-version purse n at l) ∙ ap (λ vs. object_of (version_in at vs)) (none-left (bindings_in new after purse n) e) ∙ none-told at))

  counted : (test : Option ℕ → Bool) → test None ≡ false → (p : Purse) → count_by (λ n. test (serial_now (bindings_in new after p n))) (names_in new after p) ≡ count_by (λ n. test (serial_now (bindings_in old before p n))) (names_in old before p)
  counted test none p =
      ap (λ f. count_by f (names_in new after p)) (λ i n. test (same-serial p n i))
      ∙ ap (count_by (λ n. test (serial_now (bindings_in old before p n)))) (s.names p)
      ∙ count-filter (λ n. test (serial_now (bindings_in old before p n))) (λ n. is_any (bindings_in new after p n)) (names_in old before p) (λ n e. ap test (no-serial p n e) ∙ none)

  pub tells_same : TellsSame hz old new before after
  tells_same = record {
    mounted = same-version;
    listed = λ visible range place at l. ap (λ f. flat_map f purse_numbers) (λ i number. same-lines visible range place at l number i);
    bound = counted is_some refl;
    named = λ p serial. any-count (λ n. is_serial serial (serial_now (bindings_in new after p n))) (names_in new after p)
        ∙ ap (nat_lt 0) (counted (is_serial serial) refl p)
        ∙ sym (any-count (λ n. is_serial serial (serial_now (bindings_in old before p n))) (names_in old before p));
  }
