-- The page of a drive's partitions is that of the definition.
use Rattle.std.proofs.Common.{◌≡◌, ℕ, ◌≤◌, false, Option, Some, None, List, refl, sym, ◌∙◌, ap, filter, filter_map, flat_map}
use Rattle.std.specs.Prelude.{Result, Ok, Err, ok_or}
use Rattle.std.specs.Result.{result_ok}
use Rattle.std.specs.Option.{option_map}
use Rattle.s4_types.specs.Base.{Base}
use Rattle.s4_types.specs.declared.principal.Caller.{Caller}
use Rattle.s4_types.specs.declared.object.Purse.{Purse}
use Rattle.s4_types.specs.declared.object.ObjectId.{ObjectId}
use Rattle.s4_types.specs.declared.rights.Right.TheVariants as right
use Rattle.s4_types.specs.declared.reply.Grant.{Grant}
use Rattle.s4_types.specs.declared.reply.Refusal.{Refusal}
use Rattle.s4_types.specs.declared.request.After.{After}
use Rattle.s4_types.specs.declared.record.Record.{Record}
use Rattle.s4_types.specs.declared.version.Version.{Version}
use Rattle.s4_types.specs.Names.{object_in}
use Rattle.s4_types.specs.Bindings.{bound_at, names_of}
use Rattle.s4_types.specs.Judgement.{judge}
use Rattle.s4_types.specs.Answer.{moment_of, mountable, is_after, lines_in, purse_numbers}
use Rattle.s4_types.specs.Outcome.{◌>>=◌}
use Rattle.s4_types.specs.Play.{last_of}
use Rattle.s4_store.specs.Chains.{Chains}
use Rattle.s4_parts.specs.declared.parts.Parts.{Parts as Table}
use Rattle.s4_tracks.specs.Swept.{IsFrom}
use Rattle.s4_parts.specs.Table.{bindings_in, names_in, object_of}
use Rattle.s4_parts.specs.Page as page
use Rattle.s4_objects.specs.declared.objects.Objects.{Objects}
use Rattle.s4_state.specs.Shown.{granted}
use Rattle.s4_state.specs.Stands.{horizon_now, is_lasting, StandsFor}
use Rattle.s4_state.proofs.Binding.{bound-in}
use Rattle.s4_types.proofs.Ordered.{lines-filter}
use Rattle.s4_state.proofs.Left.{none-lasting}

line-granted : (name : List ℕ) (o : ObjectId) (r : Result Grant Refusal) → page.line_with name o (result_ok r) ≡ result_ok (r >>= λ grant. Ok (record { name = name; object = o; grant = grant }))
line-granted name o (Ok grant) = refl
line-granted name o (Err refusal) = refl

line-bound : (base : Base) (h : List Record) (t : ℕ) (caller : Caller) (at : Option ℕ) (purse : Purse) (name : List ℕ) (found : Option ℕ) (r : Refusal)
    → page.line_to (granted base h t caller at) name (option_map (object_in purse) found)
    ≡ result_ok (ok_or found r >>= λ serial. judge base h t caller (object_in purse serial) right.Read at >>= λ grant. Ok (record { name = name; object = object_in purse serial; grant = grant }))
line-bound base h t caller at purse name None r = refl
line-bound base h t caller at purse name (Some serial) r = line-granted name (object_in purse serial) (judge base h t caller (object_in purse serial) right.Read at)

module _ {base : Base} {size : ℕ} {chains : Chains Version} {kept : Objects} {serials : Purse → ℕ} {table : Table} {h : List Record} (s : StandsFor base size chains kept serials table h) (t : ℕ) (later : last_of h ≤ t) (caller : Caller) where
  line-is : (at : Option ℕ) → IsFrom (horizon_now base h) at → (purse : Purse) (name : List ℕ) → page.line_of (granted base h t caller at) at name (bindings_in chains table purse name) ≡ result_ok (mountable base h t caller purse name at)
  line-is at from purse name = ap (page.line_to (granted base h t caller at) name) (bound-in s purse name t later at from) ∙ line-bound base h t caller at purse name (bound_at base purse name (moment_of t at) h) _

  -- a name of which all bindings are expired has no line
  line-none : (at : Option ℕ) → IsFrom (horizon_now base h) at → (purse : Purse) (name : List ℕ) → is_lasting (horizon_now base h) chains table purse name ≡ false → page.line_of (granted base h t caller at) at name (bindings_in chains table purse name) ≡ None
  line-none at from purse name e = ap (λ x. page.line_to (granted base h t caller at) name (object_of x)) (none-lasting (horizon_now base h) at (bindings_in chains table purse name) from e)

  lines-are : (range : ℕ) (after : Option After) (at : Option ℕ) → IsFrom (horizon_now base h) at → (number : ℕ) → page.lines_in chains table (granted base h t caller at) range after at number ≡ lines_in base h t caller range after at number
  lines-are range after at from number =
      let purse : Purse = record { creator = range; number = number } in
      sym (lines-filter (λ name. page.line_of (granted base h t caller at) at name (bindings_in chains table purse name)) (is_after after number) (is_lasting (horizon_now base h) chains table purse) (names_in chains table purse)
      (λ name e. line-none at from purse name e))
      ∙ ap (λ names. filter_map (λ name. page.line_of (granted base h t caller at) at name (bindings_in chains table purse name)) (filter (is_after after number) names)) (s.partitions.names purse)
      ∙ lines-filter (λ name. page.line_of (granted base h t caller at) at name (bindings_in chains table purse name)) (is_after after number) (is_lasting (horizon_now base h) chains table purse) (names_of base purse h)
      (λ name e. line-none at from purse name e)
      ∙ ap (λ f. filter_map f (filter (is_after after number) (names_of base purse h))) (λ i name. line-is at from purse name i)

  -- all lines that a page is cut from
  pub all-lines : (range : ℕ) (after : Option After) (at : Option ℕ) → IsFrom (horizon_now base h) at → page.lines_of chains table (granted base h t caller at) range after at ≡ flat_map (lines_in base h t caller range after at) purse_numbers
  all-lines range after at from = ap (λ f. flat_map f purse_numbers) (λ i number. lines-are range after at from number i)
