-- What a record charges, and what a flush takes back of it.
use Rattle.std.proofs.Common.{◌≡◌, ℕ, zero, ◌+◌, ◌≤◌, Bool, true, false, not, cond, Option, Some, None, List, [], ◌∷◌, ◌++◌, refl, ◌∙◌, ap, subst, arith, sym}
use Rattle.std.specs.Prelude.{◌&&◌, ◌||◌, is_some, sum_by, if◌then◌else◌}
use Rattle.std.specs.List.{list_all}
use Rattle.std.proofs.lemmas.List.Sums.{sum_by-append, sum_by-cons}
use Rattle.s4_types.specs.declared.object.Purse.{Purse}
use Rattle.s4_types.specs.declared.object.ObjectId.{ObjectId}
use Rattle.s4_types.specs.declared.request.Request.{Request}
use Rattle.s4_types.specs.declared.request.Request.TheVariants.{Flush, FlushO}
use Rattle.s4_types.specs.declared.record.Record.{Record}
use Rattle.s4_types.specs.declared.version.Version.{Version}
use Rattle.s4_types.specs.declared.version.Item.{Item}
use Rattle.s4_types.specs.declared.version.Item.TheVariants as item
use Rattle.s4_types.specs.Names.{same_object, object_in}
use Rattle.s4_types.specs.Kinds.{is_refused, is_create, only_reads, is_wide, is_about, concerns, purse_of}
use Rattle.s4_types.specs.Answer.{made_past}
use Rattle.s4_types.specs.Base.{Base}
use Rattle.s4_types.specs.Serials.{drawn}
use Rattle.s4_types.specs.Spending.{sum_to}
use Rattle.s4_types.specs.Versions.{Track, Value, span_of, ends_by, versions, data_track, attribute_track, acl_track}
use Rattle.s4_types.proofs.Booleans.{both, &&-false}
use Rattle.s4_store.specs.Chains.{Chains}
use Rattle.s4_tracks.specs.Chain.{is_expired}
use Rattle.s4_tracks.specs.Swept.{IsSwept, AgreesWith}
use Rattle.s4_tracks.proofs.Sweeping.{unexpired_swept}
use Rattle.s4_parts.specs.declared.parts.Parts.{Parts as Table}
use Rattle.s4_objects.specs.declared.kept.Which.{Which}
use Rattle.s4_objects.specs.declared.kept.Which.TheVariants as which
use Rattle.s4_objects.specs.declared.objects.Objects.{Objects}
use Rattle.s4_objects.specs.declared.flushes.Refund.{Refund}
use Rattle.s4_objects.specs.Flushes.{Flushes, refunded, past_weight}
use Rattle.s4_objects.specs.Flushes as chain
use Rattle.s4_objects.specs.Table.{found_in, held_in}
use Rattle.s4_state.specs.Flushes.{is_flush, IsNothingBy, IsCharged}
use Rattle.s4_state.specs.Laid.{version_of, laid, versions_on}
use Rattle.s4_state.specs.Sound.{IsSound, IsNext}
use Rattle.s4_state.specs.Stands.{horizon_now, StandsFor}
use Rattle.s4_state.specs.Weights.{weight_of, value_weight, track_weight, object_weight, names_weight, freed_weight}
use Rattle.s4_state.proofs.Standing.{drawn-same}
use Rattle.s4_state.proofs.Rebinding.{names-move}
use Rattle.s4_state.proofs.Weighing.{sum_to-cong, unbinding_weight, unbound_weight}
use Rattle.s4_state.proofs.Charging.{charges, plain-frees-none, idle-frees-none}
use Rattle.s4_state.proofs.Flushing.{flush_left, flush_one_left}

either : {A : Type 0} (b : Bool) (x : A) → cond b x x ≡ x
either true x = refl
either false x = refl

-- WHAT IS HELD WEIGHS WHAT THE VALUES WEIGH

module _ {V : Type 0} (f : ℕ → ℕ → ℕ) (track : Track V) (wrap : V → Item) where
  version-weight : (v : Value V) → chain.weight_of f (version_of track wrap v) ≡ value_weight f track.cost v
  version-weight v = elim v.is_erased as (λ b. cond (is_some (if b then None else Some (wrap v.value))) (chain.weight_by f v.end (track.cost v.value)) zero ≡ cond b zero (weight_of f v.end (track.cost v.value))) [
    | true ↦ refl
    | false ↦ same v.end
  ]
    where
      same : (end : Option ℕ) → chain.weight_by f end (track.cost v.value) ≡ weight_of f end (track.cost v.value)
      same None = refl
      same (Some end) = refl

  laid-weight : (values : List (Value V)) → chain.track_weight f (laid track wrap values) ≡ track_weight f track values
  laid-weight [] = refl
  laid-weight (v ∷ past) =
      let rest : chain.track_weight f (laid track wrap past) ≡ track_weight f track past = laid-weight past in
      let more : chain.track_weight f (laid track wrap past ++ version_of track wrap v ∷ []) ≡ chain.track_weight f (laid track wrap past) + chain.track_weight f (version_of track wrap v ∷ []) = sum_by-append (chain.weight_of f) (laid track wrap past) (version_of track wrap v ∷ []) in
      let one : chain.track_weight f (version_of track wrap v ∷ []) ≡ chain.weight_of f (version_of track wrap v) + 0 = sum_by-cons (chain.weight_of f) (version_of track wrap v) [] in
      let here : chain.weight_of f (version_of track wrap v) ≡ value_weight f track.cost v = version-weight v in
      let all : track_weight f track (v ∷ past) ≡ value_weight f track.cost v + track_weight f track past = sum_by-cons (value_weight f track.cost) v past in
      omega (arith, rest, more, one, here, all)

-- what is freed weighs nothing, by a weight of what ended above the horizon
module _ (f : ℕ → ℕ → ℕ) {hz : ℕ} (nothing : IsNothingBy hz f) where
  expired-weight : (v : Version) → is_expired hz v ≡ true → chain.weight_of f v ≡ 0
  expired-weight v e = ap (λ n. cond (is_some v.item) n zero) (of v.end e) ∙ either (is_some v.item) zero
    where
      of : (end : Option ℕ) → ends_by hz end ≡ true → chain.weight_by f end v.cost ≡ 0
      of None g = cc
      of (Some end) g = nothing end v.cost (grind arith)

  gone-weight : (vs : List Version) → list_all (is_expired hz) vs ≡ true → chain.track_weight f vs ≡ 0
  gone-weight [] e = refl
  gone-weight (v ∷ vs) e =
      let parts = both (is_expired hz v) (list_all (is_expired hz) vs) e in
      let all : chain.track_weight f (v ∷ vs) ≡ chain.weight_of f v + chain.track_weight f vs = sum_by-cons (chain.weight_of f) v vs in
      let here : chain.weight_of f v ≡ 0 = expired-weight v parts.0 in
      let rest : chain.track_weight f vs ≡ 0 = gone-weight vs parts.1 in
      omega (arith, all, here, rest)

  swept-weight : {held all : List Version} → IsSwept hz held all → chain.track_weight f held ≡ chain.track_weight f all
  swept-weight {held} {all} s =
      let whole : chain.track_weight f all ≡ chain.track_weight f s.gone + chain.track_weight f held = ap (chain.track_weight f) s.whole ∙ sum_by-append (chain.weight_of f) s.gone held in
      let gone : chain.track_weight f s.gone ≡ 0 = gone-weight s.gone s.expired in
      omega (arith, whole, gone)

  -- so both weigh what isn't expired weighs
  agreed-weight : {held all : List Version} → AgreesWith hz held all → chain.track_weight f held ≡ chain.track_weight f all
  agreed-weight {held} {all} s = sym (swept-weight (unexpired_swept hz held)) ∙ ap (chain.track_weight f) s.same ∙ swept-weight (unexpired_swept hz all)

  held-weight : (chains : Chains Version) (kept : Objects) (base : Base) (h : List Record) (o : ObjectId) → ((w : Which) → AgreesWith hz (held_in chains kept o w) (versions_on base w o h)) → past_weight f chains (found_in kept o) ≡ object_weight base f h o
  held-weight chains kept base h o s =
      let a : chain.track_weight f (held_in chains kept o which.Data) ≡ track_weight f data_track (versions base data_track o h) = agreed-weight (s which.Data) ∙ laid-weight f data_track item.Data (versions base data_track o h) in
      let b : chain.track_weight f (held_in chains kept o which.Attributes) ≡ track_weight f attribute_track (versions base attribute_track o h) = agreed-weight (s which.Attributes) ∙ laid-weight f attribute_track item.Attr (versions base attribute_track o h) in
      let c : chain.track_weight f (held_in chains kept o which.Acl) ≡ track_weight f acl_track (versions base acl_track o h) = agreed-weight (s which.Acl) ∙ laid-weight f acl_track item.Acl (versions base acl_track o h) in
      omega (arith, a, b, c)

-- A FLUSH

module _ {base : Base} {size : ℕ} {chains : Chains Version} {kept : Objects} {serials : Purse → ℕ} {table : Table} {h : List Record} (s : StandsFor base size chains kept serials table h) (r : Record) (next : IsNext base h r) {new : Chains Version}
    (left : (o : ObjectId) (w : Which) → AgreesWith (horizon_now base h) (held_in new kept o w) (versions_on base w o (h ++ r ∷ []))) {asked : ObjectId → Bool} {from to : ℕ} {refunds : List Refund} (flushes : Flushes chains new (found_in kept) asked from to refunds)
    (request : Request) (is : r.request ≡ request) (kind : is_create request ≡ false) (unbinds : (f : ℕ → ℕ → ℕ) → unbinding_weight f r.moment request ≡ 0) (past : made_past base h r.moment request ≡ [])
    (f : ℕ → ℕ → ℕ) (p : Purse) (nothing : IsNothingBy (horizon_now base h) f) where
  low : (o : ObjectId) → is_some (found_in kept o) ≡ true → o.purse ≡ p → o.serial ≤ drawn base p h
  low o e same = subst (λ x. o.serial ≤ drawn base x h) same (s.objects.numbered o e)

  refunds-charged : IsCharged base f p h r refunds
  refunds-charged =
      let n : ℕ = drawn base p h in
      let old : ℕ → ℕ = λ serial. object_weight base f h (object_in p serial) in
      let now : ℕ → ℕ = λ serial. object_weight base f (h ++ r ∷ []) (object_in p serial) in
      let count : sum_to (drawn base p (h ++ r ∷ [])) now ≡ sum_to n now = ap (λ k. sum_to k now) (drawn-same base h r p (ap (λ q. concerns p r && is_create q) is ∙ ap (λ b. concerns p r && b) kind ∙ &&-false (concerns p r))) in
      let before : sum_to n (λ serial. past_weight f chains (found_in kept (object_in p serial))) ≡ sum_to n old = sum_to-cong n _ _ (λ k l. held-weight f nothing chains kept base h (object_in p k) (s.objects.tracks (object_in p k))) in
      let later : sum_to n (λ serial. past_weight f new (found_in kept (object_in p serial))) ≡ sum_to n now = sum_to-cong n _ _ (λ k l. held-weight f nothing new kept base (h ++ r ∷ []) (object_in p k) (left (object_in p k))) in
      let taken : sum_to n (λ serial. past_weight f new (found_in kept (object_in p serial))) + refunded f p refunds ≡ sum_to n (λ serial. past_weight f chains (found_in kept (object_in p serial))) = flushes.weights f p n low in
      let names : names_weight base f p (h ++ r ∷ []) ≡ names_weight base f p h + unbound_weight f p r = names-move f base h r p s.sound next in
      let none : unbound_weight f p r ≡ 0 = ap (λ q. cond (concerns p r) (unbinding_weight f r.moment q) zero) is ∙ ap (λ n. cond (concerns p r) n zero) (unbinds f) ∙ either (concerns p r) zero in
      let charge : (if concerns p r then sum_by (f r.moment) (made_past base h r.moment r.request) else 0) ≡ 0
      = ap (λ q. cond (concerns p r) (sum_by (f r.moment) (made_past base h r.moment q)) zero) is ∙ ap (λ costs. cond (concerns p r) (sum_by (f r.moment) costs) zero) past ∙ either (concerns p r) zero in
      omega (arith, count, before, later, taken, names, none, charge)

module _ {base : Base} {size : ℕ} {chains : Chains Version} {kept : Objects} {serials : Purse → ℕ} {table : Table} {h : List Record} (s : StandsFor base size chains kept serials table h) {r : Record} (n : IsNext base h r) (granted : is_refused r.reply ≡ false) {new : Chains Version} {from to : ℕ} {refunds : List Refund} where
  -- a flush of all objects takes back what it erases
  pub flush_charged : r.request ≡ Flush from to → Flushes chains new (found_in kept) (λ o. true) from to refunds → (f : ℕ → ℕ → ℕ) (p : Purse) → IsNothingBy (horizon_now base h) f → IsCharged base f p h r refunds
  flush_charged is flushes f p nothing = refunds-charged s r n (flush_left s n granted is flushes) flushes (Flush from to) is refl (λ f. refl) refl f p nothing

  -- and so does a flush of one
  pub flush_one_charged : (o : ObjectId) → r.request ≡ FlushO o from to → Flushes chains new (found_in kept) (same_object o) from to refunds → (f : ℕ → ℕ → ℕ) (p : Purse) → IsNothingBy (horizon_now base h) f → IsCharged base f p h r refunds
  flush_one_charged o is flushes f p nothing = refunds-charged s r n (flush_one_left s n granted o is flushes) flushes (FlushO o from to) is refl (λ f. refl) refl f p nothing

-- NO FLUSH

-- a request that is no flush erases nothing
no-span : (request : Request) (o : ObjectId) → is_flush request ≡ false → span_of o request ≡ None
no-span (Flush from to) o e = cc
no-span (FlushO q from to) o e = cc
no-span _ o e = refl

module _ {base : Base} {h : List Record} {r : Record} (s : IsSound base h) (n : IsNext base h r) (f : ℕ → ℕ → ℕ) (p : Purse) {refunds : List Refund} (nothing : refunds ≡ []) where
  freed-none-charged : freed_weight base f p h r ≡ 0 → IsCharged base f p h r refunds
  freed-none-charged none =
      let all = charges f s n p in
      let refund : refunded f p refunds ≡ 0 = ap (refunded f p) nothing in
      omega (arith, all, none, refund)

  -- a record that is no flush takes nothing back
  pub plain_charged : is_flush r.request ≡ false → IsCharged base f p h r refunds
  plain_charged plain = freed-none-charged (plain-frees-none f p base h r (λ q. no-span r.request q plain))

  -- nor does one that was refused
  pub refused_charged : is_refused r.reply ≡ true → IsCharged base f p h r refunds
  refused_charged refused = freed-none-charged (idle-frees-none f p base h r (ap (λ b. (not b && not (only_reads r.request)) && (is_wide r.caller r.request || is_about p (purse_of r.caller r.request))) refused))
