-- What is kept stands for a history with a flush more.
use Rattle.std.proofs.Common.{◌≡◌, ℕ, Bool, true, false, Some, None, List, [], ◌∷◌, ◌++◌, refl, sym, ◌∙◌, ap, subst, ◌+◌}
use Rattle.std.specs.Prelude.{◌||◌, map, if◌then◌else◌}
use Rattle.std.proofs.lemmas.Bool.{eqb-true}
use Rattle.s4_types.specs.declared.object.Purse.{Purse}
use Rattle.s4_types.specs.declared.object.ObjectId.{ObjectId}
use Rattle.s4_types.specs.declared.principal.Caller.{Caller}
use Rattle.s4_types.specs.declared.principal.WireVersion.{WireVersion}
use Rattle.s4_types.specs.declared.principal.WireVersion.TheVariants.{One}
use Rattle.s4_types.specs.declared.request.Request.{Request}
use Rattle.s4_types.specs.declared.request.Request.TheVariants.{Flush, FlushO}
use Rattle.s4_types.specs.declared.reply.Reply.TheVariants.{Done}
use Rattle.s4_types.specs.declared.record.Record.{Record}
use Rattle.s4_types.specs.declared.version.Version.{Version}
use Rattle.s4_types.specs.declared.version.Item.{Item}
use Rattle.s4_types.specs.declared.version.Item.TheVariants as item
use Rattle.s4_types.specs.Names.{same_object}
use Rattle.s4_types.specs.Kinds.{is_refused, concerns}
use Rattle.s4_types.specs.Base.{Base}
use Rattle.s4_types.specs.Versions.{Track, Value, Span, versions, flushed_by, data_track, attribute_track, acl_track}
use Rattle.s4_types.specs.Versions as model
use Rattle.s4_types.proofs.Booleans.{&&-false}
use Rattle.s4_types.proofs.Erasing.{versions-flush, versions-flush-one}
use Rattle.s4_store.specs.Chains.{Chains}
use Rattle.s4_tracks.specs.Chain.{is_within, erased, flushed_one, flushed}
use Rattle.s4_tracks.specs.Swept.{AgreesWith}
use Rattle.s4_tracks.proofs.Sweeping.{agrees_as, agrees_flush}
use Rattle.s4_parts.specs.declared.parts.Parts.{Parts as Table}
use Rattle.s4_parts.specs.Waiting.{waiting_in}
use Rattle.s4_objects.specs.declared.flushes.Refund.{Refund}
use Rattle.s4_objects.specs.declared.kept.Which.{Which}
use Rattle.s4_objects.specs.declared.kept.Which.TheVariants as which
use Rattle.s4_objects.specs.declared.objects.Objects.{Objects}
use Rattle.s4_objects.specs.Flushes.{flushed_on, Flushes}
use Rattle.s4_objects.specs.Table.{found_in, held_in, ends_in, Holds, LeavesNoChain}
use Rattle.s4_types.specs.Counts.{counted, made_by}
use Rattle.s4_state.specs.Laid.{version_of, laid, versions_on}
use Rattle.s4_state.specs.Sound.{IsSound, IsNext}
use Rattle.s4_state.specs.Stands.{horizon_now, StandsFor, NamesStand, MakesNone, RebindsNone, Counts}
use Rattle.s4_state.proofs.Granting.{told, told-asked, accepted-asked, flush-done, flush_one-done, flush-asker}
use Rattle.s4_state.proofs.Naming.{names_with, names_over}
use Rattle.s4_state.proofs.Standing.{agrees_if, horizon_up, objects_next, none-made, stands_on, tidy_beside}
use Rattle.s4_state.proofs.Waiting.{no-more}
use Rattle.std.specs.Bool.{then_some}

-- VALUES AND VERSIONS

module _ {V : Type 0} (track : Track V) (wrap : V → Item) (from to : ℕ) where
  abbrev span : Span
  span = record { from = from; to = to }

  flushed-append : (us vs : List Version) → flushed from to (us ++ vs) ≡ flushed from to us ++ flushed from to vs
  flushed-append [] vs = refl
  flushed-append (u ∷ us) vs = ap (λ ws. flushed_one from to u ∷ ws) (flushed-append us vs)

  -- a value that a flush erases is a version that it erases
  flushed-value : (v : Value V) → version_of track wrap (model.erased span v) ≡ flushed_one from to (version_of track wrap v)
  flushed-value v = of v.is_erased (is_within from to (version_of track wrap v))
    where
      of : (e b : Bool) → record { begin = v.begin; end = v.end; item = if e || b then None else Some (wrap v.value); cost = track.cost v.value }
          ≡ (if b then erased (record { begin = v.begin; end = v.end; item = if e then None else Some (wrap v.value); cost = track.cost v.value })
          else record { begin = v.begin; end = v.end; item = if e then None else Some (wrap v.value); cost = track.cost v.value })
      of true true = refl
      of true false = refl
      of false true = refl
      of false false = refl

  flushed-laid : (values : List (Value V)) → laid track wrap (map (model.erased span) values) ≡ flushed from to (laid track wrap values)
  flushed-laid [] = refl
  flushed-laid (v ∷ past) =
      ap (λ vs. vs ++ version_of track wrap (model.erased span v) ∷ []) (flushed-laid past)
      ∙ ap (λ w. flushed from to (laid track wrap past) ++ w ∷ []) (flushed-value v)
      ∙ sym (flushed-append (laid track wrap past) (version_of track wrap v ∷ []))

  -- where the object is asked for
  flushed-if : (asked : Bool) (values : List (Value V)) → laid track wrap (flushed_by (then_some asked span) true values) ≡ (if asked then flushed from to (laid track wrap values) else laid track wrap values)
  flushed-if true values = flushed-laid values
  flushed-if false values = refl

  kept-if : (asked : Bool) (values : List (Value V)) → laid track wrap (flushed_by (then_some asked span) false values) ≡ (if asked then laid track wrap values else laid track wrap values)
  kept-if true values = refl
  kept-if false values = refl

-- THE RECORD

unmoved : {A : Type 0} (b : Bool) (x : A) → (if b then x else x) ≡ x
unmoved true x = refl
unmoved false x = refl

-- what is held of a track is flushed as all of it is
flushed-left : {hz : ℕ} (from to : ℕ) (w : Which) {held all : List Version} → AgreesWith hz held all → AgreesWith hz (flushed_on from to w held) (flushed_on from to w all)
flushed-left {hz} from to which.Data s = agrees_flush hz from to _ _ s
flushed-left {hz} from to which.Attributes s = agrees_flush hz from to _ _ s
flushed-left from to which.Acl s = s

module _ {base : Base} {size : ℕ} {chains : Chains Version} {kept : Objects} {serials : Purse → ℕ} {table : Table} {h : List Record} (s : StandsFor base size chains kept serials table h) {new : Chains Version} {asked : ObjectId → Bool} {from to : ℕ} {refunds : List Refund} (f : Flushes chains new (found_in kept) asked from to refunds) where
  names-flushed : NamesStand base (horizon_now base h) new kept table h
  names-flushed = names_over s.partitions new kept (record {
    opened = λ p n c got. f.still c (s.partitions.holds.opened p n c got);
    items = λ p n c got. f.others c (λ o k w is. s.partitions.apart p n c got o k w is);
  }) s.partitions.apart

  -- by what the flush leaves of all versions
  module _ (r : Record) (tracks : (o : ObjectId) (w : Which) → versions_on base w o (h ++ r ∷ []) ≡ (if asked o then flushed_on from to w (versions_on base w o h) else versions_on base w o h)) where
    tracks-left : (o : ObjectId) (w : Which) → AgreesWith (horizon_now base h) (held_in new kept o w) (versions_on base w o (h ++ r ∷ []))
    tracks-left o w = agrees_as (f.tracks o w) (tracks o w) (agrees_if (asked o) (flushed-left from to w (s.objects.tracks o w)) (s.objects.tracks o w))

    stands_flushed : Holds new kept → LeavesNoChain chains new kept kept → IsSound base (h ++ r ∷ []) → MakesNone r → RebindsNone r → Counts r 0 0 0 → StandsFor base (size + counted made_by r) new kept serials table (h ++ r ∷ [])
    stands_flushed holds leaves sound none rebinds counts = stands_on s r sound none
        (objects_next s r sound holds (λ o. refl) none tracks-left (no-more (ends_in kept) r.moment counts.values))
        (names_with names-flushed r (horizon_up s r sound) rebinds counts.bindings)
        (tidy_beside s.tidy leaves)
        (f.used ∙ none-made s r sound counts.made) (no-more (ends_in kept) r.moment counts.values) (no-more (map (λ e. e.end) (waiting_in table)) r.moment counts.bindings)

-- a flush that was carried out makes and binds nothing
module _ (t : ℕ) (caller : Caller) where
  abbrev flush_of : Request → Record
  flush_of request = record { moment = t; caller = caller; request = request; reply = Done }

  flush-makes : (from to : ℕ) → MakesNone (flush_of (Flush from to))
  flush-makes from to = record { makes_none = λ q. &&-false (concerns q.purse (flush_of (Flush from to))); draws_none = λ p. &&-false (concerns p (flush_of (Flush from to))) }

  flush-rebinds : (from to : ℕ) → RebindsNone (flush_of (Flush from to))
  flush-rebinds from to = record { bindings = λ p n old. unmoved (concerns p (flush_of (Flush from to))) old; names = λ p old. unmoved (concerns p (flush_of (Flush from to))) old }

  flush_one-makes : (o : ObjectId) (from to : ℕ) → MakesNone (flush_of (FlushO o from to))
  flush_one-makes o from to = record { makes_none = λ q. &&-false (concerns q.purse (flush_of (FlushO o from to))); draws_none = λ p. &&-false (concerns p (flush_of (FlushO o from to))) }

  flush_one-rebinds : (o : ObjectId) (from to : ℕ) → RebindsNone (flush_of (FlushO o from to))
  flush_one-rebinds o from to = record { bindings = λ p n old. unmoved (concerns p (flush_of (FlushO o from to))) old; names = λ p old. unmoved (concerns p (flush_of (FlushO o from to))) old }

-- the versions that the flush of all objects leaves
flush-tracks : (base : Base) (h : List Record) (t client : ℕ) (version : WireVersion) (from to : ℕ) (o : ObjectId) (w : Which) → versions_on base w o (h ++ flush_of t (record { who = 0; client = client; version = version }) (Flush from to) ∷ []) ≡ flushed_on from to w (versions_on base w o h)
flush-tracks base h t client version from to o which.Data = ap (laid data_track item.Data) (versions-flush data_track o base h t client version from to (λ old. refl)) ∙ flushed-if data_track item.Data from to true (versions base data_track o h)
flush-tracks base h t client version from to o which.Attributes = ap (laid attribute_track item.Attr) (versions-flush attribute_track o base h t client version from to (λ old. refl)) ∙ flushed-if attribute_track item.Attr from to true (versions base attribute_track o h)
flush-tracks base h t client version from to o which.Acl = ap (laid acl_track item.Acl) (versions-flush acl_track o base h t client version from to (λ old. refl))

-- and that of one object
flush_one-tracks : (base : Base) (h : List Record) (t : ℕ) (caller : Caller) (p : ObjectId) (from to : ℕ) (o : ObjectId) (w : Which) → versions_on base w o (h ++ flush_of t caller (FlushO p from to) ∷ []) ≡ (if same_object p o then flushed_on from to w (versions_on base w o h) else versions_on base w o h)
flush_one-tracks base h t caller p from to o which.Data = ap (laid data_track item.Data) (versions-flush-one data_track o base h t 0 One from to caller p (λ old. refl)) ∙ flushed-if data_track item.Data from to (same_object p o) (versions base data_track o h)
flush_one-tracks base h t caller p from to o which.Attributes = ap (laid attribute_track item.Attr) (versions-flush-one attribute_track o base h t 0 One from to caller p (λ old. refl)) ∙ flushed-if attribute_track item.Attr from to (same_object p o) (versions base attribute_track o h)
flush_one-tracks base h t caller p from to o which.Acl = ap (laid acl_track item.Acl) (versions-flush-one acl_track o base h t 0 One from to caller p (λ old. refl)) ∙ kept-if acl_track item.Acl from to (same_object p o) (versions base acl_track o h)

module _ {base : Base} {size : ℕ} {chains : Chains Version} {kept : Objects} {serials : Purse → ℕ} {table : Table} {h : List Record} (s : StandsFor base size chains kept serials table h) {r : Record} (n : IsNext base h r) (granted : is_refused r.reply ≡ false) {new : Chains Version} {from to : ℕ} {refunds : List Refund} where
  -- a flush of all objects
  module _ (asked : r.request ≡ Flush from to) (f : Flushes chains new (found_in kept) (λ o. true) from to refunds) where
    flush-is : r ≡ flush_of r.moment (record { who = 0; client = r.caller.client; version = r.caller.version }) (Flush from to)
    flush-is =
        let accepted : is_refused (told base h r.moment r.caller (Flush from to)) ≡ false = accepted-asked n granted (Flush from to) asked in
        let told' : r.reply ≡ Done = told-asked n granted (Flush from to) asked ∙ flush-done base h r.moment r.caller from to accepted in
        let asker : r.caller.who ≡ 0 = eqb-true r.caller.who 0 (flush-asker base h r.moment r.caller from to accepted) in
        λ i. record { moment = r.moment; caller = record { who = asker i; client = r.caller.client; version = r.caller.version }; request = asked i; reply = told' i }

    pub flush_left : (o : ObjectId) (w : Which) → AgreesWith (horizon_now base h) (held_in new kept o w) (versions_on base w o (h ++ r ∷ []))
    flush_left o w = subst (λ x. AgreesWith (horizon_now base h) (held_in new kept o w) (versions_on base w o (h ++ x ∷ []))) (sym flush-is)
        (tracks-left s f (flush_of r.moment (record { who = 0; client = r.caller.client; version = r.caller.version }) (Flush from to)) (flush-tracks base h r.moment r.caller.client r.caller.version from to) o w)

    pub stands_flush : Holds new kept → LeavesNoChain chains new kept kept → IsSound base (h ++ r ∷ []) → StandsFor base (size + counted made_by r) new kept serials table (h ++ r ∷ [])
    stands_flush holds leaves sound = subst (λ x. StandsFor base (size + counted made_by x) new kept serials table (h ++ x ∷ [])) (sym flush-is)
        (stands_flushed s f (flush_of r.moment (record { who = 0; client = r.caller.client; version = r.caller.version }) (Flush from to)) (flush-tracks base h r.moment r.caller.client r.caller.version from to) holds leaves (subst (λ x. IsSound base (h ++ x ∷ [])) flush-is sound)
        (flush-makes r.moment (record { who = 0; client = r.caller.client; version = r.caller.version }) from to) (flush-rebinds r.moment (record { who = 0; client = r.caller.client; version = r.caller.version }) from to) (record { made = refl; values = refl; bindings = refl }))

  -- a flush of one object
  module _ (o : ObjectId) (asked : r.request ≡ FlushO o from to) (f : Flushes chains new (found_in kept) (same_object o) from to refunds) where
    flush_one-is : r ≡ flush_of r.moment r.caller (FlushO o from to)
    flush_one-is =
        let told' : r.reply ≡ Done = told-asked n granted (FlushO o from to) asked ∙ flush_one-done base h r.moment r.caller o from to (accepted-asked n granted (FlushO o from to) asked) in
        λ i. record { moment = r.moment; caller = r.caller; request = asked i; reply = told' i }

    pub flush_one_left : (q : ObjectId) (w : Which) → AgreesWith (horizon_now base h) (held_in new kept q w) (versions_on base w q (h ++ r ∷ []))
    flush_one_left q w = subst (λ x. AgreesWith (horizon_now base h) (held_in new kept q w) (versions_on base w q (h ++ x ∷ []))) (sym flush_one-is)
        (tracks-left s f (flush_of r.moment r.caller (FlushO o from to)) (flush_one-tracks base h r.moment r.caller o from to) q w)

    pub stands_flush_one : Holds new kept → LeavesNoChain chains new kept kept → IsSound base (h ++ r ∷ []) → StandsFor base (size + counted made_by r) new kept serials table (h ++ r ∷ [])
    stands_flush_one holds leaves sound = subst (λ x. StandsFor base (size + counted made_by x) new kept serials table (h ++ x ∷ [])) (sym flush_one-is)
        (stands_flushed s f (flush_of r.moment r.caller (FlushO o from to)) (flush_one-tracks base h r.moment r.caller o from to) holds leaves (subst (λ x. IsSound base (h ++ x ∷ [])) flush_one-is sound)
        (flush_one-makes r.moment r.caller o from to) (flush_one-rebinds r.moment r.caller o from to) (record { made = refl; values = refl; bindings = refl }))
