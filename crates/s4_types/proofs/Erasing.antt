-- What flushes erase: only what is past, and no ACL.
use Rattle.std.proofs.Common.{◌≡◌, ℕ, Bool, true, false, Option, Some, None, List, [], ◌∷◌, ◌++◌, refl, sym, ◌∙◌, ap, fold}
use Rattle.std.specs.Prelude.{not, ◌==◌, ◌&&◌, ◌||◌, nat_le, map, is_some, if◌then◌else◌}
use Rattle.std.specs.List.{list_all}
use Rattle.s4_types.specs.declared.principal.WireVersion.{WireVersion}
use Rattle.s4_types.specs.declared.object.ObjectId.{ObjectId}
use Rattle.s4_types.specs.declared.acl.AclEntry.{AclEntry}
use Rattle.s4_types.specs.declared.principal.Caller.{Caller}
use Rattle.s4_types.specs.declared.request.Request.{Request}
use Rattle.s4_types.specs.declared.request.Request.TheVariants.{Flush, FlushO}
use Rattle.s4_types.specs.declared.reply.Reply.TheVariants.{Done}
use Rattle.s4_types.specs.declared.record.Record.{Record}
use Rattle.s4_types.specs.Names.{same_purse, same_object}
use Rattle.s4_types.specs.Kinds.{concerns}
use Rattle.s4_types.specs.Base.{Base, Standing}
use Rattle.std.specs.Option.{option_map}
use Rattle.s4_types.specs.Versions.{Track, Value, Span, span_of, is_within, begun, end_at, on_current, only_kept, with_end, with_value, with_effect, erased, flushed_by, makes, deletes, after_mutation, after_change, versions_after, versions, acl_track}
use Rattle.s4_types.specs.Erased.{is_whole, is_past_or_whole}
use Rattle.s4_types.proofs.Booleans.{by_test, both, &&-false}
use Rattle.s4_types.proofs.Snoc.{versions-snoc}
use Rattle.std.specs.Bool.{then_some}

-- WHAT IS CURRENT

end-there : (m : ℕ) (end : Option ℕ) → is_some (end_at m end) ≡ true
end-there m None = refl
end-there m (Some x) = refl

past-or-whole : (span : Span) (begin : ℕ) (end : Option ℕ) (e : Bool) → (is_some end || not e) ≡ true → (is_some end || not (e || is_within span begin end)) ≡ true
past-or-whole span begin (Some end) e p = refl
past-or-whole span begin None true p = cc
past-or-whole span begin None false p = ap not (&&-false (nat_le span.from begin))

module _ {V : Type 0} (track : Track V) (o : ObjectId) where
  abbrev all_kept : List (Value V) → Bool
  all_kept vs = list_all is_past_or_whole vs

  erased-kept : (span : Span) (vs : List (Value V)) → all_kept vs ≡ true → all_kept (map (erased span) vs) ≡ true
  erased-kept span [] e = refl
  erased-kept span (v ∷ vs) e =
      let parts = both (is_past_or_whole v) (all_kept vs) e in
      ap (λ b. b && all_kept (map (erased span) vs)) (past-or-whole span v.begin v.end v.is_erased parts.0) ∙ erased-kept span vs parts.1

  flushed-kept : (span : Option Span) (is_flushed : Bool) (vs : List (Value V)) → all_kept vs ≡ true → all_kept (flushed_by span is_flushed vs) ≡ true
  flushed-kept None is_flushed vs e = e
  flushed-kept (Some span) true vs e = erased-kept span vs e
  flushed-kept (Some span) false vs e = e

  end-kept : (m : ℕ) (vs : List (Value V)) → all_kept vs ≡ true → all_kept (with_end m vs) ≡ true
  end-kept m [] e = refl
  end-kept m (v ∷ vs) e = ap (λ b. (b || not v.is_erased) && all_kept vs) (end-there m v.end) ∙ (both (is_past_or_whole v) (all_kept vs) e).1

  value-kept : (m : ℕ) (next : Option V) (v : Value V) (vs : List (Value V)) → all_kept (v ∷ vs) ≡ true → all_kept (with_value m next v vs) ≡ true
  value-kept m None v vs e = e
  value-kept m (Some x) v vs e = ap (λ b. (b || not v.is_erased) && all_kept vs) (end-there m v.end) ∙ (both (is_past_or_whole v) (all_kept vs) e).1

  effect-kept : (m : ℕ) (effect : V → Option V) (vs : List (Value V)) → all_kept vs ≡ true → all_kept (with_effect m effect vs) ≡ true
  effect-kept m effect [] e = refl
  effect-kept m effect (v ∷ vs) e = value-kept m (on_current effect v.end v.value) v vs e

  mutation-kept : (r : Record) (vs : List (Value V)) → all_kept vs ≡ true → all_kept (after_mutation track o vs r) ≡ true
  mutation-kept r vs e =
      elim (makes o r) as (λ b. all_kept (if b then begun r.moment (track.start o) ∷ vs else (if deletes o r then with_end r.moment vs else with_effect r.moment (track.effect o r.request) vs)) ≡ true) [
        | true ↦ e
        | false ↦ (elim (deletes o r) as (λ b. all_kept (if b then with_end r.moment vs else with_effect r.moment (track.effect o r.request) vs) ≡ true) [
          | true ↦ end-kept r.moment vs e
          | false ↦ effect-kept r.moment (track.effect o r.request) vs e
        ])
      ]

  step-kept : (r : Record) (vs : List (Value V)) → all_kept vs ≡ true → all_kept (versions_after track o vs r) ≡ true
  step-kept r vs e =
      elim (concerns o.purse r) as (λ b. all_kept (if b then after_change track o vs r else vs) ≡ true) [
        | true ↦ flushed-kept (span_of o r.request) track.is_flushed (after_mutation track o vs r) (mutation-kept r vs e)
        | false ↦ e
      ]

  all-kept : (h : List Record) (vs : List (Value V)) → all_kept vs ≡ true → all_kept (fold (versions_after track o) vs h) ≡ true
  all-kept [] vs e = e
  all-kept (r ∷ h) vs e = all-kept h (versions_after track o vs r) (step-kept r vs e)

  -- no value is erased that has no end
  start-kept : (kept : Option (Standing V)) → all_kept (only_kept kept) ≡ true
  start-kept None = refl
  start-kept (Some v) = refl

  pub current-kept : (base : Base) (h : List Record) → list_all is_past_or_whole (versions base track o h) ≡ true
  current-kept base h = all-kept h (only_kept (option_map track.kept (base.object o))) (start-kept (option_map track.kept (base.object o)))

-- ACLS

module _ (o : ObjectId) where
  abbrev all_whole : List (Value (List AclEntry)) → Bool
  all_whole vs = list_all is_whole vs

  pub flushed-whole : (span : Option Span) (vs : List (Value (List AclEntry))) → flushed_by span false vs ≡ vs
  flushed-whole None vs = refl
  flushed-whole (Some span) vs = refl

  end-whole : (m : ℕ) (vs : List (Value (List AclEntry))) → all_whole vs ≡ true → all_whole (with_end m vs) ≡ true
  end-whole m [] e = refl
  end-whole m (v ∷ vs) e = e

  value-whole : (m : ℕ) (next : Option (List AclEntry)) (v : Value (List AclEntry)) (vs : List (Value (List AclEntry))) → all_whole (v ∷ vs) ≡ true → all_whole (with_value m next v vs) ≡ true
  value-whole m None v vs e = e
  value-whole m (Some x) v vs e = e

  effect-whole : (m : ℕ) (effect : List AclEntry → Option (List AclEntry)) (vs : List (Value (List AclEntry))) → all_whole vs ≡ true → all_whole (with_effect m effect vs) ≡ true
  effect-whole m effect [] e = refl
  effect-whole m effect (v ∷ vs) e = value-whole m (on_current effect v.end v.value) v vs e

  mutation-whole : (r : Record) (vs : List (Value (List AclEntry))) → all_whole vs ≡ true → all_whole (after_mutation acl_track o vs r) ≡ true
  mutation-whole r vs e =
      elim (makes o r) as (λ b. all_whole (if b then begun r.moment (acl_track.start o) ∷ vs else (if deletes o r then with_end r.moment vs else with_effect r.moment (acl_track.effect o r.request) vs)) ≡ true) [
        | true ↦ e
        | false ↦ (elim (deletes o r) as (λ b. all_whole (if b then with_end r.moment vs else with_effect r.moment (acl_track.effect o r.request) vs) ≡ true) [
          | true ↦ end-whole r.moment vs e
          | false ↦ effect-whole r.moment (acl_track.effect o r.request) vs e
        ])
      ]

  step-whole : (r : Record) (vs : List (Value (List AclEntry))) → all_whole vs ≡ true → all_whole (versions_after acl_track o vs r) ≡ true
  step-whole r vs e =
      elim (concerns o.purse r) as (λ b. all_whole (if b then after_change acl_track o vs r else vs) ≡ true) [
        | true ↦ ap all_whole (flushed-whole (span_of o r.request) (after_mutation acl_track o vs r)) ∙ mutation-whole r vs e
        | false ↦ e
      ]

  all-whole : (h : List Record) (vs : List (Value (List AclEntry))) → all_whole vs ≡ true → all_whole (fold (versions_after acl_track o) vs h) ≡ true
  all-whole [] vs e = e
  all-whole (r ∷ h) vs e = all-whole h (versions_after acl_track o vs r) (step-whole r vs e)

  -- no ACL is ever erased
  start-whole : (kept : Option (Standing (List AclEntry))) → all_whole (only_kept kept) ≡ true
  start-whole None = refl
  start-whole (Some v) = refl

  pub acls-whole : (base : Base) (h : List Record) → list_all is_whole (versions base acl_track o h) ≡ true
  acls-whole base h = all-whole h (only_kept (option_map acl_track.kept (base.object o))) (start-whole (option_map acl_track.kept (base.object o)))

-- ONE MORE RECORD

-- a value without an end holds what it held
pub unended-whole : {V : Type 0} (base : Base) (track : Track V) (o : ObjectId) (h : List Record) (v : Value V) (past : List (Value V)) → versions base track o h ≡ v ∷ past → v.end ≡ None → v.is_erased ≡ false
unended-whole base track o h v past e f =
    let kept : list_all is_past_or_whole (v ∷ past) ≡ true = sym (ap (list_all is_past_or_whole) e) ∙ current-kept track o base h in
    let here : is_past_or_whole v ≡ true = (both (is_past_or_whole v) (list_all is_past_or_whole past) kept).0 in
    unerased v.is_erased (sym (ap (λ (end : Option ℕ). is_some end || not v.is_erased) f) ∙ here)
  where
    unerased : (b : Bool) → not b ≡ true → b ≡ false
    unerased true e = cc
    unerased false e = refl

module _ {V : Type 0} (track : Track V) (o : ObjectId) where
  -- a record that is no flush
  pub plain-change : (r : Record) (vs : List (Value V)) → span_of o r.request ≡ None → after_change track o vs r ≡ after_mutation track o vs r
  plain-change r vs e = ap (λ span. flushed_by span track.is_flushed (after_mutation track o vs r)) e

  no-effect : (m : ℕ) (vs : List (Value V)) → with_effect m (λ old. None) vs ≡ vs
  no-effect m [] = refl
  no-effect m (v ∷ vs) = of v.end
    where
      of : (end : Option ℕ) → with_value m (on_current (λ (old : V). None) end v.value) v vs ≡ v ∷ vs
      of None = refl
      of (Some x) = refl

  -- a record that makes, deletes, changes and erases nothing here, also one that concerns all purses
  pub versions-idle : (base : Base) (h : List Record) (r : Record) → makes o r ≡ false → deletes o r ≡ false → span_of o r.request ≡ None → ((old : V) → track.effect o r.request old ≡ None) → versions base track o (h ++ r ∷ []) ≡ versions base track o h
  versions-idle base h r made deleted plain none =
      versions-snoc base track o h r
      ∙ (elim (concerns o.purse r) as (λ b. (if b then after_change track o (versions base track o h) r else versions base track o h) ≡ versions base track o h) [
        | false ↦ refl
        | true ↦ plain-change r (versions base track o h) plain
            ∙ ap (λ b. if b then begun r.moment (track.start o) ∷ versions base track o h else (if deletes o r then with_end r.moment (versions base track o h) else with_effect r.moment (track.effect o r.request) (versions base track o h))) made
            ∙ ap (λ b. if b then with_end r.moment (versions base track o h) else with_effect r.moment (track.effect o r.request) (versions base track o h)) deleted
            ∙ ap (λ effect. with_effect r.moment effect (versions base track o h)) (λ i old. none old i)
            ∙ no-effect r.moment (versions base track o h)
      ])

  module _ (base : Base) (h : List Record) (m client : ℕ) (version : WireVersion) (from to : ℕ) where
    abbrev the_span : Span
    the_span = record { from = from; to = to }

    abbrev done_by : Caller → Request → Record
    done_by caller request = record { moment = m; caller = caller; request = request; reply = Done }

    -- a flush of all objects
    pub versions-flush : ((old : V) → track.effect o (Flush from to) old ≡ None)
        → versions base track o (h ++ done_by (record { who = 0; client = client; version = version }) (Flush from to) ∷ []) ≡ flushed_by (Some the_span) track.is_flushed (versions base track o h)
    versions-flush none =
        versions-snoc base track o h (done_by (record { who = 0; client = client; version = version }) (Flush from to))
        ∙ ap (λ effect. flushed_by (Some the_span) track.is_flushed (with_effect m effect (versions base track o h))) (λ i old. none old i)
        ∙ ap (flushed_by (Some the_span) track.is_flushed) (no-effect m (versions base track o h))

    -- a flush of one object
    pub versions-flush-one : (caller : Caller) (p : ObjectId) → ((old : V) → track.effect o (FlushO p from to) old ≡ None)
        → versions base track o (h ++ done_by caller (FlushO p from to) ∷ []) ≡ flushed_by (then_some (same_object p o) the_span) track.is_flushed (versions base track o h)
    versions-flush-one caller p none =
        versions-snoc base track o h (done_by caller (FlushO p from to))
        ∙ by_test (same_purse p.purse o.purse)
        (λ e. ap (λ b. if b then after_change track o (versions base track o h) (done_by caller (FlushO p from to)) else versions base track o h) e
        ∙ changed)
        (λ e. ap (λ b. if b then after_change track o (versions base track o h) (done_by caller (FlushO p from to)) else versions base track o h) e
        ∙ sym (ap (λ b. flushed_by (then_some (b && (p.serial == o.serial)) the_span) track.is_flushed (versions base track o h)) e))
      where
        made : makes o (done_by caller (FlushO p from to)) ≡ false
        made = &&-false (concerns o.purse (done_by caller (FlushO p from to)))

        deleted : deletes o (done_by caller (FlushO p from to)) ≡ false
        deleted = &&-false (concerns o.purse (done_by caller (FlushO p from to)))

        changed : after_change track o (versions base track o h) (done_by caller (FlushO p from to)) ≡ flushed_by (then_some (same_object p o) the_span) track.is_flushed (versions base track o h)
        changed = ap (flushed_by (then_some (same_object p o) the_span) track.is_flushed)
            (ap (λ b. if b then begun m (track.start o) ∷ versions base track o h else (if deletes o (done_by caller (FlushO p from to)) then with_end m (versions base track o h) else with_effect m (track.effect o (FlushO p from to)) (versions base track o h))) made
            ∙ ap (λ b. if b then with_end m (versions base track o h) else with_effect m (track.effect o (FlushO p from to)) (versions base track o h)) deleted
            ∙ ap (λ effect. with_effect m effect (versions base track o h)) (λ i old. none old i)
            ∙ no-effect m (versions base track o h))
