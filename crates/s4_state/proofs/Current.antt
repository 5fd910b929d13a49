-- What is current on a track of an object that lives, and what one record more makes of it.
use Rattle.std.proofs.Common.{◌≡◌, ℕ, ◌≤◌, true, false, Option, Some, None, List, [], ◌∷◌, ◌++◌, refl, sym, ◌∙◌, ap, subst}
use Rattle.std.specs.Prelude.{is_some, if◌then◌else◌}
use Rattle.s4_types.specs.Base.{Base}
use Rattle.s4_types.specs.declared.object.ObjectId.{ObjectId}
use Rattle.s4_types.specs.declared.record.Record.{Record}
use Rattle.s4_types.specs.Kinds.{concerns}
use Rattle.s4_types.specs.Versions.{Track, Value, span_of, makes, deletes, begun, ended, in_force_by, on_current, with_end, with_value, with_effect, flushed_by, after_mutation, after_change, versions, value_at, lives_at, acl_track}
use Rattle.s4_types.specs.Erased.{span_by}
use Rattle.s4_types.proofs.Erasing.{unended-whole, plain-change}
use Rattle.s4_types.proofs.Snoc.{versions-snoc}
use Rattle.s4_state.specs.Sound.{ValuesStand}
use Rattle.s4_state.proofs.Living.{newest-now, live-track}

-- the newest value of a track, which is in force at the moment
pub record Current {V : Type 0} (base : Base) (track : Track V) (o : ObjectId) (m : ℕ) (h : List Record) : Type 0 where
  pub newest : Value V
  pub past : List (Value V)
  pub whole : versions base track o h ≡ newest ∷ past
  pub unended : newest.end ≡ None
  pub unerased : newest.is_erased ≡ false
  pub told : value_at base track o m h ≡ Some newest

pub current : {V : Type 0} (track : Track V) (o : ObjectId) {m last : ℕ} (base : Base) (h : List Record) → ValuesStand last (versions base track o h)
    → ValuesStand last (versions base acl_track o h) → last ≤ m → lives_at base m o h ≡ true → Current base track o m h
current track o {m} {last} base h stands acl later lives =
    let live = live-track base o h later acl track lives in
    record {
      newest = live.newest;
      past = live.past;
      whole = live.whole;
      unended = live.current;
      unerased = unended-whole base track o h live.newest live.past live.whole live.current;
      told = ap (in_force_by m) live.whole ∙ newest-now later live.newest live.past (subst (ValuesStand last) live.whole stands) ∙ ap (λ (end : Option ℕ). if is_some end then None else Some live.newest) live.current;
    }

-- ONE RECORD MORE

module _ (base : Base) (h : List Record) (r : Record) {V : Type 0} (track : Track V) (q : ObjectId) where
  -- a record that doesn't concern the object's purse
  pub untouched : concerns q.purse r ≡ false → versions base track q (h ++ r ∷ []) ≡ flushed_by (span_by q r) track.is_flushed (versions base track q h)
  untouched e = versions-snoc base track q h r
      ∙ ap (λ b. if b then after_change track q (versions base track q h) r else versions base track q h) e
      ∙ sym (ap (λ b. flushed_by (if b then span_of q r.request else None) track.is_flushed (versions base track q h)) e)

  no-effect : ((old : V) → track.effect q r.request old ≡ None) → (values : List (Value V)) → with_effect r.moment (track.effect q r.request) values ≡ values
  no-effect none [] = refl
  no-effect none (v ∷ past) = ap (λ (x : Option V). with_value r.moment x v past) (of v.end)
    where
      of : (end : Option ℕ) → on_current (track.effect q r.request) end v.value ≡ None
      of None = none v.value
      of (Some end) = refl

  -- one that changes nothing on the track
  pub unchanged : makes q r ≡ false → deletes q r ≡ false → ((old : V) → track.effect q r.request old ≡ None) → versions base track q (h ++ r ∷ []) ≡ flushed_by (span_by q r) track.is_flushed (versions base track q h)
  unchanged made deleted none = versions-snoc base track q h r
      ∙ (elim (concerns q.purse r) as (λ b. (if b then after_change track q (versions base track q h) r else versions base track q h) ≡ flushed_by (if b then span_of q r.request else None) track.is_flushed (versions base track q h)) [
        | false ↦ refl
        | true ↦ ap (flushed_by (span_of q r.request) track.is_flushed)
            (ap (λ b. if b then begun r.moment (track.start q) ∷ versions base track q h else (if deletes q r then with_end r.moment (versions base track q h) else with_effect r.moment (track.effect q r.request) (versions base track q h))) made
            ∙ ap (λ b. if b then with_end r.moment (versions base track q h) else with_effect r.moment (track.effect q r.request) (versions base track q h)) deleted
            ∙ no-effect none (versions base track q h))
      ])

  module _ (concerned : concerns q.purse r ≡ true) (plain : span_of q r.request ≡ None) where
    changed : versions base track q (h ++ r ∷ []) ≡ after_mutation track q (versions base track q h) r
    changed = versions-snoc base track q h r ∙ ap (λ b. if b then after_change track q (versions base track q h) r else versions base track q h) concerned ∙ plain-change track q r (versions base track q h) plain

    -- the object is made
    pub made-first : makes q r ≡ true → versions base track q (h ++ r ∷ []) ≡ begun r.moment (track.start q) ∷ versions base track q h
    made-first e = changed
        ∙ ap (λ b. if b then begun r.moment (track.start q) ∷ versions base track q h else (if deletes q r then with_end r.moment (versions base track q h) else with_effect r.moment (track.effect q r.request) (versions base track q h))) e

    module _ (old : makes q r ≡ false) {m : ℕ} (c : Current base track q m h) where
      kept : versions base track q (h ++ r ∷ []) ≡ (if deletes q r then ended r.moment c.newest ∷ c.past else with_effect r.moment (track.effect q r.request) (c.newest ∷ c.past))
      kept = changed
          ∙ ap (λ b. if b then begun r.moment (track.start q) ∷ versions base track q h else (if deletes q r then with_end r.moment (versions base track q h) else with_effect r.moment (track.effect q r.request) (versions base track q h))) old
          ∙ ap (λ values. if deletes q r then with_end r.moment values else with_effect r.moment (track.effect q r.request) values) c.whole

      -- its value ends
      pub end-after : deletes q r ≡ true → versions base track q (h ++ r ∷ []) ≡ ended r.moment c.newest ∷ c.past
      end-after e = kept ∙ ap (λ b. if b then ended r.moment c.newest ∷ c.past else with_effect r.moment (track.effect q r.request) (c.newest ∷ c.past)) e

      -- another value takes its place
      pub put-after : deletes q r ≡ false → (new : V) → track.effect q r.request c.newest.value ≡ Some new → versions base track q (h ++ r ∷ []) ≡ begun r.moment new ∷ ended r.moment c.newest ∷ c.past
      put-after e new f = kept
          ∙ ap (λ b. if b then ended r.moment c.newest ∷ c.past else with_effect r.moment (track.effect q r.request) (c.newest ∷ c.past)) e
          ∙ ap (λ (end : Option ℕ). with_value r.moment (on_current (track.effect q r.request) end c.newest.value) c.newest c.past) c.unended
          ∙ ap (λ (x : Option V). with_value r.moment x c.newest c.past) f
