-- What an accepted request puts, ends and makes.
use Rattle.std.proofs.Common.{◌≡◌, ℕ, ◌+◌, Bool, true, false, cond, Option, Some, None, List, [], ◌∷◌, ◌++◌, length, refl, sym, ◌∙◌, ap, subst}
use Rattle.std.specs.Prelude.{◌&&◌, ◌==◌, nat_le, is_ok, Ok, if◌then◌else◌}
use Rattle.s4_types.specs.declared.principal.Caller.{Caller}
use Rattle.s4_types.specs.declared.object.Purse.{Purse}
use Rattle.s4_types.specs.declared.object.ObjectId.{ObjectId}
use Rattle.s4_types.specs.declared.acl.AclEntry.{AclEntry}
use Rattle.s4_types.specs.declared.request.Request.{Request}
use Rattle.s4_types.specs.declared.request.Request.TheVariants.{Create, Delete, Write, Append, Truncate, SetAttr, SetAcl}
use Rattle.s4_types.specs.declared.reply.Refusal.{Refusal}
use Rattle.s4_types.specs.declared.reply.Refusal.TheVariants.{NamesSpent}
use Rattle.s4_types.specs.declared.reply.Reply.TheVariants.{Done, Made}
use Rattle.s4_types.specs.declared.record.Record.{Record}
use Rattle.s4_types.specs.declared.version.Item.{Item}
use Rattle.s4_types.specs.declared.version.Item.TheVariants as item
use Rattle.s4_types.specs.Names.{same_purse, same_object, object_in}
use Rattle.s4_types.specs.Kinds.{is_refused, is_create, concerns}
use Rattle.s4_types.specs.Versions.{Track, Value, versions, span_of, on_current, with_effect, with_value, makes, deletes, is_made, is_deleted, lives_at, data_track, attribute_track, acl_track, of_length, written}
use Rattle.s4_types.specs.Versions as model
use Rattle.s4_types.specs.Bindings.{rebound, named_by}
use Rattle.s4_types.specs.Outcome.{◌>>◌, refuse_if, reply_of}
use Rattle.s4_types.specs.Base.{Base}
use Rattle.s4_types.specs.Acl.{acl_with}
use Rattle.s4_types.specs.Answer.{settable}
use Rattle.s4_types.specs.Serials.{drawn}
use Rattle.s4_types.specs.Judgement.{judge}
use Rattle.s4_types.specs.declared.rights.Right.TheVariants as right
use Rattle.s4_types.proofs.Outcomes.{passes_judgement}
use Rattle.s4_types.proofs.Booleans.{by_test, &&-true, &&-false}
use Rattle.s4_types.proofs.SameNames.{purse_self, object_self, object_is}
use Rattle.s4_types.proofs.Erasing.{plain-change}
use Rattle.s4_types.proofs.Snoc.{versions-snoc}
use Rattle.s4_tracks.specs.Chain.{begun, end_at, ended, with_end, with_put, cost_of}
use Rattle.s4_tracks.proofs.Ending.{with_end-snoc}
use Rattle.s4_objects.specs.declared.kept.Which.{Which}
use Rattle.s4_objects.specs.declared.kept.Which.TheVariants as which
use Rattle.s4_objects.specs.Chains.{same_which}
use Rattle.s4_state.specs.Laid.{item_of, version_of, laid, versions_on}
use Rattle.s4_state.specs.Sound.{IsSound, IsNext, DataFits}
use Rattle.s4_state.specs.Stands.{MakesNone, RebindsNone, Counts, PutsOn, EndsAll}
use Rattle.s4_state.proofs.Granting.{told, told-asked, accepted-asked, changed_by, changed-lives, changed-done, data-fit}
use Rattle.s4_state.proofs.Living.{IsLive, live-track, live-fits}
use Rattle.s4_state.proofs.Reading.{data-in-force, attributes-in-force, acl-in-force}
use Rattle.s4_state.proofs.Standing.{MakesOnly}
use Rattle.std.specs.Bool.{then_some}
use Rattle.s4_types.specs.Contents.{data_of, attributes_of, acl_of}

pub either-same : {A : Type 0} (b : Bool) (x y : A) → x ≡ y → cond b x y ≡ y
either-same true x y e = e
either-same false x y e = refl

effect-none : {V : Type 0} (t : ℕ) (values : List (Value V)) → with_effect t (λ old. None) values ≡ values
effect-none t [] = refl
effect-none t (v ∷ past) = ap (λ x. with_value t x v past) (of v.end)
  where
    of : (end : Option ℕ) → on_current (λ old. None) end v.value ≡ None
    of None = refl
    of (Some end) = refl

-- VERSIONS

module _ {V : Type 0} (track : Track V) (wrap : V → Item) (cost : (x : V) → cost_of (wrap x) ≡ track.cost x) where
  begun-laid : (m : ℕ) (x : V) → version_of track wrap (model.begun m x) ≡ begun m (wrap x)
  begun-laid m x = ap (λ n. record { begin = m; end = None; item = Some (wrap x); cost = n }) (sym (cost x))

  ended-laid : (m : ℕ) (v : Value V) → v.end ≡ None → version_of track wrap (model.ended m v) ≡ ended m (version_of track wrap v)
  ended-laid m v e = ap (λ x. record { begin = v.begin; end = x; item = item_of wrap v; cost = track.cost v.value }) (ap (model.end_at m) e ∙ sym (ap (end_at m) e))

  pub laid-end : (m : ℕ) (v : Value V) (past : List (Value V)) → v.end ≡ None → laid track wrap (model.ended m v ∷ past) ≡ with_end m (laid track wrap (v ∷ past))
  laid-end m v past e = ap (λ w. laid track wrap past ++ w ∷ []) (ended-laid m v e) ∙ sym (with_end-snoc m (laid track wrap past) (version_of track wrap v))

  pub laid-put : (m : ℕ) (x : V) (v : Value V) (past : List (Value V)) → v.end ≡ None → laid track wrap (model.begun m x ∷ model.ended m v ∷ past) ≡ with_put m (wrap x) (laid track wrap (v ∷ past))
  laid-put m x v past e =
      ap (λ w. (laid track wrap past ++ version_of track wrap (model.ended m v) ∷ []) ++ w ∷ []) (begun-laid m x)
      ∙ ap (λ vs. vs ++ begun m (wrap x) ∷ []) (laid-end m v past e)

-- A RECORD ABOUT ONE OBJECT

-- a record whose request is about no name
rebinds-none : (r : Record) → ((p : Purse) (n : List ℕ) (m : ℕ) (old : List (Value ℕ)) → rebound p n m r.request old ≡ old) → ((p : Purse) (old : List (List ℕ)) → named_by p r.request old ≡ old) → RebindsNone r
rebinds-none r f g = record {
  bindings = λ p n old. either-same (concerns p r) _ _ (f p n r.moment old);
  names = λ p old. either-same (concerns p r) _ _ (g p old);
}

-- what a record does that is about the object and makes none
module _ (base : Base) (h : List Record) (r : Record) (o : ObjectId) (about : (p : Purse) → concerns p r ≡ same_purse o.purse p) (made : (q : ObjectId) → is_made q r.reply ≡ false) (kind : is_create r.request ≡ false) where
  pub makes-none : MakesNone r
  makes-none = record {
    makes_none = λ q. ap (λ b. concerns q.purse r && b) (made q) ∙ &&-false (concerns q.purse r);
    draws_none = λ p. ap (λ b. concerns p r && b) kind ∙ &&-false (concerns p r);
  }

  -- where it is no flush
  module _ (plain : (q : ObjectId) → span_of q r.request ≡ None) where
    module _ {V : Type 0} (track : Track V) (q : ObjectId) where
      vs : List (Value V)
      vs = versions base track q h

      changed : versions base track q (h ++ r ∷ []) ≡ cond (same_purse o.purse q.purse) (cond (deletes q r) (model.with_end r.moment (versions base track q h)) (with_effect r.moment (track.effect q r.request) (versions base track q h))) (versions base track q h)
      changed = versions-snoc base track q h r
          ∙ ap (λ values. if concerns q.purse r then values else versions base track q h) (plain-change track q r (versions base track q h) (plain q))
          ∙ ap (λ b. if concerns q.purse r then (if b then model.begun r.moment (track.start q) ∷ versions base track q h else (if deletes q r then model.with_end r.moment (versions base track q h) else with_effect r.moment (track.effect q r.request) (versions base track q h))) else versions base track q h) (makes-none.makes_none q)
          ∙ ap (λ b. cond b (cond (deletes q r) (model.with_end r.moment (versions base track q h)) (with_effect r.moment (track.effect q r.request) (versions base track q h))) (versions base track q h)) (about q.purse)

      -- it deletes nothing
      effected : is_deleted q r.request ≡ false → versions base track q (h ++ r ∷ []) ≡ cond (same_purse o.purse q.purse) (with_effect r.moment (track.effect q r.request) (versions base track q h)) (versions base track q h)
      effected e = changed ∙ ap (λ b. cond (same_purse o.purse q.purse) (cond (concerns q.purse r && b) (model.with_end r.moment (versions base track q h)) (with_effect r.moment (track.effect q r.request) (versions base track q h))) (versions base track q h)) e
          ∙ ap (λ b. cond (same_purse o.purse q.purse) (cond b (model.with_end r.moment (versions base track q h)) (with_effect r.moment (track.effect q r.request) (versions base track q h))) (versions base track q h)) (&&-false (concerns q.purse r))

      -- and changes nothing on this track
      pub idle : is_deleted q r.request ≡ false → ((old : V) → track.effect q r.request old ≡ None) → versions base track q (h ++ r ∷ []) ≡ versions base track q h
      idle e none = effected e ∙ either-same (same_purse o.purse q.purse) _ _ (ap (λ effect. with_effect r.moment effect (versions base track q h)) (λ i old. none old i) ∙ effect-none r.moment (versions base track q h))

    module _ {V : Type 0} (track : Track V) (wrap : V → Item) (cost : (x : V) → cost_of (wrap x) ≡ track.cost x) (live : IsLive (versions base track o h)) where
      -- a value is put in the place of another
      module _ (f : V → V) (undeleted : (q : ObjectId) → is_deleted q r.request ≡ false) (does : (q : ObjectId) (old : V) → track.effect q r.request old ≡ then_some (same_object o q) (f old)) where
        put-here : laid track wrap (versions base track o (h ++ r ∷ [])) ≡ with_put r.moment (wrap (f live.newest.value)) (laid track wrap (versions base track o h))
        put-here =
            let next : versions base track o (h ++ r ∷ []) ≡ model.begun r.moment (f live.newest.value) ∷ model.ended r.moment live.newest ∷ live.past
            = effected track o (undeleted o)
            ∙ ap (λ b. cond b (with_effect r.moment (track.effect o r.request) (versions base track o h)) (versions base track o h)) (purse_self o.purse)
            ∙ ap (λ effect. with_effect r.moment effect (versions base track o h)) (λ i old. does o old i)
            ∙ ap (λ b. with_effect r.moment (λ old. then_some b (f old)) (versions base track o h)) (object_self o)
            ∙ ap (with_effect r.moment (λ old. Some (f old))) live.whole
            ∙ ap (λ e. with_value r.moment (on_current (λ old. Some (f old)) e live.newest.value) live.newest live.past) live.current in
            ap (laid track wrap) next ∙ laid-put track wrap cost r.moment (f live.newest.value) live.newest live.past live.current
            ∙ ap (λ values. with_put r.moment (wrap (f live.newest.value)) (laid track wrap values)) (sym live.whole)

        put-typed : (q : ObjectId) → laid track wrap (versions base track q (h ++ r ∷ [])) ≡ (if same_object o q then with_put r.moment (wrap (f live.newest.value)) (laid track wrap (versions base track q h)) else laid track wrap (versions base track q h))
        put-typed q = by_test (same_object o q)
            (λ e. subst (λ p. laid track wrap (versions base track p (h ++ r ∷ [])) ≡ with_put r.moment (wrap (f live.newest.value)) (laid track wrap (versions base track p h))) (object_is o q e) put-here
            ∙ sym (ap (λ b. if b then with_put r.moment (wrap (f live.newest.value)) (laid track wrap (versions base track q h)) else laid track wrap (versions base track q h)) e))
            (λ e. ap (laid track wrap) (idle track q (undeleted q) (λ old. does q old ∙ ap (λ b. then_some b (f old)) e))
            ∙ sym (ap (λ b. if b then with_put r.moment (wrap (f live.newest.value)) (laid track wrap (versions base track q h)) else laid track wrap (versions base track q h)) e))

      -- the object ends
      module _ (deleting : (q : ObjectId) → is_deleted q r.request ≡ same_object o q) (none : (q : ObjectId) (old : V) → track.effect q r.request old ≡ None) where
        end-here : laid track wrap (versions base track o (h ++ r ∷ [])) ≡ with_end r.moment (laid track wrap (versions base track o h))
        end-here =
            let deleted : deletes o r ≡ true = ap (λ b. concerns o.purse r && b) (deleting o ∙ object_self o) ∙ &&-true (concerns o.purse r) ∙ about o.purse ∙ purse_self o.purse in
            ap (laid track wrap) (changed track o
            ∙ ap (λ b. cond b (cond (deletes o r) (model.with_end r.moment (versions base track o h)) (with_effect r.moment (track.effect o r.request) (versions base track o h))) (versions base track o h)) (purse_self o.purse)
            ∙ ap (λ b. cond b (model.with_end r.moment (versions base track o h)) (with_effect r.moment (track.effect o r.request) (versions base track o h))) deleted
            ∙ ap (model.with_end r.moment) live.whole)
            ∙ laid-end track wrap cost r.moment live.newest live.past live.current ∙ ap (λ values. with_end r.moment (laid track wrap values)) (sym live.whole)

        end-typed : (q : ObjectId) → laid track wrap (versions base track q (h ++ r ∷ [])) ≡ (if same_object o q then with_end r.moment (laid track wrap (versions base track q h)) else laid track wrap (versions base track q h))
        end-typed q = by_test (same_object o q)
            (λ e. subst (λ p. laid track wrap (versions base track p (h ++ r ∷ [])) ≡ with_end r.moment (laid track wrap (versions base track p h))) (object_is o q e) end-here
            ∙ sym (ap (λ b. if b then with_end r.moment (laid track wrap (versions base track q h)) else laid track wrap (versions base track q h)) e))
            (λ e. ap (laid track wrap) (idle track q (deleting q ∙ e) (none q))
            ∙ sym (ap (λ b. if b then with_end r.moment (laid track wrap (versions base track q h)) else laid track wrap (versions base track q h)) e))

-- a test that a second test of tracks doesn't pass
else-both : {A : Type 0} (b : Bool) (x y z : A) → z ≡ y → z ≡ (if b && false then x else y)
else-both b x y z e = e ∙ sym (ap (λ c. if c then x else y) (&&-false b))

then-both : {A : Type 0} (b : Bool) (x y z : A) → z ≡ (if b then x else y) → z ≡ (if b && true then x else y)
then-both b x y z e = e ∙ sym (ap (λ c. if c then x else y) (&&-true b))

-- THE KINDS OF CHANGES

module _ {base : Base} {h : List Record} {r : Record} (s : IsSound base h) (n : IsNext base h r) (granted : is_refused r.reply ≡ false) (o : ObjectId) (request : Request) (asked : r.request ≡ request) (of_o : changed_by request ≡ Some o) where
  accepted : is_refused (told base h r.moment r.caller request) ≡ false
  accepted = accepted-asked n granted request asked

  -- the object lives
  pub changed_lives : lives_at base r.moment o h ≡ true
  changed_lives = changed-lives base h r.moment r.caller request o accepted of_o

  plain : Record
  plain = record { moment = r.moment; caller = r.caller; request = request; reply = Done }

  is-plain : r ≡ record { moment = r.moment; caller = r.caller; request = request; reply = Done }
  is-plain =
      let is : r.reply ≡ Done = told-asked n granted request asked ∙ changed-done base h r.moment r.caller request o accepted of_o in
      λ i. record { moment = r.moment; caller = r.caller; request = asked i; reply = is i }

  pub live-data : IsLive (versions base data_track o h)
  live-data = live-track base o h n.later (s.tracks o which.Acl) data_track changed_lives

  pub live-attributes : IsLive (versions base attribute_track o h)
  live-attributes = live-track base o h n.later (s.tracks o which.Acl) attribute_track changed_lives

  pub live-acl : IsLive (versions base acl_track o h)
  live-acl = live-track base o h n.later (s.tracks o which.Acl) acl_track changed_lives

  pub current-data : live-data.newest.value ≡ data_of base o r.moment h
  current-data = data-in-force s o r.moment n.later changed_lives live-data.newest live-data.past live-data.whole

  pub current-attributes : live-attributes.newest.value ≡ attributes_of base o r.moment h
  current-attributes = attributes-in-force s o r.moment n.later changed_lives live-attributes.newest live-attributes.past live-attributes.whole

  pub current-acl : live-acl.newest.value ≡ acl_of base o r.moment h
  current-acl = acl-in-force s o r.moment n.later changed_lives live-acl.newest live-acl.past live-acl.whole

module _ (base : Base) (h : List Record) (t : ℕ) (caller : Caller) (o : ObjectId) where
  abbrev done : Request → Record
  done request = record { moment = t; caller = caller; request = request; reply = Done }

  puts-data : (request : Request) (f : List ℕ → List ℕ) (live : IsLive (versions base data_track o h))
      → ((p : Purse) → concerns p (done request) ≡ same_purse o.purse p) → is_create request ≡ false → ((q : ObjectId) → span_of q request ≡ None) → ((q : ObjectId) → is_deleted q request ≡ false)
      → ((q : ObjectId) (old : List ℕ) → model.data_effect q request old ≡ then_some (same_object o q) (f old))
      → ((q : ObjectId) (old : List ℕ) → model.attribute_effect q request old ≡ None) → ((q : ObjectId) (old : List AclEntry) → model.acl_effect q request old ≡ None)
      → RebindsNone (done request) → Counts (done request) 1 1 0
      → PutsOn base h (done request) o which.Data (item.Data (f live.newest.value))
  puts-data request f live about kind plain undeleted does none keeps rebinds counts' = record { makes = makes-none base h (done request) o about (λ q. refl) kind; rebinds = rebinds; counts = counts'; tracks = tracks }
    where
      tracks : (q : ObjectId) (u : Which) → versions_on base u q (h ++ done request ∷ []) ≡ (if same_object o q && same_which which.Data u then with_put t (item.Data (f live.newest.value)) (versions_on base u q h) else versions_on base u q h)
      tracks q which.Data = then-both (same_object o q) _ _ _ (put-typed base h (done request) o about (λ q. refl) kind plain data_track item.Data (λ x. refl) live f undeleted does q)
      tracks q which.Attributes = else-both (same_object o q) _ _ _ (ap (laid attribute_track item.Attr) (idle base h (done request) o about (λ q. refl) kind plain attribute_track q (undeleted q) (none q)))
      tracks q which.Acl = else-both (same_object o q) _ _ _ (ap (laid acl_track item.Acl) (idle base h (done request) o about (λ q. refl) kind plain acl_track q (undeleted q) (keeps q)))

  puts-attributes : (bytes : List ℕ) (live : IsLive (versions base attribute_track o h)) → PutsOn base h (done (SetAttr o bytes)) o which.Attributes (item.Attr bytes)
  puts-attributes bytes live = record { makes = makes-none base h (done (SetAttr o bytes)) o (λ p. refl) (λ q. refl) refl; rebinds = rebinds-none (done (SetAttr o bytes)) (λ p n m old. refl) (λ p old. refl); counts = record { made = refl; values = refl; bindings = refl }; tracks = tracks }
    where
      tracks : (q : ObjectId) (u : Which) → versions_on base u q (h ++ done (SetAttr o bytes) ∷ []) ≡ (if same_object o q && same_which which.Attributes u then with_put t (item.Attr bytes) (versions_on base u q h) else versions_on base u q h)
      tracks q which.Attributes = then-both (same_object o q) _ _ _ (put-typed base h (done (SetAttr o bytes)) o (λ p. refl) (λ q. refl) refl (λ q. refl) attribute_track item.Attr (λ x. refl) live (λ old. bytes) (λ q. refl) (λ q old. refl) q)
      tracks q which.Data = else-both (same_object o q) _ _ _ (ap (laid data_track item.Data) (idle base h (done (SetAttr o bytes)) o (λ p. refl) (λ q. refl) refl (λ q. refl) data_track q refl (λ old. refl)))
      tracks q which.Acl = else-both (same_object o q) _ _ _ (ap (laid acl_track item.Acl) (idle base h (done (SetAttr o bytes)) o (λ p. refl) (λ q. refl) refl (λ q. refl) acl_track q refl (λ old. refl)))

  puts-acl : (user rights : ℕ) (live : IsLive (versions base acl_track o h)) → PutsOn base h (done (SetAcl o user rights)) o which.Acl (item.Acl (acl_with user rights live.newest.value))
  puts-acl user rights live = record { makes = makes-none base h (done (SetAcl o user rights)) o (λ p. refl) (λ q. refl) refl; rebinds = rebinds-none (done (SetAcl o user rights)) (λ p n m old. refl) (λ p old. refl); counts = record { made = refl; values = refl; bindings = refl }; tracks = tracks }
    where
      tracks : (q : ObjectId) (u : Which) → versions_on base u q (h ++ done (SetAcl o user rights) ∷ []) ≡ (if same_object o q && same_which which.Acl u then with_put t (item.Acl (acl_with user rights live.newest.value)) (versions_on base u q h) else versions_on base u q h)
      tracks q which.Acl = then-both (same_object o q) _ _ _ (put-typed base h (done (SetAcl o user rights)) o (λ p. refl) (λ q. refl) refl (λ q. refl) acl_track item.Acl (λ x. refl) live (acl_with user rights) (λ q. refl) (λ q old. refl) q)
      tracks q which.Data = else-both (same_object o q) _ _ _ (ap (laid data_track item.Data) (idle base h (done (SetAcl o user rights)) o (λ p. refl) (λ q. refl) refl (λ q. refl) data_track q refl (λ old. refl)))
      tracks q which.Attributes = else-both (same_object o q) _ _ _ (ap (laid attribute_track item.Attr) (idle base h (done (SetAcl o user rights)) o (λ p. refl) (λ q. refl) refl (λ q. refl) attribute_track q refl (λ old. refl)))

  ends-all : IsLive (versions base data_track o h) → IsLive (versions base attribute_track o h) → IsLive (versions base acl_track o h) → EndsAll base h (done (Delete o)) o
  ends-all a b c = record { makes = makes-none base h (done (Delete o)) o (λ p. refl) (λ q. refl) refl; rebinds = rebinds-none (done (Delete o)) (λ p n m old. refl) (λ p old. refl); counts = record { made = refl; values = refl; bindings = refl }; tracks = tracks }
    where
      tracks : (q : ObjectId) (u : Which) → versions_on base u q (h ++ done (Delete o) ∷ []) ≡ (if same_object o q then with_end t (versions_on base u q h) else versions_on base u q h)
      tracks q which.Data = end-typed base h (done (Delete o)) o (λ p. refl) (λ q. refl) refl (λ q. refl) data_track item.Data (λ x. refl) a (λ q. refl) (λ q old. refl) q
      tracks q which.Attributes = end-typed base h (done (Delete o)) o (λ p. refl) (λ q. refl) refl (λ q. refl) attribute_track item.Attr (λ x. refl) b (λ q. refl) (λ q old. refl) q
      tracks q which.Acl = end-typed base h (done (Delete o)) o (λ p. refl) (λ q. refl) refl (λ q. refl) acl_track item.Acl (λ x. refl) c (λ q. refl) (λ q old. refl) q

module _ {base : Base} {h : List Record} {r : Record} (s : IsSound base h) (n : IsNext base h r) (granted : is_refused r.reply ≡ false) (o : ObjectId) where
  pub write_puts : (offset : ℕ) (bytes : List ℕ) → r.request ≡ Write o offset bytes → PutsOn base h r o which.Data (item.Data (written offset bytes (data_of base o r.moment h)))
  write_puts offset bytes asked =
      let live = live-data s n granted o (Write o offset bytes) asked refl in
      subst (λ old. PutsOn base h r o which.Data (item.Data (written offset bytes old))) (current-data s n granted o (Write o offset bytes) asked refl)
      (subst (λ p. PutsOn base h p o which.Data (item.Data (written offset bytes live.newest.value))) (sym (is-plain s n granted o (Write o offset bytes) asked refl))
      (puts-data base h r.moment r.caller o (Write o offset bytes) (written offset bytes) live (λ p. refl) refl (λ q. refl) (λ q. refl) (λ q old. refl) (λ q old. refl) (λ q old. refl)
      (rebinds-none (done base h r.moment r.caller o (Write o offset bytes)) (λ p n m old. refl) (λ p old. refl)) (record { made = refl; values = refl; bindings = refl })))

  -- what it leaves fits
  pub write_fits : (offset : ℕ) (bytes : List ℕ) → r.request ≡ Write o offset bytes → DataFits (written offset bytes (data_of base o r.moment h))
  write_fits offset bytes asked =
      let live = live-data s n granted o (Write o offset bytes) asked refl in
      let is = current-data s n granted o (Write o offset bytes) asked refl in
      data-fit base h r.moment r.caller (Write o offset bytes) o (accepted-asked n granted (Write o offset bytes) asked)
      (data_of base o r.moment h) (written offset bytes (data_of base o r.moment h)) (ap (λ b. then_some b (written offset bytes (data_of base o r.moment h))) (object_self o)) refl (subst DataFits is (live-fits DataFits live (s.values o which.Data)))

  pub append_puts : (bytes : List ℕ) → r.request ≡ Append o bytes → PutsOn base h r o which.Data (item.Data (data_of base o r.moment h ++ bytes))
  append_puts bytes asked =
      let live = live-data s n granted o (Append o bytes) asked refl in
      subst (λ old. PutsOn base h r o which.Data (item.Data (old ++ bytes))) (current-data s n granted o (Append o bytes) asked refl)
      (subst (λ p. PutsOn base h p o which.Data (item.Data (live.newest.value ++ bytes))) (sym (is-plain s n granted o (Append o bytes) asked refl))
      (puts-data base h r.moment r.caller o (Append o bytes) (λ old. old ++ bytes) live (λ p. refl) refl (λ q. refl) (λ q. refl) (λ q old. refl) (λ q old. refl) (λ q old. refl)
      (rebinds-none (done base h r.moment r.caller o (Append o bytes)) (λ p n m old. refl) (λ p old. refl)) (record { made = refl; values = refl; bindings = refl })))

  pub truncate_puts : (length : ℕ) → r.request ≡ Truncate o length → PutsOn base h r o which.Data (item.Data (of_length length (data_of base o r.moment h)))
  truncate_puts length asked =
      let live = live-data s n granted o (Truncate o length) asked refl in
      subst (λ old. PutsOn base h r o which.Data (item.Data (of_length length old))) (current-data s n granted o (Truncate o length) asked refl)
      (subst (λ p. PutsOn base h p o which.Data (item.Data (of_length length live.newest.value))) (sym (is-plain s n granted o (Truncate o length) asked refl))
      (puts-data base h r.moment r.caller o (Truncate o length) (of_length length) live (λ p. refl) refl (λ q. refl) (λ q. refl) (λ q old. refl) (λ q old. refl) (λ q old. refl)
      (rebinds-none (done base h r.moment r.caller o (Truncate o length)) (λ p n m old. refl) (λ p old. refl)) (record { made = refl; values = refl; bindings = refl })))

  pub set_attributes_puts : (bytes : List ℕ) → r.request ≡ SetAttr o bytes → PutsOn base h r o which.Attributes (item.Attr bytes)
  set_attributes_puts bytes asked =
      subst (λ p. PutsOn base h p o which.Attributes (item.Attr bytes)) (sym (is-plain s n granted o (SetAttr o bytes) asked refl))
      (puts-attributes base h r.moment r.caller o bytes (live-attributes s n granted o (SetAttr o bytes) asked refl))

  pub set_acl_puts : (user rights : ℕ) → r.request ≡ SetAcl o user rights → PutsOn base h r o which.Acl (item.Acl (acl_with user rights (acl_of base o r.moment h)))
  set_acl_puts user rights asked =
      let live = live-acl s n granted o (SetAcl o user rights) asked refl in
      subst (λ old. PutsOn base h r o which.Acl (item.Acl (acl_with user rights old))) (current-acl s n granted o (SetAcl o user rights) asked refl)
      (subst (λ p. PutsOn base h p o which.Acl (item.Acl (acl_with user rights live.newest.value))) (sym (is-plain s n granted o (SetAcl o user rights) asked refl))
      (puts-acl base h r.moment r.caller o user rights live))

  -- and the ACL in force lets it
  pub set_acl_settable : (user rights : ℕ) → r.request ≡ SetAcl o user rights → is_ok (settable user rights (acl_of base o r.moment h)) ≡ true
  set_acl_settable user rights asked =
      (passes_judgement (settable user rights (acl_of base o r.moment h)) (Ok Done)
      (passes_judgement (judge base h r.moment r.caller o right.Control None) (settable user rights (acl_of base o r.moment h) >> Ok Done)
      (accepted-asked n granted (SetAcl o user rights) asked)).1).0

  pub delete_ends : r.request ≡ Delete o → EndsAll base h r o
  delete_ends asked =
      subst (λ p. EndsAll base h p o) (sym (is-plain s n granted o (Delete o) asked refl))
      (ends-all base h r.moment r.caller o (live-data s n granted o (Delete o) asked refl) (live-attributes s n granted o (Delete o) asked refl) (live-acl s n granted o (Delete o) asked refl))

-- CREATE

module _ (base : Base) (h : List Record) (t : ℕ) (caller : Caller) (number : ℕ) where
  abbrev pub purse_of_new : Purse
  purse_of_new = record { creator = caller.who; number = number }

  abbrev pub new_object : ObjectId
  new_object = object_in purse_of_new (drawn base purse_of_new h + 1)

  abbrev creation : Record
  creation = record { moment = t; caller = caller; request = Create number; reply = Made new_object }

  makes-new : (q : ObjectId) → makes q creation ≡ same_object new_object q
  makes-new q = elim (same_purse purse_of_new q.purse) as (λ b. (b && (b && (new_object.serial == q.serial))) ≡ (b && (new_object.serial == q.serial))) [ true ↦ refl | false ↦ refl ]

  made-here : {V : Type 0} (track : Track V) → versions base track new_object (h ++ creation ∷ []) ≡ model.begun t (track.start new_object) ∷ versions base track new_object h
  made-here track = versions-snoc base track new_object h creation
      ∙ ap (λ b. if b then (if makes new_object creation then model.begun t (track.start new_object) ∷ versions base track new_object h else (if deletes new_object creation then model.with_end t (versions base track new_object h) else with_effect t (track.effect new_object (Create number)) (versions base track new_object h))) else versions base track new_object h) (purse_self purse_of_new)
      ∙ ap (λ b. if b then model.begun t (track.start new_object) ∷ versions base track new_object h else (if deletes new_object creation then model.with_end t (versions base track new_object h) else with_effect t (track.effect new_object (Create number)) (versions base track new_object h))) (makes-new new_object ∙ object_self new_object)

  not-here : {V : Type 0} (track : Track V) (q : ObjectId) → ((old : V) → track.effect q (Create number) old ≡ None) → same_object new_object q ≡ false → versions base track q (h ++ creation ∷ []) ≡ versions base track q h
  not-here track q none e = versions-snoc base track q h creation
      ∙ ap (λ b. if same_purse purse_of_new q.purse then (if b then model.begun t (track.start q) ∷ versions base track q h else (if deletes q creation then model.with_end t (versions base track q h) else with_effect t (track.effect q (Create number)) (versions base track q h))) else versions base track q h) (makes-new q ∙ e)
      ∙ ap (λ b. if same_purse purse_of_new q.purse then (if b then model.with_end t (versions base track q h) else with_effect t (track.effect q (Create number)) (versions base track q h)) else versions base track q h) (&&-false (same_purse purse_of_new q.purse))
      ∙ either-same (same_purse purse_of_new q.purse) _ _ (ap (λ effect. with_effect t effect (versions base track q h)) (λ i old. none old i) ∙ effect-none t (versions base track q h))

  creation_makes : MakesOnly base h creation new_object
  creation_makes = record {
    next = refl;
    makes_it = makes-new;
    draws_it = λ p. &&-true (same_purse purse_of_new p);
    data_here = made-here data_track;
    attributes_here = made-here attribute_track;
    acl_here = made-here acl_track;
    elsewhere = elsewhere;
    rebinds = rebinds-none creation (λ p n m old. refl) (λ p old. refl);
    counts = record { made = refl; values = refl; bindings = refl };
  }
    where
      elsewhere : (q : ObjectId) (w : Which) → same_object new_object q ≡ false → versions_on base w q (h ++ creation ∷ []) ≡ versions_on base w q h
      elsewhere q which.Data e = ap (laid data_track item.Data) (not-here data_track q (λ old. refl) e)
      elsewhere q which.Attributes e = ap (laid attribute_track item.Attr) (not-here attribute_track q (λ old. refl) e)
      elsewhere q which.Acl e = ap (laid acl_track item.Acl) (not-here acl_track q (λ old. refl) e)

made_it : (b : Bool) (r : Refusal) (o : ObjectId) → is_refused (reply_of (refuse_if b r >> Ok (Made o))) ≡ false → reply_of (refuse_if b r >> Ok (Made o)) ≡ Made o
made_it true r o e = cc
made_it false r o e = refl

pub create_makes : {base : Base} {h : List Record} {r : Record} → IsNext base h r → is_refused r.reply ≡ false → (number : ℕ) → r.request ≡ Create number → MakesOnly base h r (new_object base h r.moment r.caller number)
create_makes {base} {h} {r} n granted number asked =
    let o : ObjectId = new_object base h r.moment r.caller number in
    let test : Bool = nat_le 65535 (drawn base o.purse h) in
    let answered : r.reply ≡ reply_of (refuse_if test NamesSpent >> Ok (Made o)) = told-asked n granted (Create number) asked in
    let told : r.reply ≡ Made o = answered ∙ made_it test NamesSpent o (sym (ap is_refused answered) ∙ granted) in
    let is : r ≡ creation base h r.moment r.caller number = λ i. record { moment = r.moment; caller = r.caller; request = asked i; reply = told i } in
    subst (λ x. MakesOnly base h x o) (sym is) (creation_makes base h r.moment r.caller number)
