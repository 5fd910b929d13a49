-- What a record makes past weighs what its charge tells, and what a flush takes back weighs nothing from then on.
use Rattle.std.proofs.Common.{◌≡◌, ℕ, ◌+◌, ◌≤◌, ◌<◌, Bool, true, false, not, cond, Option, Some, None, List, [], ◌∷◌, ◌++◌, refl, sym, ◌∙◌, ap, subst, arith, add-zero}
use Rattle.std.specs.Prelude.{◌&&◌, ◌||◌, Ok, nat_le, sum_by, if◌then◌else◌}
use Rattle.std.proofs.lemmas.Bool.{leb-true}
use Rattle.std.proofs.lemmas.List.Sums.{sum_by-cons}
use Rattle.s4_types.specs.declared.principal.Caller.{Caller}
use Rattle.s4_types.specs.declared.object.Purse.{Purse}
use Rattle.s4_types.specs.declared.object.ObjectId.{ObjectId}
use Rattle.s4_types.specs.declared.acl.AclEntry.{AclEntry}
use Rattle.s4_types.specs.declared.request.Request.{Request}
use Rattle.s4_types.specs.declared.request.Request.TheVariants.{Create, Delete, Write, Append, Truncate, SetAttr, SetAcl, PDelete, FlushO}
use Rattle.s4_types.specs.declared.reply.Refusal.TheVariants.{NamesSpent}
use Rattle.s4_types.specs.declared.reply.Reply.{Reply}
use Rattle.s4_types.specs.declared.reply.Reply.TheVariants.{Made}
use Rattle.s4_types.specs.Outcome.{◌>>◌, refuse_if, reply_of}
use Rattle.s4_types.proofs.Outcomes.{passes_test}
use Rattle.s4_types.specs.declared.record.Record.{Record}
use Rattle.s4_types.specs.Names.{same_purse, same_object, object_in}
use Rattle.s4_types.specs.Kinds.{is_refused, only_reads, is_create, is_wide, is_about, concerns, purse_of}
use Rattle.s4_types.specs.Base.{Base}
use Rattle.s4_types.specs.Serials.{drawn}
use Rattle.s4_types.specs.Spending.{sum_to, binding_cost}
use Rattle.s4_types.specs.Answer.{value_or_empty, made_past}
use Rattle.s4_types.specs.Acl.{acl_with}
use Rattle.s4_types.specs.Versions.{Track, Value, Span, span_of, is_made, is_deleted, makes, deletes, lives_at, begun, value_at, versions, data_track, attribute_track, acl_track, data_effect, attribute_effect, acl_effect, written, of_length}
use Rattle.s4_types.specs.Erased.{span_by}
use Rattle.s4_types.proofs.Booleans.{by_test, &&-false, &&-true, not_both}
use Rattle.s4_types.proofs.Erasing.{flushed-whole, versions-idle}
use Rattle.s4_types.proofs.SameNames.{purse_is, purse_self, object_self, object_is}
use Rattle.s4_types.proofs.Snoc.{drawn-snoc}
use Rattle.s4_objects.specs.declared.kept.Which.TheVariants as which
use Rattle.s4_state.specs.Sound.{IsSound, IsNext}
use Rattle.s4_state.specs.Weights.{track_weight, object_weight, purse_weight, track_freed, object_freed, freed_weight}
use Rattle.s4_state.proofs.Living.{no-data, no-attributes, no-acl, drawn-now}
use Rattle.s4_state.proofs.Current.{Current, current, untouched, unchanged, made-first, end-after, put-after}
use Rattle.s4_state.proofs.Granting.{told-accepted, accepted-by-kind, changed_by, changed-lives, IsNextOf, made_is}
use Rattle.s4_state.proofs.Rebinding.{names-idle, names-move}
use Rattle.s4_state.proofs.Weighing.{sum_to-cong, sum_to-zero, first-weight, end-weight, put-weight, unbinding_weight, unbound_weight, OnlyErases, Moves, object-freed-none, erases-moves, moves-one, share-sum, freed_weight-none, purse-moves, purse-made}
use Rattle.s4_types.specs.Contents.{data_of, attributes_of, acl_of}
use Rattle.std.specs.Bool.{then_some}

-- what the record makes past weighs what its charge tells, and what it erases is taken back
abbrev pub Charges : Base → (ℕ → ℕ → ℕ) → List Record → Record → Type 0
Charges base f h r = (p : Purse) → purse_weight base f p (h ++ r ∷ []) + freed_weight base f p h r ≡ purse_weight base f p h + (if concerns p r then sum_by (f r.moment) (made_past base h r.moment r.request) else 0)

either : {A : Type 0} (b : Bool) (x : A) → cond b x x ≡ x
either true x = refl
either false x = refl

-- ONE RECORD

module _ (f : ℕ → ℕ → ℕ) (base : Base) (h : List Record) (m : ℕ) (caller : Caller) (reply : Reply) where
  abbrev by : Request → Record
  by request = record { moment = m; caller = caller; request = request; reply = reply }

  -- a record that changes nothing
  idle-charges : (request : Request) → ((p : Purse) → concerns p (by request) ≡ false) → Charges base f h (by request)
  idle-charges request idle p =
      let moved = purse-moves f base h r (λ q. 0) (λ p. drawn-snoc base p h r ∙ ap (λ b. drawn base p h + cond (b && is_create request) 1 0) (idle p) ∙ add-zero (drawn base p h)) (λ q. erases-moves f base h r q (still q)) p (names-idle f base h r p (idle p)) in
      let parts : sum_to (drawn base p h) (λ serial. 0) ≡ 0 = sum_to-zero (drawn base p h) (λ serial. 0) (λ k l. refl) in
      let binding : unbound_weight f p r ≡ 0 = ap (λ b. cond b (unbinding_weight f m request) 0) (idle p) in
      let charge : (if concerns p r then sum_by (f m) (made_past base h m request) else 0) ≡ 0 = ap (λ b. cond b (sum_by (f m) (made_past base h m request)) 0) (idle p) in
      omega (arith, moved, parts, binding, charge)
    where
      r : Record
      r = by request

      still : (q : ObjectId) → OnlyErases base h r q
      still q = record {
        data_left = untouched base h r data_track q (idle q.purse);
        attributes_left = untouched base h r attribute_track q (idle q.purse);
        acl_left = untouched base h r acl_track q (idle q.purse) ∙ flushed-whole q (span_by q r) (versions base acl_track q h);
      }

  module _ (s : IsSound base h) (granted : is_refused reply ≡ false) (request : Request) (n : IsNext base h (by request)) where
    abbrev r : Record
    r = by request

    concerned : (p : Purse) → concerns p r ≡ (not (only_reads request) && (is_wide caller request || is_about p (purse_of caller request)))
    concerned p = ap (λ b. (not b && not (only_reads request)) && (is_wide caller request || is_about p (purse_of caller request))) granted

    binding-none : unbinding_weight f m request ≡ 0 → (p : Purse) → unbound_weight f p r ≡ 0
    binding-none none p = ap (λ d. cond (concerns p r) d 0) none ∙ either (concerns p r) 0

    module _ (kind : is_create request ≡ false) where
      makes-none : (q : ObjectId) → makes q r ≡ false
      makes-none q = by_test (is_made q reply)
          (λ e. let next : IsNextOf base h caller request q = made_is base h m caller request q (sym (ap (is_made q) (told-accepted n granted)) ∙ e) in
          absurd (not_both (is_create request) next.creates kind))
          (λ e. ap (λ b. concerns q.purse r && b) e ∙ &&-false (concerns q.purse r))

      draws-none : (p : Purse) → drawn base p (h ++ r ∷ []) ≡ drawn base p h
      draws-none p = drawn-snoc base p h r ∙ ap (λ b. drawn base p h + cond (concerns p r && b) 1 0) kind ∙ ap (λ b. drawn base p h + cond b 1 0) (&&-false (concerns p r)) ∙ add-zero (drawn base p h)

      deletes-none : (q : ObjectId) → is_deleted q request ≡ false → deletes q r ≡ false
      deletes-none q undeleted = ap (λ b. concerns q.purse r && b) undeleted ∙ &&-false (concerns q.purse r)

      -- an object that the request neither deletes nor changes
      apart : (q : ObjectId) → is_deleted q request ≡ false → ((old : List ℕ) → data_effect q request old ≡ None) → ((old : List ℕ) → attribute_effect q request old ≡ None) → ((old : List AclEntry) → acl_effect q request old ≡ None)
          → Moves f base h r q 0
      apart q undeleted on-data on-attributes on-acl = erases-moves f base h r q (record {
        data_left = unchanged base h r data_track q (makes-none q) (deletes-none q undeleted) on-data;
        attributes_left = unchanged base h r attribute_track q (makes-none q) (deletes-none q undeleted) on-attributes;
        acl_left = unchanged base h r acl_track q (makes-none q) (deletes-none q undeleted) on-acl ∙ flushed-whole q (span_by q r) (versions base acl_track q h);
      })

      -- a request that deletes and changes no object
      still-charges : ((q : ObjectId) → is_deleted q request ≡ false) → ((q : ObjectId) (old : List ℕ) → data_effect q request old ≡ None) → ((q : ObjectId) (old : List ℕ) → attribute_effect q request old ≡ None)
          → ((q : ObjectId) (old : List AclEntry) → acl_effect q request old ≡ None) → unbinding_weight f m request ≡ sum_by (f m) (made_past base h m request) → Charges base f h r
      still-charges undeleted on-data on-attributes on-acl charge p =
          let moved = purse-moves f base h r (λ q. 0) draws-none (λ q. apart q (undeleted q) (on-data q) (on-attributes q) (on-acl q)) p (names-move f base h r p s n) in
          let parts : sum_to (drawn base p h) (λ serial. 0) ≡ 0 = sum_to-zero (drawn base p h) (λ serial. 0) (λ k l. refl) in
          let binding : unbound_weight f p r ≡ (if concerns p r then sum_by (f m) (made_past base h m request) else 0) = ap (λ d. cond (concerns p r) d 0) charge in
          omega (arith, moved, parts, binding)

      -- a request that changes or deletes one object
      module _ (o : ObjectId) (of_o : changed_by request ≡ Some o) (changes : only_reads request ≡ false) (about : (p : Purse) → (is_wide caller request || is_about p (purse_of caller request)) ≡ same_purse o.purse p) (plain : (q : ObjectId) → span_of q request ≡ None) where
        concerned-o : (p : Purse) → concerns p r ≡ same_purse o.purse p
        concerned-o p = concerned p ∙ ap (λ b. not b && (is_wide caller request || is_about p (purse_of caller request))) changes ∙ about p

        here : concerns o.purse r ≡ true
        here = concerned-o o.purse ∙ purse_self o.purse

        lives : lives_at base m o h ≡ true
        lives = changed-lives base h m caller request o (accepted-by-kind n granted) of_o

        data-now : Current base data_track o m h
        data-now = current data_track o base h (s.tracks o which.Data) (s.tracks o which.Acl) n.later lives

        attributes-now : Current base attribute_track o m h
        attributes-now = current attribute_track o base h (s.tracks o which.Attributes) (s.tracks o which.Acl) n.later lives

        acl-now : Current base acl_track o m h
        acl-now = current acl_track o base h (s.tracks o which.Acl) (s.tracks o which.Acl) n.later lives

        freed-nothing : object_freed base f h r o ≡ 0
        freed-nothing = object-freed-none f base h r o (ap (λ b. if b then span_of o request else None) here ∙ plain o)

        module _ {X : Type 0} (track : Track (List X)) (c : Current base track o m h) where
          -- what the current value weighs once it is past
          abbrev now : ℕ
          now = f m (track.cost (value_or_empty (value_at base track o m h)))

          as-told : track_weight f track (versions base track o h) + f m (track.cost c.newest.value) ≡ track_weight f track (versions base track o h) + now
          as-told = ap (λ (v : Option (Value (List X))). track_weight f track (versions base track o h) + f m (track.cost (value_or_empty v))) (sym c.told)

          put-adds : is_deleted o request ≡ false → (new : List X) → track.effect o request c.newest.value ≡ Some new → track_weight f track (versions base track o (h ++ r ∷ [])) ≡ track_weight f track (versions base track o h) + now
          put-adds undeleted new e =
              ap (track_weight f track) (put-after base h r track o here (plain o) (makes-none o) c (deletes-none o undeleted) new e)
              ∙ put-weight f track.cost m new c.newest c.past c.unended c.unerased
              ∙ ap (λ values. track_weight f track values + f m (track.cost c.newest.value)) (sym c.whole) ∙ as-told

          end-adds : is_deleted o request ≡ true → track_weight f track (versions base track o (h ++ r ∷ [])) ≡ track_weight f track (versions base track o h) + now
          end-adds deleted =
              ap (track_weight f track) (end-after base h r track o here (plain o) (makes-none o) c (ap (λ b. concerns o.purse r && b) deleted ∙ &&-true (concerns o.purse r) ∙ here))
              ∙ end-weight f track.cost m c.newest c.past c.unended c.unerased
              ∙ ap (λ values. track_weight f track values + f m (track.cost c.newest.value)) (sym c.whole) ∙ as-told

        -- a track that the request doesn't change
        keeps : {V : Type 0} (track : Track V) → is_deleted o request ≡ false → ((old : V) → track.effect o request old ≡ None) → track_weight f track (versions base track o (h ++ r ∷ [])) ≡ track_weight f track (versions base track o h)
        keeps track undeleted none = ap (track_weight f track) (versions-idle track o base h r (makes-none o) (deletes-none o undeleted) (plain o) none)

        one-charges : unbinding_weight f m request ≡ 0 → Moves f base h r o (sum_by (f m) (made_past base h m request)) → ((q : ObjectId) → same_object o q ≡ false → Moves f base h r q 0) → Charges base f h r
        one-charges unbinding moves others p =
            let d : ℕ = sum_by (f m) (made_past base h m request) in
            let moved = purse-moves f base h r (λ q. if same_object o q then d else 0) draws-none (moves-one f base h r o d moves others) p (names-move f base h r p s n) in
            let parts : sum_to (drawn base p h) (λ serial. if same_object o (object_in p serial) then d else 0) ≡ (if same_purse o.purse p then d else 0)
            = share-sum o d p (drawn base p h) (λ e. subst (λ x. o.serial ≤ drawn base x h) (purse_is o.purse p e) (drawn-now s o m lives)) in
            let charge : (if concerns p r then d else 0) ≡ (if same_purse o.purse p then d else 0) = ap (λ b. cond b d 0) (concerned-o p) in
            let binding = binding-none unbinding p in
            omega (arith, moved, parts, charge, binding)

        one : (cost : ℕ) → sum_by (f m) (cost ∷ []) ≡ f m cost
        one cost = let whole : sum_by (f m) (cost ∷ []) ≡ f m cost + 0 = sum_by-cons (f m) cost [] in omega (arith, whole)

        -- it puts other data in their place
        data-charges : (new : List ℕ → List ℕ) → ((q : ObjectId) → is_deleted q request ≡ false) → ((q : ObjectId) (old : List ℕ) → data_effect q request old ≡ then_some (same_object o q) (new old))
            → ((q : ObjectId) (old : List ℕ) → attribute_effect q request old ≡ None) → ((q : ObjectId) (old : List AclEntry) → acl_effect q request old ≡ None)
            → unbinding_weight f m request ≡ 0 → made_past base h m request ≡ data_track.cost (data_of base o m h) ∷ [] → Charges base f h r
        data-charges new undeleted does on-attributes on-acl unbinding past =
            one-charges unbinding
            (let a = put-adds data_track data-now (undeleted o) (new data-now.newest.value) (does o data-now.newest.value ∙ ap (λ b. then_some b (new data-now.newest.value)) (object_self o)) in
            let b = keeps attribute_track (undeleted o) (on-attributes o) in
            let c = keeps acl_track (undeleted o) (on-acl o) in
            let freed = freed-nothing in
            let charge = ap (sum_by (f m)) past ∙ one (data_track.cost (data_of base o m h)) in
            omega (arith, a, b, c, freed, charge))
            (λ q e. apart q (undeleted q) (λ old. does q old ∙ ap (λ b. then_some b (new old)) e) (on-attributes q) (on-acl q))

        -- or other attributes
        attribute-charges : (bytes : List ℕ) → ((q : ObjectId) → is_deleted q request ≡ false) → ((q : ObjectId) (old : List ℕ) → data_effect q request old ≡ None)
            → ((q : ObjectId) (old : List ℕ) → attribute_effect q request old ≡ then_some (same_object o q) bytes) → ((q : ObjectId) (old : List AclEntry) → acl_effect q request old ≡ None)
            → unbinding_weight f m request ≡ 0 → made_past base h m request ≡ attribute_track.cost (attributes_of base o m h) ∷ [] → Charges base f h r
        attribute-charges bytes undeleted on-data does on-acl unbinding past =
            one-charges unbinding
            (let a = keeps data_track (undeleted o) (on-data o) in
            let b = put-adds attribute_track attributes-now (undeleted o) bytes (does o attributes-now.newest.value ∙ ap (λ b. then_some b bytes) (object_self o)) in
            let c = keeps acl_track (undeleted o) (on-acl o) in
            let freed = freed-nothing in
            let charge = ap (sum_by (f m)) past ∙ one (attribute_track.cost (attributes_of base o m h)) in
            omega (arith, a, b, c, freed, charge))
            (λ q e. apart q (undeleted q) (on-data q) (λ old. does q old ∙ ap (λ b. then_some b bytes) e) (on-acl q))

        -- or another ACL
        acl-charges : (new : List AclEntry → List AclEntry) → ((q : ObjectId) → is_deleted q request ≡ false) → ((q : ObjectId) (old : List ℕ) → data_effect q request old ≡ None)
            → ((q : ObjectId) (old : List ℕ) → attribute_effect q request old ≡ None) → ((q : ObjectId) (old : List AclEntry) → acl_effect q request old ≡ then_some (same_object o q) (new old))
            → unbinding_weight f m request ≡ 0 → made_past base h m request ≡ acl_track.cost (acl_of base o m h) ∷ [] → Charges base f h r
        acl-charges new undeleted on-data on-attributes does unbinding past =
            one-charges unbinding
            (let a = keeps data_track (undeleted o) (on-data o) in
            let b = keeps attribute_track (undeleted o) (on-attributes o) in
            let c = put-adds acl_track acl-now (undeleted o) (new acl-now.newest.value) (does o acl-now.newest.value ∙ ap (λ b. then_some b (new acl-now.newest.value)) (object_self o)) in
            let freed = freed-nothing in
            let charge = ap (sum_by (f m)) past ∙ one (acl_track.cost (acl_of base o m h)) in
            omega (arith, a, b, c, freed, charge))
            (λ q e. apart q (undeleted q) (on-data q) (on-attributes q) (λ old. does q old ∙ ap (λ b. then_some b (new old)) e))

        -- it ends the object
        delete-charges : ((q : ObjectId) → is_deleted q request ≡ same_object o q) → ((q : ObjectId) (old : List ℕ) → data_effect q request old ≡ None) → ((q : ObjectId) (old : List ℕ) → attribute_effect q request old ≡ None)
            → ((q : ObjectId) (old : List AclEntry) → acl_effect q request old ≡ None) → unbinding_weight f m request ≡ 0
            → made_past base h m request ≡ data_track.cost (data_of base o m h) ∷ attribute_track.cost (attributes_of base o m h) ∷ acl_track.cost (acl_of base o m h) ∷ [] → Charges base f h r
        delete-charges deleting on-data on-attributes on-acl unbinding past =
            one-charges unbinding
            (let gone : is_deleted o request ≡ true = deleting o ∙ object_self o in
            let a = end-adds data_track data-now gone in
            let b = end-adds attribute_track attributes-now gone in
            let c = end-adds acl_track acl-now gone in
            let freed = freed-nothing in
            let charge = ap (sum_by (f m)) past ∙ three (data_track.cost (data_of base o m h)) (attribute_track.cost (attributes_of base o m h)) (acl_track.cost (acl_of base o m h)) in
            omega (arith, a, b, c, freed, charge))
            (λ q e. apart q (deleting q ∙ e) (on-data q) (on-attributes q) (on-acl q))
          where
            three : (x y z : ℕ) → sum_by (f m) (x ∷ y ∷ z ∷ []) ≡ f m x + f m y + f m z
            three x y z =
                let first : sum_by (f m) (x ∷ y ∷ z ∷ []) ≡ f m x + sum_by (f m) (y ∷ z ∷ []) = sum_by-cons (f m) x (y ∷ z ∷ []) in
                let second : sum_by (f m) (y ∷ z ∷ []) ≡ f m y + sum_by (f m) (z ∷ []) = sum_by-cons (f m) y (z ∷ []) in
                let third = one z in
                omega (arith, first, second, third)

  module _ (s : IsSound base h) (granted : is_refused reply ≡ false) where
    module _ (number : ℕ) (n : IsNext base h (by (Create number))) where
      abbrev creation : Record
      creation = by (Create number)

      abbrev purse : Purse
      purse = record { creator = caller.who; number = number }

      abbrev o : ObjectId
      o = object_in purse (drawn base purse h + 1)

      told-made : reply ≡ Made o
      told-made = told-accepted n granted ∙ ap (λ b. reply_of (refuse_if b NamesSpent >> Ok (Made o))) (passes_test (nat_le 65535 (drawn base purse h)) NamesSpent (Ok (Made o)) (accepted-by-kind n granted)).0

      its-purse : (p : Purse) → concerns p creation ≡ same_purse purse p
      its-purse p = ap (λ b. (not b && true) && same_purse purse p) granted

      makes-it : (q : ObjectId) → makes q creation ≡ (concerns q.purse creation && same_object o q)
      makes-it q = ap (λ (x : Reply). concerns q.purse creation && is_made q x) told-made

      no-span : (q : ObjectId) → span_by q creation ≡ None
      no-span q = either (concerns q.purse creation) None

      new : drawn base purse h < o.serial
      new = omega arith

      first-on : {V : Type 0} (track : Track V) → versions base track o h ≡ [] → track_weight f track (versions base track o (h ++ creation ∷ [])) ≡ 0
      first-on track none =
          let here : concerns purse creation ≡ true = its-purse purse ∙ purse_self purse in
          let made : makes o creation ≡ true = makes-it o ∙ ap (λ b. b && same_object o o) here ∙ object_self o in
          ap (track_weight f track) (made-first base h creation track o here refl made ∙ ap (λ values. begun m (track.start o) ∷ values) none)
          ∙ first-weight f track.cost m (track.start o)

      create-charges : Charges base f h creation
      create-charges p =
          let fresh : object_weight base f (h ++ creation ∷ []) o ≡ 0 = fresh-weight in
          let same = purse-made f base h creation o draws-it refl fresh elsewhere (λ p. either (concerns p creation) 0) p (names-move f base h creation p s n) in
          let freed = freed_weight-none f p base h creation (λ serial. no-span (object_in p serial)) in
          let charge : (if concerns p creation then sum_by (f m) (made_past base h m (Create number)) else 0) ≡ 0 = either (concerns p creation) 0 in
          omega (arith, same, freed, charge)
        where
          draws-it : (p : Purse) → drawn base p (h ++ creation ∷ []) ≡ drawn base p h + (if same_purse purse p then 1 else 0)
          draws-it p = drawn-snoc base p h creation ∙ ap (λ b. drawn base p h + cond b 1 0) (&&-true (concerns p creation) ∙ its-purse p)

          fresh-weight : object_weight base f (h ++ creation ∷ []) o ≡ 0
          fresh-weight =
              let a = first-on data_track (no-data s o new) in
              let b = first-on attribute_track (no-attributes s o new) in
              let c = first-on acl_track (no-acl s o new) in
              omega (arith, a, b, c)

          elsewhere : (q : ObjectId) → same_object o q ≡ false → object_weight base f (h ++ creation ∷ []) q ≡ object_weight base f h q
          elsewhere q e =
              let old : makes q creation ≡ false = makes-it q ∙ ap (λ b. concerns q.purse creation && b) e ∙ &&-false (concerns q.purse creation) in
              let deleted : deletes q creation ≡ false = &&-false (concerns q.purse creation) in
              let a = ap (track_weight f data_track) (versions-idle data_track q base h creation old deleted refl (λ x. refl)) in
              let b = ap (track_weight f attribute_track) (versions-idle attribute_track q base h creation old deleted refl (λ x. refl)) in
              let c = ap (track_weight f acl_track) (versions-idle acl_track q base h creation old deleted refl (λ x. refl)) in
              omega (arith, a, b, c)

    -- a request that changes no object, and ends no binding
    quiet : (request : Request) → IsNext base h (by request) → is_create request ≡ false → ((q : ObjectId) → is_deleted q request ≡ false) → ((q : ObjectId) (old : List ℕ) → data_effect q request old ≡ None)
        → ((q : ObjectId) (old : List ℕ) → attribute_effect q request old ≡ None) → ((q : ObjectId) (old : List AclEntry) → acl_effect q request old ≡ None) → unbinding_weight f m request ≡ 0 → made_past base h m request ≡ [] → Charges base f h (by request)
    quiet request n kind undeleted on-data on-attributes on-acl none past = still-charges s granted request n kind undeleted on-data on-attributes on-acl (none ∙ sym (ap (sum_by (f m)) past))

    by-kind : (request : Request) → IsNext base h (by request) → Charges base f h (by request)
    by-kind (Create number) n = create-charges number n
    by-kind (Delete o) n = delete-charges s granted (Delete o) n refl o refl refl (λ p. refl) (λ q. refl) (λ q. refl) (λ q old. refl) (λ q old. refl) (λ q old. refl) refl refl
    by-kind (Write o offset bytes) n = data-charges s granted (Write o offset bytes) n refl o refl refl (λ p. refl) (λ q. refl) (written offset bytes) (λ q. refl) (λ q old. refl) (λ q old. refl) (λ q old. refl) refl refl
    by-kind (Append o bytes) n = data-charges s granted (Append o bytes) n refl o refl refl (λ p. refl) (λ q. refl) (λ old. old ++ bytes) (λ q. refl) (λ q old. refl) (λ q old. refl) (λ q old. refl) refl refl
    by-kind (Truncate o length) n = data-charges s granted (Truncate o length) n refl o refl refl (λ p. refl) (λ q. refl) (of_length length) (λ q. refl) (λ q old. refl) (λ q old. refl) (λ q old. refl) refl refl
    by-kind (SetAttr o bytes) n = attribute-charges s granted (SetAttr o bytes) n refl o refl refl (λ p. refl) (λ q. refl) bytes (λ q. refl) (λ q old. refl) (λ q old. refl) (λ q old. refl) refl refl
    by-kind (SetAcl o user rights) n = acl-charges s granted (SetAcl o user rights) n refl o refl refl (λ p. refl) (λ q. refl) (acl_with user rights) (λ q. refl) (λ q old. refl) (λ q old. refl) (λ q old. refl) refl refl
    by-kind (PDelete purse name) n = still-charges s granted (PDelete purse name) n refl (λ q. refl) (λ q old. refl) (λ q old. refl) (λ q old. refl) (sym (sum_by-cons (f m) (binding_cost name) [] ∙ add-zero (f m (binding_cost name))))
    by-kind request n = quiet request n refl (λ q. refl) (λ q old. refl) (λ q old. refl) (λ q old. refl) refl refl

pub charges : (f : ℕ → ℕ → ℕ) {base : Base} {h : List Record} {r : Record} → IsSound base h → IsNext base h r → Charges base f h r
charges f {base} {h} {r} s n = by_test (is_refused r.reply)
    (λ e. idle-charges f base h r.moment r.caller r.reply r.request (λ p. ap (λ b. (not b && not (only_reads r.request)) && (is_wide r.caller r.request || is_about p (purse_of r.caller r.request))) e))
    (λ e. by-kind f base h r.moment r.caller r.reply s e r.request n)

-- WHAT IS TAKEN BACK

-- a record that is no flush takes nothing back
pub plain-frees-none : (f : ℕ → ℕ → ℕ) (p : Purse) (base : Base) (h : List Record) (r : Record) → ((q : ObjectId) → span_of q r.request ≡ None) → freed_weight base f p h r ≡ 0
plain-frees-none f p base h r plain = freed_weight-none f p base h r (λ serial. ap (λ (span : Option Span). cond (concerns p r) span None) (plain (object_in p serial)) ∙ either (concerns p r) None)

-- nor does one that doesn't concern the purse, as a refused one
pub idle-frees-none : (f : ℕ → ℕ → ℕ) (p : Purse) (base : Base) (h : List Record) (r : Record) → concerns p r ≡ false → freed_weight base f p h r ≡ 0
idle-frees-none f p base h r idle = freed_weight-none f p base h r (λ serial. ap (λ b. if b then span_of (object_in p serial) r.request else None) idle)

-- a record that charges nothing, as a flush is, leaves what it doesn't take back
pub flush-frees : (f : ℕ → ℕ → ℕ) {base : Base} {h : List Record} {r : Record} → IsSound base h → IsNext base h r → made_past base h r.moment r.request ≡ []
    → (p : Purse) → purse_weight base f p (h ++ r ∷ []) + freed_weight base f p h r ≡ purse_weight base f p h
flush-frees f {base} {h} {r} s n none p =
    charges f s n p
    ∙ ap (λ d. purse_weight base f p h + cond (concerns p r) d 0) (ap (sum_by (f r.moment)) none)
    ∙ ap (λ d. purse_weight base f p h + d) (either (concerns p r) 0)
    ∙ add-zero (purse_weight base f p h)

-- of an object whose serial wasn't drawn nothing is taken back
undrawn-freed : (f : ℕ → ℕ → ℕ) {base : Base} {h : List Record} (r : Record) → IsSound base h → (o : ObjectId) → drawn base o.purse h < o.serial → object_freed base f h r o ≡ 0
undrawn-freed f {base} {h} r s o new =
    let a = ap (track_freed f data_track o r) (no-data s o new) in
    let b = ap (track_freed f attribute_track o r) (no-attributes s o new) in
    omega (arith, a, b)

-- a flush of one object takes back what it erases there
pub one-freed : (f : ℕ → ℕ → ℕ) {base : Base} {h : List Record} (r : Record) → IsSound base h → (o : ObjectId) (from to : ℕ) → r.request ≡ FlushO o from to
    → (p : Purse) → freed_weight base f p h r ≡ (if same_purse o.purse p then object_freed base f h r o else 0)
one-freed f {base} {h} r s o from to asked p = by_test (nat_le o.serial (drawn base o.purse h))
    (λ low. sum_to-cong (drawn base p h) (λ k. object_freed base f h r (object_in p k)) (λ k. if same_object o (object_in p k) then object_freed base f h r o else 0) (λ k l. part (object_in p k))
    ∙ share-sum o (object_freed base f h r o) p (drawn base p h) (λ e. subst (λ x. o.serial ≤ drawn base x h) (purse_is o.purse p e) (leb-true o.serial (drawn base o.purse h) low)))
    (λ high. let none : object_freed base f h r o ≡ 0 = undrawn-freed f r s o (let over : nat_le o.serial (drawn base o.purse h) ≡ false = high in grind (arith, over)) in
    sum_to-zero (drawn base p h) (λ k. object_freed base f h r (object_in p k)) (λ k l. part (object_in p k) ∙ ap (λ d. cond (same_object o (object_in p k)) d 0) none ∙ either (same_object o (object_in p k)) 0)
    ∙ sym (ap (λ d. cond (same_purse o.purse p) d 0) none ∙ either (same_purse o.purse p) 0))
  where
    part : (q : ObjectId) → object_freed base f h r q ≡ (if same_object o q then object_freed base f h r o else 0)
    part q = by_test (same_object o q)
        (λ e. ap (object_freed base f h r) (sym (object_is o q e)) ∙ sym (ap (λ b. cond b (object_freed base f h r o) 0) e))
        (λ e. object-freed-none f base h r q (ap (λ (request : Request). cond (concerns q.purse r) (span_of q request) None) asked
        ∙ ap (λ b. cond (concerns q.purse r) (then_some b (record { from = from; to = to })) None) e ∙ either (concerns q.purse r) None)
        ∙ sym (ap (λ b. cond b (object_freed base f h r o) 0) e))
