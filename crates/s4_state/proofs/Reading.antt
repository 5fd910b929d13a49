-- What is held tells what is in force.
use Rattle.std.proofs.Common.{◌≡◌, ℕ, ◌≤◌, Bool, true, false, cond, Option, Some, None, List, [], ◌∷◌, refl, sym, ◌∙◌, ap, subst}
use Rattle.std.specs.Prelude.{not, nat_le, is_some, if◌then◌else◌}
use Rattle.std.specs.List.{find, list_all}
use Rattle.std.specs.Option.{option_map}
use Rattle.std.proofs.lemmas.List.Sums.{fold-append}
use Rattle.s4_types.specs.Base.{Base}
use Rattle.s4_types.specs.declared.object.Purse.{Purse}
use Rattle.s4_types.specs.declared.object.ObjectId.{ObjectId}
use Rattle.s4_types.specs.declared.acl.AclEntry.{AclEntry}
use Rattle.s4_types.specs.declared.record.Record.{Record}
use Rattle.s4_types.specs.declared.version.Version.{Version}
use Rattle.s4_types.specs.declared.version.Item.{Item}
use Rattle.s4_types.specs.declared.version.Item.TheVariants as item
use Rattle.s4_types.specs.Versions.{Track, Value, versions, value_at, lives_at, ends_by, in_force_by, unended, standing, data_track, attribute_track, acl_track}
use Rattle.s4_types.specs.Judgement.{held_of}
use Rattle.s4_types.specs.Answer.{value_or_empty, is_gone, moment_of}
use Rattle.s4_types.specs.Play.{last_of}
use Rattle.s4_types.specs.Erased.{is_whole}
use Rattle.s4_types.proofs.Booleans.{both}
use Rattle.s4_types.proofs.Erasing.{acls-whole, unended-whole}
use Rattle.s4_types.proofs.Snoc.{newest-snoc}
use Rattle.s4_store.specs.Chains.{Chains}
use Rattle.s4_tracks.specs.Chain.{newer, latest, unended as not_ended, in_force, endless, current_of, version_in}
use Rattle.s4_tracks.specs.Swept.{IsFrom}
use Rattle.s4_tracks.proofs.Sweeping.{agrees_version_in}
use Rattle.s4_objects.specs.declared.kept.Which.{Which}
use Rattle.s4_objects.specs.declared.kept.Which.TheVariants as which
use Rattle.s4_parts.specs.declared.parts.Parts.{Parts as Table}
use Rattle.s4_objects.specs.declared.objects.Objects.{Objects}
use Rattle.s4_state.specs.Held.{bytes_of_item, bytes_in, held_of_item, held_in as acl_in}
use Rattle.s4_objects.specs.Table.{held_in}
use Rattle.s4_state.specs.Laid.{item_of, version_by, laid_by, version_of, laid, versions_on, version_at}
use Rattle.s4_state.specs.Sound.{IsSoundBy, IsSound, ValuesStand}
use Rattle.s4_state.specs.Stands.{horizon_now, StandsFor}
use Rattle.s4_state.proofs.Living.{newest-now, in_force-now, lives-now}
use Rattle.std.specs.Bool.{then_some}
use Rattle.s4_types.specs.Contents.{data_of, attributes_of, acl_of}

-- FROM VALUES TO VERSIONS

module _ {V : Type 0} (cost : V → ℕ) (hold : Value V → Option Item) where
  latest-laid : (m : ℕ) (values : List (Value V)) → latest m (laid_by cost hold values) ≡ option_map (version_by cost hold) (find (λ v. nat_le v.begin m) values)
  latest-laid m [] = refl
  latest-laid m (v ∷ past) =
      fold-append (newer m) None (laid_by cost hold past) (version_by cost hold v ∷ [])
      ∙ ap (λ o. if nat_le v.begin m then Some (version_by cost hold v) else o) (latest-laid m past)
      ∙ (elim (nat_le v.begin m) as (λ b. (if b then Some (version_by cost hold v) else option_map (version_by cost hold) (find (λ v. nat_le v.begin m) past)) ≡ option_map (version_by cost hold) (cond b (Some v) (find (λ v. nat_le v.begin m) past))) [ true ↦ refl | false ↦ refl ])

  unended-found : (m : ℕ) (values : List (Value V)) → not_ended m (option_map (version_by cost hold) (find (λ v. nat_le v.begin m) values)) ≡ option_map (version_by cost hold) (in_force_by m values)
  unended-found m [] = refl
  unended-found m (v ∷ past) = elim (nat_le v.begin m) as (λ b. not_ended m (option_map (version_by cost hold) (cond b (Some v) (find (λ v. nat_le v.begin m) past))) ≡ option_map (version_by cost hold) (if b then (if ends_by m v.end then None else Some v) else in_force_by m past)) [
    | true ↦ (elim (ends_by m v.end) as (λ b. (if b then None else Some (version_by cost hold v)) ≡ option_map (version_by cost hold) (if b then None else Some v)) [ true ↦ refl | false ↦ refl ])
    | false ↦ unended-found m past
  ]

  -- at a moment the chain holds what the values hold
  pub in_force-laid : (m : ℕ) (values : List (Value V)) → in_force m (laid_by cost hold values) ≡ option_map (version_by cost hold) (in_force_by m values)
  in_force-laid m values = ap (not_ended m) (latest-laid m values) ∙ unended-found m values

-- from the last moment on the current value is held
current-laid : {V : Type 0} (track : Track V) (wrap : V → Item) {last t : ℕ} (values : List (Value V)) → last ≤ t → ValuesStand last values → current_of (laid track wrap values) ≡ option_map (version_of track wrap) (in_force_by t values)
current-laid track wrap [] l s = refl
current-laid track wrap {last} {t} (v ∷ past) l s =
    ap endless (newest-snoc (laid track wrap past) (version_of track wrap v))
    ∙ (elim (is_some v.end) as (λ b. (if b then None else Some (version_of track wrap v)) ≡ option_map (version_of track wrap) (if b then None else Some v)) [ true ↦ refl | false ↦ refl ])
    ∙ sym (ap (option_map (version_of track wrap)) (newest-now l v past s))

-- the value in force from the last moment on is the newest, where the object lives
newest-in-force : {V : Type 0} (track : Track V) (base : Base) (h : List Record) (o : ObjectId) {last : ℕ} → ValuesStand last (versions base track o h) → ValuesStand last (versions base acl_track o h)
    → (t : ℕ) → last ≤ t → lives_at base t o h ≡ true → (v : Value V) (past : List (Value V)) → versions base track o h ≡ v ∷ past → value_at base track o t h ≡ Some v
newest-in-force {V} track base h o {last} stands acl t later lives v past is =
    ap (in_force_by t) is ∙ newest-now later v past (subst (ValuesStand last) is stands)
    ∙ of v.end (ap (λ values. is_some (standing values)) (sym is) ∙ lives-now base o h later acl track ∙ lives)
  where
    of : (end : Option ℕ) → is_some (unended end v) ≡ true → (if is_some end then None else Some v) ≡ Some v
    of None e = refl
    of (Some end) e = cc

pub data-in-force : {base : Base} {last : ℕ} {h : List Record} → IsSoundBy base last h → (o : ObjectId) (t : ℕ) → last ≤ t → lives_at base t o h ≡ true → (v : Value (List ℕ)) (past : List (Value (List ℕ))) → versions base data_track o h ≡ v ∷ past → v.value ≡ data_of base o t h
data-in-force {base} {last} {h} s o t later lives v past is = sym (ap value_or_empty (newest-in-force data_track base h o (s.tracks o which.Data) (s.tracks o which.Acl) t later lives v past is))

pub attributes-in-force : {base : Base} {last : ℕ} {h : List Record} → IsSoundBy base last h → (o : ObjectId) (t : ℕ) → last ≤ t → lives_at base t o h ≡ true → (v : Value (List ℕ)) (past : List (Value (List ℕ))) → versions base attribute_track o h ≡ v ∷ past → v.value ≡ attributes_of base o t h
attributes-in-force {base} {last} {h} s o t later lives v past is = sym (ap value_or_empty (newest-in-force attribute_track base h o (s.tracks o which.Attributes) (s.tracks o which.Acl) t later lives v past is))

pub acl-in-force : {base : Base} {last : ℕ} {h : List Record} → IsSoundBy base last h → (o : ObjectId) (t : ℕ) → last ≤ t → lives_at base t o h ≡ true → (v : Value (List AclEntry)) (past : List (Value (List AclEntry))) → versions base acl_track o h ≡ v ∷ past → v.value ≡ acl_of base o t h
acl-in-force {base} {last} {h} s o t later lives v past is = sym (ap value_or_empty (newest-in-force acl_track base h o (s.tracks o which.Acl) (s.tracks o which.Acl) t later lives v past is))

-- FROM WHAT IS KEPT

pub is_some-map : {A B : Type 0} (f : A → B) (x : Option A) → is_some (option_map f x) ≡ is_some x
is_some-map f None = refl
is_some-map f (Some x) = refl

module _ {base : Base} {h : List Record} (s : IsSound base h) (o : ObjectId) where
  -- at a moment
  all-at : (m : ℕ) (w : Which) → in_force m (versions_on base w o h) ≡ version_at base w o m h
  all-at m which.Data = in_force-laid data_track.cost (item_of item.Data) m (versions base data_track o h)
  all-at m which.Attributes = in_force-laid attribute_track.cost (item_of item.Attr) m (versions base attribute_track o h)
  all-at m which.Acl = in_force-laid acl_track.cost (item_of item.Acl) m (versions base acl_track o h)

  -- now
  all-now : (t : ℕ) → last_of h ≤ t → (w : Which) → current_of (versions_on base w o h) ≡ version_at base w o t h
  all-now t l which.Data = current-laid data_track item.Data (versions base data_track o h) l (s.tracks o which.Data)
  all-now t l which.Attributes = current-laid attribute_track item.Attr (versions base attribute_track o h) l (s.tracks o which.Attributes)
  all-now t l which.Acl = current-laid acl_track item.Acl (versions base acl_track o h) l (s.tracks o which.Acl)

  all-told : (t : ℕ) → last_of h ≤ t → (at : Option ℕ) (w : Which) → version_in at (versions_on base w o h) ≡ version_at base w o (moment_of t at) h
  all-told t l None w = all-now t l w
  all-told t l (Some m) w = all-at m w

  -- what is in force on a track is there where the object lives
  lives-then : {V : Type 0} (track : Track V) → ValuesStand (last_of h) (versions base track o h) → (t : ℕ) → last_of h ≤ t → lives_at base t o h ≡ true → is_some (value_at base track o t h) ≡ true
  lives-then track stands t l lives = in_force-now l (versions base track o h) stands ∙ lives-now base o h l (s.tracks o which.Acl) track ∙ lives

  -- an object that lives has a version on each track
  lives-told : (t : ℕ) → last_of h ≤ t → lives_at base t o h ≡ true → (w : Which) → is_some (version_at base w o t h) ≡ true
  lives-told t l e which.Data = is_some-map (version_of data_track item.Data) (value_at base data_track o t h) ∙ lives-then data_track (s.tracks o which.Data) t l e
  lives-told t l e which.Attributes = is_some-map (version_of attribute_track item.Attr) (value_at base attribute_track o t h) ∙ lives-then attribute_track (s.tracks o which.Attributes) t l e
  lives-told t l e which.Acl = is_some-map (version_of acl_track item.Acl) (value_at base acl_track o t h) ∙ lives-then acl_track (s.tracks o which.Acl) t l e

module _ {base : Base} {size : ℕ} {chains : Chains Version} {kept : Objects} {serials : Purse → ℕ} {table : Table} {h : List Record} (s : StandsFor base size chains kept serials table h) (o : ObjectId) where
  -- what is held tells what is in force, now or at a moment that isn't below the horizon
  pub held-told : (t : ℕ) → last_of h ≤ t → (at : Option ℕ) → IsFrom (horizon_now base h) at → (w : Which) → version_in at (held_in chains kept o w) ≡ version_at base w o (moment_of t at) h
  held-told t l at from w = agrees_version_in (horizon_now base h) at (held_in chains kept o w) (versions_on base w o h) from (s.objects.tracks o w) ∙ all-told s.sound o t l at w

  -- where the object lives each track has a current value
  pub current-held : (t : ℕ) → last_of h ≤ t → lives_at base t o h ≡ true → (w : Which) → is_some (current_of (held_in chains kept o w)) ≡ true
  current-held t l lives w = ap is_some (held-told t l None tt w) ∙ lives-told s.sound o t l lives w

-- what a version holds is the definition's value
module _ (wrap : List ℕ → Item) (bytes : (x : List ℕ) → bytes_of_item (Some (wrap x)) ≡ Some x) (track : Track (List ℕ)) where
  bytes-left : (x : Option (Value (List ℕ))) → bytes_in (option_map (version_of track wrap) x) ≡ then_some (not (is_gone x)) (value_or_empty x)
  bytes-left None = refl
  bytes-left (Some v) = elim v.is_erased as (λ b. bytes_of_item (if b then None else Some (wrap v.value)) ≡ then_some (not b) v.value) [ true ↦ refl | false ↦ bytes v.value ]

pub bytes_in-data : (o : ObjectId) (m : ℕ) (base : Base) (h : List Record) → bytes_in (version_at base which.Data o m h) ≡ then_some (not (is_gone (value_at base data_track o m h))) (data_of base o m h)
bytes_in-data o m base h = bytes-left item.Data (λ x. refl) data_track (value_at base data_track o m h)

pub bytes_in-attributes : (o : ObjectId) (m : ℕ) (base : Base) (h : List Record) → bytes_in (version_at base which.Attributes o m h) ≡ then_some (not (is_gone (value_at base attribute_track o m h))) (attributes_of base o m h)
bytes_in-attributes o m base h = bytes-left item.Attr (λ x. refl) attribute_track (value_at base attribute_track o m h)

-- a value that is found among whole ones is whole
found-whole : {V : Type 0} (m : ℕ) (vs : List (Value V)) → list_all is_whole vs ≡ true → is_gone (in_force_by m vs) ≡ false
found-whole m [] e = refl
found-whole m (v ∷ vs) e =
    let parts = both (is_whole v) (list_all is_whole vs) e in
    elim (nat_le v.begin m) as (λ b. is_gone (if b then (if ends_by m v.end then None else Some v) else in_force_by m vs) ≡ false) [
      | true ↦ (elim (ends_by m v.end) as (λ b. is_gone (if b then None else Some v) ≡ false) [ true ↦ refl | false ↦ turned v.is_erased parts.0 ])
      | false ↦ found-whole m vs parts.1
    ]
  where
    turned : (b : Bool) → not b ≡ true → b ≡ false
    turned true f = cc
    turned false f = refl

-- no ACL is ever erased
acl-whole : (o : ObjectId) (m : ℕ) (base : Base) (h : List Record) → is_gone (value_at base acl_track o m h) ≡ false
acl-whole o m base h = found-whole m (versions base acl_track o h) (acls-whole o base h)

pub held_in-acl : (o : ObjectId) (m : ℕ) (base : Base) (h : List Record) → acl_in (version_at base which.Acl o m h) ≡ option_map held_of (value_at base acl_track o m h)
held_in-acl o m base h = of (value_at base acl_track o m h) (acl-whole o m base h)
  where
    of : (x : Option (Value (List AclEntry))) → is_gone x ≡ false → acl_in (option_map (version_of acl_track item.Acl) x) ≡ option_map held_of x
    of None e = refl
    of (Some v) e = ap (λ b. held_of_item v.begin (if b then None else Some (item.Acl v.value))) e

-- nor is a current value
current-whole : {V : Type 0} (track : Track V) (o : ObjectId) (base : Base) (h : List Record) {last : ℕ} → ValuesStand last (versions base track o h) → (t : ℕ) → last ≤ t → is_gone (value_at base track o t h) ≡ false
current-whole {V} track o base h {last} s t later = of (versions base track o h) refl s
  where
    of : (values : List (Value V)) → versions base track o h ≡ values → ValuesStand last values → is_gone (in_force_by t values) ≡ false
    of [] is stands = refl
    of (v ∷ past) is stands = ap is_gone (newest-now later v past stands) ∙ by_end v.end refl
      where
        by_end : (end : Option ℕ) → v.end ≡ end → is_gone (if is_some end then None else Some v) ≡ false
        by_end None e = unended-whole base track o h v past is e
        by_end (Some end) e = refl

pub current-data-whole : {base : Base} {h : List Record} → IsSound base h → (o : ObjectId) (t : ℕ) → last_of h ≤ t → is_gone (value_at base data_track o t h) ≡ false
current-data-whole {base} {h} s o t later = current-whole data_track o base h (s.tracks o which.Data) t later

-- what is told of what isn't gone
pub told-whole : {A B : Type 0} (f : A → B) (r : Option A) (gone : Bool) (x : B) → option_map f r ≡ then_some (not gone) x → gone ≡ false → is_some r ≡ true
told-whole f None true x e g = cc
told-whole f None false x e g = cc
told-whole f (Some y) gone x e g = refl
