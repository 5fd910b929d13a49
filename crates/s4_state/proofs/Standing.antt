-- What is kept stands for a history with one more record.
use Rattle.std.proofs.Common.{◌≡◌, ℕ, ◌+◌, ◌≤◌, ◌<◌, Bool, true, false, cond, None, List, [], ◌∷◌, ◌++◌, refl, sym, ◌∙◌, ap, subst, arith, length}
use Rattle.std.specs.Prelude.{◌&&◌, ◌||◌, nat_le, is_some, map, replicate, if◌then◌else◌}
use Rattle.std.specs.List.{list_all}
use Rattle.std.proofs.lemmas.List.{length-map}
use Rattle.std.proofs.lemmas.List.Sums.{sum_by-append, sum_by-cons}
use Rattle.s4_types.specs.declared.object.Purse.{Purse}
use Rattle.s4_types.specs.declared.object.ObjectId.{ObjectId}
use Rattle.s4_types.specs.declared.acl.AclEntry.{AclEntry}
use Rattle.s4_types.specs.declared.record.Record.{Record}
use Rattle.s4_types.specs.declared.version.Version.{Version}
use Rattle.s4_types.specs.declared.version.Item.{Item}
use Rattle.s4_types.specs.declared.version.Item.TheVariants as item
use Rattle.s4_types.specs.Acl.{first_acl}
use Rattle.s4_types.specs.Names.{same_purse, same_object}
use Rattle.s4_types.specs.Kinds.{is_accepted, is_wide, is_about, concerns, is_create, purse_of}
use Rattle.s4_types.specs.Versions.{Track, versions, span_of, after_change, makes, deletes, is_made, is_deleted, data_effect, attribute_effect, acl_effect, data_track, attribute_track, acl_track, begun as begins}
use Rattle.s4_types.specs.Base.{Base}
use Rattle.s4_types.specs.Bindings.{rebound, named_by}
use Rattle.s4_types.specs.Play.{last_of}
use Rattle.s4_types.specs.Serials.{drawn, draws}
use Rattle.s4_types.proofs.Erasing.{versions-idle}
use Rattle.s4_types.proofs.Booleans.{by_test, &&-false}
use Rattle.s4_types.proofs.SameNames.{object_is, purse_is, purse_self}
use Rattle.s4_types.proofs.Snoc.{versions-snoc, drawn-snoc, last_of-snoc}
use Rattle.s4_types.proofs.Windows.{horizon_at-later}
use Rattle.s4_store.specs.Chains.{Chains, item_count}
use Rattle.s4_tracks.specs.Chain.{with_put, with_end}
use Rattle.s4_tracks.specs.Swept.{AgreesWith}
use Rattle.s4_tracks.proofs.Sweeping.{agrees_self, agrees_as, agrees_up, agrees_put, agrees_end}
use Rattle.s4_objects.specs.declared.kept.Which.{Which}
use Rattle.s4_objects.specs.declared.kept.Which.TheVariants as which
use Rattle.s4_objects.specs.declared.objects.Objects.{Objects}
use Rattle.s4_objects.specs.Chains.{same_which, held}
use Rattle.s4_objects.specs.Ends.{all_by}
use Rattle.s4_objects.specs.Opening.{first_on}
use Rattle.s4_objects.specs.Table.{found_in, kept_in, held_in, ends_in, Holds, KeepsOthers, LeavesNoChain}
use Rattle.s4_parts.specs.declared.parts.Parts.{Parts as Table}
use Rattle.s4_parts.specs.Waiting.{waiting_in}
use Rattle.s4_types.specs.Changes.{Change, change_of}
use Rattle.s4_types.specs.Counts.{made_by, values_ended_by, bindings_ended_by, counted, made_count, object_ends, binding_ends}
use Rattle.s4_state.specs.Laid.{laid, versions_on}
use Rattle.s4_state.specs.Sound.{IsSound}
use Rattle.s4_state.specs.Stands.{horizon_now, ObjectsStand, NamesStand, IsTidy, Balances, StandsFor, MakesNone, RebindsNone, Counts, PutsOn, EndsAll}
use Rattle.s4_state.proofs.Living.{all_by-up, none-newer, floor-now, no-data, no-attributes, no-acl}
use Rattle.s4_state.proofs.Waiting.{horizon-by, ends-by, moments-length, longer-by, no-more, waiting_by, waiting_next, waiting_same}
use Rattle.s4_state.proofs.Naming.{names_with, names_beside, last-up}

-- ONE MORE RECORD

module _ (base : Base) (h : List Record) (r : Record) where
  -- a record that draws nothing
  pub drawn-same : (p : Purse) → draws p r ≡ false → drawn base p (h ++ r ∷ []) ≡ drawn base p h
  drawn-same p e = let more : drawn base p (h ++ r ∷ []) ≡ drawn base p h + 0 = drawn-snoc base p h r ∙ ap (λ b. drawn base p h + cond b 1 0) e in omega arith

  drawn-more : (p : Purse) → draws p r ≡ true → drawn base p (h ++ r ∷ []) ≡ drawn base p h + 1
  drawn-more p e = drawn-snoc base p h r ∙ ap (λ b. drawn base p h + cond b 1 0) e

  versions-same : {V : Type 0} (track : Track V) (o : ObjectId) → concerns o.purse r ≡ false → versions base track o (h ++ r ∷ []) ≡ versions base track o h
  versions-same track o e = versions-snoc base track o h r ∙ ap (λ b. if b then after_change track o (versions base track o h) r else versions base track o h) e

  pub versions_on-same : (w : Which) (o : ObjectId) → concerns o.purse r ≡ false → versions_on base w o (h ++ r ∷ []) ≡ versions_on base w o h
  versions_on-same which.Data o e = ap (laid data_track item.Data) (versions-same data_track o e)
  versions_on-same which.Attributes o e = ap (laid attribute_track item.Attr) (versions-same attribute_track o e)
  versions_on-same which.Acl o e = ap (laid acl_track item.Acl) (versions-same acl_track o e)

-- WHAT IS LEFT OF A TRACK

pub agrees_if : {hz : ℕ} (b : Bool) {x y u v : List Version} → AgreesWith hz x u → AgreesWith hz y v → AgreesWith hz (if b then x else y) (if b then u else v)
agrees_if true s t = s
agrees_if false s t = t

-- OPEN CHAINS

-- a change of objects that leaves no chain behind
pub tidy_beside : {chains new : Chains Version} {kept kept' : Objects} {table : Table} → IsTidy chains kept table → LeavesNoChain chains new kept kept' → IsTidy new kept' table
tidy_beside tidy leaves = record { none_else = λ c o f g. let before = leaves c o f in tidy.none_else c before.0 before.1 g }

-- ROOM FOR ENDS

module _ {base : Base} {size : ℕ} {chains : Chains Version} {kept : Objects} {serials : Purse → ℕ} {table : Table} {h : List Record} (s : StandsFor base size chains kept serials table h) where
  -- no end that waits is later than the next record
  pub ends_then : (m : ℕ) → last_of h ≤ m → all_by m (ends_in kept) ≡ true
  ends_then m later =
      let low : base.floor ≤ m = (let floor = floor-now s.sound in omega (arith, floor, later)) in
      let all : list_all (λ r. nat_le r.moment m) h ≡ true = all_by-up (last_of h) m h later (none-newer s.sound) in
      waiting_by m (horizon-by base h (last_of h) m low all later) (ends-by values_ended_by m h all) s.objects.ends

  pub stands_room : {kept' : Objects} → ((o : ObjectId) → found_in kept' o ≡ found_in kept o) → ends_in kept' ≡ ends_in kept → Holds chains kept' → StandsFor base size chains kept' serials table h
  stands_room {kept'} found ends holds = record {
    sound = s.sound;
    objects = record {
      holds = holds;
      numbered = λ o e. s.objects.numbered o (sym (ap is_some (found o)) ∙ e);
      tracks = λ o w. agrees_as (ap (λ f. held chains f w) (found o)) refl (s.objects.tracks o w);
      ends = waiting_same ends refl s.objects.ends;
    };
    names = s.names;
    partitions = record {
      holds = s.partitions.holds;
      waits = s.partitions.waits;
      bindings = s.partitions.bindings;
      names = s.partitions.names;
      ends = s.partitions.ends;
      none_empty = s.partitions.none_empty;
      apart = λ p n c got o k w is. s.partitions.apart p n c got o k w (sym (found o) ∙ is);
    };
    tidy = record { none_else = λ c o f. s.tidy.none_else c o (λ q k w got. f q k w (found q ∙ got)) };
    used = s.used;
    balance = subst (λ es. Balances base h size (length es + length (waiting_in table))) (sym ends) s.balance;
  }

-- THE NEXT RECORD

module _ {base : Base} {size : ℕ} {chains : Chains Version} {kept : Objects} {serials : Purse → ℕ} {table : Table} {h : List Record} (s : StandsFor base size chains kept serials table h) (r : Record) (sound : IsSound base (h ++ r ∷ [])) where
  -- the horizon never goes back
  pub horizon_up : horizon_now base h ≤ horizon_now base (h ++ r ∷ [])
  horizon_up =
      let last : last_of (h ++ r ∷ []) ≡ r.moment = last_of-snoc h r in
      let up : last_of h ≤ last_of (h ++ r ∷ []) = last-up h r (none-newer sound) in
      horizon_at-later (base) h r (last_of h) (last_of (h ++ r ∷ [])) (omega arith) (omega arith)

  -- what is kept of objects, where none is made
  pub objects_next : {new : Chains Version} {kept' : Objects} → Holds new kept' → ((o : ObjectId) → found_in kept' o ≡ found_in kept o) → MakesNone r
      → ((q : ObjectId) (u : Which) → AgreesWith (horizon_now base h) (held_in new kept' q u) (versions_on base u q (h ++ r ∷ [])))
      → ends_in kept' ≡ ends_in kept ++ replicate (counted values_ended_by r) r.moment → ObjectsStand base (horizon_now base (h ++ r ∷ [])) new kept' (h ++ r ∷ [])
  objects_next holds found none tracks ends = record {
    holds = holds;
    numbered = λ o e. subst (λ n. o.serial ≤ n) (sym (drawn-same base h r o.purse (none.draws_none o.purse))) (s.objects.numbered o (sym (ap is_some (found o)) ∙ e));
    tracks = λ q u. agrees_up (horizon_now base h) (horizon_now base (h ++ r ∷ [])) _ _ horizon_up (tracks q u);
    ends = waiting_next horizon_up values_ended_by h r ends s.objects.ends;
  }

  -- and how many values and bindings are held and wait
  pub used_next : (new : Chains Version) → item_count new ≡ item_count chains + counted made_by r → item_count new ≡ size + counted made_by r
  used_next new made = made ∙ ap (λ n. n + counted made_by r) s.used

  pub balance_next : (kept' : Objects) (table' : Table) → ends_in kept' ≡ ends_in kept ++ replicate (counted values_ended_by r) r.moment
      → map (λ e. e.end) (waiting_in table') ≡ map (λ e. e.end) (waiting_in table) ++ replicate (counted bindings_ended_by r) r.moment
      → Balances base (h ++ r ∷ []) (size + counted made_by r) (length (ends_in kept') + length (waiting_in table'))
  balance_next kept' table' e f =
      let made : made_count (h ++ r ∷ []) ≡ made_count h + made_count (r ∷ []) = sum_by-append (counted made_by) h (r ∷ []) in
      let one : made_count (r ∷ []) ≡ counted made_by r + 0 = sum_by-cons (counted made_by) r [] in
      let values : length (object_ends (h ++ r ∷ [])) ≡ length (object_ends h) + counted values_ended_by r = moments-length values_ended_by h r in
      let bindings : length (binding_ends (h ++ r ∷ [])) ≡ length (binding_ends h) + counted bindings_ended_by r = moments-length bindings_ended_by h r in
      let more : length (ends_in kept') ≡ length (ends_in kept) + counted values_ended_by r = ap length e ∙ longer-by (ends_in kept) (counted values_ended_by r) r.moment in
      let wait : length (map (λ e. e.end) (waiting_in table')) ≡ length (map (λ e. e.end) (waiting_in table)) + counted bindings_ended_by r = ap length f ∙ longer-by (map (λ e. e.end) (waiting_in table)) (counted bindings_ended_by r) r.moment in
      let now : length (map (λ e. e.end) (waiting_in table')) ≡ length (waiting_in table') = length-map (waiting_in table') (λ e. e.end) in
      let before : length (map (λ e. e.end) (waiting_in table)) ≡ length (waiting_in table) = length-map (waiting_in table) (λ e. e.end) in
      let even = s.balance.even in
      record { begun = s.balance.begun; keeps = s.balance.keeps; even = omega (arith, made, one, values, bindings, more, wait, now, before, even) }

  -- a record that makes no object
  pub stands_on : {new : Chains Version} {kept' : Objects} {table' : Table} → MakesNone r → ObjectsStand base (horizon_now base (h ++ r ∷ [])) new kept' (h ++ r ∷ []) → NamesStand base (horizon_now base (h ++ r ∷ [])) new kept' table' (h ++ r ∷ [])
      → IsTidy new kept' table' → item_count new ≡ item_count chains + counted made_by r → ends_in kept' ≡ ends_in kept ++ replicate (counted values_ended_by r) r.moment
      → map (λ e. e.end) (waiting_in table') ≡ map (λ e. e.end) (waiting_in table) ++ replicate (counted bindings_ended_by r) r.moment → StandsFor base (size + counted made_by r) new kept' serials table' (h ++ r ∷ [])
  stands_on {new} {kept'} {table'} none objects partitions tidy made ends waiting = record {
    sound = sound;
    objects = objects;
    names = λ p. s.names p ∙ sym (drawn-same base h r p (none.draws_none p));
    partitions = partitions;
    tidy = tidy;
    used = used_next new made;
    balance = balance_next kept' table' ends waiting;
  }

  -- and ends no value of an object
  pub objects_idle : MakesNone r → counted values_ended_by r ≡ 0 → ((q : ObjectId) (u : Which) → versions_on base u q (h ++ r ∷ []) ≡ versions_on base u q h) → ObjectsStand base (horizon_now base (h ++ r ∷ [])) chains kept (h ++ r ∷ [])
  objects_idle none ended still = objects_next s.objects.holds (λ o. refl) none (λ q u. agrees_as refl (still q u) (s.objects.tracks q u))
      (no-more (ends_in kept) r.moment ended)

  pub none-made : counted made_by r ≡ 0 → item_count chains ≡ item_count chains + counted made_by r
  none-made e = omega (arith, e)

  -- a record that stands for no change
  pub stands_idle : is_accepted r ≡ false → StandsFor base (size + counted made_by r) chains kept serials table (h ++ r ∷ [])
  stands_idle idle = stands_on none
      (objects_idle none (nothing values_ended_by) (λ q u. versions_on-same base h r u q (strange q.purse)))
      (names_with s.partitions r horizon_up (record { bindings = λ p n old. ap (λ b. if b then rebound p n r.moment r.request old else old) (strange p); names = λ p old. ap (λ b. if b then named_by p r.request old else old) (strange p) })
      (nothing bindings_ended_by))
      s.tidy (none-made (nothing made_by)) (no-more (ends_in kept) r.moment (nothing values_ended_by)) (no-more (map (λ e. e.end) (waiting_in table)) r.moment (nothing bindings_ended_by))
    where
      nothing : (count : Change → ℕ) → counted count r ≡ 0
      nothing count = ap (λ b. if b then count (change_of r.request) else 0) idle

      strange : (p : Purse) → concerns p r ≡ false
      strange p = ap (λ b. b && (is_wide r.caller r.request || is_about p (purse_of r.caller r.request))) idle

      none : MakesNone r
      none = record { makes_none = λ q. ap (λ b. b && is_made q r.reply) (strange q.purse); draws_none = λ p. ap (λ b. b && is_create r.request) (strange p) }

  -- a record that makes, ends, changes, erases and binds nothing, also one that concerns all purses
  pub stands_still : ((q : ObjectId) → is_made q r.reply ≡ false) → is_create r.request ≡ false → ((q : ObjectId) → is_deleted q r.request ≡ false) → ((q : ObjectId) → span_of q r.request ≡ None)
      → ((q : ObjectId) (old : List ℕ) → data_effect q r.request old ≡ None) → ((q : ObjectId) (old : List ℕ) → attribute_effect q r.request old ≡ None) → ((q : ObjectId) (old : List AclEntry) → acl_effect q r.request old ≡ None)
      → RebindsNone r → Counts r 0 0 0 → StandsFor base (size + counted made_by r) chains kept serials table (h ++ r ∷ [])
  stands_still made kind undeleted plain keeps-data keeps-attributes keeps-acl rebinds counts =
      stands_on none (objects_idle none counts.values still) (names_with s.partitions r horizon_up rebinds counts.bindings) s.tidy
      (none-made counts.made) (no-more (ends_in kept) r.moment counts.values) (no-more (map (λ e. e.end) (waiting_in table)) r.moment counts.bindings)
    where
      unmade : (q : ObjectId) → makes q r ≡ false
      unmade q = ap (λ b. concerns q.purse r && b) (made q) ∙ &&-false (concerns q.purse r)

      none : MakesNone r
      none = record { makes_none = unmade; draws_none = λ p. ap (λ b. concerns p r && b) kind ∙ &&-false (concerns p r) }

      lasting : (q : ObjectId) → deletes q r ≡ false
      lasting q = ap (λ b. concerns q.purse r && b) (undeleted q) ∙ &&-false (concerns q.purse r)

      still : (q : ObjectId) (w : Which) → versions_on base w q (h ++ r ∷ []) ≡ versions_on base w q h
      still q which.Data = ap (laid data_track item.Data) (versions-idle data_track q base h r (unmade q) (lasting q) (plain q) (keeps-data q))
      still q which.Attributes = ap (laid attribute_track item.Attr) (versions-idle attribute_track q base h r (unmade q) (lasting q) (plain q) (keeps-attributes q))
      still q which.Acl = ap (laid acl_track item.Acl) (versions-idle acl_track q base h r (unmade q) (lasting q) (plain q) (keeps-acl q))

  -- a record that puts one value in the place of another
  pub stands_put : {new : Chains Version} {kept' : Objects} (o : ObjectId) (w : Which) (item : Item) → PutsOn base h r o w item → Holds new kept' → ((q : ObjectId) → found_in kept' q ≡ found_in kept q)
      → ((q : ObjectId) (u : Which) → held_in new kept' q u ≡ (if same_object o q && same_which w u then with_put r.moment item (held_in chains kept q u) else held_in chains kept q u))
      → ends_in kept' ≡ ends_in kept ++ r.moment ∷ [] → KeepsOthers chains new kept kept' → LeavesNoChain chains new kept kept' → item_count new ≡ item_count chains + 1 → StandsFor base (size + counted made_by r) new kept' serials table (h ++ r ∷ [])
  stands_put o w item puts holds found held ends others leaves more = stands_on puts.makes
      (objects_next holds found puts.makes
      (λ q u. agrees_as (held q u) (puts.tracks q u) (agrees_if (same_object o q && same_which w u) (agrees_put (horizon_now base h) r.moment item _ _ (s.objects.tracks q u)) (s.objects.tracks q u)))
      (ends ∙ ap (λ n. ends_in kept ++ replicate n r.moment) (sym puts.counts.values)))
      (names_with (names_beside s.partitions others) r horizon_up puts.rebinds puts.counts.bindings)
      (tidy_beside s.tidy leaves)
      (more ∙ ap (λ n. item_count chains + n) (sym puts.counts.made)) (ends ∙ ap (λ n. ends_in kept ++ replicate n r.moment) (sym puts.counts.values)) (no-more (map (λ e. e.end) (waiting_in table)) r.moment puts.counts.bindings)

  -- a record that ends an object
  pub stands_end : {new : Chains Version} {kept' : Objects} (o : ObjectId) → EndsAll base h r o → Holds new kept' → ((q : ObjectId) → found_in kept' q ≡ found_in kept q)
      → ((q : ObjectId) (u : Which) → held_in new kept' q u ≡ (if same_object o q then with_end r.moment (held_in chains kept q u) else held_in chains kept q u))
      → ends_in kept' ≡ ends_in kept ++ r.moment ∷ r.moment ∷ r.moment ∷ [] → KeepsOthers chains new kept kept' → LeavesNoChain chains new kept kept' → item_count new ≡ item_count chains → StandsFor base (size + counted made_by r) new kept' serials table (h ++ r ∷ [])
  stands_end o over holds found held ends others leaves same = stands_on over.makes
      (objects_next holds found over.makes
      (λ q u. agrees_as (held q u) (over.tracks q u) (agrees_if (same_object o q) (agrees_end (horizon_now base h) r.moment _ _ (s.objects.tracks q u)) (s.objects.tracks q u)))
      (ends ∙ ap (λ n. ends_in kept ++ replicate n r.moment) (sym over.counts.values)))
      (names_with (names_beside s.partitions others) r horizon_up over.rebinds over.counts.bindings)
      (tidy_beside s.tidy leaves)
      (same ∙ none-made over.counts.made) (ends ∙ ap (λ n. ends_in kept ++ replicate n r.moment) (sym over.counts.values)) (no-more (map (λ e. e.end) (waiting_in table)) r.moment over.counts.bindings)

-- A RECORD THAT MAKES AN OBJECT

-- the record makes this object alone
pub record MakesOnly (base : Base) (h : List Record) (r : Record) (o : ObjectId) : Type 0 where
  pub next : o.serial ≡ drawn base o.purse h + 1
  pub makes_it : (q : ObjectId) → makes q r ≡ same_object o q
  pub draws_it : (p : Purse) → draws p r ≡ same_purse o.purse p
  pub data_here : versions base data_track o (h ++ r ∷ []) ≡ begins r.moment [] ∷ versions base data_track o h
  pub attributes_here : versions base attribute_track o (h ++ r ∷ []) ≡ begins r.moment [] ∷ versions base attribute_track o h
  pub acl_here : versions base acl_track o (h ++ r ∷ []) ≡ begins r.moment (first_acl o.purse.creator) ∷ versions base acl_track o h
  pub elsewhere : (q : ObjectId) (w : Which) → same_object o q ≡ false → versions_on base w q (h ++ r ∷ []) ≡ versions_on base w q h
  pub rebinds : RebindsNone r
  pub counts : Counts r 3 0 0

module _ {base : Base} {size : ℕ} {chains : Chains Version} {kept : Objects} {serials : Purse → ℕ} {table : Table} {h : List Record} (s : StandsFor base size chains kept serials table h) (o : ObjectId) (next : o.serial ≡ drawn base o.purse h + 1) where
  -- it isn't kept yet
  pub unkept : kept_in kept o ≡ false
  unkept = by_test (kept_in kept o) (λ e. let low : o.serial ≤ drawn base o.purse h = s.objects.numbered o e in absurd (omega arith)) (λ e. e)

module _ {base : Base} {size : ℕ} {chains : Chains Version} {kept : Objects} {serials : Purse → ℕ} {table : Table} {h : List Record} (s : StandsFor base size chains kept serials table h) (r : Record) (sound : IsSound base (h ++ r ∷ [])) (o : ObjectId) (only : MakesOnly base h r o) where
  new : drawn base o.purse h < o.serial
  new = let first = only.next in omega (arith, first)

  made-track : (w : Which) → versions_on base w o (h ++ r ∷ []) ≡ first_on w r.moment o.purse.creator ∷ []
  made-track which.Data = ap (laid data_track item.Data) (only.data_here ∙ ap (λ vs. begins r.moment [] ∷ vs) (no-data s.sound o new))
  made-track which.Attributes = ap (laid attribute_track item.Attr) (only.attributes_here ∙ ap (λ vs. begins r.moment [] ∷ vs) (no-attributes s.sound o new))
  made-track which.Acl = ap (laid acl_track item.Acl) (only.acl_here ∙ ap (λ vs. begins r.moment (first_acl o.purse.creator) ∷ vs) (no-acl s.sound o new))

  here : o.serial ≤ drawn base o.purse (h ++ r ∷ [])
  here = let more : drawn base o.purse (h ++ r ∷ []) ≡ drawn base o.purse h + 1 = drawn-more base h r o.purse (only.draws_it o.purse ∙ purse_self o.purse) in let first = only.next in omega (arith, more, first)

  drawn-up : (p : Purse) → drawn base p h ≤ drawn base p (h ++ r ∷ [])
  drawn-up p = by_test (draws p r)
      (λ e. let more = drawn-more base h r p e in omega (arith, more))
      (λ e. let same = drawn-same base h r p e in omega (arith, same))

  module _ {new : Chains Version} {kept' : Objects} (holds : Holds new kept') (keeps : (q : ObjectId) → kept_in kept' q ≡ (same_object o q || kept_in kept q))
      (begun : (q : ObjectId) (w : Which) → held_in new kept' q w ≡ (if same_object o q then first_on w r.moment o.purse.creator ∷ [] else held_in chains kept q w)) (ends : ends_in kept' ≡ ends_in kept) (others : KeepsOthers chains new kept kept') (leaves : LeavesNoChain chains new kept kept') (more : item_count new ≡ item_count chains + 3) where
    objects-made : ObjectsStand base (horizon_now base (h ++ r ∷ [])) new kept' (h ++ r ∷ [])
    objects-made = record {
      holds = holds;
      numbered = λ q e. by_test (same_object o q)
          (λ same. subst (λ x. x.serial ≤ drawn base x.purse (h ++ r ∷ [])) (object_is o q same) here)
          (λ other. let low : q.serial ≤ drawn base q.purse h = s.objects.numbered q (sym (keeps q ∙ ap (λ b. b || kept_in kept q) other) ∙ e) in
          let more : drawn base q.purse h ≤ drawn base q.purse (h ++ r ∷ []) = drawn-up q.purse in omega (arith, low, more));
      tracks = λ q w. agrees_up (horizon_now base h) (horizon_now base (h ++ r ∷ [])) _ _ (horizon_up s r sound) (by_test (same_object o q)
          (λ same. agrees_as (begun q w ∙ ap (λ b. if b then first_on w r.moment o.purse.creator ∷ [] else held_in chains kept q w) same)
          (subst (λ x. versions_on base w x (h ++ r ∷ []) ≡ first_on w r.moment o.purse.creator ∷ []) (object_is o q same) (made-track w)) (agrees_self (horizon_now base h) (first_on w r.moment o.purse.creator ∷ [])))
          (λ other. agrees_as (begun q w ∙ ap (λ b. if b then first_on w r.moment o.purse.creator ∷ [] else held_in chains kept q w) other) (only.elsewhere q w other) (s.objects.tracks q w)));
      ends = waiting_next (horizon_up s r sound) values_ended_by h r (ends ∙ no-more (ends_in kept) r.moment only.counts.values) s.objects.ends;
    }

    pub stands_made : (serials' : Purse → ℕ) → ((p : Purse) → serials' p ≡ (if same_purse o.purse p then serials o.purse + 1 else serials p)) → StandsFor base (size + counted made_by r) new kept' serials' table (h ++ r ∷ [])
    stands_made serials' draws' = record {
      sound = sound;
      objects = objects-made;
      names = λ p. by_test (same_purse o.purse p)
          (λ e. draws' p ∙ ap (λ x. if x then serials o.purse + 1 else serials p) e ∙ ap (λ n. n + 1) (s.names o.purse ∙ ap (λ x. drawn base x h) (purse_is o.purse p e)) ∙ sym (drawn-more base h r p (only.draws_it p ∙ e)))
          (λ e. draws' p ∙ ap (λ x. if x then serials o.purse + 1 else serials p) e ∙ s.names p ∙ sym (drawn-same base h r p (only.draws_it p ∙ e)));
      partitions = names_with (names_beside s.partitions others) r (horizon_up s r sound) only.rebinds only.counts.bindings;
      tidy = tidy_beside s.tidy leaves;
      used = used_next s r sound new (more ∙ ap (λ n. item_count chains + n) (sym only.counts.made));
      balance = balance_next s r sound kept' table (ends ∙ no-more (ends_in kept) r.moment only.counts.values) (no-more (map (λ e. e.end) (waiting_in table)) r.moment only.counts.bindings);
    }
