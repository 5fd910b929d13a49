-- Names: what is held of them tells what they are bound to, and records that bind them.
use Rattle.std.proofs.Common.{◌≡◌, ℕ, ◌+◌, ◌≤◌, Bool, true, false, cond, Option, Some, None, List, [], ◌∷◌, ◌++◌, refl, sym, ◌∙◌, ap, subst, arith, length, filter}
use Rattle.std.specs.Prelude.{◌&&◌, ◌==◌, nat_le, is_some, IfSome, count_by, map, replicate, if◌then◌else◌}
use Rattle.std.specs.List.{list_all, list_any}
use Rattle.std.specs.List.Sorted.{IsStrictlySortedBy}
use Rattle.std.specs.Option.{option_map}
use Rattle.std.proofs.lemmas.Bool.{eqb-true, eq-eqb}
use Rattle.std.proofs.lemmas.List.{map-append}
use Rattle.std.proofs.lemmas.List.Folds.{list_all-map}
use Rattle.std.proofs.lemmas.List.Kept.{IsStrictlySortedBy-filter}
use Rattle.s4_types.specs.declared.object.Purse.{Purse}
use Rattle.s4_types.specs.declared.object.ObjectId.{ObjectId}
use Rattle.s4_types.specs.declared.principal.Caller.{Caller}
use Rattle.s4_types.specs.declared.request.Request.{Request}
use Rattle.s4_types.specs.declared.request.Request.TheVariants.{PCreate, PDelete, SetWindow, SetBudget}
use Rattle.s4_types.specs.declared.reply.Reply.TheVariants.{Done}
use Rattle.s4_types.specs.declared.record.Record.{Record}
use Rattle.s4_types.specs.declared.version.Version.{Version}
use Rattle.s4_types.specs.declared.version.Item.TheVariants as item
use Rattle.s4_types.specs.Names.{same_purse, object_in}
use Rattle.s4_types.specs.Name.{same_name, name_cmp}
use Rattle.s4_types.specs.declared.acl.AclEntry.{AclEntry}
use Rattle.s4_types.specs.Kinds.{is_refused, is_create, concerns}
use Rattle.s4_types.specs.Bindings.{bindings, names_of, with_name, bound_at, bound_count, has_name, is_serial}
use Rattle.s4_types.specs.Versions.{Value, ends_by, in_force_by}
use Rattle.s4_types.specs.Versions as model
use Rattle.s4_types.specs.Base.{Base}
use Rattle.s4_types.specs.Answer.{moment_of}
use Rattle.s4_types.specs.Play.{last_of}
use Rattle.s4_types.proofs.Booleans.{by_test, both, not_both, &&-false}
use Rattle.s4_types.proofs.Snoc.{newest-snoc, bindings-snoc, names_of-snoc}
use Rattle.s4_types.proofs.SameNames.{purse_is, name_is, name_self}
use Rattle.s4_store.specs.Chains.{Chains, items_of, item_count, newest_of, IsOpen, StillOpen}
use Rattle.s4_tracks.specs.Chain.{endless, current_of, version_in, with_end, end_at}
use Rattle.s4_tracks.specs.Swept.{unexpired, AgreesWith, IsFrom}
use Rattle.s4_tracks.proofs.Ending.{with_end-snoc}
use Rattle.s4_tracks.proofs.Sweeping.{agrees_as, agrees_up, agrees_end, agrees_more, agrees_version_in}
use Rattle.s4_objects.specs.declared.kept.Which.{Which}
use Rattle.s4_objects.specs.declared.kept.Which.TheVariants as which
use Rattle.s4_objects.specs.declared.kept.Kept.{Kept}
use Rattle.s4_objects.specs.declared.objects.Objects.{Objects}
use Rattle.s4_objects.specs.Chains.{chain_of}
use Rattle.s4_objects.specs.Laws.{KeepsObjects, held_still, holds_still}
use Rattle.s4_objects.specs.Table.{found_in, ends_in, IsForeign as Apart}
use Rattle.s4_parts.specs.declared.parts.Parts.{Parts as Table}
use Rattle.s4_parts.specs.Waiting.{waiting_in, all_by, Waits}
use Rattle.s4_parts.specs.Table.{Holds, chain_at, names_in, bindings_in, binding, object_of, serial_now, is_any, IsForeign, KeepsOthers, KeepsChains, LeavesNoChain, NoneIsEmpty, OpensFor}
use Rattle.s4_parts.proofs.Rebinding.{any-snoc, ended-any}
use Rattle.s4_types.specs.Counts.{made_by, values_ended_by, bindings_ended_by, counted}
use Rattle.s4_state.specs.Laid.{laid, laid_by, version_by, versions_on, bindings_on}
use Rattle.s4_state.specs.Sound.{IsSound, IsNext, EndsBy, ValuesStand}
use Rattle.s4_state.specs.Stands.{horizon_now, is_lasting, ObjectsStand, NamesStand, IsTidy, Balances, StandsFor, MakesNone}
use Rattle.s4_state.proofs.Begun.{by_then, newest-then}
use Rattle.s4_state.proofs.Reading.{in_force-laid}
use Rattle.s4_state.proofs.Living.{all_by-up, none-newer, floor-now}
use Rattle.s4_state.proofs.Naming.{lasting_as}
use Rattle.s4_state.proofs.Waiting.{horizon-by, ends-by, no-more, waiting_by, waiting_same, waiting_next}
use Rattle.s4_types.proofs.Ordered.{filter-less, count-filter, any-filter, filter-with}
use Rattle.s4_state.proofs.Left.{serial-none, lasting-up, lasting-more, lasting-end}
use Rattle.s4_state.proofs.Granting.{told as told-of, told-asked, accepted-asked, bound-done, unbound-done, was_unbound, was_bound, window-done, budget-done}
use Rattle.s4_state.proofs.Standing.{agrees_if, horizon_up, objects_next, stands_on, stands_still}
use Rattle.s4_state.proofs.Effects.{makes-none, idle}

-- WHAT A NAME IS BOUND TO

-- a binding as a version
abbrev as_version : Purse → List ℕ → Value ℕ → Version
as_version p n v = version_by (λ serial. 64 + length n) (λ v. Some (item.Bind (object_in p v.value))) v

object-laid : (p : Purse) (n : List ℕ) (found : Option (Value ℕ)) → object_of (option_map (as_version p n) found) ≡ option_map (object_in p) (option_map (λ v. v.value) found)
object-laid p n None = refl
object-laid p n (Some v) = refl

-- from the last moment on the current binding is the one in force
current-bound : (p : Purse) (n : List ℕ) (last t : ℕ) (values : List (Value ℕ)) → last ≤ t → ValuesStand last values
    → current_of (laid_by (λ serial. 64 + length n) (λ v. Some (item.Bind (object_in p v.value))) values) ≡ option_map (as_version p n) (in_force_by t values)
current-bound p n last t [] l s = refl
current-bound p n last t (v ∷ past) l s =
    let low : v.begin ≤ last = s.0 in
    let begun : nat_le v.begin t ≡ true = grind arith in
    ap endless (newest-snoc (laid_by (λ serial. 64 + length n) (λ v. Some (item.Bind (object_in p v.value))) past) (as_version p n v))
    ∙ of v.end s.1
    ∙ sym (ap (λ b. option_map (as_version p n) (if b then (if ends_by t v.end then None else Some v) else in_force_by t past)) begun)
  where
    of : (e : Option ℕ) → EndsBy last e → (if is_some e then None else Some (as_version p n v)) ≡ option_map (as_version p n) (if ends_by t e then None else Some v)
    of None b = refl
    of (Some end) b = let over : nat_le end t ≡ true = grind arith in sym (ap (λ x. option_map (as_version p n) (if x then None else Some v)) over)

module _ {base : Base} {size : ℕ} {chains : Chains Version} {kept : Objects} {serials : Purse → ℕ} {table : Table} {h : List Record} (s : StandsFor base size chains kept serials table h) where
  -- now, or at a moment that isn't below the horizon
  pub bound-in : (p : Purse) (n : List ℕ) (t : ℕ) → last_of h ≤ t → (at : Option ℕ) → IsFrom (horizon_now base h) at → object_of (version_in at (bindings_in chains table p n)) ≡ option_map (object_in p) (bound_at base p n (moment_of t at) h)
  bound-in p n t l at from = ap object_of (agrees_version_in (horizon_now base h) at (bindings_in chains table p n) (bindings_on base p n h) from (s.partitions.bindings p n)) ∙ all at
    where
      all : (at : Option ℕ) → object_of (version_in at (bindings_on base p n h)) ≡ option_map (object_in p) (bound_at base p n (moment_of t at) h)
      all None = ap object_of (current-bound p n (last_of h) t (bindings base p n h) l (s.sound.bindings p n)) ∙ object-laid p n (in_force_by t (bindings base p n h))
      all (Some m) = ap object_of (in_force-laid (λ serial. 64 + length n) (λ v. Some (item.Bind (object_in p v.value))) m (bindings base p n h)) ∙ object-laid p n (in_force_by m (bindings base p n h))

  pub serial-now : (p : Purse) (n : List ℕ) (t : ℕ) → last_of h ≤ t → serial_now (bindings_in chains table p n) ≡ bound_at base p n t h
  serial-now p n t l = ap (option_map (λ o. o.serial)) (bound-in p n t l None tt) ∙ of (bound_at base p n t h)
    where
      of : (x : Option ℕ) → option_map (λ o. o.serial) (option_map (object_in p) x) ≡ x
      of None = refl
      of (Some serial) = refl

  -- how many names are bound, and whether an object has one
  pub count-now : (p : Purse) (t : ℕ) → last_of h ≤ t → count_by (λ n. is_some (serial_now (bindings_in chains table p n))) (names_in chains table p) ≡ bound_count base p t h
  count-now p t l =
      let none : (n : List ℕ) → is_lasting (horizon_now base h) chains table p n ≡ false → is_some (serial_now (bindings_in chains table p n)) ≡ false = λ n e. ap is_some (serial-none (horizon_now base h) (bindings_in chains table p n) e) in
      sym (count-filter _ _ (names_in chains table p) none) ∙ ap (count_by (λ n. is_some (serial_now (bindings_in chains table p n)))) (s.partitions.names p)
      ∙ count-filter _ _ (names_of base p h) none
      ∙ ap (λ f. count_by f (names_of base p h)) (λ i n. is_some (serial-now p n t l i))

  pub named-now : (o : ObjectId) (t : ℕ) → last_of h ≤ t → list_any (λ n. is_serial o.serial (serial_now (bindings_in chains table o.purse n))) (names_in chains table o.purse) ≡ has_name base o t h
  named-now o t l =
      let none : (n : List ℕ) → is_lasting (horizon_now base h) chains table o.purse n ≡ false → is_serial o.serial (serial_now (bindings_in chains table o.purse n)) ≡ false = λ n e. ap (is_serial o.serial) (serial-none (horizon_now base h) (bindings_in chains table o.purse n) e) in
      sym (any-filter _ _ (names_in chains table o.purse) none) ∙ ap (list_any (λ n. is_serial o.serial (serial_now (bindings_in chains table o.purse n)))) (s.partitions.names o.purse)
      ∙ any-filter _ _ (names_of base o.purse h) none
      ∙ ap (λ f. list_any f (names_of base o.purse h)) (λ i n. is_serial o.serial (serial-now o.purse n t l i))

  -- the current binding of a name began by now
  pub binding_began : (p : Purse) (n : List ℕ) (t : ℕ) → last_of h ≤ t → is_some (serial_now (bindings_in chains table p n)) ≡ true → IfSome (newest_of (bindings_in chains table p n)) (λ v. v.begin ≤ t)
  binding_began p n t l now =
      let told : current_of (bindings_in chains table p n) ≡ option_map (as_version p n) (in_force_by t (bindings base p n h)) =
      agrees_version_in (horizon_now base h) None (bindings_in chains table p n) (bindings_on base p n h) tt (s.partitions.bindings p n)
      ∙ current-bound p n (last_of h) t (bindings base p n h) l (s.sound.bindings p n) in
      newest-then t (newest_of (bindings_in chains table p n)) (there (current_of (bindings_in chains table p n)) now)
      (subst (λ (x : Option Version). IfSome x (λ v. v.begin ≤ t)) (sym told) (of (in_force_by t (bindings base p n h)) (by_then t (bindings base p n h))))
    where
      there : (x : Option Version) → is_some (option_map (λ o. o.serial) (object_of x)) ≡ true → is_some x ≡ true
      there None e = e
      there (Some v) e = refl

      of : (x : Option (Value ℕ)) → IfSome x (λ v. v.begin ≤ t) → IfSome (option_map (as_version p n) x) (λ v. v.begin ≤ t)
      of None h = h
      of (Some v) h = h

-- OPEN CHAINS

-- a change of names that leaves no chain behind
pub tidy_named : {chains new : Chains Version} {kept : Objects} {table table' : Table} → IsTidy chains kept table → LeavesNoChain chains new table table' → IsTidy new kept table'
tidy_named tidy leaves = record { none_else = λ c o f g. let before = leaves c o g in tidy.none_else c before.0 f before.1 }

-- ROOM FOR A NAME

-- what is kept of objects, where the chains of their tracks are as before
pub objects_beside : {hz : ℕ} {chains new : Chains Version} {kept : Objects} {base : Base} {h : List Record} → ObjectsStand base hz chains kept h → KeepsObjects chains new kept → ObjectsStand base hz new kept h
objects_beside {hz} {base = base} {h = h} s keeps = record {
  holds = holds_still keeps s.holds;
  numbered = s.numbered;
  tracks = λ o w. subst (λ vs. AgreesWith hz vs (versions_on base w o h)) (sym (held_still keeps o w)) (s.tracks o w);
  ends = s.ends;
}

-- no chain of an object is one of a name
pub strange : {hz : ℕ} {chains : Chains Version} {kept : Objects} {table : Table} {base : Base} {h : List Record} → NamesStand base hz chains kept table h → (o : ObjectId) (k : Kept) (w : Which) → found_in kept o ≡ Some k → IsForeign table (chain_of w k)
strange s o k w got p n has = not_both _ (eq-eqb (chain_of w k) (chain_of w k) refl) (s.apart p n (chain_of w k) has o k w got)

-- a name was given room, and a chain where it had none
pub record GivesRoom (old new : Chains Version) (before after : Table) (purse : Purse) (name : List ℕ) : Type 0 where
  pub waiting : waiting_in after ≡ waiting_in before
  pub names : (p : Purse) → names_in new after p ≡ names_in old before p
  pub bindings : (p : Purse) (n : List ℕ) → bindings_in new after p n ≡ bindings_in old before p n
  pub others : (c : ℕ) → IsOpen old c → items_of new c ≡ items_of old c
  pub still : StillOpen old new
  pub own : (p : Purse) (n : List ℕ) (c : ℕ) → chain_at after p n ≡ Some c → IsOpen old c → chain_at before p n ≡ Some c
  pub asked : OpensFor before after purse name
  pub leaves : LeavesNoChain old new before after
  pub used : item_count new ≡ item_count old

module _ {base : Base} {size : ℕ} {chains : Chains Version} {kept : Objects} {serials : Purse → ℕ} {table : Table} {h : List Record} (s : StandsFor base size chains kept serials table h) (new : Chains Version) (table' : Table) where
  -- where a name was refused room
  pub stands_roomless : Holds new table' → Waits new table' → waiting_in table' ≡ waiting_in table → ((p : Purse) → names_in new table' p ≡ names_in chains table p) → ((p : Purse) (n : List ℕ) → bindings_in new table' p n ≡ bindings_in chains table p n)
      → ((c : ℕ) → IsOpen chains c → items_of new c ≡ items_of chains c) → StillOpen chains new → KeepsChains table table' → LeavesNoChain chains new table table' → item_count new ≡ item_count chains
      → StandsFor base size new kept serials table' h
  stands_roomless holds waits waiting names bindings others still own leaves same = record {
    sound = s.sound;
    objects = objects_beside s.objects (record {
      opened = λ o k w got. still (chain_of w k) (s.objects.holds.chained.opened o k w got);
      items = λ o k w got. others (chain_of w k) (s.objects.holds.chained.opened o k w got);
    });
    names = s.names;
    partitions = record {
      holds = holds;
      waits = waits;
      bindings = λ p n. subst (λ vs. AgreesWith (horizon_now base h) vs (bindings_on base p n h)) (sym (bindings p n)) (s.partitions.bindings p n);
      names = λ p. lasting_as (horizon_now base h) chains new table table' p (λ n. bindings p n) (names p) refl (s.partitions.names p);
      ends = waiting_same (ap (map (λ e. e.end)) waiting) refl s.partitions.ends;
      none_empty = λ p n there. ap is_any (bindings p n) ∙ s.partitions.none_empty p n (ap is_some (sym (own p n)) ∙ there);
      apart = λ p n c has. s.partitions.apart p n c (sym (own p n) ∙ has);
    };
    tidy = tidy_named s.tidy leaves;
    used = same ∙ s.used;
    balance = subst (λ es. Balances base h size (length (ends_in kept) + length es)) (sym waiting) s.balance;
  }

  -- A RECORD ABOUT A NAME

  stands_named : (r : Record) (sound : IsSound base (h ++ r ∷ [])) → MakesNone r → counted values_ended_by r ≡ 0 → ((o : ObjectId) (w : Which) → versions_on base w o (h ++ r ∷ []) ≡ versions_on base w o h)
      → Holds new table' → Waits new table' → map (λ e. e.end) (waiting_in table') ≡ map (λ e. e.end) (waiting_in table) ++ replicate (counted bindings_ended_by r) r.moment
      → KeepsOthers chains new table → ((p : Purse) (n : List ℕ) (c : ℕ) → chain_at table' p n ≡ Some c → Apart kept c) → NoneIsEmpty new table'
      → ((p : Purse) → filter (is_lasting (horizon_now base h) new table' p) (names_in new table' p) ≡ filter (is_lasting (horizon_now base h) new table' p) (names_of base p (h ++ r ∷ [])))
      → ((p : Purse) (n : List ℕ) → AgreesWith (horizon_now base h) (bindings_in new table' p n) (bindings_on base p n (h ++ r ∷ [])))
      → LeavesNoChain chains new table table' → item_count new ≡ item_count chains + counted made_by r → StandsFor base (size + counted made_by r) new kept serials table' (h ++ r ∷ [])
  stands_named r sound none unended tracks holds waits waiting others apart filled names bindings leaves made = stands_on s r sound none objects (record {
    holds = holds;
    waits = waits;
    bindings = λ p n. agrees_up (horizon_now base h) (horizon_now base (h ++ r ∷ [])) _ _ (horizon_up s r sound) (bindings p n);
    names = λ p. filter-less (is_lasting (horizon_now base (h ++ r ∷ [])) new table' p) (is_lasting (horizon_now base h) new table' p) _ _ (λ n e. lasting-up _ _ (bindings_in new table' p n) (horizon_up s r sound) e) (names p);
    ends = waiting_next (horizon_up s r sound) bindings_ended_by h r waiting s.partitions.ends;
    none_empty = filled;
    apart = apart;
  }) (tidy_named s.tidy leaves) made (no-more (ends_in kept) r.moment unended) waiting
    where
      beside : ObjectsStand base (horizon_now base h) new kept h
      beside = objects_beside s.objects (record {
        opened = λ o k w got. others.still (chain_of w k) (s.objects.holds.chained.opened o k w got);
        items = λ o k w got. others.items (chain_of w k) (s.objects.holds.chained.opened o k w got) (strange s.partitions o k w got);
      })

      objects : ObjectsStand base (horizon_now base (h ++ r ∷ [])) new kept (h ++ r ∷ [])
      objects = objects_next s r sound beside.holds (λ o. refl) none (λ q u. agrees_as refl (tracks q u) (beside.tracks q u))
          (no-more (ends_in kept) r.moment unended)

-- bindings that are ended are there still
any-if : (b : Bool) (m : ℕ) (vs : List Version) → is_any (if b then with_end m vs else vs) ≡ is_any vs
any-if true m vs = ended-any m vs
any-if false m vs = refl

same-count : (n m : ℕ) → m ≡ 0 → n ≡ n + m
same-count n m e = omega (arith, e)

unmoved : {A : Type 0} (b : Bool) (x : A) → cond b x x ≡ x
unmoved true x = refl
unmoved false x = refl

-- the versions of a name's bindings
abbrev laid-on : Purse → List ℕ → List (Value ℕ) → List Version
laid-on p m values = laid_by (λ serial. 64 + length m) (λ v. Some (item.Bind (object_in p v.value))) values

-- a test that is made twice
twice : {A : Type 0} (b c : Bool) (x y : A) → cond b (cond (b && c) x y) y ≡ cond (b && c) x y
twice true c x y = refl
twice false c x y = refl

twice-alone : {A : Type 0} (b : Bool) (x y : A) → cond b (cond b x y) y ≡ cond b x y
twice-alone true x y = refl
twice-alone false x y = refl

-- the versions on each track, where a request is about a purse but about none of its objects
module _ (base : Base) (h : List Record) (t : ℕ) (caller : Caller) (o : ObjectId) (request : Request) (about : (p : Purse) → concerns p (record { moment = t; caller = caller; request = request; reply = Done }) ≡ same_purse o.purse p)
    (kind : is_create request ≡ false) (plain : (q : ObjectId) → model.span_of q request ≡ None) (undeleted : (q : ObjectId) → model.is_deleted q request ≡ false)
    (keeps-data : (q : ObjectId) (old : List ℕ) → model.data_effect q request old ≡ None) (keeps-attributes : (q : ObjectId) (old : List ℕ) → model.attribute_effect q request old ≡ None) (keeps-acl : (q : ObjectId) (old : List AclEntry) → model.acl_effect q request old ≡ None) where
  abbrev told : Record
  told = record { moment = t; caller = caller; request = request; reply = Done }

  pub tracks-idle : (q : ObjectId) (w : Which) → versions_on base w q (h ++ told ∷ []) ≡ versions_on base w q h
  tracks-idle q which.Data = ap (laid model.data_track item.Data) (idle base h told o about (λ q. refl) kind plain model.data_track q (undeleted q) (keeps-data q))
  tracks-idle q which.Attributes = ap (laid model.attribute_track item.Attr) (idle base h told o about (λ q. refl) kind plain model.attribute_track q (undeleted q) (keeps-attributes q))
  tracks-idle q which.Acl = ap (laid model.acl_track item.Acl) (idle base h told o about (λ q. refl) kind plain model.acl_track q (undeleted q) (keeps-acl q))

-- A NAME IS BOUND

bound-laid : (m : ℕ) (name : List ℕ) (o : ObjectId) (p : Purse) (n : List ℕ) (old : List (Value ℕ)) → same_purse o.purse p ≡ true → same_name name n ≡ true
    → laid_by (λ serial. 64 + length n) (λ v. Some (item.Bind (object_in p v.value))) old ++ binding m name o ∷ [] ≡ laid_by (λ serial. 64 + length n) (λ v. Some (item.Bind (object_in p v.value))) (model.begun m o.serial ∷ old)
bound-laid m name o p n old e f =
    let is : object_in p o.serial ≡ o = ap (λ x. object_in x o.serial) (sym (purse_is o.purse p e)) in
    ap (λ w. laid_by (λ serial. 64 + length n) (λ v. Some (item.Bind (object_in p v.value))) old ++ w ∷ [])
    (λ i. record { begin = m; end = None; item = Some (item.Bind (sym is i)); cost = 64 + length (name_is name n f i) })

module _ {base : Base} {size : ℕ} {chains : Chains Version} {kept : Objects} {serials : Purse → ℕ} {table : Table} {h : List Record} (s : StandsFor base size chains kept serials table h) {r : Record} (n : IsNext base h r) (granted : is_refused r.reply ≡ false) where
  -- no binding that waits ended later than the record
  pub later_then : all_by r.moment (waiting_in table) ≡ true
  later_then =
      let later : last_of h ≤ r.moment = n.later in
      let low : base.floor ≤ r.moment = (let floor = floor-now s.sound in omega (arith, floor, later)) in
      let all : list_all (λ x. nat_le x.moment r.moment) h ≡ true = all_by-up (last_of h) r.moment h n.later (none-newer s.sound) in
      sym (list_all-map (λ end. nat_le end r.moment) (λ e. e.end) (waiting_in table)) ∙ waiting_by r.moment (horizon-by base h (last_of h) r.moment low all n.later) (ends-by bindings_ended_by r.moment h all) s.partitions.ends

  module _ (name : List ℕ) (o : ObjectId) (asked : r.request ≡ PCreate name o) where
    bound-accepted : is_refused (told-of base h r.moment r.caller (PCreate name o)) ≡ false
    bound-accepted = accepted-asked n granted (PCreate name o) asked

    abbrev bound-record : Record
    bound-record = record { moment = r.moment; caller = r.caller; request = PCreate name o; reply = Done }

    bound-is : r ≡ bound-record
    bound-is =
        let told' : r.reply ≡ Done = told-asked n granted (PCreate name o) asked ∙ bound-done base h r.moment r.caller name o bound-accepted in
        λ i. record { moment = r.moment; caller = r.caller; request = asked i; reply = told' i }

    bound-on : (p : Purse) (m : List ℕ) → bindings_on base p m (h ++ bound-record ∷ []) ≡ (if same_purse o.purse p && same_name name m then bindings_on base p m h ++ binding r.moment name o ∷ [] else bindings_on base p m h)
    bound-on p m = ap (laid-on p m) (bindings-snoc p m base h bound-record ∙ twice (same_purse o.purse p) (same_name name m) (model.begun r.moment o.serial ∷ bindings base p m h) (bindings base p m h))
        ∙ by_test (same_purse o.purse p && same_name name m)
        (λ e. let parts = both (same_purse o.purse p) (same_name name m) e in
        ap (λ b. laid-on p m (cond b (model.begun r.moment o.serial ∷ bindings base p m h) (bindings base p m h))) e
        ∙ sym (bound-laid r.moment name o p m (bindings base p m h) parts.0 parts.1)
        ∙ sym (ap (λ b. if b then bindings_on base p m h ++ binding r.moment name o ∷ [] else bindings_on base p m h) e))
        (λ e. ap (λ b. laid-on p m (cond b (model.begun r.moment o.serial ∷ bindings base p m h) (bindings base p m h))) e
        ∙ sym (ap (λ b. if b then bindings_on base p m h ++ binding r.moment name o ∷ [] else bindings_on base p m h) e))

    bound-names : (p : Purse) → names_of base p (h ++ bound-record ∷ []) ≡ cond (same_purse o.purse p) (with_name name (names_of base p h)) (names_of base p h)
    bound-names p = names_of-snoc p base h bound-record ∙ twice-alone (same_purse o.purse p) (with_name name (names_of base p h)) (names_of base p h)

    -- from room for the name on
    module _ {mid : Chains Version} {roomy : Table} (g : GivesRoom chains mid table roomy o.purse name) (new : Chains Version) (table' : Table) (others : KeepsOthers mid new roomy) (own : KeepsChains roomy table')
        (held-then : (p : Purse) (m : List ℕ) → bindings_in new table' p m ≡ (if same_purse o.purse p && same_name name m then bindings_in mid roomy p m ++ binding r.moment name o ∷ [] else bindings_in mid roomy p m)) where
      others-bound : KeepsOthers chains new table
      others-bound = record {
        still = λ c opened. others.still c (g.still c opened);
        items = λ c opened foreign. others.items c (g.still c opened) (λ p m got. foreign p m (g.own p m c got opened)) ∙ g.others c opened;
      }

      held-bound : (p : Purse) (m : List ℕ) → bindings_in new table' p m ≡ (if same_purse o.purse p && same_name name m then bindings_in chains table p m ++ binding r.moment name o ∷ [] else bindings_in chains table p m)
      held-bound p m = held-then p m ∙ ap (λ vs. if same_purse o.purse p && same_name name m then vs ++ binding r.moment name o ∷ [] else vs) (g.bindings p m)

      apart-bound : (p : Purse) (m : List ℕ) (c : ℕ) → chain_at table' p m ≡ Some c → Apart kept c
      apart-bound p m c has q k w got = by_test (c == chain_of w k)
          (λ e. let is : c ≡ chain_of w k = eqb-true c (chain_of w k) e in
          absurd (strange s.partitions q k w got p m (g.own p m c (sym (own p m) ∙ has) (subst (IsOpen chains) (sym is) (s.objects.holds.chained.opened q k w got)) ∙ ap (λ x. Some x) is)))
          (λ e. e)

      -- the name has its binding, and each other one has what it had
      filled-bound : NoneIsEmpty new table'
      filled-bound p m there = ap is_any (held-bound p m) ∙ by_test (same_purse o.purse p && same_name name m)
          (λ e. ap (λ b. is_any (if b then bindings_in chains table p m ++ binding r.moment name o ∷ [] else bindings_in chains table p m)) e ∙ any-snoc (bindings_in chains table p m) (binding r.moment name o))
          (λ e. ap (λ b. is_any (if b then bindings_in chains table p m ++ binding r.moment name o ∷ [] else bindings_in chains table p m)) e
          ∙ s.partitions.none_empty p m (ap is_some (sym (own p m ∙ g.asked.others p m e)) ∙ there))

    pub stands_bound : IsSound base (h ++ r ∷ []) → {mid : Chains Version} {roomy : Table} → GivesRoom chains mid table roomy o.purse name
        → (new : Chains Version) (table' : Table) → Holds new table' → Waits new table' → waiting_in table' ≡ waiting_in roomy → KeepsOthers mid new roomy → KeepsChains roomy table'
        → ((p : Purse) → names_in new table' p ≡ (if same_purse o.purse p then with_name name (names_in mid roomy p) else names_in mid roomy p))
        → ((p : Purse) (m : List ℕ) → bindings_in new table' p m ≡ (if same_purse o.purse p && same_name name m then bindings_in mid roomy p m ++ binding r.moment name o ∷ [] else bindings_in mid roomy p m))
        → LeavesNoChain mid new roomy table' → item_count new ≡ item_count mid + 1 → StandsFor base (size + counted made_by r) new kept serials table' (h ++ r ∷ [])
    stands_bound sound g new table' holds waits waiting others own names-then held-then leaves made =
        let held = held-bound g new table' others own held-then in
        let names : (p : Purse) → names_in new table' p ≡ (if same_purse o.purse p then with_name name (names_in chains table p) else names_in chains table p)
        = λ p. names-then p ∙ ap (λ ns. if same_purse o.purse p then with_name name ns else ns) (g.names p) in
        subst (λ x. StandsFor base (size + counted made_by x) new kept serials table' (h ++ x ∷ [])) (sym bound-is)
        (stands_named s new table' bound-record (subst (λ x. IsSound base (h ++ x ∷ [])) bound-is sound)
        (makes-none base h bound-record o (λ p. refl) (λ q. refl) refl) refl
        (tracks-idle base h r.moment r.caller o (PCreate name o) (λ p. refl) refl (λ q. refl) (λ q. refl) (λ q old. refl) (λ q old. refl) (λ q old. refl))
        holds waits (ap (map (λ e. e.end)) (waiting ∙ g.waiting) ∙ no-more (map (λ e. e.end) (waiting_in table)) r.moment refl) (others-bound g new table' others own held-then) (apart-bound g new table' others own held-then) (filled-bound g new table' others own held-then)
        (λ p. by_test (same_purse o.purse p)
        (λ e. let hz : ℕ = horizon_now base h in
        let more : (names : List (List ℕ)) → IsStrictlySortedBy name_cmp names → with_name name (filter (is_lasting hz chains table p) names) ≡ filter (is_lasting hz new table' p) (with_name name names)
        = λ names sorted. filter-with name (is_lasting hz new table' p) (is_lasting hz chains table p)
        (λ m other. ap (λ vs. is_any (unexpired hz vs)) (held p m ∙ ap (λ b. if same_purse o.purse p && b then bindings_in chains table p m ++ binding r.moment name o ∷ [] else bindings_in chains table p m) other
        ∙ ap (λ b. if b then bindings_in chains table p m ++ binding r.moment name o ∷ [] else bindings_in chains table p m) (&&-false (same_purse o.purse p))))
        (ap (λ vs. is_any (unexpired hz vs)) (held p name ∙ ap (λ b. if b && same_name name name then bindings_in chains table p name ++ binding r.moment name o ∷ [] else bindings_in chains table p name) e
        ∙ ap (λ b. if b then bindings_in chains table p name ++ binding r.moment name o ∷ [] else bindings_in chains table p name) (name_self name)) ∙ lasting-more hz (bindings_in chains table p name) (binding r.moment name o) refl)
        names sorted in
        ap (filter (is_lasting hz new table' p)) (names p ∙ ap (λ b. if b then with_name name (names_in chains table p) else names_in chains table p) e)
        ∙ sym (more (names_in chains table p) (IsStrictlySortedBy-filter name_cmp _ _ (s.partitions.holds.sorted p))) ∙ ap (with_name name) (s.partitions.names p) ∙ more (names_of base p h) (s.sound.sorted p)
        ∙ ap (filter (is_lasting hz new table' p)) (sym (bound-names p ∙ ap (λ b. cond b (with_name name (names_of base p h)) (names_of base p h)) e)))
        (λ e. lasting_as (horizon_now base h) chains new table table' p (λ m. held p m ∙ ap (λ b. if b && same_name name m then bindings_in chains table p m ++ binding r.moment name o ∷ [] else bindings_in chains table p m) e)
        (names p ∙ ap (λ b. if b then with_name name (names_in chains table p) else names_in chains table p) e)
        (bound-names p ∙ ap (λ b. cond b (with_name name (names_of base p h)) (names_of base p h)) e) (s.partitions.names p)))
        (λ p m. agrees_as (held p m) (bound-on p m) (agrees_if (same_purse o.purse p && same_name name m) (agrees_more (horizon_now base h) (binding r.moment name o) _ _ (s.partitions.bindings p m)) (s.partitions.bindings p m)))
        (λ c opened foreign. let was = leaves c opened foreign in g.leaves c was.0 was.1) (made ∙ ap (λ n. n + 1) g.used))

    -- it wasn't bound, so what is held of it isn't current
    pub unbound_before : object_of (current_of (bindings_in chains table o.purse name)) ≡ None
    unbound_before = bound-in s o.purse name r.moment n.later None tt
        ∙ none (bound_at base o.purse name r.moment h) (was_unbound base h r.moment r.caller name o bound-accepted)
      where
        none : (x : Option ℕ) → is_some x ≡ false → option_map (object_in o.purse) x ≡ None
        none None e = refl
        none (Some v) e = cc

  -- A NAME IS BOUND NO LONGER

  module _ (purse : Purse) (name : List ℕ) (asked : r.request ≡ PDelete purse name) where
    unbound-accepted : is_refused (told-of base h r.moment r.caller (PDelete purse name)) ≡ false
    unbound-accepted = accepted-asked n granted (PDelete purse name) asked

    abbrev unbound-record : Record
    unbound-record = record { moment = r.moment; caller = r.caller; request = PDelete purse name; reply = Done }

    unbound-is : r ≡ unbound-record
    unbound-is =
        let told' : r.reply ≡ Done = told-asked n granted (PDelete purse name) asked ∙ unbound-done base h r.moment r.caller purse name unbound-accepted in
        λ i. record { moment = r.moment; caller = r.caller; request = asked i; reply = told' i }

    pub bound_before : is_some (serial_now (bindings_in chains table purse name)) ≡ true
    bound_before = ap is_some (serial-now s purse name r.moment n.later) ∙ was_bound base h r.moment r.caller purse name unbound-accepted

    ended-laid : (values : List (Value ℕ)) → ValuesStand (last_of h) values → is_some (option_map (λ v. v.value) (in_force_by r.moment values)) ≡ true
        → with_end r.moment (laid_by (λ serial. 64 + length name) (λ v. Some (item.Bind (object_in purse v.value))) values) ≡ laid_by (λ serial. 64 + length name) (λ v. Some (item.Bind (object_in purse v.value))) (model.with_end r.moment values)
    ended-laid [] b e = refl
    ended-laid (v ∷ past) b e =
        with_end-snoc r.moment (laid_by (λ serial. 64 + length name) (λ v. Some (item.Bind (object_in purse v.value))) past) (as_version purse name v)
        ∙ ap (λ x. laid_by (λ serial. 64 + length name) (λ v. Some (item.Bind (object_in purse v.value))) past ++ record { begin = v.begin; end = x; item = Some (item.Bind (object_in purse v.value)); cost = 64 + length name } ∷ []) (ap (end_at r.moment) current ∙ sym (ap (model.end_at r.moment) current))
      where
        open-end : (x : Option ℕ) → EndsBy (last_of h) x → v.end ≡ x → v.end ≡ None
        open-end None y f = f
        open-end (Some end) y f =
            let low : v.begin ≤ last_of h = b.0 in
            let later : last_of h ≤ r.moment = n.later in
            let begun : nat_le v.begin r.moment ≡ true = grind arith in
            let over : nat_le end r.moment ≡ true = grind arith in
            let none : in_force_by r.moment (v ∷ past) ≡ None = ap (λ c. if c then (if ends_by r.moment v.end then None else Some v) else in_force_by r.moment past) begun ∙ ap (λ x. if ends_by r.moment x then None else Some v) f ∙ ap (λ c. if c then None else Some v) over in
            let no : false ≡ true = sym (ap (λ x. is_some (option_map (λ v. v.value) x)) none) ∙ e in
            cc

        current : v.end ≡ None
        current = open-end v.end b.1 refl

    unbound-on : (p : Purse) (m : List ℕ) → bindings_on base p m (h ++ unbound-record ∷ []) ≡ (if same_purse purse p && same_name name m then with_end r.moment (bindings_on base p m h) else bindings_on base p m h)
    unbound-on p m = ap (laid-on p m) (bindings-snoc p m base h unbound-record ∙ twice (same_purse purse p) (same_name name m) (model.with_end r.moment (bindings base p m h)) (bindings base p m h))
        ∙ by_test (same_purse purse p && same_name name m)
        (λ e. let parts = both (same_purse purse p) (same_name name m) e in
        ap (λ b. laid-on p m (cond b (model.with_end r.moment (bindings base p m h)) (bindings base p m h))) e
        ∙ subst (λ x. laid-on x m (model.with_end r.moment (bindings base x m h)) ≡ with_end r.moment (bindings_on base x m h)) (purse_is purse p parts.0)
        (subst (λ y. laid-on purse y (model.with_end r.moment (bindings base purse y h)) ≡ with_end r.moment (bindings_on base purse y h)) (name_is name m parts.1)
        (sym (ended-laid (bindings base purse name h) (s.sound.bindings purse name) (was_bound base h r.moment r.caller purse name unbound-accepted))))
        ∙ sym (ap (λ b. if b then with_end r.moment (bindings_on base p m h) else bindings_on base p m h) e))
        (λ e. ap (λ b. laid-on p m (cond b (model.with_end r.moment (bindings base p m h)) (bindings base p m h))) e
        ∙ sym (ap (λ b. if b then with_end r.moment (bindings_on base p m h) else bindings_on base p m h) e))

    pub stands_unbound : IsSound base (h ++ r ∷ []) → (new : Chains Version) (table' : Table) → Holds new table' → Waits new table' → waiting_in table' ≡ waiting_in table ++ record { end = r.moment; purse = purse; name = name } ∷ [] → KeepsOthers chains new table → ((p : Purse) (m : List ℕ) → chain_at table' p m ≡ chain_at table p m)
        → ((p : Purse) → names_in new table' p ≡ names_in chains table p)
        → ((p : Purse) (m : List ℕ) → bindings_in new table' p m ≡ (if same_purse purse p && same_name name m then with_end r.moment (bindings_in chains table p m) else bindings_in chains table p m))
        → LeavesNoChain chains new table table' → item_count new ≡ item_count chains → StandsFor base (size + counted made_by r) new kept serials table' (h ++ r ∷ [])
    stands_unbound sound new table' holds waits waiting others own names held leaves made = subst (λ x. StandsFor base (size + counted made_by x) new kept serials table' (h ++ x ∷ [])) (sym unbound-is)
        (stands_named s new table' unbound-record (subst (λ x. IsSound base (h ++ x ∷ [])) unbound-is sound)
        (makes-none base h unbound-record (object_in purse 0) (λ p. refl) (λ q. refl) refl) refl
        (tracks-idle base h r.moment r.caller (object_in purse 0) (PDelete purse name) (λ p. refl) refl (λ q. refl) (λ q. refl) (λ q old. refl) (λ q old. refl) (λ q old. refl))
        holds waits (ap (map (λ e. e.end)) waiting ∙ map-append (λ e. e.end) (waiting_in table) (record { end = r.moment; purse = purse; name = name } ∷ [])) others
        (λ p m c has. s.partitions.apart p m c (sym (own p m) ∙ has))
        (λ p m there. ap is_any (held p m) ∙ any-if (same_purse purse p && same_name name m) r.moment (bindings_in chains table p m) ∙ s.partitions.none_empty p m (ap is_some (sym (own p m)) ∙ there))
        (λ p. filter-less (is_lasting (horizon_now base h) new table' p) (is_lasting (horizon_now base h) chains table p) _ _
        (λ m e. ap (λ vs. is_any (unexpired (horizon_now base h) vs)) (held p m) ∙ lasting-end (horizon_now base h) r.moment (same_purse purse p && same_name name m) (bindings_in chains table p m) e)
        (ap (filter (is_lasting (horizon_now base h) chains table p)) (names p) ∙ s.partitions.names p
        ∙ ap (filter (is_lasting (horizon_now base h) chains table p)) (sym (names_of-snoc p base h unbound-record ∙ unmoved (same_purse purse p) (names_of base p h)))))
        (λ p m. agrees_as (held p m) (unbound-on p m) (agrees_if (same_purse purse p && same_name name m) (agrees_end (horizon_now base h) r.moment _ _ (s.partitions.bindings p m)) (s.partitions.bindings p m))) leaves (made ∙ same-count (item_count chains) (counted made_by unbound-record) refl))

-- THE ADMINISTRATOR'S RECORDS

module _ {base : Base} {size : ℕ} {chains : Chains Version} {kept : Objects} {serials : Purse → ℕ} {table : Table} {h : List Record} (s : StandsFor base size chains kept serials table h) {r : Record} (n : IsNext base h r) (granted : is_refused r.reply ≡ false) where
  abbrev done-of : Request → Record
  done-of request = record { moment = r.moment; caller = r.caller; request = request; reply = Done }

  done-is : (request : Request) → r.request ≡ request → told-of base h r.moment r.caller request ≡ Done → r ≡ done-of request
  done-is request asked told' = λ i. record { moment = r.moment; caller = r.caller; request = asked i; reply = (told-asked n granted request asked ∙ told') i }

  -- a record that sets a budget changes nothing of objects and names
  pub stands_budget : {purse : Purse} {budget : ℕ} → r.request ≡ SetBudget purse budget → IsSound base (h ++ r ∷ []) → StandsFor base (size + counted made_by r) chains kept serials table (h ++ r ∷ [])
  stands_budget {purse} {budget} asked sound =
      let set : Record = done-of (SetBudget purse budget) in
      let is : r ≡ set = done-is (SetBudget purse budget) asked (budget-done base h r.moment r.caller purse budget (accepted-asked n granted (SetBudget purse budget) asked)) in
      subst (λ x. StandsFor base (size + counted made_by x) chains kept serials table (h ++ x ∷ [])) (sym is)
      (stands_still s set (subst (λ x. IsSound base (h ++ x ∷ [])) is sound) (λ q. refl) refl (λ q. refl) (λ q. refl) (λ q old. refl) (λ q old. refl) (λ q old. refl)
      (record { bindings = λ p m old. unmoved (concerns p set) old; names = λ p old. unmoved (concerns p set) old }) (record { made = refl; values = refl; bindings = refl }))

  -- nor does one that sets the window
  pub stands_window : {ticks : ℕ} → r.request ≡ SetWindow ticks → IsSound base (h ++ r ∷ []) → StandsFor base (size + counted made_by r) chains kept serials table (h ++ r ∷ [])
  stands_window {ticks} asked sound =
      let set : Record = done-of (SetWindow ticks) in
      let is : r ≡ set = done-is (SetWindow ticks) asked (window-done base h r.moment r.caller ticks (accepted-asked n granted (SetWindow ticks) asked)) in
      subst (λ x. StandsFor base (size + counted made_by x) chains kept serials table (h ++ x ∷ [])) (sym is)
      (stands_still s set (subst (λ x. IsSound base (h ++ x ∷ [])) is sound) (λ q. refl) refl (λ q. refl) (λ q. refl) (λ q old. refl) (λ q old. refl) (λ q old. refl)
      (record { bindings = λ p m old. unmoved (concerns p set) old; names = λ p old. unmoved (concerns p set) old }) (record { made = refl; values = refl; bindings = refl }))
