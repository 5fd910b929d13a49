-- What the drive keeps stands for its history.
use Rattle.std.specs.Prelude.{◌≡◌, ℕ, Bool, true, false, ◌+◌, ◌≤◌, ◌&&◌, not, Some, List, [], ◌∷◌, ◌++◌, map, filter, length, if◌then◌else◌}
use Rattle.s4_store.specs.Chains.{Chains, IsOpen, item_count}
use Rattle.s4_types.specs.declared.object.Purse.{Purse}
use Rattle.s4_types.specs.declared.object.ObjectId.{ObjectId}
use Rattle.s4_types.specs.declared.readiness.Readiness.{Readiness}
use Rattle.s4_types.specs.declared.readiness.Readiness.TheVariants.{ForNone}
use Rattle.s4_types.specs.declared.record.Record.{Record}
use Rattle.s4_types.specs.declared.request.Request.{Request}
use Rattle.s4_types.specs.declared.version.Version.{Version}
use Rattle.s4_types.specs.declared.version.Item.{Item}
use Rattle.s4_types.specs.Names.{same_object}
use Rattle.s4_types.specs.Versions.{Value, makes}
use Rattle.s4_types.specs.Base.{Base, opened}
use Rattle.s4_types.specs.Bindings.{bindings_after, names_after, names_of}
use Rattle.s4_types.specs.Horizon.{horizon_at, guarded_at}
use Rattle.s4_types.specs.Serials.{drawn, draws}
use Rattle.s4_types.specs.Play.{last_of}
use Rattle.s4_cuts.specs.Cut.{before}
use Rattle.s4_names.specs.Drawn.{drawn_in}
use Rattle.s4_tracks.specs.Chain.{with_put, with_end}
use Rattle.s4_tracks.specs.Swept.{unexpired, AgreesWith}
use Rattle.s4_objects.specs.declared.kept.Which.{Which}
use Rattle.s4_objects.specs.declared.objects.Objects.{Objects}
use Rattle.s4_objects.specs.Chains.{same_which}
use Rattle.s4_objects.specs.Ends.{is_gone}
use Rattle.s4_objects.specs.Table.{kept_in, held_in, ends_in, Holds as ObjectsHold, IsForeign}
use Rattle.s4_parts.specs.declared.parts.Parts.{Parts as Table}
use Rattle.s4_parts.specs.Table as nameless
use Rattle.s4_parts.specs.Table.{Holds, names_in, bindings_in, chain_at, is_any, NoneIsEmpty}
use Rattle.s4_parts.specs.Waiting.{waiting_in, Waits}
use Rattle.s4_state.specs.declared.parts.Parts.{Parts}
use Rattle.s4_state.specs.declared.start.Start.{Start}
use Rattle.s4_types.specs.Log.{Log, is_ready_for}
use Rattle.s4_types.specs.Counts.{made_by, values_ended_by, bindings_ended_by, counted, made_count, object_ends, binding_ends}
use Rattle.s4_state.specs.Current.{Keeps}
use Rattle.s4_state.specs.Laid.{versions_on, bindings_on}
use Rattle.s4_state.specs.Sound.{IsSound}

-- the horizon at the newest record
abbrev pub horizon_now : Base → List Record → ℕ
horizon_now base h = horizon_at base h (last_of h)

-- the ends above the horizon
abbrev pub ends_above : ℕ → List ℕ → List ℕ
ends_above horizon ends = filter (λ end. not (is_gone horizon end)) ends

-- above the horizon the same ends wait, in their order
pub record IsWaiting (horizon : ℕ) (waiting all : List ℕ) : Type 0 where
  pub above : ends_above horizon waiting ≡ ends_above horizon all

-- whether the name has a binding that isn't expired
abbrev pub is_lasting : ℕ → Chains Version → Table → Purse → List ℕ → Bool
is_lasting horizon chains table p n = is_any (unexpired horizon (bindings_in chains table p n))

-- what is kept of objects stands for the history
pub record ObjectsStand (base : Base) (horizon : ℕ) (chains : Chains Version) (kept : Objects) (h : List Record) : Type 0 where
  pub holds : ObjectsHold chains kept
  -- an object that is kept has a serial that was drawn
  pub numbered : (o : ObjectId) → kept_in kept o ≡ true → o.serial ≤ drawn base o.purse h
  -- each track holds the newest values of the definition, and before them on either side only expired ones
  pub tracks : (o : ObjectId) (w : Which) → AgreesWith horizon (held_in chains kept o w) (versions_on base w o h)
  -- the ends of its past values wait in their order
  pub ends : IsWaiting horizon (ends_in kept) (object_ends h)

-- what is kept of names stands for the history
pub record NamesStand (base : Base) (horizon : ℕ) (chains : Chains Version) (kept : Objects) (table : Table)
    (h : List Record) : Type 0 where
  pub holds : Holds chains table
  pub waits : Waits chains table
  -- each name has the newest bindings of the definition, and before them on either side only expired ones
  pub bindings : (p : Purse) (n : List ℕ) → AgreesWith horizon (bindings_in chains table p n) (bindings_on base p n h)
  -- of the names that have a binding that isn't expired the same are there
  pub names : (p : Purse) → filter (is_lasting horizon chains table p) (names_in chains table p)
      ≡ filter (is_lasting horizon chains table p) (names_of base p h)
  -- the ends of past bindings wait in their order
  pub ends : IsWaiting horizon (map (λ e. e.end) (waiting_in table)) (binding_ends h)
  -- no name has a chain without a binding
  pub none_empty : NoneIsEmpty chains table
  -- no track of an object has the chain of a name
  pub apart : (p : Purse) (n : List ℕ) (c : ℕ) → chain_at table p n ≡ Some c → IsForeign kept c

-- each open chain is a track's or a name's
pub record IsTidy (chains : Chains Version) (kept : Objects) (table : Table) : Type 0 where
  pub none_else : (c : ℕ) → IsOpen chains c → IsForeign kept c → nameless.IsForeign table c → ⊥

-- as many are held as the base keeps and as were made, but for those that ended, and for those that wait
pub record Balances (base : Base) (h : List Record) (held waiting : ℕ) : Type 0 where
  pub begun : ℕ
  pub keeps : Keeps base begun
  pub even : held + (length (object_ends h) + length (binding_ends h)) ≡ begun + made_count h + waiting

-- what is kept stands for the history, and the store holds so many values and bindings
pub record StandsFor (base : Base) (size : ℕ) (chains : Chains Version) (kept : Objects) (serials : Purse → ℕ) (table : Table)
    (h : List Record) : Type 0 where
  pub sound : IsSound base h
  pub objects : ObjectsStand base (horizon_now base h) chains kept h
  pub names : (p : Purse) → serials p ≡ drawn base p h
  pub partitions : NamesStand base (horizon_now base h) chains kept table h
  -- no chain is open that is neither a track's nor a name's
  pub tidy : IsTidy chains kept table
  pub used : item_count chains ≡ size
  pub balance : Balances base h size (length (ends_in kept) + length (waiting_in table))

-- what the history starts from
abbrev pub base_in : {S : Type 0} → Parts S → Base
base_in parts = opened parts.start.opened

-- what callers see, where it is made ready for those
abbrev pub log_where : {S : Type 0} → Readiness → (S → Chains Version) → Parts S → Log
log_where ready chains parts = record {
  opened = parts.start.opened;
  cut = parts.start.cut;
  history = parts.history.records;
  held = item_count (chains parts.store);
  ready = ready;
}

-- what callers see where it is for none
abbrev pub log_in : {S : Type 0} → (S → Chains Version) → Parts S → Log
log_in chains parts = log_where ForNone chains parts

-- how many values and bindings the store holds
abbrev pub size_in : {S : Type 0} → (S → Chains Version) → Parts S → ℕ
size_in chains parts = item_count (chains parts.store)

-- what is kept stands for this history, and so many values and bindings are held
abbrev pub Stands : {S : Type 0} → (S → Chains Version) → Parts S → ℕ → List Record → Type 0
Stands chains parts size h = StandsFor (base_in parts) size (chains parts.store) parts.objects (drawn_in parts.names) parts.partitions h

-- what is kept now stands for the records of before and this one more
abbrev pub StandsWith : {S : Type 0} → (S → Chains Version) → Parts S → Parts S → Record → Type 0
StandsWith chains old new r = Stands chains new (size_in chains old + counted made_by r) (old.history.records ++ r ∷ [])

-- what is kept now stands for the records of before
abbrev pub StandsStill : {S : Type 0} → (S → Chains Version) → Parts S → Parts S → Type 0
StandsStill chains old new = Stands chains new (size_in chains old) old.history.records

-- what is kept stands for the history beside it
abbrev pub IsKept : {S : Type 0} → (S → Chains Version) → Parts S → Type 0
IsKept chains parts = Stands chains parts (size_in chains parts) parts.history.records

-- of the records before the cut, and of no others, no byte is kept, and of what they leave these numbers are
pub record HasGone (start : Start) (first : ℕ) (h : List Record) : Type 0 where
  pub gone : first ≡ length (before start.cut h)
  pub window : start.window ≡ guarded_at (opened start.opened) (before start.cut h)
  -- nothing is told of the moments before the cut
  pub below : start.cut ≤ horizon_now (opened start.opened) h

-- what is kept stands for the history beside it, of whose first records nothing more is kept, and where it was made
-- ready for a request there is room for the next record
pub record StateStands {S : Type 0} (chains : S → Chains Version) (parts : Parts S) (ready : Readiness) : Type 0 where
  pub kept : IsKept chains parts
  pub gone : HasGone parts.start parts.history.first parts.history.records
  pub room : (request : Request) → is_ready_for ready request ≡ true → parts.history.has_room ≡ true

-- the record makes no object, and draws no serial
pub record MakesNone (r : Record) : Type 0 where
  pub makes_none : (q : ObjectId) → makes q r ≡ false
  pub draws_none : (p : Purse) → draws p r ≡ false

-- the record binds no name, and ends no binding
pub record RebindsNone (r : Record) : Type 0 where
  pub bindings : (p : Purse) (n : List ℕ) (old : List (Value ℕ)) → bindings_after p n old r ≡ old
  pub names : (p : Purse) (old : List (List ℕ)) → names_after p old r ≡ old

-- so many values and bindings the record makes, and so many it ends
pub record Counts (r : Record) (begun over unbound : ℕ) : Type 0 where
  pub made : counted made_by r ≡ begun
  pub values : counted values_ended_by r ≡ over
  pub bindings : counted bindings_ended_by r ≡ unbound

-- the record puts one value in the place of another, on one of the object's tracks, and does nothing else
pub record PutsOn (base : Base) (h : List Record) (r : Record) (o : ObjectId) (w : Which) (new : Item) : Type 0 where
  pub makes : MakesNone r
  pub rebinds : RebindsNone r
  pub counts : Counts r 1 1 0
  pub tracks : (q : ObjectId) (u : Which) → versions_on base u q (h ++ r ∷ [])
      ≡ (if same_object o q && same_which w u then with_put r.moment new (versions_on base u q h) else versions_on base u q h)

-- the record ends the current values of the object, and does nothing else
pub record EndsAll (base : Base) (h : List Record) (r : Record) (o : ObjectId) : Type 0 where
  pub makes : MakesNone r
  pub rebinds : RebindsNone r
  pub counts : Counts r 0 3 0
  pub tracks : (q : ObjectId) (u : Which) → versions_on base u q (h ++ r ∷ [])
      ≡ (if same_object o q then with_end r.moment (versions_on base u q h) else versions_on base u q h)
