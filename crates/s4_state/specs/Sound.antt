-- What holds of every history whose records were answered in turn.
use Rattle.std.specs.Prelude.{◌≡◌, ℕ, ◌≤◌, ◌<◌, true, false, not, is_some, Option, Some, None, List, [], ◌∷◌, ◌++◌, length}
use Rattle.std.specs.List.{list_all, list_any}
use Rattle.std.specs.List.Sorted.{IsStrictlySortedBy}
use Rattle.s4_types.specs.declared.object.Purse.{Purse}
use Rattle.s4_types.specs.declared.object.ObjectId.{ObjectId}
use Rattle.s4_types.specs.declared.acl.AclEntry.{AclEntry}
use Rattle.s4_types.specs.declared.principal.Caller.{Caller}
use Rattle.s4_types.specs.declared.request.Request.{Request}
use Rattle.s4_types.specs.declared.request.Request.TheVariants.{Create, Delete, PCreate, PDelete}
use Rattle.s4_types.specs.declared.reply.Reply.{Reply}
use Rattle.s4_types.specs.declared.reply.Reply.TheVariants.{Done, Made}
use Rattle.s4_types.specs.declared.record.Record.{Record}
use Rattle.s4_types.specs.Acl.{IsAcl}
use Rattle.s4_types.specs.Versions.{Value, versions, data_track, attribute_track, acl_track}
use Rattle.s4_types.specs.Bindings.{bindings, names_of}
use Rattle.s4_types.specs.Name.{same_name, name_cmp}
use Rattle.s4_types.specs.Names.{object_in}
use Rattle.s4_types.specs.Kinds.{is_accepted}
use Rattle.s4_types.specs.Base.{Base}
use Rattle.s4_types.specs.Answer.{answer}
use Rattle.s4_types.specs.Serials.{drawn}
use Rattle.s4_types.specs.Play.{last_of, is_no_memory}
use Rattle.s4_cuts.specs.Cut.{object_left, is_left, IsHistory}
use Rattle.s4_objects.specs.declared.kept.Which.{Which}
use Rattle.s4_objects.specs.declared.kept.Which.TheVariants as which
use Rattle.s4_state.specs.Laid.{versions_on}

-- which values a track may have
abbrev pub DataFits : List ℕ → Type 0
DataFits bytes = length bytes ≤ 65536

abbrev pub AttributesFit : List ℕ → Type 0
AttributesFit bytes = length bytes ≤ 256

abbrev pub AclFits : List AclEntry → Type 0
AclFits acl = IsAcl acl

-- each of the values fits
abbrev pub AllFit : {V : Type 0} → (V → Type 0) → List (Value V) → Type 0
AllFit Fits [] = Unit {0}
AllFit Fits (v ∷ past) = Fits v.value × AllFit Fits past

-- each value that the track ever had fits
abbrev pub FitsOn : Base → Which → ObjectId → List Record → Type 0
FitsOn base which.Data o h = AllFit DataFits (versions base data_track o h)
FitsOn base which.Attributes o h = AllFit AttributesFit (versions base attribute_track o h)
FitsOn base which.Acl o h = AllFit AclFits (versions base acl_track o h)

-- the end, if there is one, is at most the moment
abbrev pub EndsBy : ℕ → Option ℕ → Type 0
EndsBy last None = Unit {0}
EndsBy last (Some end) = end ≤ last

-- the newest value, if there is one, began by the moment, and where it ended, it ended by then
abbrev pub ValuesStand : {V : Type 0} → ℕ → List (Value V) → Type 0
ValuesStand last [] = Unit {0}
ValuesStand last (v ∷ past) = (v.begin ≤ last) × EndsBy last v.end

abbrev pub StandsOn : Base → Which → ObjectId → ℕ → List Record → Type 0
StandsOn base which.Data o last h = ValuesStand last (versions base data_track o h)
StandsOn base which.Attributes o last h = ValuesStand last (versions base attribute_track o h)
StandsOn base which.Acl o last h = ValuesStand last (versions base acl_track o h)

-- what an accepted request finds once the records stand: a Create no object where it makes one, a PCreate a name that isn't bound, and
-- a Delete and a PDelete what they end
abbrev pub Finds : Base → List Record → Caller → Request → Reply → Type 0
Finds base h caller (Create number) reply =
    (serial : ℕ) × (reply ≡ Made (object_in (record { creator = caller.who; number = number }) serial))
    × (is_some (object_left base h (object_in (record { creator = caller.who; number = number }) serial)) ≡ false)
Finds base h caller (Delete o) reply = (reply ≡ Done) × (is_some (object_left base h o) ≡ true)
Finds base h caller (PCreate name o) reply = (reply ≡ Done) × (is_left base h o.purse name ≡ false)
Finds base h caller (PDelete purse name) reply = (reply ≡ Done) × (is_left base h purse name ≡ true)
Finds base h caller _ reply = reply ≡ Done

-- after the earlier records each of the later ones finds so
abbrev pub AllFind : Base → List Record → List Record → Type 0
AllFind base early [] = Unit {0}
AllFind base early (r ∷ late) = (is_accepted r ≡ true → Finds base early r.caller r.request r.reply) × AllFind base (early ++ r ∷ []) late

-- the records were answered in turn, up to the moment
pub record IsSoundBy (base : Base) (last : ℕ) (h : List Record) : Type 0 where
  -- the records go on from the base and never back, up to the moment
  pub history : IsHistory base h last
  -- an object whose serial wasn't drawn has no values
  pub undrawn : (o : ObjectId) (w : Which) → drawn base o.purse h < o.serial → versions_on base w o h ≡ []
  -- no value begins or ends later
  pub tracks : (o : ObjectId) (w : Which) → StandsOn base w o last h
  pub values : (o : ObjectId) (w : Which) → FitsOn base w o h
  -- the names of a purse stand in their order, each once, and a name that isn't among them has no binding
  pub sorted : (p : Purse) → IsStrictlySortedBy name_cmp (names_of base p h)
  pub listed : (p : Purse) (name : List ℕ) → list_any (same_name name) (names_of base p h) ≡ false → bindings base p name h ≡ []
  pub bindings : (p : Purse) (name : List ℕ) → ValuesStand last (bindings base p name h)
  pub found : AllFind base [] h
  -- want of memory leaves no record
  pub told : list_all (λ r. not (is_no_memory r.reply)) h ≡ true

-- as of the newest record
abbrev pub IsSound : Base → List Record → Type 0
IsSound base h = IsSoundBy base (last_of h) h

-- the record is the next one of the history
pub record IsNext (base : Base) (h : List Record) (r : Record) : Type 0 where
  pub later : last_of h ≤ r.moment
  pub answered : r.reply ≡ answer base h r.moment r.caller r.request
