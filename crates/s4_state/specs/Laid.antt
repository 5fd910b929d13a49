-- The definition's values as chains hold them.
use Rattle.std.specs.Prelude.{ℕ, ◌+◌, Option, Some, None, List, [], ◌∷◌, ◌++◌, length, if◌then◌else◌}
use Rattle.std.specs.Option.{option_map}
use Rattle.s4_types.specs.declared.object.Purse.{Purse}
use Rattle.s4_types.specs.declared.object.ObjectId.{ObjectId}
use Rattle.s4_types.specs.declared.record.Record.{Record}
use Rattle.s4_types.specs.declared.version.Version.{Version}
use Rattle.s4_types.specs.declared.version.Item.{Item}
use Rattle.s4_types.specs.declared.version.Item.TheVariants as item
use Rattle.s4_types.specs.Names.{object_in}
use Rattle.s4_types.specs.Bindings.{bindings}
use Rattle.s4_types.specs.Base.{Base}
use Rattle.s4_types.specs.Versions.{Track, Value, versions, value_at, data_track, attribute_track, acl_track}
use Rattle.s4_objects.specs.declared.kept.Which.{Which}
use Rattle.s4_objects.specs.declared.kept.Which.TheVariants as which

-- a value as a version, by what it costs and what is held of it
abbrev pub version_by : {V : Type 0} → (V → ℕ) → (Value V → Option Item) → Value V → Version
version_by cost hold v = record { begin = v.begin; end = v.end; item = hold v; cost = cost v.value }

-- the values, the newest first, as versions, the oldest first
abbrev pub laid_by : {V : Type 0} → (V → ℕ) → (Value V → Option Item) → List (Value V) → List Version
laid_by cost hold [] = []
laid_by cost hold (v ∷ past) = laid_by cost hold past ++ version_by cost hold v ∷ []

-- what is held of a value: nothing once it is erased
abbrev pub item_of : {V : Type 0} → (V → Item) → Value V → Option Item
item_of wrap v = if v.is_erased then None else Some (wrap v.value)

abbrev pub version_of : {V : Type 0} → Track V → (V → Item) → Value V → Version
version_of track wrap v = version_by track.cost (item_of wrap) v

abbrev pub laid : {V : Type 0} → Track V → (V → Item) → List (Value V) → List Version
laid track wrap values = laid_by track.cost (item_of wrap) values

-- all versions that one of the object's tracks ever had
abbrev pub versions_on : Base → Which → ObjectId → List Record → List Version
versions_on base which.Data o h = laid data_track item.Data (versions base data_track o h)
versions_on base which.Attributes o h = laid attribute_track item.Attr (versions base attribute_track o h)
versions_on base which.Acl o h = laid acl_track item.Acl (versions base acl_track o h)

-- the version in force on one of the object's tracks at the moment
abbrev pub version_at : Base → Which → ObjectId → ℕ → List Record → Option Version
version_at base which.Data o m h = option_map (version_of data_track item.Data) (value_at base data_track o m h)
version_at base which.Attributes o m h = option_map (version_of attribute_track item.Attr) (value_at base attribute_track o m h)
version_at base which.Acl o m h = option_map (version_of acl_track item.Acl) (value_at base acl_track o m h)

-- all bindings that the name ever had in the purse, which no flush erases
abbrev pub bindings_on : Base → Purse → List ℕ → List Record → List Version
bindings_on base p name h = laid_by (λ serial. 64 + length name) (λ v. Some (item.Bind (object_in p v.value))) (bindings base p name h)
