-- What the past of a purse weighs, by any weight of an end and a cost, and what a flush takes back. Spending is one such weight.
use Rattle.std.specs.Prelude.{ℕ, ◌+◌, Option, Some, None, List, sum_by, if◌then◌else◌}
use Rattle.s4_types.specs.declared.object.Purse.{Purse}
use Rattle.s4_types.specs.declared.object.ObjectId.{ObjectId}
use Rattle.s4_types.specs.declared.record.Record.{Record}
use Rattle.s4_types.specs.Names.{object_in}
use Rattle.s4_types.specs.Base.{Base}
use Rattle.s4_types.specs.Bindings.{bindings, names_of}
use Rattle.s4_types.specs.Serials.{drawn}
use Rattle.s4_types.specs.Spending.{sum_to, binding_cost}
use Rattle.s4_types.specs.Contents.{data_of, attributes_of, acl_of}
use Rattle.s4_objects.specs.declared.kept.Which.{Which}
use Rattle.s4_objects.specs.declared.kept.Which.TheVariants as which
use Rattle.s4_types.specs.Versions.{Track, Value, versions, data_track, attribute_track, acl_track}
use Rattle.s4_types.specs.Erased.{covers}

-- what the value in force on one of an object's tracks costs once it is past
abbrev pub cost_now : Base → Which → ObjectId → ℕ → List Record → ℕ
cost_now base which.Data o t h = data_track.cost (data_of base o t h)
cost_now base which.Attributes o t h = attribute_track.cost (attributes_of base o t h)
cost_now base which.Acl o t h = acl_track.cost (acl_of base o t h)

-- what a value weighs once it is past
abbrev pub weight_of : (ℕ → ℕ → ℕ) → Option ℕ → ℕ → ℕ
weight_of weight None cost = 0
weight_of weight (Some end) cost = weight end cost

-- what a value weighs by its cost once it is past, until a flush erases it
abbrev pub value_weight : {V : Type 0} → (ℕ → ℕ → ℕ) → (V → ℕ) → Value V → ℕ
value_weight weight cost v = if v.is_erased then 0 else weight_of weight v.end (cost v.value)

abbrev pub values_weight : {V : Type 0} → (ℕ → ℕ → ℕ) → (V → ℕ) → List (Value V) → ℕ
values_weight weight cost values = sum_by (value_weight weight cost) values

abbrev pub track_weight : {V : Type 0} → (ℕ → ℕ → ℕ) → Track V → List (Value V) → ℕ
track_weight weight track values = values_weight weight track.cost values

abbrev pub object_weight : Base → (ℕ → ℕ → ℕ) → List Record → ObjectId → ℕ
object_weight base weight h o =
    track_weight weight data_track (versions base data_track o h)
    + track_weight weight attribute_track (versions base attribute_track o h)
    + track_weight weight acl_track (versions base acl_track o h)

-- what the name's past bindings weigh
abbrev pub name_weight : Base → (ℕ → ℕ → ℕ) → Purse → List Record → List ℕ → ℕ
name_weight base weight purse h name = values_weight weight (λ serial. binding_cost name) (bindings base purse name h)

abbrev pub names_weight : Base → (ℕ → ℕ → ℕ) → Purse → List Record → ℕ
names_weight base weight purse h = sum_by (name_weight base weight purse h) (names_of base purse h)

-- the past of a purse: of its objects, and of its names
abbrev pub purse_weight : Base → (ℕ → ℕ → ℕ) → Purse → List Record → ℕ
purse_weight base weight purse h =
    sum_to (drawn base purse h) (λ serial. object_weight base weight h (object_in purse serial))
    + names_weight base weight purse h

-- what the values weigh that the record erases
abbrev pub track_freed : {V : Type 0} → (ℕ → ℕ → ℕ) → Track V → ObjectId → Record → List (Value V) → ℕ
track_freed weight track o r values = sum_by (λ v. if covers o v.begin v.end r then value_weight weight track.cost v else 0) values

-- of an object, its data and its attributes
abbrev pub object_freed : Base → (ℕ → ℕ → ℕ) → List Record → Record → ObjectId → ℕ
object_freed base weight h r o =
    track_freed weight data_track o r (versions base data_track o h)
    + track_freed weight attribute_track o r (versions base attribute_track o h)

-- what the record, as the next one, takes back of a purse's past: nothing, where it is no flush
abbrev pub freed_weight : Base → (ℕ → ℕ → ℕ) → Purse → List Record → Record → ℕ
freed_weight base weight purse h r = sum_to (drawn base purse h) (λ serial. object_freed base weight h r (object_in purse serial))
