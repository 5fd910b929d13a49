-- The page of names that a caller may see.
use Rattle.std.specs.Prelude.{ℕ, Option, Some, None, List, filter, filter_map, flat_map}
use Rattle.s4_types.specs.declared.object.Purse.{Purse}
use Rattle.s4_types.specs.declared.object.ObjectId.{ObjectId}
use Rattle.s4_types.specs.declared.version.Version.{Version}
use Rattle.s4_types.specs.declared.request.After.{After}
use Rattle.s4_types.specs.declared.reply.Grant.{Grant}
use Rattle.s4_types.specs.declared.reply.NameLine.{NameLine}
use Rattle.s4_types.specs.Answer.{is_after, purse_numbers}
use Rattle.s4_store.specs.Chains.{Chains}
use Rattle.s4_tracks.specs.Chain.{version_in}
use Rattle.s4_parts.specs.declared.parts.Parts.{Parts}
use Rattle.s4_parts.specs.Table.{bindings_in, names_in, object_of}

-- the line of a name that is bound to an object, where it is shown
abbrev pub line_with : List ℕ → ObjectId → Option Grant → Option NameLine
line_with name o None = None
line_with name o (Some grant) = Some (record { name = name; object = o; grant = grant })

abbrev pub line_to : (ObjectId → Option Grant) → List ℕ → Option ObjectId → Option NameLine
line_to visible name None = None
line_to visible name (Some o) = line_with name o (visible o)

-- the line of a name with these bindings, where it is bound then and shown
abbrev pub line_of : (ObjectId → Option Grant) → Option ℕ → List ℕ → List Version → Option NameLine
line_of visible at name bindings = line_to visible name (object_of (version_in at bindings))

-- the lines of one purse that come after the place
abbrev pub lines_in : Chains Version → Parts → (ObjectId → Option Grant) → ℕ → Option After → Option ℕ → ℕ → List NameLine
lines_in chains parts visible range after at number =
    let purse : Purse = record { creator = range; number = number } in
    filter_map (λ name. line_of visible at name (bindings_in chains parts purse name))
    (filter (is_after after number) (names_in chains parts purse))

-- all lines of the range that come after the place, by the number of the purse and then by the name
abbrev pub lines_of : Chains Version → Parts → (ObjectId → Option Grant) → ℕ → Option After → Option ℕ → List NameLine
lines_of chains parts visible range after at = flat_map (lines_in chains parts visible range after at) purse_numbers
