-- What bytes are that share a block.
use Rattle.std.specs.Prelude.{ℕ, List, []}
use Rattle.std.specs.Arc.{arc_slice_items}
use Rattle.s4_types.specs.declared.byte_string.Held.{Held}
use Rattle.s4_types.specs.declared.byte_string.Held.TheVariants.{Nothing, Whole, Part}

abbrev pub held_bytes : Held → List ℕ
held_bytes Nothing = []
held_bytes (Whole block) = arc_slice_items block
held_bytes (Part part) = part
