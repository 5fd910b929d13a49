-- The bytes that are told of a value.
use Rattle.std.specs.Prelude.{ℕ, Option, Some, None, List, []}
use Rattle.s4_state.specs.declared.values.Stored.{Stored}
use Rattle.s4_state.specs.declared.values.Stored.TheVariants.{Nothing, Bytes, Erased}

-- none where there is no value, and they aren't told of one that is erased
abbrev pub told_bytes : Stored → Option (List ℕ)
told_bytes Nothing = Some []
told_bytes (Bytes bytes) = Some bytes.now
told_bytes Erased = None
