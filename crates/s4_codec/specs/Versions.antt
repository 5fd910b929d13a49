-- In what the versions of the wire differ.
use Rattle.std.specs.Prelude.{ℕ}
use Rattle.s4_types.specs.declared.principal.WireVersion.{WireVersion}
use Rattle.s4_types.specs.declared.principal.WireVersion.TheVariants.{One, Two}

-- in how many bytes the length of data is spelled
abbrev pub length_width : WireVersion → ℕ
length_width One = 2
length_width Two = 4

-- the most bytes that the body of a frame has
abbrev pub frame_limit : WireVersion → ℕ
frame_limit One = 8192
frame_limit Two = 131072
