-- Lengths of bodies.
use Rattle.std.proofs.Common.{◌<◌, ◌≤◌, ◌^◌, ℕ, arith}
use Rattle.s4_types.specs.declared.principal.WireVersion.{WireVersion}
use Rattle.s4_types.specs.declared.principal.WireVersion.TheVariants.{One, Two}
use Rattle.s4_codec.specs.Versions.{frame_limit}

-- what fits in a frame has a length in four bytes
pub in_four_bytes : (version : WireVersion) (n : ℕ) → n ≤ frame_limit version → n < 2 ^ 32
in_four_bytes One n le = omega (arith, le)
in_four_bytes Two n le = omega (arith, le)
