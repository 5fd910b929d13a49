use Rattle.std.proofs.Common.{◌≡◌, false, take}
use Rattle.std.specs.Prelude.{◌==◌}
use Rattle.std.specs.List.{list_any}
use Rattle.s4_parts.proofs.parts.place_of.Given as goal

-- none of those before is it
abbrev pub invariant-loop-place : goal.invariant-loop-place
invariant-loop-place l = list_any (λ y. y == l.serial) (take l.place l.serials) ≡ false
