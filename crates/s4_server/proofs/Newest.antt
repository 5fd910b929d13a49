-- The newest of the calls that a pass keeps.
use Rattle.std.proofs.Common.{◌≡◌, List, [], ◌∷◌, length, suc, refl, ap}
use Rattle.s4_passes.specs.Calls.{receipts_of}
use Rattle.s4_passes.specs.declared.call.Call.{Call}

pub as_many_receipts : (calls : List Call) → length (receipts_of calls) ≡ length calls
as_many_receipts [] = refl
as_many_receipts (call ∷ calls) = ap suc (as_many_receipts calls)
