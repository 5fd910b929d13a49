-- The receipts of the calls that a pass keeps.
use Rattle.std.proofs.Common.{◌≡◌, List, [], ◌∷◌, length, suc, refl, ap}
use Rattle.s4_passes.specs.Calls.{receipts_of}
use Rattle.s4_passes.specs.declared.call.Call.{Call}

pub as_many : (calls : List Call) → length (receipts_of calls) ≡ length calls
as_many [] = refl
as_many (call ∷ calls) = ap suc (as_many calls)
