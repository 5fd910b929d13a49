-- What becomes of a pass.
use Rattle.std.specs.Prelude.{◌≡◌, ℕ, [], ◌∷◌, ◌++◌, drop}
use Rattle.s4_passes.specs.Calls.{CallList, noted_of}
use Rattle.s4_passes.specs.declared.call.Call.{Call}

-- the calls are as they were
pub record KeepsCalls (old new : CallList) : Type 0 where
  pub number : new.number ≡ old.number
  pub ever : new.ever ≡ old.ever
  pub calls : new.calls ≡ old.calls

-- one call more
pub record AddsCall (call : Call) (old new : CallList) : Type 0 where
  pub number : new.number ≡ old.number
  pub ever : new.ever ≡ old.ever ++ noted_of call ∷ []
  pub calls : new.calls ≡ old.calls ++ call ∷ []

-- the first calls are kept no longer, so many; what there ever was is as it was
pub record Forgets (count : ℕ) (old new : CallList) : Type 0 where
  pub number : new.number ≡ old.number
  pub ever : new.ever ≡ old.ever
  pub calls : new.calls ≡ drop count old.calls
