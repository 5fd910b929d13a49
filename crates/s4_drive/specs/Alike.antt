-- When a drive goes on as another would.
use Rattle.std.specs.Prelude.{◌≡◌, List}
use Rattle.s4_types.specs.declared.record.Step.{Step}
use Rattle.s4_types.specs.Log.{Log, base_of}
use Rattle.s4_types.specs.Play.{last_of, NeverDown}
use Rattle.s4_cuts.specs.Cut.{told}

-- all further steps have the same replies
abbrev pub AnswersAlike : Log → Log → Type 0
AnswersAlike old new = (steps : List Step) → NeverDown (last_of old.history) steps
    → told (base_of new) new.history steps ≡ told (base_of old) old.history steps
