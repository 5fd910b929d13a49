-- What is kept of a list of steps to tell a principal's strangers.
use Rattle.std.specs.Prelude.{◌≡◌, ℕ, Bool, ◌||◌, List}
use Rattle.std.specs.BTreeSet.{contains}
use Rattle.s4_types.specs.declared.object.Purse.{Purse}
use Rattle.s4_types.specs.declared.record.Step.{Step}
use Rattle.s4_types.specs.Names.{purse_cmp}
use Rattle.s4_types.specs.Judgement.{reaches}
use Rattle.s4_types.specs.Strike.{is_near}
use Rattle.s4_drive.specs.declared.strangers.Near.{Near}

-- whether the purse is the principal's own, or one that was kept
abbrev pub has : Near → Purse → Bool
has near purse = reaches near.who purse.creator || contains purse_cmp near.named purse

-- it tells the purses that are near the principal in the steps
pub record IsNearIn (near : Near) (who : ℕ) (steps : List Step) : Type 0 where
  pub principal : near.who ≡ who
  pub purses : (purse : Purse) → has near purse ≡ is_near who steps purse
