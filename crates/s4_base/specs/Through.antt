-- How far a base has followed records.
use Rattle.std.specs.Prelude.{◌≡◌, ℕ, ◌+◌, List, drop}
use Rattle.s4_types.specs.declared.record.Record.{Record}
use Rattle.s4_types.specs.Base.{Base}
use Rattle.s4_types.specs.Play.{InOrder, UpTo}
use Rattle.s4_laws.specs.Bases.{IsBase}
use Rattle.s4_cuts.specs.Cut.{left}
use Rattle.s4_base.specs.Changes.{CanFollowAll}

-- the first of the records were followed from the old base to the new one, and following the others from there leaves the same
pub record GoesOn (old new : Base) (cut : ℕ) (records : List Record) (followed : ℕ) : Type 0 where
  pub counted : new.count ≡ old.count + followed
  pub is_base : IsBase new
  pub order : InOrder new.cut (drop followed records)
  pub last : UpTo cut (drop followed records)
  pub fits : CanFollowAll new (drop followed records)
  pub same : left new cut (drop followed records) ≡ left old cut records
