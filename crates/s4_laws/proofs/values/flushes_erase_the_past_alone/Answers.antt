use Rattle.s4_types.specs.Versions.{data_track, attribute_track}
use Rattle.s4_types.proofs.Erasing.{current-kept, acls-whole}
use Rattle.s4_laws.proofs.values.flushes_erase_the_past_alone.Goals as goal

pub returns : goal.returns
returns c = record {
  data_track = λ base o. current-kept data_track o base;
  attribute_track = λ base o. current-kept attribute_track o base;
  acl_track = λ base o. acls-whole o base;
}
