use Rattle.s4_types.specs.Versions.{data_track, attribute_track, acl_track}
use Rattle.s4_laws.proofs.Staying.{past-left}
use Rattle.s4_laws.proofs.values.the_past_stays.Goals as goal

pub returns : goal.returns
returns c = record {
  data_track = λ base o. past-left data_track o base;
  attribute_track = λ base o. past-left attribute_track o base;
  acl_track = λ base o. past-left acl_track o base;
}
