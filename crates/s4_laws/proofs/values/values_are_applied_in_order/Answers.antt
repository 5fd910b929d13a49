use Rattle.s4_types.specs.Versions.{data_track, attribute_track, acl_track}
use Rattle.s4_laws.proofs.Applying.{value_at-applied}
use Rattle.s4_laws.proofs.Old.{data-kept, attributes-kept, acl-kept}
use Rattle.s4_laws.proofs.values.values_are_applied_in_order.Goals as goal

pub returns : goal.returns
returns c = record {
  data_track = λ base o m h is. value_at-applied data_track data-kept base is o m h;
  attribute_track = λ base o m h is. value_at-applied attribute_track attributes-kept base is o m h;
  acl_track = λ base o m h is. value_at-applied acl_track acl-kept base is o m h;
}
