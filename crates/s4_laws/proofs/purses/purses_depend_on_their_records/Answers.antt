use Rattle.s4_types.specs.Versions.{data_track, attribute_track, acl_track}
use Rattle.s4_laws.proofs.OfPurse.{versions-agree, drawn-agree, bindings-agree, names_of-agree, bound_at-agree}
use Rattle.std.proofs.Common.{ap, is_some}
use Rattle.s4_laws.proofs.OfObjects.{value_at-agree}
use Rattle.s4_laws.proofs.purses.purses_depend_on_their_records.Goals as goal

pub returns : goal.returns
returns c = record {
  life = λ base purse serial m h k e. ap is_some (value_at-agree base acl_track (record { purse = purse; serial = serial }) m h k e);
  data_track = λ base purse serial. versions-agree base data_track (record { purse = purse; serial = serial });
  attribute_track = λ base purse serial. versions-agree base attribute_track (record { purse = purse; serial = serial });
  acl_track = λ base purse serial. versions-agree base acl_track (record { purse = purse; serial = serial });
  serials = drawn-agree;
  bindings = bindings-agree;
  names = names_of-agree;
  bound = bound_at-agree;
}
