use Rattle.s4_types.specs.Versions.{versions, data_track, attribute_track, acl_track}
use Rattle.s4_laws.proofs.Old.{data-kept, attributes-kept, acl-kept}
use Rattle.s4_laws.proofs.Turns.{bounds, only-in_force}
use Rattle.s4_laws.proofs.OneAtATime.{versions-turn}
use Rattle.s4_laws.proofs.values.values_are_in_force_from_begin_to_end.Goals as goal

pub returns : goal.returns
returns c = record {
  found_data = λ base o m h. bounds m (versions base data_track o h);
  found_attributes = λ base o m h. bounds m (versions base attribute_track o h);
  found_acl = λ base o m h. bounds m (versions base acl_track o h);
  only_data = λ base o m h is i n. only-in_force m (versions base data_track o h) (versions-turn data_track data-kept base o h is i n);
  only_attributes = λ base o m h is i n. only-in_force m (versions base attribute_track o h) (versions-turn attribute_track attributes-kept base o h is i n);
  only_acl = λ base o m h is i n. only-in_force m (versions base acl_track o h) (versions-turn acl_track acl-kept base o h is i n);
}
