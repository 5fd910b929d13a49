-- What an object holds at a moment.
use Rattle.std.specs.Prelude.{ℕ, List}
use Rattle.s4_types.specs.declared.object.ObjectId.{ObjectId}
use Rattle.s4_types.specs.declared.acl.AclEntry.{AclEntry}
use Rattle.s4_types.specs.declared.record.Record.{Record}
use Rattle.s4_types.specs.Base.{Base}
use Rattle.s4_types.specs.Versions.{data_track, attribute_track, acl_track}
use Rattle.s4_types.specs.Answer.{value_of}

abbrev pub data_of : Base → ObjectId → ℕ → List Record → List ℕ
data_of base o t h = value_of base data_track o t h

abbrev pub attributes_of : Base → ObjectId → ℕ → List Record → List ℕ
attributes_of base o t h = value_of base attribute_track o t h

abbrev pub acl_of : Base → ObjectId → ℕ → List Record → List AclEntry
acl_of base o t h = value_of base acl_track o t h
