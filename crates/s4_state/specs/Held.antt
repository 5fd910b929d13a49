-- What versions hold, as the definitions see it.
use Rattle.std.specs.Prelude.{ℕ, Option, Some, None, List, []}
use Rattle.s4_types.specs.Judgement as judgement
use Rattle.s4_types.specs.declared.version.Version.{Version}
use Rattle.s4_types.specs.declared.version.Item.{Item}
use Rattle.s4_types.specs.declared.version.Item.TheVariants.{Data, Attr, Acl}

-- the bytes that a version holds, where it holds any
abbrev pub bytes_of_item : Option Item → Option (List ℕ)
bytes_of_item (Some (Data bytes)) = Some bytes
bytes_of_item (Some (Attr bytes)) = Some bytes
bytes_of_item _ = None

-- no bytes where there is no version, and none are told of one that is erased
abbrev pub bytes_in : Option Version → Option (List ℕ)
bytes_in None = Some []
bytes_in (Some v) = bytes_of_item v.item

-- the ACL that a version holds, and its begin
abbrev pub held_of_item : ℕ → Option Item → Option judgement.Held
held_of_item since (Some (Acl acl)) = Some (record { acl = acl; since = since })
held_of_item since _ = None

abbrev pub held_in : Option Version → Option judgement.Held
held_in None = None
held_in (Some v) = held_of_item v.begin v.item
