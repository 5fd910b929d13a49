-- The bodies of requests.
use Rattle.std.specs.Prelude.{ℕ, Option, Some, None, List, [], ◌∷◌}
use Rattle.s4_types.specs.declared.object.Purse.{Purse}
use Rattle.s4_types.specs.declared.object.ObjectId.{ObjectId}
use Rattle.s4_types.specs.declared.request.After.{After}
use Rattle.s4_types.specs.declared.request.Request.{Request}
use Rattle.s4_types.specs.declared.request.Request.TheVariants.{Create, Delete, Read, Write, Append, Truncate, GetAttr, SetAttr, GetAclByUser, GetAclByIndex, SetAcl, PCreate, PDelete, PList, PMount, Flush, FlushO, SetWindow, SetBudget, ReadAudit}
use Rattle.s4_types.specs.Audit.{code_of}
use Rattle.s4_codec.specs.Format.{Format, ◌&◌, byte, number, made, cases, no_format, value_in, Spells}
use Rattle.s4_codec.specs.Parts.{moment, principal, user, purse_number, purse, object, rights, name, byte_string, optional_moment, optional_after}
use Rattle.s4_types.specs.declared.principal.WireVersion.{WireVersion}
use Rattle.s4_codec.specs.Versions.{frame_limit}

-- FIELDS

-- Of each kind of request: its fields, if a request is of that kind, and how they are spelled.

abbrev pub part_of_create : Request → Option ℕ
part_of_create (Create n) = Some n
part_of_create _ = None

abbrev pub create : Format Request
create = made purse_number Create part_of_create

abbrev pub part_of_delete : Request → Option ObjectId
part_of_delete (Delete o) = Some o
part_of_delete _ = None

abbrev pub delete : Format Request
delete = made object Delete part_of_delete

abbrev pub part_of_read : Request → Option (ObjectId × (ℕ × (ℕ × Option ℕ)))
part_of_read (Read o offset length at) = Some (o, (offset, (length, at)))
part_of_read _ = None

abbrev pub read : Format Request
read = made (object & (number 4 & (number 4 & optional_moment))) (λ x. Read x.0 x.1.0 x.1.1.0 x.1.1.1) part_of_read

abbrev pub part_of_write : Request → Option (ObjectId × (ℕ × List ℕ))
part_of_write (Write o offset bytes) = Some (o, (offset, bytes))
part_of_write _ = None

abbrev pub write : WireVersion → Format Request
write version = made (object & (number 4 & byte_string version)) (λ x. Write x.0 x.1.0 x.1.1) part_of_write

abbrev pub part_of_append : Request → Option (ObjectId × List ℕ)
part_of_append (Append o bytes) = Some (o, bytes)
part_of_append _ = None

abbrev pub append : WireVersion → Format Request
append version = made (object & byte_string version) (λ x. Append x.0 x.1) part_of_append

abbrev pub part_of_truncate : Request → Option (ObjectId × ℕ)
part_of_truncate (Truncate o length) = Some (o, length)
part_of_truncate _ = None

abbrev pub truncate : Format Request
truncate = made (object & number 4) (λ x. Truncate x.0 x.1) part_of_truncate

abbrev pub part_of_get_attr : Request → Option (ObjectId × Option ℕ)
part_of_get_attr (GetAttr o at) = Some (o, at)
part_of_get_attr _ = None

abbrev pub get_attr : Format Request
get_attr = made (object & optional_moment) (λ x. GetAttr x.0 x.1) part_of_get_attr

abbrev pub part_of_set_attr : Request → Option (ObjectId × List ℕ)
part_of_set_attr (SetAttr o bytes) = Some (o, bytes)
part_of_set_attr _ = None

abbrev pub set_attr : WireVersion → Format Request
set_attr version = made (object & byte_string version) (λ x. SetAttr x.0 x.1) part_of_set_attr

abbrev pub part_of_get_acl_by_user : Request → Option (ObjectId × (ℕ × Option ℕ))
part_of_get_acl_by_user (GetAclByUser o user at) = Some (o, (user, at))
part_of_get_acl_by_user _ = None

abbrev pub get_acl_by_user : Format Request
get_acl_by_user = made (object & (user & optional_moment)) (λ x. GetAclByUser x.0 x.1.0 x.1.1) part_of_get_acl_by_user

abbrev pub part_of_get_acl_by_index : Request → Option (ObjectId × (ℕ × Option ℕ))
part_of_get_acl_by_index (GetAclByIndex o index at) = Some (o, (index, at))
part_of_get_acl_by_index _ = None

abbrev pub get_acl_by_index : Format Request
get_acl_by_index = made (object & (byte & optional_moment)) (λ x. GetAclByIndex x.0 x.1.0 x.1.1) part_of_get_acl_by_index

abbrev pub part_of_set_acl : Request → Option (ObjectId × (ℕ × ℕ))
part_of_set_acl (SetAcl o user rights) = Some (o, (user, rights))
part_of_set_acl _ = None

abbrev pub set_acl : Format Request
set_acl = made (object & (user & rights)) (λ x. SetAcl x.0 x.1.0 x.1.1) part_of_set_acl

abbrev pub part_of_pcreate : Request → Option (List ℕ × ObjectId)
part_of_pcreate (PCreate name o) = Some (name, o)
part_of_pcreate _ = None

abbrev pub pcreate : Format Request
pcreate = made (name & object) (λ x. PCreate x.0 x.1) part_of_pcreate

abbrev pub part_of_pdelete : Request → Option (Purse × List ℕ)
part_of_pdelete (PDelete purse name) = Some (purse, name)
part_of_pdelete _ = None

abbrev pub pdelete : Format Request
pdelete = made (purse & name) (λ x. PDelete x.0 x.1) part_of_pdelete

abbrev pub part_of_plist : Request → Option (ℕ × (Option After × Option ℕ))
part_of_plist (PList range after at) = Some (range, (after, at))
part_of_plist _ = None

abbrev pub plist : Format Request
plist = made (principal & (optional_after & optional_moment)) (λ x. PList x.0 x.1.0 x.1.1) part_of_plist

abbrev pub part_of_pmount : Request → Option (Purse × (List ℕ × Option ℕ))
part_of_pmount (PMount purse name at) = Some (purse, (name, at))
part_of_pmount _ = None

abbrev pub pmount : Format Request
pmount = made (purse & (name & optional_moment)) (λ x. PMount x.0 x.1.0 x.1.1) part_of_pmount

abbrev pub part_of_flush : Request → Option (ℕ × ℕ)
part_of_flush (Flush from to) = Some (from, to)
part_of_flush _ = None

abbrev pub flush : Format Request
flush = made (moment & moment) (λ x. Flush x.0 x.1) part_of_flush

abbrev pub part_of_flush_object : Request → Option (ObjectId × (ℕ × ℕ))
part_of_flush_object (FlushO o from to) = Some (o, (from, to))
part_of_flush_object _ = None

abbrev pub flush_object : Format Request
flush_object = made (object & (moment & moment)) (λ x. FlushO x.0 x.1.0 x.1.1) part_of_flush_object

abbrev pub part_of_set_window : Request → Option ℕ
part_of_set_window (SetWindow ticks) = Some ticks
part_of_set_window _ = None

abbrev pub set_window : Format Request
set_window = made (number 8) SetWindow part_of_set_window

abbrev pub part_of_set_budget : Request → Option (Purse × ℕ)
part_of_set_budget (SetBudget purse budget) = Some (purse, budget)
part_of_set_budget _ = None

abbrev pub set_budget : Format Request
set_budget = made (purse & number 4) (λ x. SetBudget x.0 x.1) part_of_set_budget

abbrev pub part_of_read_audit : Request → Option (ℕ × ℕ)
part_of_read_audit (ReadAudit range skip) = Some (range, skip)
part_of_read_audit _ = None

abbrev pub read_audit : Format Request
read_audit = made (principal & number 4) (λ x. ReadAudit x.0 x.1) part_of_read_audit

-- BODIES

-- the format of each kind of request, in the place of its code
abbrev pub bodies : WireVersion → List (Format Request)
bodies version =
    no_format
    ∷ create
    ∷ delete
    ∷ read
    ∷ write version
    ∷ append version
    ∷ truncate
    ∷ get_attr
    ∷ set_attr version
    ∷ get_acl_by_user
    ∷ get_acl_by_index
    ∷ set_acl
    ∷ pcreate
    ∷ pdelete
    ∷ plist
    ∷ pmount
    ∷ flush
    ∷ flush_object
    ∷ set_window
    ∷ set_budget
    ∷ read_audit
    ∷ []

-- a code, and the fields of its kind of request
abbrev pub request : WireVersion → Format Request
request version = cases code_of (bodies version)

-- the request that a body spells
abbrev pub request_in : WireVersion → List ℕ → Option Request
request_in version body = value_in (frame_limit version) (request version) body

-- The body is the request's spelling.
abbrev pub IsRequestBody : WireVersion → List ℕ → Request → Type 0
IsRequestBody version body r = Spells (frame_limit version) (request version) body r
