-- All that goes over the wire: one row a kind of request, refusal and reply. A row is its parts, in order.
use Rattle.std.specs.Prelude.{◌≡◌, ℕ, ◌^◌, ◌≤◌, Bool, true, false, ◌&&◌, nat_lt, nat_le, Option, Some, None, List, [], ◌∷◌, ◌++◌, length}
use Rattle.std.specs.List.{flat_map, list_all}
use Rattle.byteorder.specs.Endian.{big_bytes}
use Rattle.s4_types.specs.declared.object.Purse.{Purse}
use Rattle.s4_types.specs.declared.object.ObjectId.{ObjectId}
use Rattle.s4_types.specs.declared.request.After.{After}
use Rattle.s4_types.specs.declared.request.Request.{Request}
use Rattle.s4_types.specs.declared.request.Request.TheVariants as ask
use Rattle.s4_types.specs.declared.rights.Right.{Right}
use Rattle.s4_types.specs.declared.reply.Grant.{Grant}
use Rattle.s4_types.specs.declared.reply.Grant.TheVariants as grants
use Rattle.s4_types.specs.declared.reply.NameLine.{NameLine}
use Rattle.s4_types.specs.declared.audit.AuditLine.{AuditLine}
use Rattle.s4_types.specs.declared.reply.Refusal.{Refusal}
use Rattle.s4_types.specs.declared.reply.Refusal.TheVariants as refused
use Rattle.s4_types.specs.declared.reply.Reply.{Reply}
use Rattle.s4_types.specs.declared.reply.Reply.TheVariants as told
use Rattle.s4_types.specs.Name.{is_name}
use Rattle.s4_types.specs.Rights.{number_of}
use Rattle.s4_types.specs.declared.principal.WireVersion.{WireVersion}
use Rattle.s4_codec.specs.Versions.{length_width, frame_limit}

-- PARTS

-- a part, with its value
pub data Part : Type 0 where
  U8 : ℕ → Part
  U32 : ℕ → Part
  U64 : ℕ → Part
  Principal : ℕ → Part
  User : ℕ → Part
  PurseNumber : ℕ → Part
  RightsOf : ℕ → Part
  RightsGiven : ℕ → Part
  Index : ℕ → Part
  PurseOf : Purse → Part
  Object : ObjectId → Part
  Name : List ℕ → Part
  Data : List ℕ → Part
  At : Option ℕ → Part
  Behind : Option After → Part
  By : Grant → Part
  Lacking : Right → Part
  Flag : Bool → Part
  NameLines : List NameLine → Part
  AuditLines : List AuditLine → Part

abbrev pub flag_bytes : Bool → List ℕ
flag_bytes false = 0 ∷ []
flag_bytes true = 1 ∷ []

abbrev pub object_bytes : ObjectId → List ℕ
object_bytes o = big_bytes 4 o.purse.creator ++ 0 ∷ o.purse.number ∷ big_bytes 2 o.serial

-- the administrator's grant, or an entry's; that of an owner is told nowhere
abbrev pub grant_bytes : Grant → List ℕ
grant_bytes grants.Admin = 0 ∷ []
grant_bytes (grants.Entry index since) = 1 ∷ index ∷ big_bytes 8 since
grant_bytes grants.Owner = []

abbrev pub name_line_bytes : NameLine → List ℕ
name_line_bytes l = (length l.name ∷ l.name) ++ (object_bytes l.object ++ grant_bytes l.grant)

abbrev pub audit_line_bytes : AuditLine → List ℕ
audit_line_bytes l = big_bytes 8 l.moment ++ (big_bytes 4 l.who ++ (big_bytes 4 l.client ++ (l.code ∷ flag_bytes l.is_wide ++ l.reply ∷ [])))

-- the bytes of a part, of which the version changes the length of data alone
abbrev pub bytes_of : WireVersion → Part → List ℕ
bytes_of version (U8 n) = n ∷ []
bytes_of version (U32 n) = big_bytes 4 n
bytes_of version (U64 n) = big_bytes 8 n
bytes_of version (Principal n) = big_bytes 4 n
bytes_of version (User n) = big_bytes 4 n
bytes_of version (PurseNumber n) = n ∷ []
bytes_of version (RightsOf n) = n ∷ []
bytes_of version (RightsGiven n) = n ∷ []
bytes_of version (Index n) = n ∷ []
bytes_of version (PurseOf p) = big_bytes 4 p.creator ++ p.number ∷ []
bytes_of version (Object o) = object_bytes o
bytes_of version (Name name) = length name ∷ name
bytes_of version (Data bytes) = big_bytes (length_width version) (length bytes) ++ bytes
bytes_of version (At None) = 0 ∷ []
bytes_of version (At (Some moment)) = 1 ∷ big_bytes 8 moment
bytes_of version (Behind None) = 0 ∷ []
bytes_of version (Behind (Some place)) = 1 ∷ place.number ∷ length place.name ∷ place.name
bytes_of version (By grant) = grant_bytes grant
bytes_of version (Lacking right) = number_of right ∷ []
bytes_of version (Flag b) = flag_bytes b
bytes_of version (NameLines lines) = length lines ∷ flat_map name_line_bytes lines
bytes_of version (AuditLines lines) = length lines ∷ flat_map audit_line_bytes lines

-- the bytes of parts, one behind the other
abbrev pub bytes_of_all : WireVersion → List Part → List ℕ
bytes_of_all version [] = []
bytes_of_all version (part ∷ []) = bytes_of version part
bytes_of_all version (part ∷ next ∷ parts) = bytes_of version part ++ bytes_of_all version (next ∷ parts)

-- which objects, grants and lines there are
abbrev pub is_object : ObjectId → Bool
is_object o = nat_lt o.purse.creator 4294967295 && (nat_lt o.purse.number 16 && (nat_lt 0 o.serial && nat_lt o.serial 65536))

abbrev pub is_grant : Grant → Bool
is_grant grants.Admin = true
is_grant (grants.Entry index since) = nat_lt index 16 && nat_lt since (2 ^ 64)
is_grant grants.Owner = false

abbrev pub is_name_line : NameLine → Bool
is_name_line l = is_name l.name && (is_object l.object && is_grant l.grant)

abbrev pub is_line : AuditLine → Bool
is_line l = nat_lt l.moment (2 ^ 64) && (nat_lt l.who 4294967295 && (nat_lt l.client (2 ^ 32) && ((nat_lt 0 l.code && nat_le l.code 20) && nat_lt l.reply 16)))

-- whether there is such a part
abbrev pub holds : WireVersion → Part → Bool
holds version (U8 n) = nat_lt n 256
holds version (U32 n) = nat_lt n (2 ^ 32)
holds version (U64 n) = nat_lt n (2 ^ 64)
holds version (Principal n) = nat_lt n 4294967295
holds version (User n) = nat_lt n (2 ^ 32)
holds version (PurseNumber n) = nat_lt n 16
holds version (RightsOf n) = nat_lt n 32
holds version (RightsGiven n) = nat_lt 0 n && nat_lt n 32
holds version (Index n) = nat_lt n 16
holds version (PurseOf p) = nat_lt p.creator 4294967295 && nat_lt p.number 16
holds version (Object o) = is_object o
holds version (Name name) = is_name name
holds version (Data bytes) = nat_lt (length bytes) (256 ^ length_width version)
holds version (At None) = true
holds version (At (Some moment)) = nat_lt moment (2 ^ 64)
holds version (Behind None) = true
holds version (Behind (Some place)) = nat_lt place.number 16 && is_name place.name
holds version (By grant) = is_grant grant
holds version (Lacking right) = true
holds version (Flag b) = true
holds version (NameLines lines) = nat_le (length lines) 64 && list_all is_name_line lines
holds version (AuditLines lines) = nat_le (length lines) 32 && list_all is_line lines

abbrev pub all_hold : WireVersion → List Part → Bool
all_hold version [] = true
all_hold version (part ∷ []) = holds version part
all_hold version (part ∷ next ∷ parts) = holds version part && all_hold version (next ∷ parts)

-- The body is a row's bytes, all of its parts hold, and it fits in a frame.
pub record IsRow (version : WireVersion) (body : List ℕ) (row : List Part) : Type 0 where
  pub parts : all_hold version row ≡ true
  pub bytes : body ≡ bytes_of_all version row
  pub in_frame : length body ≤ frame_limit version

-- THE TABLE

-- the code and the fields of each kind of request
abbrev pub row_of : Request → List Part
row_of (ask.Create number) = U8 1 ∷ PurseNumber number ∷ []
row_of (ask.Delete o) = U8 2 ∷ Object o ∷ []
row_of (ask.Read o offset size at) = U8 3 ∷ Object o ∷ U32 offset ∷ U32 size ∷ At at ∷ []
row_of (ask.Write o offset bytes) = U8 4 ∷ Object o ∷ U32 offset ∷ Data bytes ∷ []
row_of (ask.Append o bytes) = U8 5 ∷ Object o ∷ Data bytes ∷ []
row_of (ask.Truncate o size) = U8 6 ∷ Object o ∷ U32 size ∷ []
row_of (ask.GetAttr o at) = U8 7 ∷ Object o ∷ At at ∷ []
row_of (ask.SetAttr o bytes) = U8 8 ∷ Object o ∷ Data bytes ∷ []
row_of (ask.GetAclByUser o user at) = U8 9 ∷ Object o ∷ User user ∷ At at ∷ []
row_of (ask.GetAclByIndex o index at) = U8 10 ∷ Object o ∷ U8 index ∷ At at ∷ []
row_of (ask.SetAcl o user rights) = U8 11 ∷ Object o ∷ User user ∷ RightsOf rights ∷ []
row_of (ask.PCreate name o) = U8 12 ∷ Name name ∷ Object o ∷ []
row_of (ask.PDelete purse name) = U8 13 ∷ PurseOf purse ∷ Name name ∷ []
row_of (ask.PList range after at) = U8 14 ∷ Principal range ∷ Behind after ∷ At at ∷ []
row_of (ask.PMount purse name at) = U8 15 ∷ PurseOf purse ∷ Name name ∷ At at ∷ []
row_of (ask.Flush from to) = U8 16 ∷ U64 from ∷ U64 to ∷ []
row_of (ask.FlushO o from to) = U8 17 ∷ Object o ∷ U64 from ∷ U64 to ∷ []
row_of (ask.SetWindow ticks) = U8 18 ∷ U64 ticks ∷ []
row_of (ask.SetBudget purse budget) = U8 19 ∷ PurseOf purse ∷ U32 budget ∷ []
row_of (ask.ReadAudit range skip) = U8 20 ∷ Principal range ∷ U32 skip ∷ []

-- the number of each kind of refusal, and what it tells
abbrev pub row_of_refusal : Refusal → List Part
row_of_refusal (refused.Denied right) = U8 1 ∷ Lacking right ∷ []
row_of_refusal refused.NoObject = U8 2 ∷ []
row_of_refusal refused.NoPartition = U8 3 ∷ []
row_of_refusal refused.Future = U8 4 ∷ []
row_of_refusal (refused.TooOld horizon) = U8 5 ∷ U64 horizon ∷ []
row_of_refusal refused.Flushed = U8 6 ∷ []
row_of_refusal refused.TooLong = U8 7 ∷ []
row_of_refusal refused.AclFull = U8 8 ∷ []
row_of_refusal refused.NoEntry = U8 9 ∷ []
row_of_refusal refused.Exists = U8 10 ∷ []
row_of_refusal refused.PartsFull = U8 11 ∷ []
row_of_refusal refused.Named = U8 12 ∷ []
row_of_refusal refused.NamesSpent = U8 13 ∷ []
row_of_refusal (refused.OverBudget spent charge budget) = U8 14 ∷ U32 spent ∷ U32 charge ∷ U32 budget ∷ []
row_of_refusal refused.BadRange = U8 15 ∷ []
row_of_refusal refused.NoMemory = U8 16 ∷ []

-- the kind and the fields of each kind of reply
abbrev pub row_of_reply : Reply → List Part
row_of_reply told.Done = U8 0 ∷ []
row_of_reply (told.Made o) = U8 1 ∷ Object o ∷ []
row_of_reply (told.Data grant bytes) = U8 2 ∷ By grant ∷ Data bytes ∷ []
row_of_reply (told.Attr grant bytes) = U8 3 ∷ By grant ∷ Data bytes ∷ []
row_of_reply (told.Entry grant index user rights) = U8 4 ∷ By grant ∷ Index index ∷ User user ∷ RightsGiven rights ∷ []
row_of_reply (told.Mounted grant o) = U8 5 ∷ By grant ∷ Object o ∷ []
row_of_reply (told.Names lines more) = U8 6 ∷ NameLines lines ∷ Flag more ∷ []
row_of_reply (told.Audit lines more) = U8 7 ∷ AuditLines lines ∷ Flag more ∷ []
row_of_reply (told.Refused refusal) = U8 8 ∷ row_of_refusal refusal
