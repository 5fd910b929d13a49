-- How much data a request may name, and what every reply of the drive keeps to, so that it has a spelling in a frame.
use Rattle.std.specs.Prelude.{ℕ, Bool, true, false, nat_le, nat_lt, ◌==◌, ◌&&◌, if◌then◌else◌, length}
use Rattle.std.specs.List.{list_all}
use Rattle.s4_types.specs.declared.principal.WireVersion.{WireVersion}
use Rattle.s4_types.specs.declared.principal.WireVersion.TheVariants.{One, Two}
use Rattle.s4_types.specs.declared.reply.Grant.{Grant}
use Rattle.s4_types.specs.declared.reply.Grant.TheVariants as grants
use Rattle.s4_types.specs.declared.reply.NameLine.{NameLine}
use Rattle.s4_types.specs.declared.audit.AuditLine.{AuditLine}
use Rattle.s4_types.specs.declared.request.Request.{Request}
use Rattle.s4_types.specs.declared.request.Request.TheVariants.{Read}
use Rattle.s4_types.specs.declared.reply.Reply.{Reply}
use Rattle.s4_types.specs.declared.reply.Reply.TheVariants.{Data, Attr, Entry, Mounted, Names, Audit}

-- the most bytes that an object's data may have after a request of that version, and that a read of it gives
abbrev pub data_limit : WireVersion → ℕ
data_limit One = 4096
data_limit Two = 65536

-- the number of a version of the wire
abbrev pub number_of_version : WireVersion → ℕ
number_of_version One = 1
number_of_version Two = 2

-- the version of that number
abbrev pub version_of : ℕ → WireVersion
version_of n = if n == 1 then One else Two

-- the administrator's grant, or that of one of the at most 16 entries of an ACL
abbrev pub is_shown_grant : Grant → Bool
is_shown_grant grants.Admin = true
is_shown_grant grants.Owner = false
is_shown_grant (grants.Entry index since) = nat_lt index 16

-- a partition with such a grant
abbrev pub is_page_line : NameLine → Bool
is_page_line line = is_shown_grant line.grant

-- the number of a kind of request, and that of a refusal that leaves a record, or 0
abbrev pub is_audit_line : AuditLine → Bool
is_audit_line line = (nat_lt 0 line.code && nat_le line.code 20) && nat_lt line.reply 16

-- At most so much data as the version has, 256 bytes of attributes, 64 partitions and 32 lines of an audit, and an entry that gives some right.
abbrev pub is_within_limits : WireVersion → Reply → Bool
is_within_limits version (Data grant bytes) = is_shown_grant grant && nat_le (length bytes) (data_limit version)
is_within_limits version (Attr grant bytes) = is_shown_grant grant && nat_le (length bytes) 256
is_within_limits version (Entry grant index user rights) = is_shown_grant grant && (nat_lt index 16 && nat_lt 0 rights)
is_within_limits version (Mounted grant o) = is_shown_grant grant
is_within_limits version (Names lines more) = nat_le (length lines) 64 && list_all is_page_line lines
is_within_limits version (Audit lines more) = nat_le (length lines) 32 && list_all is_audit_line lines
is_within_limits version _ = true

-- the most bytes of data that a reply to the request gives: as many as a Read asks for, and none to any other
abbrev pub data_asked : Request → ℕ
data_asked (Read o offset size at) = size
data_asked _ = 0

-- how many bytes of data the reply gives
abbrev pub data_in : Reply → ℕ
data_in (Data grant bytes) = length bytes
data_in _ = 0
