-- What the line of a reply or of a connection says, and the text of a line that isn't taken.
use Rattle.std.specs.Prelude.{ℕ, Bool, true, false, List, [], ◌∷◌, ◌++◌, length, ◌==◌, flat_map, codes, decimal, if◌then◌else◌}
use Rattle.hex.specs.Hex.{encode_lower}
use Rattle.s4_types.specs.declared.audit.AuditLine.{AuditLine}
use Rattle.s4_types.specs.declared.object.ObjectId.{ObjectId}
use Rattle.s4_types.specs.declared.reply.Grant.{Grant}
use Rattle.s4_types.specs.declared.reply.Grant.TheVariants as grant
use Rattle.s4_types.specs.declared.reply.NameLine.{NameLine}
use Rattle.s4_types.specs.declared.reply.Refusal.{Refusal}
use Rattle.s4_types.specs.declared.reply.Refusal.TheVariants as refusal
use Rattle.s4_types.specs.declared.reply.Reply.{Reply}
use Rattle.s4_types.specs.declared.reply.Reply.TheVariants as reply
use Rattle.s4_types.specs.declared.rights.Right.{Right}
use Rattle.s4_types.specs.declared.rights.Right.TheVariants as right
use Rattle.s4_types.specs.Judgement.{everyone}
use Rattle.s4_script.specs.declared.error.ParseError.{ParseError}
use Rattle.s4_script.specs.declared.error.ParseError.TheVariants as parse_error

-- an object by its creator, the number of its purse and its serial, as `7.0.1`
abbrev pub object_text : ObjectId → List ℕ
object_text object = decimal object.purse.creator ++ codes "." ++ decimal object.purse.number ++ codes "." ++ decimal object.serial

-- whom an entry of an ACL is for: a principal by its number, or everyone by that word
abbrev pub user_text : ℕ → List ℕ
user_text user = if user == everyone then codes "everyone" else decimal user

-- bytes as two hexadecimal digits each, in lower case, or the word `empty` where there are none
abbrev pub bytes_text : List ℕ → List ℕ
bytes_text [] = codes "empty"
bytes_text (byte ∷ bytes) = encode_lower (byte ∷ bytes)

-- why a read was granted: the index of the entry, and since when its list is in force; no read is granted to the owner as such
abbrev pub grant_text : Grant → List ℕ
grant_text grant.Admin = codes "by admin"
grant_text grant.Owner = codes "by owner"
grant_text (grant.Entry index since) = codes "by " ++ decimal index ++ codes " since " ++ decimal since

-- the name of a right
abbrev pub right_text : Right → List ℕ
right_text right.Read = codes "read"
right_text right.Write = codes "write"
right_text right.Delete = codes "delete"
right_text right.Control = codes "control"
right_text right.Recover = codes "recover"
right_text right.Admin = codes "admin"

-- why a request was refused: which right was wanted, from which moment on there is
-- an answer, or what was spent, what would be charged, and the budget
abbrev pub refusal_text : Refusal → List ℕ
refusal_text (refusal.Denied wanted) = codes "denied " ++ right_text wanted
refusal_text refusal.NoObject = codes "no-object"
refusal_text refusal.Future = codes "future"
refusal_text (refusal.TooOld horizon) = codes "too-old " ++ decimal horizon
refusal_text refusal.Flushed = codes "flushed"
refusal_text refusal.TooLong = codes "too-long"
refusal_text refusal.AclFull = codes "acl-full"
refusal_text refusal.NoEntry = codes "no-entry"
refusal_text refusal.NoPartition = codes "no-partition"
refusal_text refusal.Exists = codes "exists"
refusal_text refusal.PartsFull = codes "parts-full"
refusal_text refusal.Named = codes "named"
refusal_text refusal.NamesSpent = codes "names-spent"
refusal_text (refusal.OverBudget spent charge budget) = codes "over-budget " ++ decimal spent ++ codes " " ++ decimal charge
    ++ codes " " ++ decimal budget
refusal_text refusal.BadRange = codes "bad-range"
refusal_text refusal.NoMemory = codes "no-memory"

-- a partition as its line: its name, its object, and why it is shown
abbrev pub line_text : NameLine → List ℕ
line_text line = codes "name " ++ line.name ++ codes " " ++ object_text line.object ++ codes " " ++ grant_text line.grant

-- a line feed, and then a partition's line, for each of them
abbrev pub lines_text : List NameLine → List ℕ
lines_text lines = flat_map (λ line. 10 ∷ line_text line) lines

-- whether more follows a page
abbrev pub end_text : Bool → List ℕ
end_text true = codes "more"
end_text false = codes "end"

-- a page of partitions: how many there are on it, whether more follow, and then the line of each
abbrev pub names_text : List NameLine → Bool → List ℕ
names_text lines more = codes "names " ++ decimal (length lines) ++ codes " " ++ end_text more ++ lines_text lines

-- whether a record lies in all ranges, or in one
abbrev pub width_text : Bool → List ℕ
width_text true = codes "wide"
width_text false = codes "range"

-- when a request was made, by whom, and as which client
abbrev pub asked_text : AuditLine → List ℕ
asked_text line = decimal line.moment ++ codes " " ++ decimal line.who ++ codes " " ++ decimal line.client

-- the number of the request's kind, where its record lies, and the number of the refusal, 0 where there is none
abbrev pub answered_text : AuditLine → List ℕ
answered_text line = decimal line.code ++ codes " " ++ width_text line.is_wide ++ codes " " ++ decimal line.reply

-- a record as its line
abbrev pub record_text : AuditLine → List ℕ
record_text line = codes "record " ++ asked_text line ++ codes " " ++ answered_text line

-- a line feed, and then a record's line, for each of them
abbrev pub records_text : List AuditLine → List ℕ
records_text lines = flat_map (λ line. 10 ∷ record_text line) lines

-- a page of an audit: how many records there are on it, whether more follow, and then the line of each
abbrev pub audit_text : List AuditLine → Bool → List ℕ
audit_text lines more = codes "audit " ++ decimal (length lines) ++ codes " " ++ end_text more ++ records_text lines

-- a reply as its line, without the end of the line; a page of partitions or of records is more lines, parted by line feeds
abbrev pub reply_text : Reply → List ℕ
reply_text reply.Done = codes "done"
reply_text (reply.Made object) = codes "made " ++ object_text object
reply_text (reply.Data granted bytes) = codes "data " ++ bytes_text bytes ++ codes " " ++ grant_text granted
reply_text (reply.Attr granted bytes) = codes "attr " ++ bytes_text bytes ++ codes " " ++ grant_text granted
reply_text (reply.Entry granted index user rights) = codes "entry " ++ decimal index ++ codes " " ++ user_text user ++ codes " "
    ++ decimal rights ++ codes " " ++ grant_text granted
reply_text (reply.Mounted granted object) = codes "mounted " ++ object_text object ++ codes " " ++ grant_text granted
reply_text (reply.Names lines more) = names_text lines more
reply_text (reply.Audit lines more) = audit_text lines more
reply_text (reply.Refused why) = refusal_text why

-- how many values and bindings a drive holds
abbrev pub used_text : ℕ → List ℕ
used_text count = codes "used " ++ decimal count

-- how many records went
abbrev pub cut_text : ℕ → List ℕ
cut_text count = codes "cut " ++ decimal count

-- what was sent on a connection as its line: its number, and the bytes
abbrev pub sent_text : ℕ → List ℕ → List ℕ
sent_text connection bytes = decimal connection ++ codes " " ++ bytes_text bytes

-- why a line isn't taken
abbrev pub parse_error_text : ParseError → List ℕ
parse_error_text parse_error.Bad = codes "bad line"
parse_error_text parse_error.NoMemory = codes "no memory"
