-- The bodies of replies.
use Rattle.std.specs.Prelude.{ℕ, Bool, ◌&&◌, ◌==◌, nat_lt, nat_le, if◌then◌else◌, Option, Some, None, List, [], ◌∷◌}
use Rattle.s4_types.specs.declared.object.ObjectId.{ObjectId}
use Rattle.s4_types.specs.declared.rights.Right.{Right}
use Rattle.s4_types.specs.declared.reply.Grant.{Grant}
use Rattle.s4_types.specs.declared.reply.NameLine.{NameLine}
use Rattle.s4_types.specs.declared.audit.AuditLine.{AuditLine}
use Rattle.s4_types.specs.declared.reply.Refusal.{Refusal}
use Rattle.s4_types.specs.declared.reply.Refusal.TheVariants.{Denied, NoObject, NoPartition, Future, TooOld, Flushed, TooLong, AclFull, NoEntry, Exists, PartsFull, Named, NamesSpent, OverBudget, BadRange, NoMemory}
use Rattle.s4_types.specs.declared.reply.Reply.{Reply}
use Rattle.s4_types.specs.declared.reply.Reply.TheVariants.{Done, Made, Data, Attr, Entry, Mounted, Names, Audit, Refused}
use Rattle.s4_types.specs.Audit.{number_of_refusal}
use Rattle.s4_codec.specs.Format.{Format, nothing, ◌&◌, byte, number, only, made, list_up_to, cases, no_format, value_in, fits_in, Spells}
use Rattle.s4_codec.specs.Parts.{moment, principal, user, index, object, name, byte_string, rights_given, grant, flag, right_needed}
use Rattle.s4_types.specs.declared.principal.WireVersion.{WireVersion}
use Rattle.s4_codec.specs.Versions.{frame_limit}

-- LINES

-- a partition on a page
abbrev pub name_line : Format NameLine
name_line = made (name & (object & grant)) (λ x. record { name = x.0; object = x.1.0; grant = x.1.1 })
    (λ l. Some (l.name, (l.object, l.grant)))

-- the number of a kind of request
abbrev pub code : Format ℕ
code = only (λ n. nat_lt 0 n && nat_le n 20) byte

-- the number of a refusal that leaves a record, or 0
abbrev pub reply_code : Format ℕ
reply_code = only (λ n. nat_lt n 16) byte

-- what an audit tells of a record
abbrev pub audit_line : Format AuditLine
audit_line = made (moment & (principal & (number 4 & (code & (flag & reply_code)))))
    (λ x. record { moment = x.0; who = x.1.0; client = x.1.1.0; code = x.1.1.1.0; is_wide = x.1.1.1.1.0; reply = x.1.1.1.1.1 })
    (λ l. Some (l.moment, (l.who, (l.client, (l.code, (l.is_wide, l.reply))))))

-- REFUSALS

-- Of each kind of refusal: what it tells, if a refusal is of that kind, and how that is spelled.

-- no more than that two refusals have one number
abbrev pub is_same : Refusal → Refusal → Option (Unit {0})
is_same a b = if number_of_refusal a == number_of_refusal b then Some tt else None

abbrev pub part_of_denied : Refusal → Option Right
part_of_denied (Denied right) = Some right
part_of_denied _ = None

abbrev pub part_of_too_old : Refusal → Option ℕ
part_of_too_old (TooOld horizon) = Some horizon
part_of_too_old _ = None

abbrev pub part_of_over_budget : Refusal → Option (ℕ × (ℕ × ℕ))
part_of_over_budget (OverBudget spent charge budget) = Some (spent, (charge, budget))
part_of_over_budget _ = None

abbrev pub denied : Format Refusal
denied = made right_needed Denied part_of_denied

abbrev pub too_old : Format Refusal
too_old = made moment TooOld part_of_too_old

abbrev pub over_budget : Format Refusal
over_budget = made (number 4 & (number 4 & number 4)) (λ x. OverBudget x.0 x.1.0 x.1.1) part_of_over_budget

-- a refusal of which the number says all
abbrev pub bare : Refusal → Format Refusal
bare r = made nothing (λ x. r) (is_same r)

-- the format of each kind of refusal, in the place of its number
abbrev pub refusals : List (Format Refusal)
refusals =
    no_format
    ∷ denied
    ∷ bare NoObject
    ∷ bare NoPartition
    ∷ bare Future
    ∷ too_old
    ∷ bare Flushed
    ∷ bare TooLong
    ∷ bare AclFull
    ∷ bare NoEntry
    ∷ bare Exists
    ∷ bare PartsFull
    ∷ bare Named
    ∷ bare NamesSpent
    ∷ over_budget
    ∷ bare BadRange
    ∷ bare NoMemory
    ∷ []

-- a number, and what its kind of refusal tells
abbrev pub refusal : Format Refusal
refusal = cases number_of_refusal refusals

-- BODIES

-- the number of a kind of reply
abbrev pub kind_of : Reply → ℕ
kind_of Done = 0
kind_of (Made o) = 1
kind_of (Data g bytes) = 2
kind_of (Attr g bytes) = 3
kind_of (Entry g i who rights) = 4
kind_of (Mounted g o) = 5
kind_of (Names lines more) = 6
kind_of (Audit lines more) = 7
kind_of (Refused r) = 8

-- Of each kind of reply: its fields, if a reply is of that kind, and how they are spelled.

abbrev pub part_of_done : Reply → Option (Unit {0})
part_of_done Done = Some tt
part_of_done _ = None

abbrev pub part_of_made : Reply → Option ObjectId
part_of_made (Made o) = Some o
part_of_made _ = None

abbrev pub part_of_data : Reply → Option (Grant × List ℕ)
part_of_data (Data g bytes) = Some (g, bytes)
part_of_data _ = None

abbrev pub part_of_attr : Reply → Option (Grant × List ℕ)
part_of_attr (Attr g bytes) = Some (g, bytes)
part_of_attr _ = None

abbrev pub part_of_entry : Reply → Option (Grant × (ℕ × (ℕ × ℕ)))
part_of_entry (Entry g i user rights) = Some (g, (i, (user, rights)))
part_of_entry _ = None

abbrev pub part_of_mounted : Reply → Option (Grant × ObjectId)
part_of_mounted (Mounted g o) = Some (g, o)
part_of_mounted _ = None

abbrev pub part_of_names : Reply → Option (List NameLine × Bool)
part_of_names (Names lines more) = Some (lines, more)
part_of_names _ = None

abbrev pub part_of_audit : Reply → Option (List AuditLine × Bool)
part_of_audit (Audit lines more) = Some (lines, more)
part_of_audit _ = None

abbrev pub part_of_refused : Reply → Option Refusal
part_of_refused (Refused r) = Some r
part_of_refused _ = None

abbrev pub done : Format Reply
done = made nothing (λ x. Done) part_of_done

abbrev pub made_object : Format Reply
made_object = made object Made part_of_made

abbrev pub data_read : WireVersion → Format Reply
data_read version = made (grant & byte_string version) (λ x. Data x.0 x.1) part_of_data

abbrev pub attr_read : WireVersion → Format Reply
attr_read version = made (grant & byte_string version) (λ x. Attr x.0 x.1) part_of_attr

abbrev pub entry : Format Reply
entry = made (grant & (index & (user & rights_given))) (λ x. Entry x.0 x.1.0 x.1.1.0 x.1.1.1) part_of_entry

abbrev pub mounted : Format Reply
mounted = made (grant & object) (λ x. Mounted x.0 x.1) part_of_mounted

abbrev pub names : Format Reply
names = made (list_up_to 64 name_line & flag) (λ x. Names x.0 x.1) part_of_names

abbrev pub audit : Format Reply
audit = made (list_up_to 32 audit_line & flag) (λ x. Audit x.0 x.1) part_of_audit

abbrev pub refused : Format Reply
refused = made refusal Refused part_of_refused

-- the format of each kind of reply, in the place of its number
abbrev pub bodies : WireVersion → List (Format Reply)
bodies version =
    done
    ∷ made_object
    ∷ data_read version
    ∷ attr_read version
    ∷ entry
    ∷ mounted
    ∷ names
    ∷ audit
    ∷ refused
    ∷ []

-- the number of a kind of reply, and its fields
abbrev pub reply : WireVersion → Format Reply
reply version = cases kind_of (bodies version)

-- the reply that a body spells
abbrev pub reply_in : WireVersion → List ℕ → Option Reply
reply_in version body = value_in (frame_limit version) (reply version) body

-- The body is the reply's spelling.
abbrev pub IsReplyBody : WireVersion → List ℕ → Reply → Type 0
IsReplyBody version body r = Spells (frame_limit version) (reply version) body r

-- whether the reply has a spelling within a frame
abbrev pub has_body : WireVersion → Reply → Bool
has_body version r = fits_in (frame_limit version) (reply version) r
