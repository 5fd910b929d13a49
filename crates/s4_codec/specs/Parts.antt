-- The parts of which requests and replies are spelled.
use Rattle.std.specs.Prelude.{ℕ, Bool, true, false, ◌==◌, ◌&&◌, ◌||◌, nat_lt, if◌then◌else◌, Option, Some, None, List}
use Rattle.s4_types.specs.declared.object.Purse.{Purse}
use Rattle.s4_types.specs.declared.object.ObjectId.{ObjectId}
use Rattle.s4_types.specs.declared.rights.Right.{Right}
use Rattle.s4_types.specs.declared.rights.Right.TheVariants as right
use Rattle.s4_types.specs.declared.request.After.{After}
use Rattle.s4_types.specs.declared.reply.Grant.{Grant}
use Rattle.s4_types.specs.declared.reply.Grant.TheVariants as grants
use Rattle.s4_types.specs.Rights.{number_of}
use Rattle.s4_types.specs.Name.{is_name}
use Rattle.s4_types.specs.declared.principal.WireVersion.{WireVersion}
use Rattle.s4_codec.specs.Versions.{length_width}
use Rattle.s4_codec.specs.Format.{Format, ◌&◌, byte, number, counted, only, made, optional}

-- a tick
abbrev pub moment : Format ℕ
moment = number 8

-- the number of a principal, which 4294967295 is not
abbrev pub principal : Format ℕ
principal = only (λ n. nat_lt n 4294967295) (number 4)

-- whom an entry of an ACL is for: the number of a principal, or 4294967295, which is everyone
abbrev pub user : Format ℕ
user = number 4

-- the number of one of the sixteen purses of a principal
abbrev pub purse_number : Format ℕ
purse_number = only (λ n. nat_lt n 16) byte

-- an entry's index in an ACL
abbrev pub index : Format ℕ
index = only (λ n. nat_lt n 16) byte

-- the number of an object in its purse, from 1 on
abbrev pub serial : Format ℕ
serial = only (λ n. nat_lt 0 n) (number 2)

-- a byte that is always 0
abbrev pub pad : Format ℕ
pad = only (λ n. n == 0) byte

-- the creator, and the number of the purse
abbrev pub purse : Format Purse
purse = made (principal & purse_number) (λ x. record { creator = x.0; number = x.1 }) (λ p. Some (p.creator, p.number))

-- the creator, a pad, the number of the purse, and the serial
abbrev pub object : Format ObjectId
object = made (principal & (pad & (purse_number & serial)))
    (λ x. record { purse = record { creator = x.0; number = x.1.1.0 }; serial = x.1.1.1 })
    (λ o. Some (o.purse.creator, (0, (o.purse.number, o.serial))))

-- the name of a partition, after its length
abbrev pub name : Format (List ℕ)
name = only is_name (counted byte)

-- data or attributes
abbrev pub byte_string : WireVersion → Format (List ℕ)
byte_string version = counted (number (length_width version))

-- the rights that a SetAcl gives, which may be none
abbrev pub rights : Format ℕ
rights = only (λ n. nat_lt n 32) byte

-- the rights of an entry, of which there is one at least
abbrev pub rights_given : Format ℕ
rights_given = only (λ n. nat_lt 0 n && nat_lt n 32) byte

-- the moment that a request may name
abbrev pub optional_moment : Format (Option ℕ)
optional_moment = optional moment

-- a place in the list of partitions
abbrev pub after : Format After
after = made (purse_number & name) (λ x. record { number = x.0; name = x.1 }) (λ a. Some (a.number, a.name))

-- the place behind which a page begins, if it has one
abbrev pub optional_after : Format (Option After)
optional_after = optional after

-- the grant of an entry, or the administrator's
abbrev pub grant_of : Option (ℕ × ℕ) → Grant
grant_of None = grants.Admin
grant_of (Some entry) = grants.Entry entry.0 entry.1

-- what is served to an owner is never told with its grant
abbrev pub part_of_grant : Grant → Option (Option (ℕ × ℕ))
part_of_grant grants.Admin = Some None
part_of_grant (grants.Entry index since) = Some (Some (index, since))
part_of_grant grants.Owner = None

-- by which right a read was granted
abbrev pub grant : Format Grant
grant = made (optional (index & moment)) grant_of part_of_grant

-- whether the number says yes
abbrev pub flag_of : ℕ → Bool
flag_of n = n == 1

-- the number that says yes or no
abbrev pub number_of_flag : Bool → ℕ
number_of_flag true = 1
number_of_flag false = 0

-- a byte 0 or 1
abbrev pub flag : Format Bool
flag = made (only (λ n. nat_lt n 2) byte) flag_of (λ b. Some (number_of_flag b))

-- the right of that number
abbrev pub right_of : ℕ → Right
right_of n = if n == 1 then right.Read else if n == 2 then right.Write else if n == 4 then right.Delete
    else if n == 8 then right.Control else if n == 16 then right.Recover else right.Admin

-- whether a right has the number
abbrev pub is_right : ℕ → Bool
is_right n = n == 1 || n == 2 || n == 4 || n == 8 || n == 16 || n == 32

-- a right that was lacking
abbrev pub right_needed : Format Right
right_needed = made (only is_right byte) right_of (λ r. Some (number_of r))
