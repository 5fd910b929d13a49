-- How long spellings are at most, and that a reply within the limits of its version has one within a frame.
use Rattle.std.proofs.Common.{◌≡◌, ℕ, ◌+◌, ◌*◌, ◌^◌, ◌≤◌, ◌<◌, Bool, true, false, ◌&&◌, Option, Some, None, List, [], ◌∷◌, ◌++◌, length, refl, arith}
use Rattle.std.specs.Prelude.{◌==◌, nat_le, nat_lt}
use Rattle.std.specs.List.{flat_map, list_all}
use Rattle.std.proofs.lemmas.Bool.{leb-true, le-leb, lt-ltb}
use Rattle.std.proofs.lemmas.List.{length-append}
use Rattle.byteorder.specs.Endian.{big_bytes}
use Rattle.s4_types.specs.declared.principal.WireVersion.TheVariants.{One}
use Rattle.s4_types.specs.declared.reply.Grant.{Grant}
use Rattle.s4_types.specs.declared.reply.Refusal.{Refusal}
use Rattle.s4_types.specs.declared.reply.Refusal.TheVariants.{Denied, NoObject, NoPartition, Future, TooOld, Flushed, TooLong, AclFull, NoEntry, Exists, PartsFull, Named, NamesSpent, OverBudget, BadRange, NoMemory}
use Rattle.s4_types.specs.declared.reply.Reply.{Reply}
use Rattle.s4_types.specs.declared.reply.Reply.TheVariants.{Done, Made, Data, Attr, Entry, Mounted, Names, Audit, Refused}
use Rattle.s4_types.specs.Rights.{number_of}
use Rattle.s4_types.specs.Name.{is_name, is_name_byte}
use Rattle.s4_types.specs.Limits.{is_audit_line, is_page_line, is_shown_grant, is_within_limits, data_in, data_limit}
use Rattle.s4_types.specs.declared.principal.WireVersion.{WireVersion}
use Rattle.s4_types.specs.declared.principal.WireVersion.TheVariants.{One, Two}
use Rattle.s4_codec.specs.Format.{Format, ◌&◌, byte, number, only, made, fits_part, spell_part, optional, list_up_to}
use Rattle.s4_codec.specs.Parts.{moment, principal, user, purse_number, index, serial, pad, object, name, byte_string, rights_given, grant, flag, flag_of, number_of_flag, right_needed, right_of, is_right}
use Rattle.s4_codec.specs.Versions.{length_width, frame_limit}
use Rattle.s4_codec.specs.Rooms.{is_spellable, body_room, reply_room}
use Rattle.s4_codec.specs.Frames.{framed, front_of, Whole}
use Rattle.s4_codec.specs.Replies.{name_line, code, reply_code, audit_line, refusal, reply, reply_in, has_body}
use Rattle.s4_codec.proofs.Lawful.{IsWide, wide2, wide4, wide8, both_true, spelled_is_read}
use Rattle.s4_codec.proofs.PartLaws.{width_is}
use Rattle.s4_codec.proofs.ReplyLaws.{reply_is}
use Rattle.s4_codec.proofs.FrameLaws.{front-framed}

-- no spelling has more bytes
record IsShort {A : Type 0} (n : ℕ) (f : Format A) : Type 0 where
  most : (x : A) → f.fits x ≡ true → length (f.spell x) ≤ n

byte_short : IsShort 1 byte
byte_short = record { most = λ x e. omega arith }

number_short : (n : ℕ) → IsWide n → IsShort n (number n)
number_short n wide = record { most = λ x e. let len = wide.len x in omega (arith, len) }

pair_short : {A B : Type 0} (m n : ℕ) (f : Format A) (g : Format B) → IsShort m f → IsShort n g → IsShort (m + n) (f & g)
pair_short m n f g F G = record {
  most = λ x e.
      let parts = both_true (f.fits x.0) (g.fits x.1) e in
      let sum = length-append (f.spell x.0) (g.spell x.1) in
      let one = F.most x.0 parts.0 in
      let two = G.most x.1 parts.1 in
      omega (arith, sum, one, two);
}

only_short : {A : Type 0} (n : ℕ) (test : A → Bool) (f : Format A) → IsShort n f → IsShort n (only test f)
only_short n test f F = record { most = λ x e. F.most x (both_true (f.fits x) (test x) e).0 }

made_short : {A B : Type 0} (n : ℕ) (f : Format A) (make : A → B) (part : B → Option A) → IsShort n f → IsShort n (made f make part)
made_short {A} n f make part F = record { most = λ y e. of (part y) e }
  where
    of : (x : Option A) → fits_part f x ≡ true → length (spell_part f x) ≤ n
    of None e = absurd cc
    of (Some x) e = F.most x e

optional_short : {A : Type 0} (n : ℕ) (f : Format A) → IsShort n f → IsShort (1 + n) (optional f)
optional_short {A} n f F = record { most = of }
  where
    of : (x : Option A) → (optional f).fits x ≡ true → length ((optional f).spell x) ≤ 1 + n
    of None e = omega arith
    of (Some x) e = let some = F.most x e in omega (arith, some)

many_short : {A : Type 0} (n : ℕ) (f : Format A) → IsShort n f → (xs : List A) → list_all f.fits xs ≡ true → length (flat_map f.spell xs) ≤ length xs * n
many_short n f F [] e = omega arith
many_short n f F (x ∷ xs) e =
    let parts = both_true (f.fits x) (list_all f.fits xs) e in
    let sum = length-append (f.spell x) (flat_map f.spell xs) in
    let one = F.most x parts.0 in
    let others = many_short n f F xs parts.1 in
    grind (arith, sum, one, others)

-- PARTS

moment_short : IsShort 8 moment
moment_short = number_short 8 wide8

principal_short : IsShort 4 principal
principal_short = only_short 4 _ (number 4) (number_short 4 wide4)

user_short : IsShort 4 user
user_short = number_short 4 wide4

pad_short : IsShort 1 pad
pad_short = only_short 1 (λ n. n == 0) byte byte_short

object_short : IsShort 8 object
object_short = made_short 8 (principal & (pad & (purse_number & serial)))
    (λ x. record { purse = record { creator = x.0; number = x.1.1.0 }; serial = x.1.1.1 }) (λ o. Some (o.purse.creator, (0, (o.purse.number, o.serial))))
    (pair_short 4 4 principal (pad & (purse_number & serial)) principal_short
    (pair_short 1 3 pad (purse_number & serial) pad_short
    (pair_short 1 2 purse_number serial (only_short 1 _ byte byte_short) (only_short 2 _ (number 2) (number_short 2 wide2)))))

name_short : IsShort 33 name
name_short = record {
  most = λ x e.
      let is = (both_true (byte.fits (length x)) (is_name x) e).1 in
      let sizes = (both_true (nat_le 1 (length x) && nat_le (length x) 32) (list_all is_name_byte x) is).0 in
      let low = leb-true (length x) 32 (both_true (nat_le 1 (length x)) (nat_le (length x) 32) sizes).1 in
      omega (arith, low);
}

grant_short : IsShort 10 grant
grant_short = made_short 10 (optional (index & moment)) _ _
    (optional_short 9 (index & moment) (pair_short 1 8 index moment (only_short 1 _ byte byte_short) moment_short))

flag_short : IsShort 1 flag
flag_short = made_short 1 (only (λ n. nat_lt n 2) byte) flag_of (λ b. Some (number_of_flag b)) (only_short 1 (λ n. nat_lt n 2) byte byte_short)

-- LINES

name_line_short : IsShort 51 name_line
name_line_short = made_short 51 (name & (object & grant)) (λ x. record { name = x.0; object = x.1.0; grant = x.1.1 }) (λ l. Some (l.name, (l.object, l.grant)))
    (pair_short 33 18 name (object & grant) name_short (pair_short 8 10 object grant object_short grant_short))

audit_line_short : IsShort 19 audit_line
audit_line_short = made_short 19 (moment & (principal & (number 4 & (code & (flag & reply_code)))))
    (λ x. record { moment = x.0; who = x.1.0; client = x.1.1.0; code = x.1.1.1.0; is_wide = x.1.1.1.1.0; reply = x.1.1.1.1.1 })
    (λ l. Some (l.moment, (l.who, (l.client, (l.code, (l.is_wide, l.reply))))))
    (pair_short 8 11 moment (principal & (number 4 & (code & (flag & reply_code)))) moment_short
    (pair_short 4 7 principal (number 4 & (code & (flag & reply_code))) principal_short
    (pair_short 4 3 (number 4) (code & (flag & reply_code)) (number_short 4 wide4)
    (pair_short 1 2 code (flag & reply_code) (only_short 1 _ byte byte_short)
    (pair_short 1 1 flag reply_code flag_short (only_short 1 _ byte byte_short))))))

-- REFUSALS

right_short : IsShort 1 right_needed
right_short = made_short 1 (only is_right byte) right_of (λ r. Some (number_of r)) (only_short 1 is_right byte byte_short)

budget_short : IsShort 12 (number 4 & (number 4 & number 4))
budget_short = pair_short 4 8 (number 4) (number 4 & number 4) (number_short 4 wide4) (pair_short 4 4 (number 4) (number 4) (number_short 4 wide4) (number_short 4 wide4))

refusal_short : (r : Refusal) → refusal.fits r ≡ true → length (refusal.spell r) ≤ 13
refusal_short (Denied right) e = let own = right_short.most right e in omega (arith, own)
refusal_short (TooOld horizon) e = let own = moment_short.most horizon e in omega (arith, own)
refusal_short (OverBudget spent charge budget) e = let own = budget_short.most (spent, (charge, budget)) e in omega (arith, own)
refusal_short NoObject e = omega arith
refusal_short NoPartition e = omega arith
refusal_short Future e = omega arith
refusal_short Flushed e = omega arith
refusal_short TooLong e = omega arith
refusal_short AclFull e = omega arith
refusal_short NoEntry e = omega arith
refusal_short Exists e = omega arith
refusal_short PartsFull e = omega arith
refusal_short Named e = omega arith
refusal_short NamesSpent e = omega arith
refusal_short BadRange e = omega arith
refusal_short NoMemory e = omega arith

-- BODIES

entry_short : IsShort 16 (grant & (index & (user & rights_given)))
entry_short = pair_short 10 6 grant (index & (user & rights_given)) grant_short
    (pair_short 1 5 index (user & rights_given) (only_short 1 _ byte byte_short) (pair_short 4 1 user rights_given user_short (only_short 1 _ byte byte_short)))

mounted_short : IsShort 18 (grant & object)
mounted_short = pair_short 10 8 grant object grant_short object_short

-- lines, and whether more of them follow
page_short : {A : Type 0} (most n : ℕ) (f : Format A) → IsShort n f → (xs : List A) (more : Bool) → (list_up_to most f & flag).fits (xs, more) ≡ true → length ((list_up_to most f & flag).spell (xs, more)) ≤ 2 + length xs * n
page_short most n f F xs more e =
    let parts = both_true ((list_up_to most f).fits xs) (flag.fits more) e in
    let lines = both_true (nat_le (length xs) most) (list_all f.fits xs) parts.0 in
    let all = many_short n f F xs lines.1 in
    let last = flag_short.most more parts.1 in
    let sum = length-append (flat_map f.spell xs) (flag.spell more) in
    omega (arith, all, last, sum)

width_small : (version : WireVersion) → length_width version ≤ 4
width_small One = omega arith
width_small Two = omega arith

read_short : (version : WireVersion) (g : Grant) (bytes : List ℕ) → (grant & byte_string version).fits (g, bytes) ≡ true → length ((grant & byte_string version).spell (g, bytes)) ≤ 14 + length bytes
read_short version g bytes e =
    let own = grant_short.most g (both_true (grant.fits g) ((byte_string version).fits bytes) e).0 in
    let size = (width_is version).len (length bytes) in
    let sum = length-append (grant.spell g) ((byte_string version).spell bytes) in
    let parts = length-append (big_bytes (length_width version) (length bytes)) bytes in
    let width = width_small version in
    omega (arith, own, size, sum, parts, width)

pub body_short : (version : WireVersion) (r : Reply) → (reply version).fits r ≡ true → length ((reply version).spell r) ≤ body_room r
body_short version Done e = omega arith
body_short version (Made o) e = let own = object_short.most o e in omega (arith, own)
body_short version (Data g bytes) e = let own = read_short version g bytes e in omega (arith, own)
body_short version (Attr g bytes) e = let own = read_short version g bytes e in omega (arith, own)
body_short version (Entry g i who rights) e = let own = entry_short.most (g, (i, (who, rights))) e in omega (arith, own)
body_short version (Mounted g o) e = let own = mounted_short.most (g, o) e in omega (arith, own)
body_short version (Names lines more) e = let own = page_short 64 51 name_line name_line_short lines more e in omega (arith, own)
body_short version (Audit lines more) e = let own = page_short 32 19 audit_line audit_line_short lines more e in omega (arith, own)
body_short version (Refused r) e = let own = refusal_short r e in omega (arith, own)

-- ---- frames of each version

data_fits : (version : WireVersion) → data_limit version < 256 ^ length_width version
data_fits One = omega arith
data_fits Two = omega arith

some_data : (version : WireVersion) → 256 ≤ data_limit version
some_data One = omega arith
some_data Two = omega arith

room_in_frame : (version : WireVersion) (count : ℕ) → reply_room version count ≤ 4 + frame_limit version
room_in_frame One count = omega arith
room_in_frame Two count = omega arith

frame_fits : (version : WireVersion) → frame_limit version < 2 ^ 32
frame_fits One = omega arith
frame_fits Two = omega arith

few_bytes : (a : Bool) (n most : ℕ) → (a && nat_le n most) ≡ true → n ≤ most
few_bytes a n most e = leb-true n most (both_true a (nat_le n most) e).1

few_lines : (n most : ℕ) (a : Bool) → (nat_le n most && a) ≡ true → n ≤ most
few_lines n most a e = leb-true n most (both_true (nat_le n most) a e).0

shown_data : (version : WireVersion) (g : Grant) (bytes : List ℕ) (most : ℕ) → most ≤ data_limit version → (is_shown_grant g && nat_le (length bytes) most) ≡ true → (is_shown_grant g && nat_lt (length bytes) (256 ^ length_width version)) ≡ true
shown_data version g bytes most small w =
    let few = few_bytes (is_shown_grant g) (length bytes) most w in
    rw ((both_true (is_shown_grant g) (nat_le (length bytes) most) w).0, lt-ltb (length bytes) (256 ^ length_width version) (omega (arith, few, small, data_fits version))) refl

-- what is within the limits has a spelling
pub within_spellable : (version : WireVersion) (r : Reply) → is_within_limits version r ≡ true → is_spellable version r ≡ true
within_spellable version (Data g bytes) w = shown_data version g bytes (data_limit version) (omega arith) w
within_spellable version (Attr g bytes) w = shown_data version g bytes 256 (some_data version) w
within_spellable version r w = w

-- and room for it is room for its frame
pub within_room : (version : WireVersion) (r : Reply) → is_within_limits version r ≡ true → 4 + body_room r ≤ reply_room version (data_in r)
within_room version (Data g bytes) w = let few = few_bytes (is_shown_grant g) (length bytes) (data_limit version) w in omega (arith, few)
within_room version (Attr g bytes) w = let few = few_bytes (is_shown_grant g) (length bytes) 256 w in omega (arith, few)
within_room version (Names lines more) w = let few = few_lines (length lines) 64 (list_all is_page_line lines) w in omega (arith, few)
within_room version (Audit lines more) w = let few = few_lines (length lines) 32 (list_all is_audit_line lines) w in omega (arith, few)
within_room version r w = omega arith

-- the same where less data was known of
pub frame_short : (version : WireVersion) (r : Reply) (count : ℕ) → (reply version).fits r ≡ true → is_within_limits version r ≡ true → data_in r ≤ count → 4 + length ((reply version).spell r) ≤ reply_room version count
frame_short version r count e w few =
    let own = body_short version r e in
    let room = within_room version r w in
    omega (arith, own, room, few)

pub spelled_short : (version : WireVersion) (r : Reply) → (reply version).fits r ≡ true → is_within_limits version r ≡ true → length ((reply version).spell r) ≤ frame_limit version
spelled_short version r e w =
    let own = frame_short version r (data_in r) e w (omega arith) in
    let room = room_in_frame version (data_in r) in
    omega (arith, own, room)

pub spelled_few : (version : WireVersion) (r : Reply) → (reply version).fits r ≡ true → is_within_limits version r ≡ true → length ((reply version).spell r) < 2 ^ 32
spelled_few version r e w =
    let own = spelled_short version r e w in
    let most = frame_fits version in
    omega (arith, own, most)

-- a reply whose spelling is longer than a frame isn't within the limits
pub longer_exceeds : (version : WireVersion) (r : Reply) → (reply version).fits r ≡ true → frame_limit version < length ((reply version).spell r) → is_within_limits version r ≡ false
longer_exceeds version r e long = of (is_within_limits version r) refl
  where
    of : (b : Bool) → is_within_limits version r ≡ b → b ≡ false
    of true w = let short = spelled_short version r e w in absurd (omega (arith, long, short))
    of false w = refl

-- BODIES OF REPLIES

pub within_has_body : (version : WireVersion) (r : Reply) → (reply version).fits r ≡ true → is_within_limits version r ≡ true → has_body version r ≡ true
within_has_body version r e w = rw (e, le-leb (length ((reply version).spell r)) (frame_limit version) (spelled_short version r e w)) refl

pub body_read : (version : WireVersion) (r : Reply) → has_body version r ≡ true → reply_in version ((reply version).spell r) ≡ Some r
body_read version r e =
    let parts = both_true ((reply version).fits r) (nat_le (length ((reply version).spell r)) (frame_limit version)) e in
    spelled_is_read (frame_limit version) (reply version) (reply_is version) ((reply version).spell r) r (record { fits = parts.0; spelled = refl; in_frame = parts.1 })

pub body_framed : (version : WireVersion) (r : Reply) (rest : List ℕ) → has_body version r ≡ true → front_of (frame_limit version) (framed ((reply version).spell r) ++ rest) ≡ Whole ((reply version).spell r) rest
body_framed version r rest e =
    let parts = both_true ((reply version).fits r) (nat_le (length ((reply version).spell r)) (frame_limit version)) e in
    front-framed (frame_limit version) ((reply version).spell r) rest (omega arith) (leb-true (length ((reply version).spell r)) (frame_limit version) parts.1) (frame_fits version)
