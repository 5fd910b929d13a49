-- What is sent is what the table says.
use Rattle.s4_codec.specs.Parts.{index, rights_given}
use Rattle.std.proofs.Common.{◌<◌, ◌≡◌, ℕ, ◌≤◌, ◌&&◌, arith, Some, None, List, [], ◌∷◌, ◌++◌, length, Bool, true, false, refl, sym, ap, ◌∙◌}
use Rattle.s4_types.specs.declared.request.Request.{Request}
use Rattle.s4_types.specs.declared.request.Request.TheVariants.{Create, Delete, Read, Write, Append, Truncate, GetAttr, SetAttr, GetAclByUser, GetAclByIndex, SetAcl, PCreate, PDelete, PList, PMount, Flush, FlushO, SetWindow, SetBudget, ReadAudit}
use Rattle.s4_types.specs.declared.principal.WireVersion.{WireVersion}
use Rattle.s4_codec.specs.Requests.{request}
use Rattle.s4_types.specs.declared.rights.Right.TheVariants as right
use Rattle.s4_types.specs.declared.reply.Grant.{Grant}
use Rattle.s4_types.specs.declared.reply.Grant.TheVariants as grants
use Rattle.s4_types.specs.declared.reply.NameLine.{NameLine}
use Rattle.s4_types.specs.declared.audit.AuditLine.{AuditLine}
use Rattle.s4_types.specs.declared.reply.Refusal.{Refusal}
use Rattle.s4_types.specs.declared.reply.Refusal.TheVariants as refused
use Rattle.s4_types.specs.declared.reply.Reply.{Reply}
use Rattle.s4_types.specs.declared.reply.Reply.TheVariants as told
use Rattle.std.specs.List.{flat_map}
use Rattle.byteorder.specs.Endian.{big_bytes}
use Rattle.std.proofs.lemmas.List.Concat.{flat_map-cons}
use Rattle.s4_codec.specs.Parts.{grant, flag}
use Rattle.s4_codec.specs.Replies.{name_line, audit_line, code, reply_code, refusal, reply, reply_in, has_body}
use Rattle.std.specs.Prelude.{nat_lt, nat_le}
use Rattle.std.specs.List.{list_all}
use Rattle.std.proofs.lemmas.Bool.{lt-ltb, ltb-true, leb-true, le-leb}
use Rattle.s4_types.specs.declared.object.Purse.{Purse}
use Rattle.s4_types.specs.declared.request.After.{After}
use Rattle.s4_types.specs.Name.{is_name, is_name_byte}
use Rattle.s4_codec.specs.Format.{AreBytes}
use Rattle.s4_codec.specs.Versions.{frame_limit}
use Rattle.s4_types.specs.declared.object.ObjectId.{ObjectId}
use Rattle.s4_codec.specs.Parts.{object, name, principal, purse_number, purse, rights}
use Rattle.s4_codec.specs.Requests.{request_in}
use Rattle.s4_codec.proofs.Lawful.{both_true, are_bytes, read_is_spelled, spelled_is_read}
use Rattle.s4_codec.proofs.RequestLaws.{request_is}
use Rattle.s4_codec.proofs.ReplyLaws.{reply_is}
use Rattle.s4_codec.specs.Table.{all_hold, is_object, is_grant, is_name_line, is_line, IsRow, bytes_of_all, row_of, row_of_reply, flag_bytes, object_bytes, grant_bytes, name_line_bytes, audit_line_bytes}

pub request_in_table : (version : WireVersion) (r : Request) → (request version).spell r ≡ bytes_of_all version (row_of r)
request_in_table version (Create number) = refl
request_in_table version (Delete o) = refl
request_in_table version (Read o offset size None) = refl
request_in_table version (Read o offset size (Some t)) = refl
request_in_table version (Write o offset bytes) = refl
request_in_table version (Append o bytes) = refl
request_in_table version (Truncate o size) = refl
request_in_table version (GetAttr o None) = refl
request_in_table version (GetAttr o (Some t)) = refl
request_in_table version (SetAttr o bytes) = refl
request_in_table version (GetAclByUser o user None) = refl
request_in_table version (GetAclByUser o user (Some t)) = refl
request_in_table version (GetAclByIndex o _ None) = refl
request_in_table version (GetAclByIndex o _ (Some t)) = refl
request_in_table version (SetAcl o user _) = refl
request_in_table version (PCreate _ o) = refl
request_in_table version (PDelete _ _) = refl
request_in_table version (PList range None None) = refl
request_in_table version (PList range None (Some t)) = refl
request_in_table version (PList range (Some place) None) = refl
request_in_table version (PList range (Some place) (Some t)) = refl
request_in_table version (PMount _ _ None) = refl
request_in_table version (PMount _ _ (Some t)) = refl
request_in_table version (Flush from to) = refl
request_in_table version (FlushO o from to) = refl
request_in_table version (SetWindow ticks) = refl
request_in_table version (SetBudget _ budget) = refl
request_in_table version (ReadAudit range skip) = refl

flag_is_byte : (b : Bool) → flag.spell b ≡ flag_bytes b
flag_is_byte true = refl
flag_is_byte false = refl

grant_is_bytes : (g : Grant) → grant.spell g ≡ grant_bytes g
grant_is_bytes grants.Admin = refl
grant_is_bytes (grants.Entry _ since) = refl
grant_is_bytes grants.Owner = refl

each_is : {A : Type 0} (f g : A → List ℕ) → ((x : A) → f x ≡ g x) → (xs : List A) → flat_map f xs ≡ flat_map g xs
each_is f g same [] = refl
each_is f g same (x ∷ xs) =
    flat_map-cons f x xs ∙ ap (λ (w : List ℕ). w ++ flat_map f xs) (same x) ∙ ap (λ (w : List ℕ). g x ++ w) (each_is f g same xs) ∙ sym (flat_map-cons g x xs)

name_line_is_bytes : (l : NameLine) → name_line.spell l ≡ name_line_bytes l
name_line_is_bytes l = ap (λ (w : List ℕ). (length l.name ∷ l.name) ++ (object_bytes l.object ++ w)) (grant_is_bytes l.grant)

audit_line_is_bytes : (l : AuditLine) → audit_line.spell l ≡ audit_line_bytes l
audit_line_is_bytes l = ap (λ (w : List ℕ). big_bytes 8 l.moment ++ (big_bytes 4 l.who ++ (big_bytes 4 l.client ++ (l.code ∷ w ++ l.reply ∷ [])))) (flag_is_byte l.is_wide)

refusal_in_table : (version : WireVersion) (r : Refusal) → 8 ∷ refusal.spell r ≡ bytes_of_all version (row_of_reply (told.Refused r))
refusal_in_table version (refused.Denied right.Read) = refl
refusal_in_table version (refused.Denied right.Write) = refl
refusal_in_table version (refused.Denied right.Delete) = refl
refusal_in_table version (refused.Denied right.Control) = refl
refusal_in_table version (refused.Denied right.Recover) = refl
refusal_in_table version (refused.Denied right.Admin) = refl
refusal_in_table version refused.NoObject = refl
refusal_in_table version refused.NoPartition = refl
refusal_in_table version refused.Future = refl
refusal_in_table version (refused.TooOld horizon) = refl
refusal_in_table version refused.Flushed = refl
refusal_in_table version refused.TooLong = refl
refusal_in_table version refused.AclFull = refl
refusal_in_table version refused.NoEntry = refl
refusal_in_table version refused.Exists = refl
refusal_in_table version refused.PartsFull = refl
refusal_in_table version refused.Named = refl
refusal_in_table version refused.NamesSpent = refl
refusal_in_table version (refused.OverBudget spent charge budget) = refl
refusal_in_table version refused.BadRange = refl
refusal_in_table version refused.NoMemory = refl

pub reply_in_table : (version : WireVersion) (r : Reply) → (reply version).spell r ≡ bytes_of_all version (row_of_reply r)
reply_in_table version told.Done = refl
reply_in_table version (told.Made o) = refl
reply_in_table version (told.Data grants.Admin bytes) = refl
reply_in_table version (told.Data grants.Owner bytes) = refl
reply_in_table version (told.Data (grants.Entry _ since) bytes) = refl
reply_in_table version (told.Attr grants.Admin bytes) = refl
reply_in_table version (told.Attr grants.Owner bytes) = refl
reply_in_table version (told.Attr (grants.Entry _ since) bytes) = refl
reply_in_table version (told.Entry grants.Admin i user _) = refl
reply_in_table version (told.Entry grants.Owner i user _) = refl
reply_in_table version (told.Entry (grants.Entry _ since) i user _) = refl
reply_in_table version (told.Mounted grants.Admin o) = refl
reply_in_table version (told.Mounted grants.Owner o) = refl
reply_in_table version (told.Mounted (grants.Entry _ since) o) = refl
reply_in_table version (told.Names lines more) =
    ap (λ (w : List ℕ). 6 ∷ (length lines ∷ w) ++ flag.spell more) (each_is name_line.spell name_line_bytes name_line_is_bytes lines)
    ∙ ap (λ (w : List ℕ). 6 ∷ (length lines ∷ flat_map name_line_bytes lines) ++ w) (flag_is_byte more)
reply_in_table version (told.Audit lines more) =
    ap (λ (w : List ℕ). 7 ∷ (length lines ∷ w) ++ flag.spell more) (each_is audit_line.spell audit_line_bytes audit_line_is_bytes lines)
    ∙ ap (λ (w : List ℕ). 7 ∷ (length lines ∷ flat_map audit_line_bytes lines) ++ w) (flag_is_byte more)
reply_in_table version (told.Refused r) = refusal_in_table version r

-- ---- what there is

pub both : {a b c d : Bool} → a ≡ b → c ≡ d → (a && c) ≡ (b && d)
both e f = rw (e, f) refl

-- a bound below another one
under : (n most least : ℕ) → least ≤ most → (nat_lt n most && nat_lt n least) ≡ nat_lt n least
under n most least le = of (nat_lt n least) refl
  where
    any : (b : Bool) → (b && false) ≡ false
    any true = refl
    any false = refl

    of : (b : Bool) → nat_lt n least ≡ b → (nat_lt n most && b) ≡ b
    of true e = rw (lt-ltb n most (omega (arith, le, ltb-true n least e))) refl
    of false e = any (nat_lt n most)

pub principal_holds : (n : ℕ) → principal.fits n ≡ nat_lt n 4294967295
principal_holds n = under n 4294967296 4294967295 (omega arith)

number_holds : (n : ℕ) → purse_number.fits n ≡ nat_lt n 16
number_holds n = under n 256 16 (omega arith)

rights_hold : (n : ℕ) → rights.fits n ≡ nat_lt n 32
rights_hold n = under n 256 32 (omega arith)

swap : (a b : Bool) → (a && b) ≡ (b && a)
swap true true = refl
swap true false = refl
swap false true = refl
swap false false = refl

object_holds : (o : ObjectId) → object.fits o ≡ is_object o
object_holds o = both (principal_holds o.purse.creator) (both (number_holds o.purse.number) (swap (nat_lt o.serial 65536) (nat_lt 0 o.serial)))

name_holds : (xs : List ℕ) → name.fits xs ≡ is_name xs
name_holds xs = of (is_name xs) refl
  where
    any : (b : Bool) → (b && false) ≡ false
    any true = refl
    any false = refl

    of : (b : Bool) → is_name xs ≡ b → (nat_lt (length xs) 256 && b) ≡ b
    of true e =
        let sizes = (both_true (nat_le 1 (length xs) && nat_le (length xs) 32) (list_all is_name_byte xs) e).0 in
        let low = leb-true (length xs) 32 (both_true (nat_le 1 (length xs)) (nat_le (length xs) 32) sizes).1 in
        rw (lt-ltb (length xs) 256 (omega (arith, low))) refl
    of false e = any (nat_lt (length xs) 256)

purse_holds : (p : Purse) → purse.fits p ≡ (nat_lt p.creator 4294967295 && nat_lt p.number 16)
purse_holds p = both (principal_holds p.creator) (number_holds p.number)

after_holds : (a : After) → (purse_number.fits a.number && name.fits a.name) ≡ (nat_lt a.number 16 && is_name a.name)
after_holds a = both (number_holds a.number) (name_holds a.name)

pub request_holds : (version : WireVersion) (r : Request) → (request version).fits r ≡ all_hold version (row_of r)
request_holds version (Create number) = number_holds number
request_holds version (Delete o) = object_holds o
request_holds version (Read o offset size None) = both (object_holds o) refl
request_holds version (Read o offset size (Some t)) = both (object_holds o) refl
request_holds version (Write o offset bytes) = both (object_holds o) refl
request_holds version (Append o bytes) = both (object_holds o) refl
request_holds version (Truncate o size) = both (object_holds o) refl
request_holds version (GetAttr o None) = both (object_holds o) refl
request_holds version (GetAttr o (Some t)) = both (object_holds o) refl
request_holds version (SetAttr o bytes) = both (object_holds o) refl
request_holds version (GetAclByUser o user None) = both (object_holds o) (refl)
request_holds version (GetAclByUser o user (Some t)) = both (object_holds o) (refl)
request_holds version (GetAclByIndex o _ None) = both (object_holds o) refl
request_holds version (GetAclByIndex o _ (Some t)) = both (object_holds o) refl
request_holds version (SetAcl o user r) = both (object_holds o) (both refl (rights_hold r))
request_holds version (PCreate xs o) = both (name_holds xs) (object_holds o)
request_holds version (PDelete p xs) = both (purse_holds p) (name_holds xs)
request_holds version (PList range None None) = both (principal_holds range) refl
request_holds version (PList range None (Some t)) = both (principal_holds range) refl
request_holds version (PList range (Some place) None) = both (principal_holds range) (both (after_holds place) refl)
request_holds version (PList range (Some place) (Some t)) = both (principal_holds range) (both (after_holds place) refl)
request_holds version (PMount p xs None) = both (purse_holds p) (both (name_holds xs) refl)
request_holds version (PMount p xs (Some t)) = both (purse_holds p) (both (name_holds xs) refl)
request_holds version (Flush from to) = refl
request_holds version (FlushO o from to) = both (object_holds o) refl
request_holds version (SetWindow ticks) = refl
request_holds version (SetBudget p budget) = both (purse_holds p) refl
request_holds version (ReadAudit range skip) = both (principal_holds range) refl

-- ---- what a body says

pub row_read : (version : WireVersion) (body : List ℕ) (r : Request) → IsRow version body (row_of r) → request_in version body ≡ Some r
row_read version body r row =
    spelled_is_read (frame_limit version) (request version) (request_is version) body r
    (record { fits = request_holds version r ∙ row.parts; spelled = row.bytes ∙ sym (request_in_table version r); in_frame = le-leb _ _ row.in_frame })

pub read_row : (version : WireVersion) (body : List ℕ) (r : Request) → AreBytes body → request_in version body ≡ Some r → IsRow version body (row_of r)
read_row version body r bytes e =
    let spells = read_is_spelled (frame_limit version) (request version) (request_is version) body r (are_bytes body bytes) e in
    record { parts = sym (request_holds version r) ∙ spells.fits; bytes = spells.spelled ∙ request_in_table version r; in_frame = leb-true _ _ spells.in_frame }

-- ---- replies

index_holds : (n : ℕ) → index.fits n ≡ nat_lt n 16
index_holds n = under n 256 16 (omega arith)

-- a test that only numbers below 256 pass
byte_holds : (n : ℕ) (test : Bool) → (test ≡ true → n < 256) → (nat_lt n 256 && test) ≡ test
byte_holds n true low = rw (lt-ltb n 256 (low refl)) refl
byte_holds n false low = of (nat_lt n 256)
  where
    of : (b : Bool) → (b && false) ≡ false
    of true = refl
    of false = refl

given_holds : (n : ℕ) → rights_given.fits n ≡ (nat_lt 0 n && nat_lt n 32)
given_holds n = byte_holds n (nat_lt 0 n && nat_lt n 32) (λ e. let low = ltb-true n 32 (both_true (nat_lt 0 n) (nat_lt n 32) e).1 in omega (arith, low))

code_holds : (n : ℕ) → code.fits n ≡ (nat_lt 0 n && nat_le n 20)
code_holds n = byte_holds n (nat_lt 0 n && nat_le n 20) (λ e. let low = leb-true n 20 (both_true (nat_lt 0 n) (nat_le n 20) e).1 in omega (arith, low))

reply_code_holds : (n : ℕ) → reply_code.fits n ≡ nat_lt n 16
reply_code_holds n = under n 256 16 (omega arith)

flag_holds : (b : Bool) → flag.fits b ≡ true
flag_holds true = refl
flag_holds false = refl

grant_holds : (g : Grant) → grant.fits g ≡ is_grant g
grant_holds grants.Admin = refl
grant_holds grants.Owner = refl
grant_holds (grants.Entry i since) = both (index_holds i) refl

name_line_holds : (l : NameLine) → name_line.fits l ≡ is_name_line l
name_line_holds l = both (name_holds l.name) (both (object_holds l.object) (grant_holds l.grant))

audit_line_holds : (l : AuditLine) → audit_line.fits l ≡ is_line l
audit_line_holds l = both refl (both (principal_holds l.who) (both refl (both (code_holds l.code) (both (flag_holds l.is_wide) (reply_code_holds l.reply)))))

every_holds : {A : Type 0} (f g : A → Bool) → ((x : A) → f x ≡ g x) → (xs : List A) → list_all f xs ≡ list_all g xs
every_holds f g same [] = refl
every_holds f g same (x ∷ xs) = both (same x) (every_holds f g same xs)

refusal_holds : (version : WireVersion) (r : Refusal) → refusal.fits r ≡ all_hold version (row_of_reply (told.Refused r))
refusal_holds version (refused.Denied right.Read) = refl
refusal_holds version (refused.Denied right.Write) = refl
refusal_holds version (refused.Denied right.Delete) = refl
refusal_holds version (refused.Denied right.Control) = refl
refusal_holds version (refused.Denied right.Recover) = refl
refusal_holds version (refused.Denied right.Admin) = refl
refusal_holds version refused.NoObject = refl
refusal_holds version refused.NoPartition = refl
refusal_holds version refused.Future = refl
refusal_holds version (refused.TooOld horizon) = refl
refusal_holds version refused.Flushed = refl
refusal_holds version refused.TooLong = refl
refusal_holds version refused.AclFull = refl
refusal_holds version refused.NoEntry = refl
refusal_holds version refused.Exists = refl
refusal_holds version refused.PartsFull = refl
refusal_holds version refused.Named = refl
refusal_holds version refused.NamesSpent = refl
refusal_holds version (refused.OverBudget spent charge budget) = refl
refusal_holds version refused.BadRange = refl
refusal_holds version refused.NoMemory = refl

pub reply_holds : (version : WireVersion) (r : Reply) → (reply version).fits r ≡ all_hold version (row_of_reply r)
reply_holds version told.Done = refl
reply_holds version (told.Made o) = object_holds o
reply_holds version (told.Data g bytes) = both (grant_holds g) refl
reply_holds version (told.Attr g bytes) = both (grant_holds g) refl
reply_holds version (told.Entry g i user r) = both (grant_holds g) (both (index_holds i) (both refl (given_holds r)))
reply_holds version (told.Mounted g o) = both (grant_holds g) (object_holds o)
reply_holds version (told.Names lines more) = both (both refl (every_holds name_line.fits is_name_line name_line_holds lines)) (flag_holds more)
reply_holds version (told.Audit lines more) = both (both refl (every_holds audit_line.fits is_line audit_line_holds lines)) (flag_holds more)
reply_holds version (told.Refused r) = refusal_holds version r

pub reply_has_row : (version : WireVersion) (r : Reply) → has_body version r ≡ (all_hold version (row_of_reply r) && nat_le (length (bytes_of_all version (row_of_reply r))) (frame_limit version))
reply_has_row version r = both (reply_holds version r) (ap (λ (w : List ℕ). nat_le (length w) (frame_limit version)) (reply_in_table version r))

pub reply_row_read : (version : WireVersion) (body : List ℕ) (r : Reply) → IsRow version body (row_of_reply r) → reply_in version body ≡ Some r
reply_row_read version body r row =
    spelled_is_read (frame_limit version) (reply version) (reply_is version) body r
    (record { fits = reply_holds version r ∙ row.parts; spelled = row.bytes ∙ sym (reply_in_table version r); in_frame = le-leb _ _ row.in_frame })

pub reply_read_row : (version : WireVersion) (body : List ℕ) (r : Reply) → AreBytes body → reply_in version body ≡ Some r → IsRow version body (row_of_reply r)
reply_read_row version body r bytes e =
    let spells = read_is_spelled (frame_limit version) (reply version) (reply_is version) body r (are_bytes body bytes) e in
    record { parts = sym (reply_holds version r) ∙ spells.fits; bytes = spells.spelled ∙ reply_in_table version r; in_frame = leb-true _ _ spells.in_frame }
