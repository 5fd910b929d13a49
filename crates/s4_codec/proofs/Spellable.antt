-- What has a spelling is spellable: whatever else a reply is made of, the types of its parts see to.
use Rattle.std.proofs.Common.{◌≡◌, ℕ, ◌^◌, Bool, true, false, ◌&&◌, List, [], ◌∷◌, length, refl}
use Rattle.std.specs.Prelude.{nat_le, nat_lt}
use Rattle.std.specs.List.{list_all}
use Rattle.s4_types.specs.declared.audit.AuditLine.{AuditLine}
use Rattle.s4_types.specs.declared.principal.WireVersion.{WireVersion}
use Rattle.s4_types.specs.declared.reply.Grant.{Grant}
use Rattle.s4_types.specs.declared.reply.Grant.TheVariants as grants
use Rattle.s4_types.specs.declared.reply.NameLine.{NameLine}
use Rattle.s4_types.specs.declared.reply.Reply.{Reply}
use Rattle.s4_types.specs.declared.reply.Reply.TheVariants.{Done, Made, Data, Attr, Entry, Mounted, Names, Audit, Refused}
use Rattle.s4_types.specs.Limits.{is_audit_line, is_page_line, is_shown_grant}
use Rattle.s4_codec.specs.Format.{byte, list_up_to}
use Rattle.s4_codec.specs.Parts.{moment, principal, user, index, object, name, byte_string, rights_given, grant, flag}
use Rattle.s4_codec.specs.Replies.{name_line, code, reply_code, audit_line, reply}
use Rattle.s4_codec.specs.Rooms.{is_spellable}
use Rattle.s4_codec.specs.Versions.{length_width}
use Rattle.s4_codec.proofs.Lawful.{both_true}

both : (a b : Bool) → a ≡ true → b ≡ true → (a && b) ≡ true
both a b x y = rw (x, y) refl

first : (a b : Bool) → (a && b) ≡ true → a ≡ true
first a b e = (both_true a b e).0

second : (a b : Bool) → (a && b) ≡ true → b ≡ true
second a b e = (both_true a b e).1

all_so : {A : Type 0} (p q : A → Bool) → ((x : A) → p x ≡ true → q x ≡ true) → (xs : List A) → list_all p xs ≡ true → list_all q xs ≡ true
all_so p q so [] e = refl
all_so p q so (x ∷ xs) e = both (q x) (list_all q xs) (so x (first (p x) (list_all p xs) e)) (all_so p q so xs (second (p x) (list_all p xs) e))

index_so : (i : ℕ) → index.fits i ≡ true → nat_lt i 16 ≡ true
index_so i e = second (byte.fits i) (nat_lt i 16) e

grant_so : (g : Grant) → grant.fits g ≡ true → is_shown_grant g ≡ true
grant_so grants.Admin e = refl
grant_so grants.Owner e = absurd cc
grant_so (grants.Entry i since) e = index_so i (first (index.fits i) (moment.fits since) e)

page_line_so : (l : NameLine) → name_line.fits l ≡ true → is_page_line l ≡ true
page_line_so l e = grant_so l.grant (second (object.fits l.object) (grant.fits l.grant) (second (name.fits l.name) (object.fits l.object && grant.fits l.grant) e))

audit_line_so : (l : AuditLine) → audit_line.fits l ≡ true → is_audit_line l ≡ true
audit_line_so l e =
    let numbers = second (nat_lt l.client (256 ^ 4)) (code.fits l.code && (flag.fits l.is_wide && reply_code.fits l.reply)) (second (principal.fits l.who) _ (second (moment.fits l.moment) _ e)) in
    let last = second (flag.fits l.is_wide) (reply_code.fits l.reply) (second (code.fits l.code) (flag.fits l.is_wide && reply_code.fits l.reply) numbers) in
    both (nat_lt 0 l.code && nat_le l.code 20) (nat_lt l.reply 16)
    (second (byte.fits l.code) (nat_lt 0 l.code && nat_le l.code 20) (first (code.fits l.code) (flag.fits l.is_wide && reply_code.fits l.reply) numbers))
    (second (byte.fits l.reply) (nat_lt l.reply 16) last)

data_so : (version : WireVersion) (g : Grant) (bytes : List ℕ) → (grant.fits g && (byte_string version).fits bytes) ≡ true → (is_shown_grant g && nat_lt (length bytes) (256 ^ length_width version)) ≡ true
data_so version g bytes e =
    both (is_shown_grant g) (nat_lt (length bytes) (256 ^ length_width version)) (grant_so g (first (grant.fits g) ((byte_string version).fits bytes) e)) (second (grant.fits g) ((byte_string version).fits bytes) e)

pub fits_spellable : (version : WireVersion) (r : Reply) → (reply version).fits r ≡ true → is_spellable version r ≡ true
fits_spellable version Done e = refl
fits_spellable version (Made o) e = refl
fits_spellable version (Data g bytes) e = data_so version g bytes e
fits_spellable version (Attr g bytes) e = data_so version g bytes e
fits_spellable version (Entry g i who rights) e =
    let parts = both_true (grant.fits g) (index.fits i && (user.fits who && rights_given.fits rights)) e in
    let some = second (user.fits who) (rights_given.fits rights) (second (index.fits i) (user.fits who && rights_given.fits rights) parts.1) in
    let given = first (nat_lt 0 rights) (nat_lt rights 32) (second (byte.fits rights) (nat_lt 0 rights && nat_lt rights 32) some) in
    both (is_shown_grant g) (nat_lt i 16 && nat_lt 0 rights) (grant_so g parts.0)
    (both (nat_lt i 16) (nat_lt 0 rights) (index_so i (first (index.fits i) (user.fits who && rights_given.fits rights) parts.1)) given)
fits_spellable version (Mounted g o) e = grant_so g (first (grant.fits g) (object.fits o) e)
fits_spellable version (Names lines more) e =
    let parts = both_true (nat_le (length lines) 64) (list_all name_line.fits lines) (first ((list_up_to 64 name_line).fits lines) (flag.fits more) e) in
    both (nat_le (length lines) 64) (list_all is_page_line lines) parts.0 (all_so name_line.fits is_page_line page_line_so lines parts.1)
fits_spellable version (Audit lines more) e =
    let parts = both_true (nat_le (length lines) 32) (list_all audit_line.fits lines) (first ((list_up_to 32 audit_line).fits lines) (flag.fits more) e) in
    both (nat_le (length lines) 32) (list_all is_audit_line lines) parts.0 (all_so audit_line.fits is_audit_line audit_line_so lines parts.1)
fits_spellable version (Refused r) e = refl

-- what isn't spellable has no spelling
pub unspellable : (version : WireVersion) (r : Reply) → is_spellable version r ≡ false → (reply version).fits r ≡ true → ⊥
unspellable version r false_is e =
    let true_is = fits_spellable version r e in
    absurd cc
