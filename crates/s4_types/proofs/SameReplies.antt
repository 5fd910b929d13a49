-- Replies that pass the test of being one are one.
use Rattle.std.proofs.Common.{◌≡◌, ℕ, Bool, true, false, IsTrue, List, refl, ap, cond, subst, rules, Decides}
use Rattle.std.specs.Cmp.Lexicographic.{bytes_decides, pointwise}
use Rattle.std.proofs.lemmas.Bool.{false≢true}
use Rattle.std.proofs.lemmas.Slice.Eq.{slice_eq-Decides}
use Rattle.s4_types.specs.declared.rights.Right.{Right}
use Rattle.s4_types.specs.declared.rights.Right.TheVariants as rights
use Rattle.s4_types.specs.declared.object.ObjectId.{ObjectId}
use Rattle.s4_types.specs.declared.audit.AuditLine.{AuditLine}
use Rattle.s4_types.specs.declared.reply.NameLine.{NameLine}
use Rattle.s4_types.specs.declared.reply.Refusal.{Refusal}
use Rattle.s4_types.specs.declared.reply.Refusal.TheVariants.{Denied, NoObject, Future, TooOld, Flushed, TooLong, AclFull, NoEntry, NoPartition, Exists, PartsFull, Named, NamesSpent, OverBudget, BadRange, NoMemory}
use Rattle.s4_types.specs.declared.reply.Grant.{Grant}
use Rattle.s4_types.specs.declared.reply.Grant.TheVariants as grants
use Rattle.s4_types.specs.declared.reply.Reply.{Reply}
use Rattle.s4_types.specs.declared.reply.Reply.TheVariants.{Done, Made, Data, Attr, Entry, Mounted, Names, Audit, Refused}
use Rattle.s4_types.specs.Same.{object_numbers, grant_numbers, same_grant, same_line}
use Rattle.s4_types.specs.SameAudit.{audit_numbers, same_audit_line}
use Rattle.s4_types.specs.contracts.rights.RightPartialEq.TheImpl as right
use Rattle.s4_types.specs.contracts.reply.RefusalPartialEq.TheImpl as refusal
use Rattle.s4_types.specs.contracts.reply.ReplyPartialEq.TheImpl.{ghosts}
use Rattle.s4_types.proofs.Booleans.{both}
use Rattle.s4_types.proofs.SameNames.{object_is}

-- REFUSALS

right-is : (a b : Right) → IsTrue (right.ghosts.eq a b) → a ≡ b
right-is rights.Read rights.Read e = refl
right-is rights.Write rights.Write e = refl
right-is rights.Delete rights.Delete e = refl
right-is rights.Control rights.Control e = refl
right-is rights.Recover rights.Recover e = refl
right-is rights.Admin rights.Admin e = refl
right-is _ _ e = absurd (false≢true e)

right-self : (a : Right) → IsTrue (right.ghosts.eq a a)
right-self rights.Read = search rules
right-self rights.Write = search rules
right-self rights.Delete = search rules
right-self rights.Control = search rules
right-self rights.Recover = search rules
right-self rights.Admin = search rules

refusal-is : (a b : Refusal) → IsTrue (refusal.ghosts.eq a b) → a ≡ b
refusal-is (Denied r) (Denied r') e = ap Denied (right-is r r' e)
refusal-is NoObject NoObject e = refl
refusal-is Future Future e = refl
refusal-is (TooOld horizon) (TooOld horizon') e = search rules
refusal-is Flushed Flushed e = refl
refusal-is TooLong TooLong e = refl
refusal-is AclFull AclFull e = refl
refusal-is NoEntry NoEntry e = refl
refusal-is NoPartition NoPartition e = refl
refusal-is Exists Exists e = refl
refusal-is PartsFull PartsFull e = refl
refusal-is Named Named e = refl
refusal-is NamesSpent NamesSpent e = refl
refusal-is (OverBudget spent charge budget) (OverBudget spent' charge' budget') e = search rules
refusal-is BadRange BadRange e = refl
refusal-is NoMemory NoMemory e = refl
refusal-is _ _ e = absurd (false≢true e)

refusal-self : (a : Refusal) → IsTrue (refusal.ghosts.eq a a)
refusal-self (Denied r) = right-self r
refusal-self (TooOld horizon) = search rules
refusal-self (OverBudget spent charge budget) = search rules
refusal-self _ = search rules

-- WHAT REPLIES ARE MADE OF

grant-of : (a b : Grant) → grant_numbers a ≡ grant_numbers b → a ≡ b
grant-of grants.Admin grants.Admin e = refl
grant-of grants.Owner grants.Owner e = refl
grant-of (grants.Entry i s) (grants.Entry j t) e = cc
grant-of _ _ e = cc

grant-Decides : (a b : Grant) → Decides (same_grant a b) (a ≡ b)
grant-Decides a b = (λ e. grant-of a b ((bytes_decides (grant_numbers a) (grant_numbers b)).0 e), λ e. (bytes_decides (grant_numbers a) (grant_numbers b)).1 (ap grant_numbers e))

object-of : (a b : ObjectId) → object_numbers a ≡ object_numbers b → a ≡ b
object-of a b e =
    let creator : a.purse.creator ≡ b.purse.creator = cc in
    let number : a.purse.number ≡ b.purse.number = cc in
    let serial : a.serial ≡ b.serial = cc in
    λ i. record { purse = record { creator = creator i; number = number i }; serial = serial i }

line-of : (a b : NameLine) → same_line a b ≡ true → a ≡ b
line-of a b e =
    let first = both _ _ e in
    let second = both _ _ first.1 in
    let name : a.name ≡ b.name = (bytes_decides a.name b.name).0 first.0 in
    let object : a.object ≡ b.object = object-of a.object b.object ((bytes_decides (object_numbers a.object) (object_numbers b.object)).0 second.0) in
    let grant : a.grant ≡ b.grant = (grant-Decides a.grant b.grant).0 second.1 in
    λ i. record { name = name i; object = object i; grant = grant i }

line-self : (a : NameLine) → same_line a a ≡ true
line-self a = rw ((bytes_decides a.name a.name).1 refl, (bytes_decides (object_numbers a.object) (object_numbers a.object)).1 refl, (grant-Decides a.grant a.grant).1 refl) refl

line-Decides : (a b : NameLine) → Decides (same_line a b) (a ≡ b)
line-Decides a b = (line-of a b, λ e. subst (λ (x : NameLine). same_line a x ≡ true) e (line-self a))

lines-Decides : (a b : List NameLine) → Decides (pointwise same_line a b) (a ≡ b)
lines-Decides a b = slice_eq-Decides line-Decides a b (pointwise same_line a b) refl

wide-of : (a b : Bool) → cond {A = ℕ} a 1 0 ≡ cond b 1 0 → a ≡ b
wide-of true true e = refl
wide-of false false e = refl
wide-of true false e = cc
wide-of false true e = cc

audit-of : (a b : AuditLine) → audit_numbers a ≡ audit_numbers b → a ≡ b
audit-of a b e =
    let moment : a.moment ≡ b.moment = cc in
    let who : a.who ≡ b.who = cc in
    let client : a.client ≡ b.client = cc in
    let code : a.code ≡ b.code = cc in
    let wide : cond {A = ℕ} a.is_wide 1 0 ≡ cond b.is_wide 1 0 = cc in
    let is_wide : a.is_wide ≡ b.is_wide = wide-of a.is_wide b.is_wide wide in
    let reply : a.reply ≡ b.reply = cc in
    λ i. record { moment = moment i; who = who i; client = client i; code = code i; is_wide = is_wide i; reply = reply i }

audit-Decides : (a b : AuditLine) → Decides (same_audit_line a b) (a ≡ b)
audit-Decides a b = (λ e. audit-of a b ((bytes_decides (audit_numbers a) (audit_numbers b)).0 e), λ e. (bytes_decides (audit_numbers a) (audit_numbers b)).1 (ap audit_numbers e))

audits-Decides : (a b : List AuditLine) → Decides (pointwise same_audit_line a b) (a ≡ b)
audits-Decides a b = slice_eq-Decides audit-Decides a b (pointwise same_audit_line a b) refl

-- REPLIES

reply-is : (a b : Reply) → IsTrue (ghosts.eq a b) → a ≡ b
reply-is Done Done e = refl
reply-is (Made o) (Made o') e = ap Made (object_is o o' e)
reply-is (Data grant bytes) (Data grant' bytes') e = let is : grant ≡ grant' = (grant-Decides grant grant').0 (both _ _ e).0 in search rules
reply-is (Attr grant bytes) (Attr grant' bytes') e = let is : grant ≡ grant' = (grant-Decides grant grant').0 (both _ _ e).0 in search rules
reply-is (Entry grant index user rights) (Entry grant' index' user' rights') e = let is : grant ≡ grant' = (grant-Decides grant grant').0 (both _ _ e).0 in search rules
reply-is (Mounted grant o) (Mounted grant' o') e =
    let is : grant ≡ grant' = (grant-Decides grant grant').0 (both _ _ e).0 in
    let object : o ≡ o' = object_is o o' (both _ _ e).1 in
    search rules
reply-is (Names lines more) (Names lines' more') e = let is : lines ≡ lines' = (lines-Decides lines lines').0 (both _ _ e).0 in search rules
reply-is (Audit lines more) (Audit lines' more') e = let is : lines ≡ lines' = (audits-Decides lines lines').0 (both _ _ e).0 in search rules
reply-is (Refused r) (Refused r') e = ap Refused (refusal-is r r' e)
reply-is _ _ e = absurd (false≢true e)

grant-self : (a : Grant) → same_grant a a ≡ true
grant-self a = (grant-Decides a a).1 refl

lines-self : (a : List NameLine) → pointwise same_line a a ≡ true
lines-self a = (lines-Decides a a).1 refl

audits-self : (a : List AuditLine) → pointwise same_audit_line a a ≡ true
audits-self a = (audits-Decides a a).1 refl

reply-self : (a : Reply) → IsTrue (ghosts.eq a a)
reply-self Done = search rules
reply-self (Made o) = search rules
reply-self (Data grant bytes) = search (rules, grant-self)
reply-self (Attr grant bytes) = search (rules, grant-self)
reply-self (Entry grant index user rights) = search (rules, grant-self)
reply-self (Mounted grant o) = search (rules, grant-self)
reply-self (Names lines more) = search (rules, lines-self)
reply-self (Audit lines more) = search (rules, audits-self)
reply-self (Refused r) = refusal-self r

-- the test tells whether they are one
pub reply-Decides : (a b : Reply) → Decides (ghosts.eq a b) (a ≡ b)
reply-Decides a b = (reply-is a b, λ e. subst (λ (x : Reply). IsTrue (ghosts.eq a x)) e (reply-self a))
