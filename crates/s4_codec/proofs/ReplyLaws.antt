-- Each reply has one spelling, and each spelling one reply.
use Rattle.std.proofs.Common.{◌≡◌, ℕ, Bool, Some, List, refl, sym, ap, arith}
use Rattle.s4_types.specs.declared.object.ObjectId.{ObjectId}
use Rattle.s4_types.specs.declared.rights.Right.{Right}
use Rattle.s4_types.specs.declared.reply.Grant.{Grant}
use Rattle.s4_types.specs.declared.reply.NameLine.{NameLine}
use Rattle.s4_types.specs.declared.audit.AuditLine.{AuditLine}
use Rattle.s4_types.specs.declared.reply.Refusal.{Refusal}
use Rattle.s4_types.specs.declared.reply.Refusal.TheVariants.{Denied, NoObject, NoPartition, Future, TooOld, Flushed, TooLong, AclFull, NoEntry, Exists, PartsFull, Named, NamesSpent, OverBudget, BadRange, NoMemory}
use Rattle.s4_types.specs.declared.reply.Reply.{Reply}
use Rattle.s4_types.specs.declared.reply.Reply.TheVariants.{Done, Made, Data, Attr, Entry, Mounted, Names, Audit, Refused}
use Rattle.s4_types.specs.Audit.{number_of_refusal}
use Rattle.s4_types.specs.declared.principal.WireVersion.{WireVersion}
use Rattle.s4_codec.specs.Format.{◌&◌, byte, number}
use Rattle.s4_codec.specs.Parts.{moment, principal, object, name, grant, flag}
use Rattle.s4_codec.specs.Replies.{name_line, code, reply_code, audit_line, is_same, refusals, refusal, kind_of, bodies, reply, part_of_denied, part_of_too_old, part_of_over_budget, part_of_done, part_of_made, part_of_data, part_of_attr, part_of_entry, part_of_mounted, part_of_names, part_of_audit, part_of_refused}
use Rattle.s4_codec.proofs.Lawful.{IsFormat, AreCases, some_is, nothing_is, byte_is, pair_is, only_is, made_is, list_is, cases_are, made_case, no_case, ◌and◌}
use Rattle.s4_codec.proofs.PartLaws.{moment_is, word_is, principal_is, user_is, index_is, object_is, name_is, bytes_are, rights_given_is, grant_is, flag_is, right_is}

back_NoObject : (y : Refusal) (x : Unit {0}) → is_same NoObject y ≡ Some x → NoObject ≡ y
back_NoObject NoObject x e = refl
back_NoObject _ x e = absurd cc

back_NoPartition : (y : Refusal) (x : Unit {0}) → is_same NoPartition y ≡ Some x → NoPartition ≡ y
back_NoPartition NoPartition x e = refl
back_NoPartition _ x e = absurd cc

back_Future : (y : Refusal) (x : Unit {0}) → is_same Future y ≡ Some x → Future ≡ y
back_Future Future x e = refl
back_Future _ x e = absurd cc

back_Flushed : (y : Refusal) (x : Unit {0}) → is_same Flushed y ≡ Some x → Flushed ≡ y
back_Flushed Flushed x e = refl
back_Flushed _ x e = absurd cc

back_TooLong : (y : Refusal) (x : Unit {0}) → is_same TooLong y ≡ Some x → TooLong ≡ y
back_TooLong TooLong x e = refl
back_TooLong _ x e = absurd cc

back_AclFull : (y : Refusal) (x : Unit {0}) → is_same AclFull y ≡ Some x → AclFull ≡ y
back_AclFull AclFull x e = refl
back_AclFull _ x e = absurd cc

back_NoEntry : (y : Refusal) (x : Unit {0}) → is_same NoEntry y ≡ Some x → NoEntry ≡ y
back_NoEntry NoEntry x e = refl
back_NoEntry _ x e = absurd cc

back_Exists : (y : Refusal) (x : Unit {0}) → is_same Exists y ≡ Some x → Exists ≡ y
back_Exists Exists x e = refl
back_Exists _ x e = absurd cc

back_PartsFull : (y : Refusal) (x : Unit {0}) → is_same PartsFull y ≡ Some x → PartsFull ≡ y
back_PartsFull PartsFull x e = refl
back_PartsFull _ x e = absurd cc

back_Named : (y : Refusal) (x : Unit {0}) → is_same Named y ≡ Some x → Named ≡ y
back_Named Named x e = refl
back_Named _ x e = absurd cc

back_NamesSpent : (y : Refusal) (x : Unit {0}) → is_same NamesSpent y ≡ Some x → NamesSpent ≡ y
back_NamesSpent NamesSpent x e = refl
back_NamesSpent _ x e = absurd cc

back_BadRange : (y : Refusal) (x : Unit {0}) → is_same BadRange y ≡ Some x → BadRange ≡ y
back_BadRange BadRange x e = refl
back_BadRange _ x e = absurd cc

back_NoMemory : (y : Refusal) (x : Unit {0}) → is_same NoMemory y ≡ Some x → NoMemory ≡ y
back_NoMemory NoMemory x e = refl
back_NoMemory _ x e = absurd cc

back_denied : (r : Refusal) (x : Right) → part_of_denied r ≡ Some x → Denied x ≡ r
back_denied (Denied right) x e = rw (sym (some_is right x e)) refl
back_denied _ x e = absurd cc

back_too_old : (r : Refusal) (x : ℕ) → part_of_too_old r ≡ Some x → TooOld x ≡ r
back_too_old (TooOld horizon) x e = rw (sym (some_is horizon x e)) refl
back_too_old _ x e = absurd cc

back_over_budget : (r : Refusal) (x : ℕ × (ℕ × ℕ)) → part_of_over_budget r ≡ Some x → OverBudget x.0 x.1.0 x.1.1 ≡ r
back_over_budget (OverBudget spent charge budget) x e = rw (sym (some_is (spent, (charge, budget)) x e)) refl
back_over_budget _ x e = absurd cc

refusals_are : AreCases number_of_refusal 0 refusals
refusals_are =
    no_case
    and made_case right_is (λ x. refl) back_denied (λ x. refl)
    and made_case nothing_is (λ x. refl) back_NoObject (λ x. refl)
    and made_case nothing_is (λ x. refl) back_NoPartition (λ x. refl)
    and made_case nothing_is (λ x. refl) back_Future (λ x. refl)
    and made_case moment_is (λ x. refl) back_too_old (λ x. refl)
    and made_case nothing_is (λ x. refl) back_Flushed (λ x. refl)
    and made_case nothing_is (λ x. refl) back_TooLong (λ x. refl)
    and made_case nothing_is (λ x. refl) back_AclFull (λ x. refl)
    and made_case nothing_is (λ x. refl) back_NoEntry (λ x. refl)
    and made_case nothing_is (λ x. refl) back_Exists (λ x. refl)
    and made_case nothing_is (λ x. refl) back_PartsFull (λ x. refl)
    and made_case nothing_is (λ x. refl) back_Named (λ x. refl)
    and made_case nothing_is (λ x. refl) back_NamesSpent (λ x. refl)
    and made_case (pair_is word_is (pair_is word_is word_is)) (λ x. refl) back_over_budget (λ x. refl)
    and made_case nothing_is (λ x. refl) back_BadRange (λ x. refl)
    and made_case nothing_is (λ x. refl) back_NoMemory (λ x. refl)
    and tt

pub refusal_is : IsFormat refusal
refusal_is = cases_are number_of_refusal refusals refusals_are

pub name_line_is : IsFormat name_line
name_line_is = made_is (name & (object & grant)) _ _ (pair_is name_is (pair_is object_is grant_is))
    (λ x e. refl)
    (λ l x e. ap (λ (z : List ℕ × (ObjectId × Grant)). record { name = z.0; object = z.1.0; grant = z.1.1 }) (sym (some_is (l.name, (l.object, l.grant)) x e)))

code_is : IsFormat code
code_is = only_is _ byte byte_is

reply_code_is : IsFormat reply_code
reply_code_is = only_is _ byte byte_is

pub audit_line_is : IsFormat audit_line
audit_line_is = made_is (moment & (principal & (number 4 & (code & (flag & reply_code))))) _ _
    (pair_is moment_is (pair_is principal_is (pair_is word_is (pair_is code_is (pair_is flag_is reply_code_is)))))
    (λ x e. refl)
    (λ l x e. ap (λ (z : ℕ × (ℕ × (ℕ × (ℕ × (Bool × ℕ))))). record { moment = z.0; who = z.1.0; client = z.1.1.0; code = z.1.1.1.0; is_wide = z.1.1.1.1.0; reply = z.1.1.1.1.1 }) (sym (some_is (l.moment, (l.who, (l.client, (l.code, (l.is_wide, l.reply))))) x e)))

back_done : (r : Reply) (x : Unit {0}) → part_of_done r ≡ Some x → Done ≡ r
back_done Done x e = refl
back_done _ x e = absurd cc

back_made : (r : Reply) (x : ObjectId) → part_of_made r ≡ Some x → Made x ≡ r
back_made (Made o) x e = rw (sym (some_is o x e)) refl
back_made _ x e = absurd cc

back_data : (r : Reply) (x : Grant × List ℕ) → part_of_data r ≡ Some x → Data x.0 x.1 ≡ r
back_data (Data g bytes) x e = rw (sym (some_is (g, bytes) x e)) refl
back_data _ x e = absurd cc

back_attr : (r : Reply) (x : Grant × List ℕ) → part_of_attr r ≡ Some x → Attr x.0 x.1 ≡ r
back_attr (Attr g bytes) x e = rw (sym (some_is (g, bytes) x e)) refl
back_attr _ x e = absurd cc

back_entry : (r : Reply) (x : Grant × (ℕ × (ℕ × ℕ))) → part_of_entry r ≡ Some x → Entry x.0 x.1.0 x.1.1.0 x.1.1.1 ≡ r
back_entry (Entry g i user rights) x e = rw (sym (some_is (g, (i, (user, rights))) x e)) refl
back_entry _ x e = absurd cc

back_mounted : (r : Reply) (x : Grant × ObjectId) → part_of_mounted r ≡ Some x → Mounted x.0 x.1 ≡ r
back_mounted (Mounted g o) x e = rw (sym (some_is (g, o) x e)) refl
back_mounted _ x e = absurd cc

back_names : (r : Reply) (x : List NameLine × Bool) → part_of_names r ≡ Some x → Names x.0 x.1 ≡ r
back_names (Names lines more) x e = rw (sym (some_is (lines, more) x e)) refl
back_names _ x e = absurd cc

back_audit : (r : Reply) (x : List AuditLine × Bool) → part_of_audit r ≡ Some x → Audit x.0 x.1 ≡ r
back_audit (Audit lines more) x e = rw (sym (some_is (lines, more) x e)) refl
back_audit _ x e = absurd cc

back_refused : (r : Reply) (x : Refusal) → part_of_refused r ≡ Some x → Refused x ≡ r
back_refused (Refused r) x e = rw (sym (some_is r x e)) refl
back_refused _ x e = absurd cc

cases_of : (version : WireVersion) → AreCases kind_of 0 (bodies version)
cases_of version =
    made_case nothing_is (λ x. refl) back_done (λ x. refl)
    and made_case object_is (λ x. refl) back_made (λ x. refl)
    and made_case (pair_is grant_is (bytes_are version)) (λ x. refl) back_data (λ x. refl)
    and made_case (pair_is grant_is (bytes_are version)) (λ x. refl) back_attr (λ x. refl)
    and made_case (pair_is grant_is (pair_is index_is (pair_is user_is rights_given_is))) (λ x. refl) back_entry (λ x. refl)
    and made_case (pair_is grant_is object_is) (λ x. refl) back_mounted (λ x. refl)
    and made_case (pair_is (list_is 64 name_line (omega arith) name_line_is) flag_is) (λ x. refl) back_names (λ x. refl)
    and made_case (pair_is (list_is 32 audit_line (omega arith) audit_line_is) flag_is) (λ x. refl) back_audit (λ x. refl)
    and made_case refusal_is (λ x. refl) back_refused (λ x. refl)
    and tt

pub reply_is : (version : WireVersion) → IsFormat (reply version)
reply_is version = cases_are kind_of (bodies version) (cases_of version)
