-- Each request has one spelling, and each spelling one request.
use Rattle.std.proofs.Common.{◌≡◌, ℕ, Option, Some, List, length, refl, sym}
use Rattle.s4_types.specs.declared.object.Purse.{Purse}
use Rattle.s4_types.specs.declared.object.ObjectId.{ObjectId}
use Rattle.s4_types.specs.declared.request.After.{After}
use Rattle.s4_types.specs.declared.request.Request.{Request}
use Rattle.s4_types.specs.declared.request.Request.TheVariants.{Create, Delete, Read, Write, Append, Truncate, GetAttr, SetAttr, GetAclByUser, GetAclByIndex, SetAcl, PCreate, PDelete, PList, PMount, Flush, FlushO, SetWindow, SetBudget, ReadAudit}
use Rattle.s4_types.specs.Audit.{code_of}
use Rattle.s4_types.specs.declared.principal.WireVersion.{WireVersion}
use Rattle.s4_codec.specs.Parts.{purse, name, rights}
use Rattle.s4_codec.specs.Requests.{request, bodies, part_of_create, part_of_delete, part_of_read, part_of_write, part_of_append, part_of_truncate, part_of_get_attr, part_of_set_attr, part_of_get_acl_by_user, part_of_get_acl_by_index, part_of_set_acl, part_of_pcreate, part_of_pdelete, part_of_plist, part_of_pmount, part_of_flush, part_of_flush_object, part_of_set_window, part_of_set_budget, part_of_read_audit}
use Rattle.s4_codec.proofs.Lawful.{AreCases, IsFormat, some_is, byte_is, pair_is, cases_are, made_case, no_case, ◌and◌}
use Rattle.s4_codec.proofs.PartLaws.{moment_is, word_is, principal_is, user_is, purse_number_is, purse_is, object_is, name_is, rights_are, bytes_are, optional_moment_is, optional_after_is}

back_create : (r : Request) (x : ℕ) → part_of_create r ≡ Some x → Create x ≡ r
back_create (Create n) x e = rw (sym (some_is n x e)) refl
back_create _ x e = absurd cc

back_delete : (r : Request) (x : ObjectId) → part_of_delete r ≡ Some x → Delete x ≡ r
back_delete (Delete o) x e = rw (sym (some_is o x e)) refl
back_delete _ x e = absurd cc

back_read : (r : Request) (x : ObjectId × (ℕ × (ℕ × Option ℕ))) → part_of_read r ≡ Some x → Read x.0 x.1.0 x.1.1.0 x.1.1.1 ≡ r
back_read (Read o offset length at) x e = rw (sym (some_is (o, (offset, (length, at))) x e)) refl
back_read _ x e = absurd cc

back_write : (r : Request) (x : ObjectId × (ℕ × List ℕ)) → part_of_write r ≡ Some x → Write x.0 x.1.0 x.1.1 ≡ r
back_write (Write o offset bytes) x e = rw (sym (some_is (o, (offset, bytes)) x e)) refl
back_write _ x e = absurd cc

back_append : (r : Request) (x : ObjectId × List ℕ) → part_of_append r ≡ Some x → Append x.0 x.1 ≡ r
back_append (Append o bytes) x e = rw (sym (some_is (o, bytes) x e)) refl
back_append _ x e = absurd cc

back_truncate : (r : Request) (x : ObjectId × ℕ) → part_of_truncate r ≡ Some x → Truncate x.0 x.1 ≡ r
back_truncate (Truncate o length) x e = rw (sym (some_is (o, length) x e)) refl
back_truncate _ x e = absurd cc

back_get_attr : (r : Request) (x : ObjectId × Option ℕ) → part_of_get_attr r ≡ Some x → GetAttr x.0 x.1 ≡ r
back_get_attr (GetAttr o at) x e = rw (sym (some_is (o, at) x e)) refl
back_get_attr _ x e = absurd cc

back_set_attr : (r : Request) (x : ObjectId × List ℕ) → part_of_set_attr r ≡ Some x → SetAttr x.0 x.1 ≡ r
back_set_attr (SetAttr o bytes) x e = rw (sym (some_is (o, bytes) x e)) refl
back_set_attr _ x e = absurd cc

back_get_acl_by_user : (r : Request) (x : ObjectId × (ℕ × Option ℕ)) → part_of_get_acl_by_user r ≡ Some x → GetAclByUser x.0 x.1.0 x.1.1 ≡ r
back_get_acl_by_user (GetAclByUser o user at) x e = rw (sym (some_is (o, (user, at)) x e)) refl
back_get_acl_by_user _ x e = absurd cc

back_get_acl_by_index : (r : Request) (x : ObjectId × (ℕ × Option ℕ)) → part_of_get_acl_by_index r ≡ Some x → GetAclByIndex x.0 x.1.0 x.1.1 ≡ r
back_get_acl_by_index (GetAclByIndex o index at) x e = rw (sym (some_is (o, (index, at)) x e)) refl
back_get_acl_by_index _ x e = absurd cc

back_set_acl : (r : Request) (x : ObjectId × (ℕ × ℕ)) → part_of_set_acl r ≡ Some x → SetAcl x.0 x.1.0 x.1.1 ≡ r
back_set_acl (SetAcl o user rights) x e = rw (sym (some_is (o, (user, rights)) x e)) refl
back_set_acl _ x e = absurd cc

back_pcreate : (r : Request) (x : List ℕ × ObjectId) → part_of_pcreate r ≡ Some x → PCreate x.0 x.1 ≡ r
back_pcreate (PCreate name o) x e = rw (sym (some_is (name, o) x e)) refl
back_pcreate _ x e = absurd cc

back_pdelete : (r : Request) (x : Purse × List ℕ) → part_of_pdelete r ≡ Some x → PDelete x.0 x.1 ≡ r
back_pdelete (PDelete purse name) x e = rw (sym (some_is (purse, name) x e)) refl
back_pdelete _ x e = absurd cc

back_plist : (r : Request) (x : ℕ × (Option After × Option ℕ)) → part_of_plist r ≡ Some x → PList x.0 x.1.0 x.1.1 ≡ r
back_plist (PList range after at) x e = rw (sym (some_is (range, (after, at)) x e)) refl
back_plist _ x e = absurd cc

back_pmount : (r : Request) (x : Purse × (List ℕ × Option ℕ)) → part_of_pmount r ≡ Some x → PMount x.0 x.1.0 x.1.1 ≡ r
back_pmount (PMount purse name at) x e = rw (sym (some_is (purse, (name, at)) x e)) refl
back_pmount _ x e = absurd cc

back_flush : (r : Request) (x : ℕ × ℕ) → part_of_flush r ≡ Some x → Flush x.0 x.1 ≡ r
back_flush (Flush from to) x e = rw (sym (some_is (from, to) x e)) refl
back_flush _ x e = absurd cc

back_flush_object : (r : Request) (x : ObjectId × (ℕ × ℕ)) → part_of_flush_object r ≡ Some x → FlushO x.0 x.1.0 x.1.1 ≡ r
back_flush_object (FlushO o from to) x e = rw (sym (some_is (o, (from, to)) x e)) refl
back_flush_object _ x e = absurd cc

back_set_window : (r : Request) (x : ℕ) → part_of_set_window r ≡ Some x → SetWindow x ≡ r
back_set_window (SetWindow ticks) x e = rw (sym (some_is ticks x e)) refl
back_set_window _ x e = absurd cc

back_set_budget : (r : Request) (x : Purse × ℕ) → part_of_set_budget r ≡ Some x → SetBudget x.0 x.1 ≡ r
back_set_budget (SetBudget purse budget) x e = rw (sym (some_is (purse, budget) x e)) refl
back_set_budget _ x e = absurd cc

back_read_audit : (r : Request) (x : ℕ × ℕ) → part_of_read_audit r ≡ Some x → ReadAudit x.0 x.1 ≡ r
back_read_audit (ReadAudit range skip) x e = rw (sym (some_is (range, skip) x e)) refl
back_read_audit _ x e = absurd cc

cases_of : (version : WireVersion) → AreCases code_of 0 (bodies version)
cases_of version =
    no_case
    and made_case purse_number_is (λ x. refl) back_create (λ x. refl)
    and made_case object_is (λ x. refl) back_delete (λ x. refl)
    and made_case (pair_is object_is (pair_is word_is (pair_is word_is optional_moment_is))) (λ x. refl) back_read (λ x. refl)
    and made_case (pair_is object_is (pair_is word_is (bytes_are version))) (λ x. refl) back_write (λ x. refl)
    and made_case (pair_is object_is (bytes_are version)) (λ x. refl) back_append (λ x. refl)
    and made_case (pair_is object_is word_is) (λ x. refl) back_truncate (λ x. refl)
    and made_case (pair_is object_is optional_moment_is) (λ x. refl) back_get_attr (λ x. refl)
    and made_case (pair_is object_is (bytes_are version)) (λ x. refl) back_set_attr (λ x. refl)
    and made_case (pair_is object_is (pair_is user_is optional_moment_is)) (λ x. refl) back_get_acl_by_user (λ x. refl)
    and made_case (pair_is object_is (pair_is byte_is optional_moment_is)) (λ x. refl) back_get_acl_by_index (λ x. refl)
    and made_case (pair_is object_is (pair_is user_is rights_are)) (λ x. refl) back_set_acl (λ x. refl)
    and made_case (pair_is name_is object_is) (λ x. refl) back_pcreate (λ x. refl)
    and made_case (pair_is purse_is name_is) (λ x. refl) back_pdelete (λ x. refl)
    and made_case (pair_is principal_is (pair_is optional_after_is optional_moment_is)) (λ x. refl) back_plist (λ x. refl)
    and made_case (pair_is purse_is (pair_is name_is optional_moment_is)) (λ x. refl) back_pmount (λ x. refl)
    and made_case (pair_is moment_is moment_is) (λ x. refl) back_flush (λ x. refl)
    and made_case (pair_is object_is (pair_is moment_is moment_is)) (λ x. refl) back_flush_object (λ x. refl)
    and made_case moment_is (λ x. refl) back_set_window (λ x. refl)
    and made_case (pair_is purse_is word_is) (λ x. refl) back_set_budget (λ x. refl)
    and made_case (pair_is principal_is word_is) (λ x. refl) back_read_audit (λ x. refl)
    and tt

pub request_is : (version : WireVersion) → IsFormat (request version)
request_is version = cases_are code_of (bodies version) (cases_of version)
