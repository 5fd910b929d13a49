-- What an accepted request tells of the object that it is about.
use Rattle.std.proofs.Common.{◌≡◌, ℕ, ◌+◌, ◌≤◌, ◌<◌, Bool, true, false, not, cond, Option, Some, None, List, [], ◌∷◌, ◌++◌, refl, sym, ◌∙◌, ap, subst, arith, length, take, drop, length-append, length-drop}
use Rattle.std.specs.Prelude.{◌==◌, nat_le, nat_lt, min, is_ok, is_some, Result, Ok, Err, slice_get, ok_or}
use Rattle.std.specs.Option.{option_map}
use Rattle.std.proofs.lemmas.List.{length-take, length-replicate}
use Rattle.s4_types.specs.declared.principal.Caller.{Caller}
use Rattle.s4_types.specs.declared.principal.WireVersion.{WireVersion}
use Rattle.s4_types.specs.declared.principal.WireVersion.TheVariants.{One, Two}
use Rattle.s4_types.specs.declared.object.Purse.{Purse}
use Rattle.s4_types.specs.declared.object.ObjectId.{ObjectId}
use Rattle.s4_types.specs.declared.acl.AclEntry.{AclEntry}
use Rattle.s4_types.specs.declared.rights.Right.{Right}
use Rattle.s4_types.specs.declared.rights.Right.TheVariants as right
use Rattle.s4_types.specs.declared.request.Request.{Request}
use Rattle.s4_types.specs.declared.request.Request.TheVariants.{Create, Delete, Read, Write, Append, Truncate, GetAttr, SetAttr, GetAclByUser, GetAclByIndex, SetAcl, PCreate, PDelete, PList, PMount, Flush, FlushO, SetWindow, SetBudget, ReadAudit}
use Rattle.s4_types.specs.declared.reply.Refusal.{Refusal}
use Rattle.s4_types.specs.declared.reply.Refusal.TheVariants.{Denied, Flushed, TooLong, AclFull, NoEntry, NamesSpent, Exists, PartsFull, Named, BadRange}
use Rattle.s4_types.specs.declared.reply.Reply.{Reply}
use Rattle.s4_types.specs.declared.reply.Reply.TheVariants.{Done, Made, Data, Attr, Entry, Mounted, Names, Audit, Refused}
use Rattle.s4_types.specs.declared.record.Record.{Record}
use Rattle.s4_types.specs.Names.{same_object, object_in}
use Rattle.s4_types.specs.Kinds.{is_refused, is_create}
use Rattle.s4_types.specs.Versions.{Value, value_at, is_made, is_deleted, lives_at, of_length, written, data_track, attribute_track, acl_track, data_effect, attribute_effect, acl_effect}
use Rattle.s4_types.specs.Acl.{names, without_entry, replaced, acl_with}
use Rattle.s4_types.specs.Limits.{data_limit}
use Rattle.s4_types.specs.Judgement.{entry_of, judge, judge_now, held_of}
use Rattle.s4_types.specs.Outcome.{◌>>=◌, ◌>>◌, refuse_if, reply_of}
use Rattle.s4_types.specs.Answer.{outcome_by_kind, administered, flushed, moment_of, is_gone, settable, found_bound, mountable}
use Rattle.s4_types.specs.Serials.{drawn}
use Rattle.s4_types.specs.Bindings.{bound_at, bound_count, has_name}
use Rattle.s4_types.proofs.SameNames.{object_is}
use Rattle.s4_types.proofs.Outcomes.{passes_test, passes_judgement, answer-by-kind}
use Rattle.s4_acl.proofs.Acls.{is_acl-without, is_acl-replaced, is_acl-more}
use Rattle.s4_types.specs.Base.{Base}
use Rattle.s4_state.specs.Sound.{IsNext, DataFits, AttributesFit, AclFits}
use Rattle.std.specs.Bool.{then_some}
use Rattle.s4_types.specs.Contents.{data_of, attributes_of, acl_of}

-- what the request is told by its kind, the time and the budget aside
abbrev pub told : Base → List Record → ℕ → Caller → Request → Reply
told base h t caller request = reply_of (outcome_by_kind base h t caller request)

-- MAKING

-- the object is the next one of its purse
pub record IsNextOf (base : Base) (h : List Record) (caller : Caller) (request : Request) (o : ObjectId) : Type 0 where
  pub serial : o.serial ≡ drawn base o.purse h + 1
  pub creates : is_create request ≡ true

-- whether the outcome makes no object
abbrev makes_nothing : Result Reply Refusal → Bool
makes_nothing (Ok (Made o)) = false
makes_nothing _ = true

nothing-then : {A : Type 0} (first : Result A Refusal) (next : Result Reply Refusal) → makes_nothing next ≡ true → makes_nothing (first >> next) ≡ true
nothing-then (Ok x) next e = e
nothing-then (Err r) next e = refl

nothing-bind : {A : Type 0} (first : Result A Refusal) (next : A → Result Reply Refusal) → ((x : A) → makes_nothing (next x) ≡ true) → makes_nothing (first >>= next) ≡ true
nothing-bind (Ok x) next e = e x
nothing-bind (Err r) next e = refl

nothing-made : (o : ObjectId) (r : Result Reply Refusal) → makes_nothing r ≡ true → is_made o (reply_of r) ≡ false
nothing-made o (Ok Done) e = refl
nothing-made o (Ok (Made p)) e = cc
nothing-made o (Ok (Data g bytes)) e = refl
nothing-made o (Ok (Attr g bytes)) e = refl
nothing-made o (Ok (Entry g index user rights)) e = refl
nothing-made o (Ok (Mounted g p)) e = refl
nothing-made o (Ok (Names lines more)) e = refl
nothing-made o (Ok (Audit lines more)) e = refl
nothing-made o (Ok (Refused r)) e = refl
nothing-made o (Err r) e = refl

nothing-found : {A : Type 0} (found : Option A) (next : A → Result Reply Refusal) → ((x : A) → makes_nothing (next x) ≡ true) → makes_nothing (ok_or found NoEntry >>= next) ≡ true
nothing-found None next e = refl
nothing-found (Some x) next e = e x

pub makes_nothing-outcome : (base : Base) (h : List Record) (t : ℕ) (caller : Caller) (request : Request) → is_create request ≡ false → makes_nothing (outcome_by_kind base h t caller request) ≡ true
makes_nothing-outcome base h t caller (Create number) e = cc
makes_nothing-outcome base h t caller (Delete p) e = nothing-then (judge base h t caller p right.Delete None) _ (nothing-then (refuse_if (has_name base p t h) Named) (Ok Done) refl)
makes_nothing-outcome base h t caller (Read p offset length at) e =
    nothing-bind (judge base h t caller p right.Read at) (λ g. refuse_if (is_gone (value_at base data_track p (moment_of t at) h)) Flushed >> Ok (Data g (take (min length (data_limit caller.version)) (drop offset (data_of base p (moment_of t at) h)))))
    (λ g. nothing-then (refuse_if (is_gone (value_at base data_track p (moment_of t at) h)) Flushed) (Ok (Data g (take (min length (data_limit caller.version)) (drop offset (data_of base p (moment_of t at) h))))) refl)
makes_nothing-outcome base h t caller (Write p offset bytes) e =
    nothing-then (refuse_if (nat_lt (data_limit caller.version) (offset + length bytes)) TooLong) _ (nothing-then (judge base h t caller p right.Write None) (Ok Done) refl)
makes_nothing-outcome base h t caller (Append p bytes) e =
    nothing-then (refuse_if (nat_lt (data_limit caller.version) (length bytes)) TooLong) _ (nothing-then (judge base h t caller p right.Write None) _
    (nothing-then (refuse_if (nat_lt (data_limit caller.version) (length (data_of base p t h) + length bytes)) TooLong) (Ok Done) refl))
makes_nothing-outcome base h t caller (Truncate p length) e =
    nothing-then (refuse_if (nat_lt (data_limit caller.version) length) TooLong) _ (nothing-then (judge base h t caller p right.Write None) (Ok Done) refl)
makes_nothing-outcome base h t caller (GetAttr p at) e =
    nothing-bind (judge base h t caller p right.Read at) (λ g. refuse_if (is_gone (value_at base attribute_track p (moment_of t at) h)) Flushed >> Ok (Attr g (attributes_of base p (moment_of t at) h)))
    (λ g. nothing-then (refuse_if (is_gone (value_at base attribute_track p (moment_of t at) h)) Flushed) (Ok (Attr g (attributes_of base p (moment_of t at) h))) refl)
makes_nothing-outcome base h t caller (SetAttr p bytes) e =
    nothing-then (refuse_if (nat_lt 256 (length bytes)) TooLong) _ (nothing-then (judge base h t caller p right.Write None) (Ok Done) refl)
makes_nothing-outcome base h t caller (GetAclByUser p user at) e =
    nothing-bind (judge base h t caller p right.Read at) (λ g. ok_or (entry_of user (acl_of base p (moment_of t at) h)) NoEntry >>= λ x. Ok (Entry g x.index user x.rights))
    (λ g. nothing-found (entry_of user (acl_of base p (moment_of t at) h)) (λ x. Ok (Entry g x.index user x.rights)) (λ x. refl))
makes_nothing-outcome base h t caller (GetAclByIndex p index at) e =
    nothing-bind (judge base h t caller p right.Read at) (λ g. ok_or (slice_get (acl_of base p (moment_of t at) h) index) NoEntry >>= λ x. Ok (Entry g index x.who x.rights))
    (λ g. nothing-found (slice_get (acl_of base p (moment_of t at) h) index) (λ x. Ok (Entry g index x.who x.rights)) (λ x. refl))
makes_nothing-outcome base h t caller (SetAcl p user rights) e =
    nothing-then (judge base h t caller p right.Control None) _ (nothing-then (settable user rights (acl_of base p t h)) (Ok Done) refl)
makes_nothing-outcome base h t caller (PCreate name p) e =
    nothing-then (judge base h t caller p right.Control None) _ (nothing-then (refuse_if (is_some (bound_at base p.purse name t h)) Exists) _
    (nothing-then (refuse_if (nat_le 64 (bound_count base p.purse t h)) PartsFull) (Ok Done) refl))
makes_nothing-outcome base h t caller (PDelete purse name) e =
    nothing-bind (found_bound caller purse right.Control (bound_at base purse name t h)) (λ serial. judge base h t caller (object_in purse serial) right.Control None >> Ok Done)
    (λ serial. nothing-then (judge base h t caller (object_in purse serial) right.Control None) (Ok Done) refl)
makes_nothing-outcome base h t caller (PList range after at) e =
    refl
makes_nothing-outcome base h t caller (PMount purse name at) e =
    nothing-bind (mountable base h t caller purse name at) (λ line. Ok (Mounted line.grant line.object)) (λ line. refl)
makes_nothing-outcome base h t caller (Flush from to) e = nothing-then (refuse_if (nat_lt to from) BadRange) (administered caller) (nothing-then (refuse_if (not (caller.who == 0)) (Denied right.Admin)) (Ok Done) refl)
makes_nothing-outcome base h t caller (FlushO p from to) e = nothing-then (refuse_if (nat_lt to from) BadRange) (administered caller) (nothing-then (refuse_if (not (caller.who == 0)) (Denied right.Admin)) (Ok Done) refl)
makes_nothing-outcome base h t caller (SetWindow ticks) e = nothing-then (refuse_if (not (caller.who == 0)) (Denied right.Admin)) (Ok Done) refl
makes_nothing-outcome base h t caller (SetBudget purse budget) e = nothing-then (refuse_if (not (caller.who == 0)) (Denied right.Admin)) (Ok Done) refl
makes_nothing-outcome base h t caller (ReadAudit range skip) e = refl

clash : {A : Type 0} (b : Bool) → b ≡ false → b ≡ true → A
clash true e f = absurd (no e)
  where
    no : true ≡ false → ⊥
    no g = cc
clash false e f = absurd (no f)
  where
    no : false ≡ true → ⊥
    no g = cc

next-made : (base : Base) (h : List Record) (caller : Caller) (number : ℕ) (o : ObjectId) → is_made o (told base h 0 caller (Create number)) ≡ true → IsNextOf base h caller (Create number) o
next-made base h caller number o e =
    let purse : Purse = record { creator = caller.who; number = number } in
    let of : (b : Bool) → is_made o (reply_of (refuse_if b NamesSpent >> Ok (Made (object_in purse (drawn base purse h + 1))))) ≡ true → IsNextOf base h caller (Create number) o
    = λ b. elim b as (λ b. is_made o (reply_of (refuse_if b NamesSpent >> Ok (Made (object_in purse (drawn base purse h + 1))))) ≡ true → IsNextOf base h caller (Create number) o) [
      | true ↦ λ f. cc
      | false ↦ λ f. subst (IsNextOf base h caller (Create number)) (object_is (object_in purse (drawn base purse h + 1)) o f) (record { serial = refl; creates = refl })
    ] in
    of (nat_le 65535 (drawn base purse h)) e

pub made_is : (base : Base) (h : List Record) (t : ℕ) (caller : Caller) (request : Request) (o : ObjectId) → is_made o (told base h t caller request) ≡ true → IsNextOf base h caller request o
made_is base h t caller (Create number) o e = next-made base h caller number o e
made_is base h t caller (PList range after at) o e = clash _ (nothing-made o (outcome_by_kind base h t caller (PList range after at)) (makes_nothing-outcome base h t caller (PList range after at) refl)) e
made_is base h t caller (ReadAudit range skip) o e = clash _ (nothing-made o (outcome_by_kind base h t caller (ReadAudit range skip)) (makes_nothing-outcome base h t caller (ReadAudit range skip) refl)) e
made_is base h t caller request o e = clash _ (nothing-made o _ (makes_nothing-outcome base h t caller request refl)) e

create-deletes : (request : Request) (o : ObjectId) → is_create request ≡ true → is_deleted o request ≡ false
create-deletes (Create number) o e = refl
create-deletes _ o e = cc

pub create_deletes_none : (request : Request) (o : ObjectId) → is_create request ≡ true → is_deleted o request ≡ false
create_deletes_none = create-deletes

-- CHANGING

-- who is granted a thing on an object now has an object that lives
pub granted-lives : (o : ObjectId) (t : ℕ) (base : Base) (h : List Record) (caller : Caller) (needed : Right) → is_ok (judge base h t caller o needed None) ≡ true → lives_at base t o h ≡ true
granted-lives o t base h caller needed e = lives (value_at base acl_track o t h) e
  where
    lives : (x : Option (Value (List AclEntry))) → is_ok (judge_now caller o needed (option_map held_of x)) ≡ true → is_some x ≡ true
    lives None f = cc
    lives (Some v) f = refl

-- the object that the request changes or deletes, where it does
abbrev pub changed_by : Request → Option ObjectId
changed_by (Delete p) = Some p
changed_by (Write p offset bytes) = Some p
changed_by (Append p bytes) = Some p
changed_by (Truncate p length) = Some p
changed_by (SetAttr p bytes) = Some p
changed_by (SetAcl p user rights) = Some p
changed_by _ = None

pub changed-lives : (base : Base) (h : List Record) (t : ℕ) (caller : Caller) (request : Request) (o : ObjectId) → is_refused (told base h t caller request) ≡ false → changed_by request ≡ Some o → lives_at base t o h ≡ true
changed-lives base h t caller (Delete p) o e f =
    let is : p ≡ o = cc in
    subst (λ q. lives_at base t q h ≡ true) is (granted-lives p t base h caller right.Delete (passes_judgement (judge base h t caller p right.Delete None) (refuse_if (has_name base p t h) Named >> Ok Done) e).0)
changed-lives base h t caller (Write p offset bytes) o e f =
    let is : p ≡ o = cc in
    subst (λ q. lives_at base t q h ≡ true) is (granted-lives p t base h caller right.Write (passes_judgement (judge base h t caller p right.Write None) (Ok Done)
    (passes_test (nat_lt (data_limit caller.version) (offset + length bytes)) TooLong (judge base h t caller p right.Write None >> Ok Done) e).1).0)
changed-lives base h t caller (Append p bytes) o e f =
    let is : p ≡ o = cc in
    let rest : Result Reply Refusal = refuse_if (nat_lt (data_limit caller.version) (length (data_of base p t h) + length bytes)) TooLong >> Ok Done in
    subst (λ q. lives_at base t q h ≡ true) is (granted-lives p t base h caller right.Write (passes_judgement (judge base h t caller p right.Write None) rest
    (passes_test (nat_lt (data_limit caller.version) (length bytes)) TooLong (judge base h t caller p right.Write None >> rest) e).1).0)
changed-lives base h t caller (Truncate p length) o e f =
    let is : p ≡ o = cc in
    subst (λ q. lives_at base t q h ≡ true) is (granted-lives p t base h caller right.Write (passes_judgement (judge base h t caller p right.Write None) (Ok Done)
    (passes_test (nat_lt (data_limit caller.version) length) TooLong (judge base h t caller p right.Write None >> Ok Done) e).1).0)
changed-lives base h t caller (SetAttr p bytes) o e f =
    let is : p ≡ o = cc in
    subst (λ q. lives_at base t q h ≡ true) is (granted-lives p t base h caller right.Write (passes_judgement (judge base h t caller p right.Write None) (Ok Done)
    (passes_test (nat_lt 256 (length bytes)) TooLong (judge base h t caller p right.Write None >> Ok Done) e).1).0)
changed-lives base h t caller (SetAcl p user rights) o e f =
    let is : p ≡ o = cc in
    subst (λ q. lives_at base t q h ≡ true) is (granted-lives p t base h caller right.Control (passes_judgement (judge base h t caller p right.Control None) (settable user rights (acl_of base p t h) >> Ok Done) e).0)
changed-lives base h t caller _ o e f = cc

some-then_some : {A : Type 0} (b : Bool) (x y : A) → then_some b x ≡ Some y → (b ≡ true) × (x ≡ y)
some-then_some true x y e = (refl, cc)
some-then_some false x y e = cc

same-changed : (p o : ObjectId) → same_object p o ≡ true → Some p ≡ Some o
same-changed p o e = ap (λ q. Some q) (object_is p o e)

pub deleted-changed : (request : Request) (o : ObjectId) → is_deleted o request ≡ true → changed_by request ≡ Some o
deleted-changed (Delete p) o e = same-changed p o e
deleted-changed _ o e = cc

pub data-changed : (request : Request) (o : ObjectId) (old new : List ℕ) → data_effect o request old ≡ Some new → changed_by request ≡ Some o
data-changed (Write p offset bytes) o old new e = same-changed p o (some-then_some (same_object p o) (written offset bytes old) new e).0
data-changed (Append p bytes) o old new e = same-changed p o (some-then_some (same_object p o) (old ++ bytes) new e).0
data-changed (Truncate p length) o old new e = same-changed p o (some-then_some (same_object p o) (of_length length old) new e).0
data-changed _ o old new e = cc

pub attributes-changed : (request : Request) (o : ObjectId) (old new : List ℕ) → attribute_effect o request old ≡ Some new → changed_by request ≡ Some o
attributes-changed (SetAttr p bytes) o old new e = same-changed p o (some-then_some (same_object p o) bytes new e).0
attributes-changed _ o old new e = cc

pub acl-changed : (request : Request) (o : ObjectId) (old new : List AclEntry) → acl_effect o request old ≡ Some new → changed_by request ≡ Some o
acl-changed (SetAcl p user rights) o old new e = same-changed p o (some-then_some (same_object p o) (acl_with user rights old) new e).0
acl-changed _ o old new e = cc

-- LENGTHS

pub length-of_length : (n : ℕ) (bytes : List ℕ) → length (of_length n bytes) ≡ n
length-of_length n bytes = simp (length-append, length-take, length-replicate) (omega arith)

pub length-written : (offset : ℕ) (bytes old : List ℕ) → offset + length bytes ≤ 65536 → length old ≤ 65536 → length (written offset bytes old) ≤ 65536
length-written offset bytes old l m =
    simp (length-append, length-take, length-replicate, length-drop) (omega arith)

-- no version lets data be longer
limit-most : (version : WireVersion) → data_limit version ≤ 65536
limit-most One = let low : 4096 ≤ 65536 = omega arith in low
limit-most Two = let low : 65536 ≤ 65536 = omega arith in low

write-low : (base : Base) (h : List Record) (t : ℕ) (caller : Caller) (o : ObjectId) (offset : ℕ) (bytes : List ℕ) → is_refused (told base h t caller (Write o offset bytes)) ≡ false → offset + length bytes ≤ 65536
write-low base h t caller o offset bytes e =
    let short : nat_lt (data_limit caller.version) (offset + length bytes) ≡ false = (passes_test (nat_lt (data_limit caller.version) (offset + length bytes)) TooLong (judge base h t caller o right.Write None >> Ok Done) e).0 in
    let most : data_limit caller.version ≤ 65536 = limit-most caller.version in
    grind arith

-- the data that a request leaves fit, where they are those in force
pub data-fit : (base : Base) (h : List Record) (t : ℕ) (caller : Caller) (request : Request) (o : ObjectId) → is_refused (told base h t caller request) ≡ false
    → (old new : List ℕ) → data_effect o request old ≡ Some new → old ≡ data_of base o t h → DataFits old → DataFits new
data-fit base h t caller (Write p offset bytes) o e old new f is fits =
    subst DataFits (some-then_some (same_object p o) (written offset bytes old) new f).1 (length-written offset bytes old (write-low base h t caller p offset bytes e) fits)
data-fit base h t caller (Append p bytes) o e old new f is fits =
    let rest : Result Reply Refusal = refuse_if (nat_lt (data_limit caller.version) (length (data_of base p t h) + length bytes)) TooLong >> Ok Done in
    let short : nat_lt (data_limit caller.version) (length (data_of base p t h) + length bytes) ≡ false
    = (passes_test (nat_lt (data_limit caller.version) (length (data_of base p t h) + length bytes)) TooLong (Ok Done)
    (passes_judgement (judge base h t caller p right.Write None) rest (passes_test (nat_lt (data_limit caller.version) (length bytes)) TooLong (judge base h t caller p right.Write None >> rest) e).1).1).0 in
    let both' = some-then_some (same_object p o) (old ++ bytes) new f in
    let same : length old ≡ length (data_of base p t h) = ap length is ∙ ap (λ q. length (data_of base q t h)) (sym (object_is p o both'.0)) in
    let most : data_limit caller.version ≤ 65536 = limit-most caller.version in
    let low : length (data_of base p t h) + length bytes ≤ 65536 = grind arith in
    subst DataFits both'.1 (simp length-append (omega arith))
data-fit base h t caller (Truncate p n) o e old new f is fits =
    let short : nat_lt (data_limit caller.version) n ≡ false = (passes_test (nat_lt (data_limit caller.version) n) TooLong (judge base h t caller p right.Write None >> Ok Done) e).0 in
    let most : data_limit caller.version ≤ 65536 = limit-most caller.version in
    let low : n ≤ 65536 = grind arith in
    subst DataFits (some-then_some (same_object p o) (of_length n old) new f).1 (rw (length-of_length n old) low)
data-fit base h t caller _ o e old new f is fits = cc

pub attributes-fit : (base : Base) (h : List Record) (t : ℕ) (caller : Caller) (request : Request) (o : ObjectId) → is_refused (told base h t caller request) ≡ false
    → (old new : List ℕ) → attribute_effect o request old ≡ Some new → AttributesFit new
attributes-fit base h t caller (SetAttr p bytes) o e old new f =
    let short : nat_lt 256 (length bytes) ≡ false = (passes_test (nat_lt 256 (length bytes)) TooLong (judge base h t caller p right.Write None >> Ok Done) e).0 in
    let low : length bytes ≤ 256 = grind arith in
    subst AttributesFit (some-then_some (same_object p o) bytes new f).1 low
attributes-fit base h t caller _ o e old new f = cc

-- the entries that a SetAcl leaves, where it may be carried out
entries-fit : (user rights : ℕ) (acl : List AclEntry) → is_ok (settable user rights acl) ≡ true → AclFits acl → AclFits (acl_with user rights acl)
entries-fit user rights acl e fits = of (rights == 0) (names user acl) (nat_le 16 (length acl)) refl refl refl e
  where
    new : AclEntry
    new = record { who = user; rights = rights }

    given : (rights == 0) ≡ false → 0 < rights
    given f = grind arith

    of : (a b c : Bool) → (rights == 0) ≡ a → names user acl ≡ b → nat_le 16 (length acl) ≡ c → is_ok (cond b (Ok tt) (cond a (Err NoEntry) (refuse_if c AclFull))) ≡ true
        → AclFits (cond a (without_entry user acl) (cond b (replaced new acl) (acl ++ new ∷ [])))
    of true true c none named room g = is_acl-without user acl fits
    of true false c none named room g = cc
    of false true c some named room g = is_acl-replaced new acl (given some) fits
    of false false true some named room g = cc
    of false false false some named room g =
        let low : length acl < 16 = grind arith in
        is_acl-more new acl (given some) named low fits

pub acl-fit : (base : Base) (h : List Record) (t : ℕ) (caller : Caller) (request : Request) (o : ObjectId) → is_refused (told base h t caller request) ≡ false
    → (old new : List AclEntry) → acl_effect o request old ≡ Some new → old ≡ acl_of base o t h → AclFits old → AclFits new
acl-fit base h t caller (SetAcl p user rights) o e old new f is fits =
    let both' = some-then_some (same_object p o) (acl_with user rights old) new f in
    let same : acl_of base p t h ≡ old = ap (λ q. acl_of base q t h) (object_is p o both'.0) ∙ sym is in
    let passes : is_ok (settable user rights (acl_of base p t h)) ≡ true
    = (passes_judgement (settable user rights (acl_of base p t h)) (Ok Done) (passes_judgement (judge base h t caller p right.Control None) (settable user rights (acl_of base p t h) >> Ok Done) e).1).0 in
    subst AclFits both'.1 (entries-fit user rights old (subst (λ acl. is_ok (settable user rights acl) ≡ true) same passes) fits)
acl-fit base h t caller _ o e old new f is fits = cc

-- TELLING

-- whether the outcome is Done, or a refusal
abbrev only_done : Result Reply Refusal → Bool
only_done (Ok Done) = true
only_done (Ok _) = false
only_done (Err r) = true

done-then : {A : Type 0} (first : Result A Refusal) (next : Result Reply Refusal) → only_done next ≡ true → only_done (first >> next) ≡ true
done-then (Ok x) next e = e
done-then (Err r) next e = refl

told-done : (r : Result Reply Refusal) → only_done r ≡ true → is_refused (reply_of r) ≡ false → reply_of r ≡ Done
told-done (Ok Done) e f = refl
told-done (Ok (Made o)) e f = cc
told-done (Ok (Data g bytes)) e f = cc
told-done (Ok (Attr g bytes)) e f = cc
told-done (Ok (Entry g index user rights)) e f = cc
told-done (Ok (Mounted g o)) e f = cc
told-done (Ok (Names lines more)) e f = cc
told-done (Ok (Audit lines more)) e f = cc
told-done (Ok (Refused r)) e f = cc
told-done (Err r) e f = cc

only_done-outcome : (base : Base) (h : List Record) (t : ℕ) (caller : Caller) (request : Request) (o : ObjectId) → changed_by request ≡ Some o → only_done (outcome_by_kind base h t caller request) ≡ true
only_done-outcome base h t caller (Delete p) o e = done-then (judge base h t caller p right.Delete None) _ (done-then (refuse_if (has_name base p t h) Named) (Ok Done) refl)
only_done-outcome base h t caller (Write p offset bytes) o e =
    done-then (refuse_if (nat_lt (data_limit caller.version) (offset + length bytes)) TooLong) _ (done-then (judge base h t caller p right.Write None) (Ok Done) refl)
only_done-outcome base h t caller (Append p bytes) o e =
    done-then (refuse_if (nat_lt (data_limit caller.version) (length bytes)) TooLong) _ (done-then (judge base h t caller p right.Write None) _
    (done-then (refuse_if (nat_lt (data_limit caller.version) (length (data_of base p t h) + length bytes)) TooLong) (Ok Done) refl))
only_done-outcome base h t caller (Truncate p length) o e =
    done-then (refuse_if (nat_lt (data_limit caller.version) length) TooLong) _ (done-then (judge base h t caller p right.Write None) (Ok Done) refl)
only_done-outcome base h t caller (SetAttr p bytes) o e =
    done-then (refuse_if (nat_lt 256 (length bytes)) TooLong) _ (done-then (judge base h t caller p right.Write None) (Ok Done) refl)
only_done-outcome base h t caller (SetAcl p user rights) o e =
    done-then (judge base h t caller p right.Control None) _ (done-then (settable user rights (acl_of base p t h)) (Ok Done) refl)
only_done-outcome base h t caller _ o e = cc

-- an accepted change is told Done
pub changed-done : (base : Base) (h : List Record) (t : ℕ) (caller : Caller) (request : Request) (o : ObjectId) → is_refused (told base h t caller request) ≡ false → changed_by request ≡ Some o → told base h t caller request ≡ Done
changed-done base h t caller request o e f = told-done (outcome_by_kind base h t caller request) (only_done-outcome base h t caller request o f) e

-- and so is an accepted binding, and the end of one
done-bind : {A : Type 0} (first : Result A Refusal) (next : A → Result Reply Refusal) → ((x : A) → only_done (next x) ≡ true) → only_done (first >>= next) ≡ true
done-bind (Ok x) next e = e x
done-bind (Err r) next e = refl

pub bound-done : (base : Base) (h : List Record) (t : ℕ) (caller : Caller) (name : List ℕ) (o : ObjectId) → is_refused (told base h t caller (PCreate name o)) ≡ false → told base h t caller (PCreate name o) ≡ Done
bound-done base h t caller name o e = told-done (outcome_by_kind base h t caller (PCreate name o))
    (done-then (judge base h t caller o right.Control None) _ (done-then (refuse_if (is_some (bound_at base o.purse name t h)) Exists) _
    (done-then (refuse_if (nat_le 64 (bound_count base o.purse t h)) PartsFull) (Ok Done) refl))) e

pub unbound-done : (base : Base) (h : List Record) (t : ℕ) (caller : Caller) (purse : Purse) (name : List ℕ) → is_refused (told base h t caller (PDelete purse name)) ≡ false → told base h t caller (PDelete purse name) ≡ Done
unbound-done base h t caller purse name e = told-done (outcome_by_kind base h t caller (PDelete purse name))
    (done-bind (found_bound caller purse right.Control (bound_at base purse name t h)) (λ serial. judge base h t caller (object_in purse serial) right.Control None >> Ok Done)
    (λ serial. done-then (judge base h t caller (object_in purse serial) right.Control None) (Ok Done) refl)) e

-- and so is what the administrator alone may ask for
pub window-done : (base : Base) (h : List Record) (t : ℕ) (caller : Caller) (ticks : ℕ) → is_refused (told base h t caller (SetWindow ticks)) ≡ false → told base h t caller (SetWindow ticks) ≡ Done
window-done base h t caller ticks e = told-done (outcome_by_kind base h t caller (SetWindow ticks)) (done-then (refuse_if (not (caller.who == 0)) (Denied right.Admin)) (Ok Done) refl) e

flushed-done : (caller : Caller) (from to : ℕ) → is_refused (reply_of (flushed from to caller)) ≡ false → reply_of (flushed from to caller) ≡ Done
flushed-done caller from to e = told-done (flushed from to caller) (done-then (refuse_if (nat_lt to from) BadRange) (administered caller) (done-then (refuse_if (not (caller.who == 0)) (Denied right.Admin)) (Ok Done) refl)) e

pub flush-done : (base : Base) (h : List Record) (t : ℕ) (caller : Caller) (from to : ℕ) → is_refused (told base h t caller (Flush from to)) ≡ false → told base h t caller (Flush from to) ≡ Done
flush-done base h t caller from to e = flushed-done caller from to e

pub flush_one-done : (base : Base) (h : List Record) (t : ℕ) (caller : Caller) (o : ObjectId) (from to : ℕ) → is_refused (told base h t caller (FlushO o from to)) ≡ false → told base h t caller (FlushO o from to) ≡ Done
flush_one-done base h t caller o from to e = flushed-done caller from to e

-- who flushes all objects is the administrator
pub flush-asker : (base : Base) (h : List Record) (t : ℕ) (caller : Caller) (from to : ℕ) → is_refused (told base h t caller (Flush from to)) ≡ false → (caller.who == 0) ≡ true
flush-asker base h t caller from to e =
    let asker : not (caller.who == 0) ≡ false = (passes_test (not (caller.who == 0)) (Denied right.Admin) (Ok Done) (passes_test (nat_lt to from) BadRange (administered caller) e).1).0 in
    turned (caller.who == 0) asker
  where
    turned : (b : Bool) → not b ≡ false → b ≡ true
    turned true f = refl
    turned false f = cc

-- and so is a budget
pub budget-done : (base : Base) (h : List Record) (t : ℕ) (caller : Caller) (purse : Purse) (budget : ℕ) → is_refused (told base h t caller (SetBudget purse budget)) ≡ false → told base h t caller (SetBudget purse budget) ≡ Done
budget-done base h t caller purse budget e = told-done (outcome_by_kind base h t caller (SetBudget purse budget)) (done-then (refuse_if (not (caller.who == 0)) (Denied right.Admin)) (Ok Done) refl) e

-- a name that is bound anew wasn't bound, and one that is bound no longer was
pub was_unbound : (base : Base) (h : List Record) (t : ℕ) (caller : Caller) (name : List ℕ) (o : ObjectId) → is_refused (told base h t caller (PCreate name o)) ≡ false → is_some (bound_at base o.purse name t h) ≡ false
was_unbound base h t caller name o e =
    let last : Result Reply Refusal = refuse_if (nat_le 64 (bound_count base o.purse t h)) PartsFull >> Ok Done in
    (passes_test (is_some (bound_at base o.purse name t h)) Exists last (passes_judgement (judge base h t caller o right.Control None) (refuse_if (is_some (bound_at base o.purse name t h)) Exists >> last) e).1).0

pub was_bound : (base : Base) (h : List Record) (t : ℕ) (caller : Caller) (purse : Purse) (name : List ℕ) → is_refused (told base h t caller (PDelete purse name)) ≡ false → is_some (bound_at base purse name t h) ≡ true
was_bound base h t caller purse name e = of (bound_at base purse name t h) e
  where
    of : (found : Option ℕ) → is_refused (reply_of (found_bound caller purse right.Control found >>= λ serial. judge base h t caller (object_in purse serial) right.Control None >> Ok Done)) ≡ false → is_some found ≡ true
    of (Some serial) f = refl
    of None f = cc

-- AN ACCEPTED RECORD

pub made-accepted : (o : ObjectId) (r : Reply) → is_made o r ≡ true → is_refused r ≡ false
made-accepted o (Made p) e = refl
made-accepted o Done e = cc
made-accepted o (Data g bytes) e = cc
made-accepted o (Attr g bytes) e = cc
made-accepted o (Entry g index user rights) e = cc
made-accepted o (Mounted g p) e = cc
made-accepted o (Names lines more) e = cc
made-accepted o (Audit lines more) e = cc
made-accepted o (Refused r) e = cc

module _ {base : Base} {h : List Record} {r : Record} (n : IsNext base h r) (granted : is_refused r.reply ≡ false) where
  -- its reply is what comes of it by its kind
  pub told-accepted : r.reply ≡ told base h r.moment r.caller r.request
  told-accepted = n.answered ∙ answer-by-kind base h r.moment r.caller r.request (sym (ap is_refused n.answered) ∙ granted)

  pub accepted-by-kind : is_refused (told base h r.moment r.caller r.request) ≡ false
  accepted-by-kind = sym (ap is_refused told-accepted) ∙ granted

  -- where the request is known
  pub told-asked : (request : Request) → r.request ≡ request → r.reply ≡ told base h r.moment r.caller request
  told-asked request asked = told-accepted ∙ ap (told base h r.moment r.caller) asked

  pub accepted-asked : (request : Request) → r.request ≡ request → is_refused (told base h r.moment r.caller request) ≡ false
  accepted-asked request asked = sym (ap is_refused (told-asked request asked)) ∙ granted
