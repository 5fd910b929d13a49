-- What a reply that is no refusal tells of the tests before it, and that no answer is want of memory.
use Rattle.std.proofs.Common.{◌≡◌, ℕ, Bool, true, false, not, Option, Some, None, List, refl, sym, ◌∙◌, ap}
use Rattle.std.specs.Prelude.{Result, Ok, Err, nat_le, nat_lt, ◌+◌, length, min, ◌==◌, ◌&&◌, cond, is_ok, is_some, take, drop, slice_get, ok_or}
use Rattle.s4_types.specs.declared.principal.Caller.{Caller}
use Rattle.s4_types.specs.declared.object.Purse.{Purse}
use Rattle.s4_types.specs.declared.object.ObjectId.{ObjectId}
use Rattle.s4_types.specs.declared.acl.AclEntry.{AclEntry}
use Rattle.s4_types.specs.declared.rights.Right.TheVariants as right
use Rattle.s4_types.specs.Names.{object_in}
use Rattle.s4_types.specs.declared.rights.Right.{Right}
use Rattle.s4_types.specs.declared.request.Request.{Request}
use Rattle.s4_types.specs.declared.request.Request.TheVariants.{Create, Delete, Read, Write, Append, Truncate, GetAttr, SetAttr, GetAclByUser, GetAclByIndex, SetAcl, PCreate, PDelete, PList, PMount, Flush, FlushO, SetWindow, SetBudget, ReadAudit}
use Rattle.s4_types.specs.declared.reply.Grant.{Grant}
use Rattle.s4_types.specs.declared.reply.Grant.TheVariants as grant
use Rattle.s4_types.specs.declared.reply.Refusal.{Refusal}
use Rattle.s4_types.specs.declared.reply.Refusal.TheVariants.{Denied, NoObject, Future, TooOld, Flushed, TooLong, AclFull, NoEntry, NamesSpent, NoPartition, Exists, PartsFull, Named, OverBudget, BadRange, NoMemory}
use Rattle.s4_types.specs.declared.reply.Reply.{Reply}
use Rattle.s4_types.specs.declared.reply.Reply.TheVariants.{Done, Made, Data, Attr, Entry, Mounted, Names, Audit, Refused}
use Rattle.s4_types.specs.declared.record.Record.{Record}
use Rattle.s4_types.specs.Rights.{has}
use Rattle.s4_types.specs.Kinds.{is_refused, at_of, purse_of}
use Rattle.s4_types.specs.Judgement.{Held, Found, judge, judge_now, judge_past, judge_by_entry, judge_past_by_entry, needs_control, entry_of, asked_entry, held_at, may_know}
use Rattle.s4_types.specs.Outcome.{◌>>=◌, ◌>>◌, refuse_if, reply_of}
use Rattle.s4_types.specs.Base.{Base}
use Rattle.s4_types.specs.Horizon.{horizon_at}
use Rattle.s4_types.specs.Spending.{spent_at, budget_of}
use Rattle.s4_types.specs.Acl.{names}
use Rattle.s4_types.specs.Limits.{data_limit}
use Rattle.s4_types.specs.Versions.{value_at, data_track, attribute_track}
use Rattle.s4_types.specs.Answer.{answer, outcome, outcome_by_kind, affordable, charge_of, timely, moment_of, is_gone, settable, found_bound, administered, flushed, mountable}
use Rattle.s4_types.specs.Serials.{drawn}
use Rattle.s4_types.specs.Bindings.{bound_at, bound_count, has_name}
use Rattle.s4_types.specs.Play.{is_no_memory}
use Rattle.s4_types.specs.Contents.{data_of, attributes_of, acl_of}
use Rattle.s4_types.specs.declared.reply.NameLine.{NameLine}

-- a test that lets a request pass
pub passes_test : (b : Bool) (r : Refusal) (next : Result Reply Refusal) → is_refused (reply_of (refuse_if b r >> next)) ≡ false → (b ≡ false) × (is_refused (reply_of next) ≡ false)
passes_test true r next e = cc
passes_test false r next e = (refl, e)

-- a judgement that lets it pass
pub passes_judgement : {A : Type 0} (judged : Result A Refusal) (next : Result Reply Refusal) → is_refused (reply_of (judged >> next)) ≡ false → (is_ok judged ≡ true) × (is_refused (reply_of next) ≡ false)
passes_judgement (Ok x) next e = (refl, e)
passes_judgement (Err r) next e = cc

pub after_test : (b : Bool) (r : Refusal) (next : Result Reply Refusal) → b ≡ false → (refuse_if b r >> next) ≡ next
after_test true r next e = cc
after_test false r next e = refl

pub after_judgement : {A : Type 0} (judged : Result A Refusal) (next : Result Reply Refusal) → is_ok judged ≡ true → (judged >> next) ≡ next
after_judgement (Ok x) next e = refl
after_judgement (Err r) next e = cc

-- NO ANSWER IS WANT OF MEMORY

-- whether the refusal is any but want of memory
abbrev is_answer : Refusal → Bool
is_answer NoMemory = false
is_answer _ = true

-- whether the reply to the outcome is any but want of memory
abbrev pub is_plain : {A : Type 0} → Result A Refusal → Bool
is_plain (Ok x) = true
is_plain (Err r) = is_answer r

plain-either : {A : Type 0} (b : Bool) (x y : Result A Refusal) → is_plain x ≡ true → is_plain y ≡ true → is_plain (cond b x y) ≡ true
plain-either true x y e f = e
plain-either false x y e f = f

plain-entry : (held : Held) (needed : Right) (found : Option Found) → is_plain (judge_by_entry held needed found) ≡ true
plain-entry held needed None = refl
plain-entry held needed (Some found) = plain-either (has found.rights needed) (Ok (grant.Entry found.index held.since)) (Err (Denied needed)) refl refl

plain-absent : (needed : Right) (b : Bool) → is_plain {A = Grant} (Err (cond b NoObject (Denied needed))) ≡ true
plain-absent needed true = refl
plain-absent needed false = refl

plain-then : {A B : Type 0} (first : Result A Refusal) (next : Result B Refusal) → is_plain first ≡ true → is_plain next ≡ true → is_plain (first >> next) ≡ true
plain-then (Ok x) next e f = f
plain-then (Err r) next e f = e

plain-past : (held : Held) (found : Option Found) → is_plain (judge_past_by_entry held found) ≡ true
plain-past held found =
    plain-then (judge_by_entry held right.Read found) (judge_by_entry held right.Recover found) (plain-entry held right.Read found) (plain-entry held right.Recover found)

plain-judge_past : (caller : Caller) (o : ObjectId) (held : Option Held) → is_plain (judge_past caller o held) ≡ true
plain-judge_past caller o None = plain-absent right.Read (may_know caller o.purse.creator)
plain-judge_past caller o (Some held) = plain-either (caller.who == 0) (Ok grant.Admin) (judge_past_by_entry held (asked_entry caller.who held.acl)) refl (plain-past held (asked_entry caller.who held.acl))

plain-timely : (horizon t : ℕ) (at : Option ℕ) → is_plain (timely horizon t at) ≡ true
plain-timely horizon t None = refl
plain-timely horizon t (Some m) = of (nat_lt t m) (nat_lt m horizon)
  where
    of : (a b : Bool) → is_plain (refuse_if a Future >> refuse_if b (TooOld horizon)) ≡ true
    of true b = refl
    of false true = refl
    of false false = refl

plain-judge_now : (caller : Caller) (o : ObjectId) (needed : Right) (held : Option Held) → is_plain (judge_now caller o needed held) ≡ true
plain-judge_now caller o needed None = plain-absent needed (may_know caller o.purse.creator)
plain-judge_now caller o needed (Some held) =
    let by_entry : Result Grant Refusal = judge_by_entry held needed (asked_entry caller.who held.acl) in
    let owns : Bool = needs_control needed && (caller.who == o.purse.creator) in
    plain-either (caller.who == 0) (Ok grant.Admin) (cond owns (Ok grant.Owner) by_entry) refl
    (plain-either owns (Ok grant.Owner) by_entry refl (plain-entry held needed (asked_entry caller.who held.acl)))

plain-judge : (base : Base) (h : List Record) (t : ℕ) (caller : Caller) (o : ObjectId) (needed : Right) (at : Option ℕ) → is_plain (judge base h t caller o needed at) ≡ true
plain-judge base h t caller o needed None = plain-judge_now caller o needed (held_at base o t h)
plain-judge base h t caller o needed (Some m) = plain-judge_past caller o (held_at base o m h)

-- the outcome is a refusal just if it says so, and none for want of memory
abbrev is_told : Result Reply Refusal → Bool
is_told (Ok reply) = not (is_refused reply)
is_told (Err r) = is_answer r

told-test : (b : Bool) (r : Refusal) (next : Result Reply Refusal) → is_told (Err r) ≡ true → is_told next ≡ true → is_told (refuse_if b r >> next) ≡ true
told-test true r next e f = e
told-test false r next e f = f

told-bind : {A : Type 0} (first : Result A Refusal) (next : A → Result Reply Refusal) → is_plain first ≡ true → ((x : A) → is_told (next x) ≡ true) → is_told (first >>= next) ≡ true
told-bind (Ok x) next e f = f x
told-bind (Err r) next e f = e

told-then : {A : Type 0} (first : Result A Refusal) (next : Result Reply Refusal) → is_plain first ≡ true → is_told next ≡ true → is_told (first >> next) ≡ true
told-then (Ok x) next e f = f
told-then (Err r) next e f = e

told-entry : {A : Type 0} (found : Option A) (entry : A → Reply) → ((x : A) → is_refused (entry x) ≡ false) → is_told (ok_or found NoEntry >>= λ x. Ok (entry x)) ≡ true
told-entry None entry e = refl
told-entry (Some x) entry e = ap not (e x)

plain-settable : (user rights : ℕ) (acl : List AclEntry) → is_plain (settable user rights acl) ≡ true
plain-settable user rights acl = of (names user acl) (rights == 0) (nat_le 16 (length acl))
  where
    of : (a b c : Bool) → is_plain (cond a (Ok tt) (cond b (Err NoEntry) (refuse_if c AclFull))) ≡ true
    of true b c = refl
    of false true c = refl
    of false false true = refl
    of false false false = refl

plain-found : (caller : Caller) (purse : Purse) (needed : Right) (found : Option ℕ) → is_plain (found_bound caller purse needed found) ≡ true
plain-found caller purse needed (Some serial) = refl
plain-found caller purse needed None = of (may_know caller purse.creator)
  where
    of : (b : Bool) → is_plain {A = ℕ} (Err (cond b NoPartition (Denied needed))) ≡ true
    of true = refl
    of false = refl

told-administered : (caller : Caller) → is_told (administered caller) ≡ true
told-administered caller = told-test (not (caller.who == 0)) (Denied right.Admin) (Ok Done) refl refl

told-flushed : (from to : ℕ) (caller : Caller) → is_told (flushed from to caller) ≡ true
told-flushed from to caller = told-test (nat_lt to from) BadRange (administered caller) refl (told-administered caller)

plain-bind : {A B : Type 0} (first : Result A Refusal) (next : A → Result B Refusal) → is_plain first ≡ true → ((x : A) → is_plain (next x) ≡ true) → is_plain (first >>= next) ≡ true
plain-bind (Ok x) next e f = f x
plain-bind (Err r) next e f = e

plain-mountable : (base : Base) (h : List Record) (t : ℕ) (caller : Caller) (purse : Purse) (name : List ℕ) (at : Option ℕ) → is_plain (mountable base h t caller purse name at) ≡ true
plain-mountable base h t caller purse name at =
    let line : ℕ → Grant → NameLine = λ serial grant. record { name = name; object = object_in purse serial; grant = grant } in
    let judged : ℕ → Result Grant Refusal = λ serial. judge base h t caller (object_in purse serial) right.Read at in
    plain-bind (found_bound caller purse right.Read (bound_at base purse name (moment_of t at) h)) (λ serial. judged serial >>= λ grant. Ok (line serial grant))
    (plain-found caller purse right.Read (bound_at base purse name (moment_of t at) h))
    (λ serial. plain-bind (judged serial) (λ grant. Ok (line serial grant)) (plain-judge base h t caller (object_in purse serial) right.Read at) (λ grant. refl))

told-by-kind : (base : Base) (h : List Record) (t : ℕ) (caller : Caller) (request : Request) → is_told (outcome_by_kind base h t caller request) ≡ true
told-by-kind base h t caller (Create number) =
    let purse : Purse = record { creator = caller.who; number = number } in
    told-test (nat_le 65535 (drawn base purse h)) NamesSpent (Ok (Made (object_in purse (drawn base purse h + 1)))) refl refl
told-by-kind base h t caller (Delete o) =
    told-then (judge base h t caller o right.Delete None) (refuse_if (has_name base o t h) Named >> Ok Done) (plain-judge base h t caller o right.Delete None)
    (told-test (has_name base o t h) Named (Ok Done) refl refl)
told-by-kind base h t caller (Read o offset length at) =
    let gone : Bool = is_gone (value_at base data_track o (moment_of t at) h) in
    let last : Grant → Result Reply Refusal = λ g. Ok (Data g (take (min length (data_limit caller.version)) (drop offset (data_of base o (moment_of t at) h)))) in
    told-bind (judge base h t caller o right.Read at) (λ g. refuse_if gone Flushed >> last g) (plain-judge base h t caller o right.Read at)
    (λ g. told-test gone Flushed (last g) refl refl)
told-by-kind base h t caller (Write o offset bytes) =
    told-test (nat_lt (data_limit caller.version) (offset + length bytes)) TooLong (judge base h t caller o right.Write None >> Ok Done) refl
    (told-then (judge base h t caller o right.Write None) (Ok Done) (plain-judge base h t caller o right.Write None) refl)
told-by-kind base h t caller (Append o bytes) =
    told-test (nat_lt (data_limit caller.version) (length bytes)) TooLong (judge base h t caller o right.Write None >> (refuse_if (nat_lt (data_limit caller.version) (length (data_of base o t h) + length bytes)) TooLong >> Ok Done)) refl
    (told-then (judge base h t caller o right.Write None) (refuse_if (nat_lt (data_limit caller.version) (length (data_of base o t h) + length bytes)) TooLong >> Ok Done) (plain-judge base h t caller o right.Write None)
    (told-test (nat_lt (data_limit caller.version) (length (data_of base o t h) + length bytes)) TooLong (Ok Done) refl refl))
told-by-kind base h t caller (Truncate o length) =
    told-test (nat_lt (data_limit caller.version) length) TooLong (judge base h t caller o right.Write None >> Ok Done) refl
    (told-then (judge base h t caller o right.Write None) (Ok Done) (plain-judge base h t caller o right.Write None) refl)
told-by-kind base h t caller (GetAttr o at) =
    let gone : Bool = is_gone (value_at base attribute_track o (moment_of t at) h) in
    let last : Grant → Result Reply Refusal = λ g. Ok (Attr g (attributes_of base o (moment_of t at) h)) in
    told-bind (judge base h t caller o right.Read at) (λ g. refuse_if gone Flushed >> last g) (plain-judge base h t caller o right.Read at)
    (λ g. told-test gone Flushed (last g) refl refl)
told-by-kind base h t caller (SetAttr o bytes) =
    told-test (nat_lt 256 (length bytes)) TooLong (judge base h t caller o right.Write None >> Ok Done) refl
    (told-then (judge base h t caller o right.Write None) (Ok Done) (plain-judge base h t caller o right.Write None) refl)
told-by-kind base h t caller (GetAclByUser o user at) =
    let found : Option Found = entry_of user (acl_of base o (moment_of t at) h) in
    let entry : Grant → Found → Reply = λ g x. Entry g x.index user x.rights in
    told-bind (judge base h t caller o right.Read at) (λ g. ok_or found NoEntry >>= λ x. Ok (entry g x)) (plain-judge base h t caller o right.Read at)
    (λ g. told-entry found (entry g) (λ x. refl))
told-by-kind base h t caller (GetAclByIndex o index at) =
    let found : Option AclEntry = slice_get (acl_of base o (moment_of t at) h) index in
    let entry : Grant → AclEntry → Reply = λ g x. Entry g index x.who x.rights in
    told-bind (judge base h t caller o right.Read at) (λ g. ok_or found NoEntry >>= λ x. Ok (entry g x)) (plain-judge base h t caller o right.Read at)
    (λ g. told-entry found (entry g) (λ x. refl))
told-by-kind base h t caller (SetAcl o user rights) =
    told-then (judge base h t caller o right.Control None) (settable user rights (acl_of base o t h) >> Ok Done) (plain-judge base h t caller o right.Control None)
    (told-then (settable user rights (acl_of base o t h)) (Ok Done) (plain-settable user rights (acl_of base o t h)) refl)
told-by-kind base h t caller (PCreate name o) =
    let taken : Bool = is_some (bound_at base o.purse name t h) in
    let full : Bool = nat_le 64 (bound_count base o.purse t h) in
    told-then (judge base h t caller o right.Control None) (refuse_if taken Exists >> (refuse_if full PartsFull >> Ok Done)) (plain-judge base h t caller o right.Control None)
    (told-test taken Exists (refuse_if full PartsFull >> Ok Done) refl (told-test full PartsFull (Ok Done) refl refl))
told-by-kind base h t caller (PDelete purse name) =
    let next : ℕ → Result Reply Refusal = λ serial. judge base h t caller (object_in purse serial) right.Control None >> Ok Done in
    told-bind (found_bound caller purse right.Control (bound_at base purse name t h)) next (plain-found caller purse right.Control (bound_at base purse name t h))
    (λ serial. told-then (judge base h t caller (object_in purse serial) right.Control None) (Ok Done) (plain-judge base h t caller (object_in purse serial) right.Control None) refl)
told-by-kind base h t caller (PList range after at) = refl
told-by-kind base h t caller (PMount purse name at) =
    let line : Result NameLine Refusal = mountable base h t caller purse name at in
    told-bind line (λ l. Ok (Mounted l.grant l.object)) (plain-mountable base h t caller purse name at) (λ l. refl)
told-by-kind base h t caller (Flush from to) = told-flushed from to caller
told-by-kind base h t caller (FlushO o from to) = told-flushed from to caller
told-by-kind base h t caller (SetWindow ticks) = told-administered caller
told-by-kind base h t caller (SetBudget purse budget) = told-administered caller
told-by-kind base h t caller (ReadAudit range skip) = refl

plain-affordable : (base : Base) (h : List Record) (t : ℕ) (request : Request) (purse : Option Purse) → is_plain (affordable base h t request purse) ≡ true
plain-affordable base h t request None = refl
plain-affordable base h t request (Some purse) = of (nat_lt 0 (charge_of base h t request) && nat_lt (budget_of base purse h) (spent_at base purse h t + charge_of base h t request))
  where
    of : (b : Bool) → is_plain (refuse_if b (OverBudget (spent_at base purse h t) (charge_of base h t request) (budget_of base purse h))) ≡ true
    of true = refl
    of false = refl

-- what an outcome tells that is told once a test passed
told-once : (outcome : Result Reply Refusal) (test : Result (Unit {0}) Refusal) → is_told outcome ≡ true → is_plain test ≡ true → is_told (outcome >>= λ reply. test >> Ok reply) ≡ true
told-once (Ok reply) test e f = told-then test (Ok reply) f e
told-once (Err r) test e f = e

pub told-outcome : (base : Base) (h : List Record) (t : ℕ) (caller : Caller) (request : Request) → is_told (outcome base h t caller request) ≡ true
told-outcome base h t caller request =
    told-then (timely (horizon_at base h t) t (at_of request)) (outcome_by_kind base h t caller request >>= λ reply. affordable base h t request (purse_of caller request) >> Ok reply) (plain-timely (horizon_at base h t) t (at_of request))
    (told-once (outcome_by_kind base h t caller request) (affordable base h t request (purse_of caller request)) (told-by-kind base h t caller request) (plain-affordable base h t request (purse_of caller request)))

-- AN ANSWER THAT IS NO REFUSAL

last-kept : (outcome : Result Reply Refusal) (test : Result (Unit {0}) Refusal) → is_refused (reply_of (outcome >>= λ reply. test >> Ok reply)) ≡ false → reply_of (outcome >>= λ reply. test >> Ok reply) ≡ reply_of outcome
last-kept (Ok reply) (Ok x) e = refl
last-kept (Ok reply) (Err r) e = cc
last-kept (Err r) test e = cc

first-kept : (test : Result (Unit {0}) Refusal) (next : Result Reply Refusal) → is_refused (reply_of (test >> next)) ≡ false → reply_of (test >> next) ≡ reply_of next
first-kept (Ok x) next e = refl
first-kept (Err r) next e = cc

-- an answer that is no refusal is what comes of the request by its kind
pub answer-by-kind : (base : Base) (h : List Record) (t : ℕ) (caller : Caller) (request : Request) → is_refused (answer base h t caller request) ≡ false → answer base h t caller request ≡ reply_of (outcome_by_kind base h t caller request)
answer-by-kind base h t caller request e =
    let paid : Result Reply Refusal = outcome_by_kind base h t caller request >>= λ reply. affordable base h t request (purse_of caller request) >> Ok reply in
    let first : answer base h t caller request ≡ reply_of paid = first-kept (timely (horizon_at base h t) t (at_of request)) paid e in
    first ∙ last-kept (outcome_by_kind base h t caller request) (affordable base h t request (purse_of caller request)) (sym (ap is_refused first) ∙ e)

replied : (r : Result Reply Refusal) → is_told r ≡ true → is_no_memory (reply_of r) ≡ false
replied (Ok Done) e = refl
replied (Ok (Made o)) e = refl
replied (Ok (Data g bytes)) e = refl
replied (Ok (Attr g bytes)) e = refl
replied (Ok (Entry g index user rights)) e = refl
replied (Ok (Mounted g o)) e = refl
replied (Ok (Names lines more)) e = refl
replied (Ok (Audit lines more)) e = refl
replied (Ok (Refused r)) e = cc
replied (Err NoMemory) e = cc
replied (Err (Denied right)) e = refl
replied (Err NoObject) e = refl
replied (Err Future) e = refl
replied (Err (TooOld horizon)) e = refl
replied (Err Flushed) e = refl
replied (Err TooLong) e = refl
replied (Err AclFull) e = refl
replied (Err NoEntry) e = refl
replied (Err NoPartition) e = refl
replied (Err Exists) e = refl
replied (Err PartsFull) e = refl
replied (Err Named) e = refl
replied (Err NamesSpent) e = refl
replied (Err (OverBudget spent charge budget)) e = refl
replied (Err BadRange) e = refl

pub is_no_memory-answer : (base : Base) (h : List Record) (t : ℕ) (caller : Caller) (request : Request) → is_no_memory (answer base h t caller request) ≡ false
is_no_memory-answer base h t caller request = replied (outcome base h t caller request) (told-outcome base h t caller request)
