-- No run makes an object twice: a Create draws the next serial of its purse, and no other request makes an object.
use Rattle.std.proofs.Common.{◌≡◌, ℕ, ◌+◌, ◌≤◌, ◌<◌, nat_le, nat_lt, Bool, true, false, not, cond, Option, None, Result, Ok, Err, List, [], ◌∷◌, ◌++◌, refl, sym, ◌∙◌, ap, subst, is_some, count_by, arith}
use Rattle.std.specs.Prelude.{◌&&◌, ◌||◌, ◌==◌, length, min, take, drop, slice_get, ok_or}
use Rattle.std.proofs.lemmas.List.Sums.{fold-append}
use Rattle.s4_types.specs.declared.principal.Caller.{Caller}
use Rattle.s4_types.specs.declared.object.Purse.{Purse}
use Rattle.s4_types.specs.declared.object.ObjectId.{ObjectId}
use Rattle.s4_types.specs.declared.acl.AclEntry.{AclEntry}
use Rattle.s4_types.specs.declared.rights.Right.TheVariants as right
use Rattle.s4_types.specs.declared.reply.Grant.{Grant}
use Rattle.s4_types.specs.declared.reply.Refusal.{Refusal}
use Rattle.s4_types.specs.declared.reply.Refusal.TheVariants.{Denied, Flushed, TooLong, NamesSpent, Exists, PartsFull, Named, BadRange, NoEntry}
use Rattle.s4_types.specs.declared.reply.Reply.{Reply}
use Rattle.s4_types.specs.declared.reply.Reply.TheVariants.{Done, Made, Data, Attr, Mounted, Entry}
use Rattle.s4_types.specs.declared.request.Request.{Request}
use Rattle.s4_types.specs.declared.request.Request.TheVariants.{Create, Delete, Read, Write, Append, Truncate, GetAttr, SetAttr, GetAclByUser, GetAclByIndex, SetAcl, PCreate, PDelete, PList, PMount, Flush, FlushO, SetWindow, SetBudget, ReadAudit}
use Rattle.s4_types.specs.declared.record.Record.{Record}
use Rattle.s4_types.specs.declared.record.Step.{Step}
use Rattle.s4_types.specs.declared.record.Step.TheVariants as step
use Rattle.s4_types.specs.Names.{object_in}
use Rattle.s4_types.specs.Kinds.{concerns, is_accepted, is_refused, is_wide, is_about, only_reads, is_create, purse_of}
use Rattle.s4_types.specs.Base.{Base}
use Rattle.s4_types.specs.Versions.{makes, is_made, value_at, data_track, attribute_track}
use Rattle.s4_types.specs.Serials.{drawn, draws}
use Rattle.s4_types.specs.Bindings.{bound_at, bound_count, has_name}
use Rattle.s4_types.specs.Limits.{data_limit}
use Rattle.s4_types.specs.Judgement.{Found, entry_of, judge}
use Rattle.s4_types.specs.Outcome.{◌>>=◌, ◌>>◌, refuse_if, reply_of}
use Rattle.s4_types.specs.Answer.{answer, outcome_by_kind, moment_of, is_gone, settable, found_bound, administered, flushed, mountable}
use Rattle.s4_types.specs.Play.{play, play_on, record_of}
use Rattle.s4_types.proofs.Booleans.{both, by_test}
use Rattle.s4_types.proofs.SameNames.{object_is}
use Rattle.s4_types.proofs.Snoc.{drawn-snoc}
use Rattle.s4_types.proofs.Outcomes.{answer-by-kind}
use Rattle.s4_laws.specs.InForce.{made_count, IsDrawn}
use Rattle.s4_laws.proofs.Strangers.{not-true}
use Rattle.s4_types.specs.Contents.{data_of, attributes_of, acl_of}

-- WHAT MAKES NOTHING

abbrev MakesNone : ObjectId → Result Reply Refusal → Type 0
MakesNone o made = is_made o (reply_of made) ≡ false

none-then : {A : Type 0} (o : ObjectId) (first : Result A Refusal) (next : Result Reply Refusal) → MakesNone o next → MakesNone o (first >> next)
none-then o (Ok x) next e = e
none-then o (Err r) next e = refl

none-bind : {A : Type 0} (o : ObjectId) (first : Result A Refusal) (next : A → Result Reply Refusal) → ((x : A) → MakesNone o (next x)) → MakesNone o (first >>= next)
none-bind o (Ok x) next e = e x
none-bind o (Err r) next e = refl

none-entry : {A : Type 0} (o : ObjectId) (found : Option A) (entry : A → Reply) → ((x : A) → is_made o (entry x) ≡ false) → MakesNone o (ok_or found NoEntry >>= λ x. Ok (entry x))
none-entry o found entry e = none-bind o (ok_or found NoEntry) (λ x. Ok (entry x)) e

-- after a test and a judgement, or a judgement and a test
none-sized : (o : ObjectId) (long : Bool) (judged : Result Grant Refusal) → MakesNone o (refuse_if long TooLong >> (judged >> Ok Done))
none-sized o long judged = none-then o (refuse_if long TooLong) (judged >> Ok Done) (none-then o judged (Ok Done) refl)

none-read : (o : ObjectId) (judged : Result Grant Refusal) (gone : Bool) (shown : Grant → Reply) → ((g : Grant) → is_made o (shown g) ≡ false) → MakesNone o (judged >>= λ g. refuse_if gone Flushed >> Ok (shown g))
none-read o judged gone shown e = none-bind o judged (λ g. refuse_if gone Flushed >> Ok (shown g)) (λ g. none-then o (refuse_if gone Flushed) (Ok (shown g)) (e g))

none-administered : (o : ObjectId) (caller : Caller) → MakesNone o (administered caller)
none-administered o caller = none-then o (refuse_if (not (caller.who == 0)) (Denied right.Admin)) (Ok Done) refl

none-flushed : (o : ObjectId) (from to : ℕ) (caller : Caller) → MakesNone o (flushed from to caller)
none-flushed o from to caller = none-then o (refuse_if (nat_lt to from) BadRange) (administered caller) (none-administered o caller)

none-by-kind : (o : ObjectId) (base : Base) (h : List Record) (t : ℕ) (caller : Caller) (request : Request) → is_create request ≡ false → MakesNone o (outcome_by_kind base h t caller request)
none-by-kind o base h t caller (Create number) e = cc
none-by-kind o base h t caller (Delete p) e =
    none-then o (judge base h t caller p right.Delete None) (refuse_if (has_name base p t h) Named >> Ok Done) (none-then o (refuse_if (has_name base p t h) Named) (Ok Done) refl)
none-by-kind o base h t caller (Read p offset n at) e =
    none-read o (judge base h t caller p right.Read at) (is_gone (value_at base data_track p (moment_of t at) h)) (λ g. Data g (take (min n (data_limit caller.version)) (drop offset (data_of base p (moment_of t at) h)))) (λ g. refl)
none-by-kind o base h t caller (Write p offset bytes) e = none-sized o (nat_lt (data_limit caller.version) (offset + length bytes)) (judge base h t caller p right.Write None)
none-by-kind o base h t caller (Append p bytes) e =
    let full : Bool = nat_lt (data_limit caller.version) (length (data_of base p t h) + length bytes) in
    let judged : Result Grant Refusal = judge base h t caller p right.Write None in
    none-then o (refuse_if (nat_lt (data_limit caller.version) (length bytes)) TooLong) (judged >> (refuse_if full TooLong >> Ok Done))
    (none-then o judged (refuse_if full TooLong >> Ok Done) (none-then o (refuse_if full TooLong) (Ok Done) refl))
none-by-kind o base h t caller (Truncate p n) e = none-sized o (nat_lt (data_limit caller.version) n) (judge base h t caller p right.Write None)
none-by-kind o base h t caller (GetAttr p at) e =
    none-read o (judge base h t caller p right.Read at) (is_gone (value_at base attribute_track p (moment_of t at) h)) (λ g. Attr g (attributes_of base p (moment_of t at) h)) (λ g. refl)
none-by-kind o base h t caller (SetAttr p bytes) e = none-sized o (nat_lt 256 (length bytes)) (judge base h t caller p right.Write None)
none-by-kind o base h t caller (GetAclByUser p user at) e =
    let found : Option Found = entry_of user (acl_of base p (moment_of t at) h) in
    let entry : Grant → Found → Reply = λ g x. Entry g x.index user x.rights in
    none-bind o (judge base h t caller p right.Read at) (λ g. ok_or found NoEntry >>= λ x. Ok (entry g x)) (λ g. none-entry o found (entry g) (λ x. refl))
none-by-kind o base h t caller (GetAclByIndex p index at) e =
    let found : Option AclEntry = slice_get (acl_of base p (moment_of t at) h) index in
    let entry : Grant → AclEntry → Reply = λ g x. Entry g index x.who x.rights in
    none-bind o (judge base h t caller p right.Read at) (λ g. ok_or found NoEntry >>= λ x. Ok (entry g x)) (λ g. none-entry o found (entry g) (λ x. refl))
none-by-kind o base h t caller (SetAcl p user rights) e =
    let settled : Result (Unit {0}) Refusal = settable user rights (acl_of base p t h) in
    none-then o (judge base h t caller p right.Control None) (settled >> Ok Done) (none-then o settled (Ok Done) refl)
none-by-kind o base h t caller (PCreate name p) e =
    let taken : Bool = is_some (bound_at base p.purse name t h) in
    let full : Bool = nat_le 64 (bound_count base p.purse t h) in
    none-then o (judge base h t caller p right.Control None) (refuse_if taken Exists >> (refuse_if full PartsFull >> Ok Done))
    (none-then o (refuse_if taken Exists) (refuse_if full PartsFull >> Ok Done) (none-then o (refuse_if full PartsFull) (Ok Done) refl))
none-by-kind o base h t caller (PDelete purse name) e =
    none-bind o (found_bound caller purse right.Control (bound_at base purse name t h)) (λ serial. judge base h t caller (object_in purse serial) right.Control None >> Ok Done)
    (λ serial. none-then o (judge base h t caller (object_in purse serial) right.Control None) (Ok Done) refl)
none-by-kind o base h t caller (PList range after at) e = refl
none-by-kind o base h t caller (PMount purse name at) e =
    none-bind o (mountable base h t caller purse name at) (λ line. Ok (Mounted line.grant line.object)) (λ line. refl)
none-by-kind o base h t caller (Flush from to) e = none-flushed o from to caller
none-by-kind o base h t caller (FlushO p from to) e = none-flushed o from to caller
none-by-kind o base h t caller (SetWindow ticks) e = none-administered o caller
none-by-kind o base h t caller (SetBudget purse budget) e = none-administered o caller
none-by-kind o base h t caller (ReadAudit range skip) e = refl

-- WHAT A RECORD MAKES

-- the object has the serial after the last one drawn
abbrev IsNext : Base → List Record → ObjectId → Type 0
IsNext base h o = o.serial ≡ drawn base o.purse h + 1

created-next : (o : ObjectId) (base : Base) (h : List Record) (purse : Purse) (spent : Bool) → is_made o (reply_of (refuse_if spent NamesSpent >> Ok (Made (object_in purse (drawn base purse h + 1))))) ≡ true → IsNext base h o
created-next o base h purse true e = cc
created-next o base h purse false e = subst (IsNext base h) (object_is (object_in purse (drawn base purse h + 1)) o e) refl

made-by-kind : (o : ObjectId) (base : Base) (h : List Record) (t : ℕ) (caller : Caller) (request : Request) → is_made o (reply_of (outcome_by_kind base h t caller request)) ≡ true → (is_create request ≡ true) × IsNext base h o
made-by-kind o base h t caller (Create number) e =
    let purse : Purse = record { creator = caller.who; number = number } in
    (refl, created-next o base h purse (nat_le 65535 (drawn base purse h)) e)
made-by-kind o base h t caller request e = let none : MakesNone o (outcome_by_kind base h t caller request) = none-by-kind o base h t caller request refl in cc

made-next : (o : ObjectId) (base : Base) (h : List Record) (t : ℕ) (caller : Caller) (request : Request) → makes o (record_of base h t caller request) ≡ true → (draws o.purse (record_of base h t caller request) ≡ true) × IsNext base h o
made-next o base h t caller request e =
    let r : Record = record_of base h t caller request in
    let parts = both (concerns o.purse r) (is_made o r.reply) e in
    let accepted : is_accepted r ≡ true = (both (is_accepted r) (is_wide caller request || is_about o.purse (purse_of caller request)) parts.0).0 in
    let told : is_refused (answer base h t caller request) ≡ false = not-true (is_refused r.reply) (both (not (is_refused r.reply)) (not (only_reads request)) accepted).0 in
    let made = made-by-kind o base h t caller request (sym (ap (is_made o) (answer-by-kind base h t caller request told)) ∙ parts.1) in
    (ap (λ b. b && is_create request) parts.0 ∙ made.0, made.1)

-- RUNS

-- the object was made once at most, and not at all where its serial isn't drawn
record IsOnce (base : Base) (o : ObjectId) (h : List Record) : Type 0 where
  once : made_count base o h ≤ 1
  before : drawn base o.purse h < o.serial → made_count base o h ≡ 0

made_count-snoc : (base : Base) (o : ObjectId) (h : List Record) (r : Record) → made_count base o (h ++ r ∷ []) ≡ made_count base o h + cond (makes o r) 1 0
made_count-snoc base o h r = let counted : count_by (makes o) (h ++ r ∷ []) ≡ count_by (makes o) h + cond (makes o r) 1 0 = fold-append (λ a x. a + cond (makes o x) 1 0) 0 h (r ∷ []) in ap (λ n. cond (is_some (base.object o)) 1 0 + n) counted ∙ omega arith

once-step : (base : Base) (o : ObjectId) (h : List Record) (t : ℕ) (caller : Caller) (request : Request) → IsOnce base o h → IsOnce base o (h ++ record_of base h t caller request ∷ [])
once-step base o h t caller request s = by_test (makes o r)
    (λ e.
    let next = made-next o base h t caller request e in
    let none : made_count base o h ≡ 0 = s.before (omega (arith, next.1)) in
    let counted : made_count base o (h ++ r ∷ []) ≡ made_count base o h + 1 = made_count-snoc base o h r ∙ ap (λ b. made_count base o h + cond b 1 0) e in
    let drew : drawn base o.purse (h ++ r ∷ []) ≡ drawn base o.purse h + 1 = drawn-snoc base o.purse h r ∙ ap (λ b. drawn base o.purse h + cond b 1 0) next.0 in
    record { once = omega (arith, counted, none); before = λ low. absurd (omega (arith, low, drew, next.1)) })
    (λ e.
    let counted : made_count base o (h ++ r ∷ []) ≡ made_count base o h + 0 = made_count-snoc base o h r ∙ ap (λ b. made_count base o h + cond b 1 0) e in
    let drew : drawn base o.purse (h ++ r ∷ []) ≡ drawn base o.purse h + cond (draws o.purse r) 1 0 = drawn-snoc base o.purse h r in
    record { once = omega (arith, counted, s.once); before = λ low. let none : made_count base o h ≡ 0 = s.before (omega (arith, low, drew)) in omega (arith, counted, none) })
  where
    r : Record
    r = record_of base h t caller request

once-run : (base : Base) (o : ObjectId) (steps : List Step) (h : List Record) → IsOnce base o h → IsOnce base o (play_on base h steps)
once-run base o [] h s = s
once-run base o (step.Sweep n ∷ steps) h s = once-run base o steps h s
once-run base o (step.Request t caller request ∷ steps) h s = once-run base o steps (h ++ record_of base h t caller request ∷ []) (once-step base o h t caller request s)

once-first : (base : Base) (o : ObjectId) → IsDrawn base o → IsOnce base o []
once-first base o d = of (is_some (base.object o)) refl
  where
    of : (b : Bool) → is_some (base.object o) ≡ b → IsOnce base o []
    of true e =
        let low : o.serial ≤ base.drawn o.purse = d e in
        let one : made_count base o [] ≡ 1 = ap (λ b. cond b 1 0 + 0) e in
        record { once = omega (arith, one); before = λ high. absurd (omega (arith, low, high)) }
    of false e =
        let none : made_count base o [] ≡ 0 = ap (λ b. cond b 1 0 + 0) e in
        record { once = omega (arith, none); before = λ high. none }

pub made-once : (base : Base) (o : ObjectId) (steps : List Step) → IsDrawn base o → made_count base o (play base steps) ≤ 1
made-once base o steps d = (once-run base o steps [] (once-first base o d)).once
