-- A principal is refused in a purse that isn't near, and the refusal tells nothing of what is there.
use Rattle.std.proofs.Common.{◌≡◌, ℕ, Bool, true, false, cond, ◌+◌, nat_lt, ◌==◌, Option, Some, None, Result, Ok, Err, List, length, refl, ap}
use Rattle.std.proofs.lemmas.Bool.{eq-eqb}
use Rattle.s4_types.specs.declared.principal.Caller.{Caller}
use Rattle.s4_types.specs.declared.object.Purse.{Purse}
use Rattle.s4_types.specs.declared.object.ObjectId.{ObjectId}
use Rattle.s4_types.specs.declared.rights.Right.{Right}
use Rattle.s4_types.specs.declared.rights.Right.TheVariants as right
use Rattle.s4_types.specs.declared.record.Record.{Record}
use Rattle.s4_types.specs.declared.reply.Grant.{Grant}
use Rattle.s4_types.specs.declared.reply.Refusal.{Refusal}
use Rattle.s4_types.specs.declared.reply.Refusal.TheVariants.{Denied, TooLong, BadRange}
use Rattle.s4_types.specs.declared.reply.Reply.{Reply}
use Rattle.s4_types.specs.declared.reply.Reply.TheVariants.{Done, Mounted}
use Rattle.s4_types.specs.declared.request.Request.{Request}
use Rattle.s4_types.specs.declared.request.Request.TheVariants.{Create, Delete, Read, Write, Append, Truncate, GetAttr, SetAttr, GetAclByUser, GetAclByIndex, SetAcl, PCreate, PDelete, PList, PMount, Flush, FlushO, SetWindow, SetBudget, ReadAudit}
use Rattle.s4_types.specs.Base.{Base}
use Rattle.s4_types.specs.Names.{object_in}
use Rattle.s4_types.specs.Kinds.{purse_of, at_of}
use Rattle.s4_types.specs.Horizon.{horizon_at}
use Rattle.s4_types.specs.Bindings.{bound_at}
use Rattle.s4_types.specs.Limits.{data_limit}
use Rattle.s4_types.specs.Judgement.{Held, held_at, judge, judge_now, judge_past, needs_control}
use Rattle.s4_types.specs.Outcome.{◌>>=◌, ◌>>◌, refuse_if}
use Rattle.s4_types.specs.Answer.{timely, moment_of, found_bound, administered, affordable, outcome_by_kind, outcome, mountable}
use Rattle.s4_laws.proofs.Strangers.{and-false}
use Rattle.s4_laws.proofs.Unnamed.{IsAway, HeldWithout, IsUnnamed, held-lacks}
use Rattle.s4_laws.proofs.Entryless.{unfound}
use Rattle.s4_types.specs.declared.reply.NameLine.{NameLine}

-- the caller isn't the administrator, and the purse isn't near to it
pub record IsFar (near : Purse → Bool) (caller : Caller) (purse : Purse) : Type 0 where
  pub ordinary : (caller.who == 0) ≡ false
  pub stranger : (caller.who == purse.creator) ≡ false
  pub away : IsAway caller.who near purse

-- no entry can serve the caller in a purse that isn't near
abbrev pub Seen : (Purse → Bool) → Base → Caller → List Record → Type 0
Seen near base caller h = IsUnnamed caller.who near base h

-- JUDGEMENT

now-far : (caller : Caller) (o : ObjectId) (needed : Right) (held : Option Held) → (caller.who == 0) ≡ false → (caller.who == o.purse.creator) ≡ false → HeldWithout caller.who held → judge_now caller o needed held ≡ Err (Denied needed)
now-far caller o needed None z c s = rw (z, c) refl
now-far caller o needed (Some held) z c s =
    rw (z, and-false (needs_control needed) (caller.who == o.purse.creator) c, unfound caller.who held.acl s) refl

past-far : (caller : Caller) (o : ObjectId) (held : Option Held) → (caller.who == 0) ≡ false → (caller.who == o.purse.creator) ≡ false → HeldWithout caller.who held → judge_past caller o held ≡ Err (Denied right.Read)
past-far caller o None z c s = rw (z, c) refl
past-far caller o (Some held) z c s = rw (z, unfound caller.who held.acl s) refl

pub denied : (near : Purse → Bool) (base : Base) (h : List Record) (t : ℕ) (caller : Caller) (o : ObjectId) (needed : Right) → IsFar near caller o.purse → Seen near base caller h → judge base h t caller o needed None ≡ Err (Denied needed)
denied near base h t caller o needed f s = now-far caller o needed (held_at base o t h) f.ordinary f.stranger (held-lacks caller.who near base o t h f.away s)

pub denied-reading : (near : Purse → Bool) (base : Base) (h : List Record) (t : ℕ) (caller : Caller) (o : ObjectId) (at : Option ℕ) → IsFar near caller o.purse → Seen near base caller h → judge base h t caller o right.Read at ≡ Err (Denied right.Read)
denied-reading near base h t caller o None f s = denied near base h t caller o right.Read f s
denied-reading near base h t caller o (Some m) f s = past-far caller o (held_at base o m h) f.ordinary f.stranger (held-lacks caller.who near base o m h f.away s)

-- ONE KIND AFTER THE OTHER

-- what a request about a purse that isn't near is refused for
abbrev pub far_refusal : Caller → Request → Refusal
far_refusal caller (Delete o) = Denied right.Delete
far_refusal caller (Read o offset n at) = Denied right.Read
far_refusal caller (Write o offset bytes) = cond (nat_lt (data_limit caller.version) (offset + length bytes)) TooLong (Denied right.Write)
far_refusal caller (Append o bytes) = cond (nat_lt (data_limit caller.version) (length bytes)) TooLong (Denied right.Write)
far_refusal caller (Truncate o n) = cond (nat_lt (data_limit caller.version) n) TooLong (Denied right.Write)
far_refusal caller (GetAttr o at) = Denied right.Read
far_refusal caller (SetAttr o bytes) = cond (nat_lt 256 (length bytes)) TooLong (Denied right.Write)
far_refusal caller (GetAclByUser o user at) = Denied right.Read
far_refusal caller (GetAclByIndex o index at) = Denied right.Read
far_refusal caller (SetAcl o user rights) = Denied right.Control
far_refusal caller (PCreate name o) = Denied right.Control
far_refusal caller (PDelete purse name) = Denied right.Control
far_refusal caller (PMount purse name at) = Denied right.Read
far_refusal caller (FlushO o from to) = cond (nat_lt to from) BadRange (Denied right.Admin)
far_refusal caller _ = Denied right.Admin

sized : (long : Bool) (judged : Result Grant Refusal) (refusal : Refusal) (next : Result Reply Refusal) → judged ≡ Err refusal → (refuse_if long TooLong >> (judged >> next)) ≡ Err (cond long TooLong refusal)
sized true judged refusal next e = refl
sized false judged refusal next e = ap (λ j. j >> next) e

flushed-far : (bad : Bool) (caller : Caller) → (caller.who == 0) ≡ false → (refuse_if bad BadRange >> administered caller) ≡ Err (cond bad BadRange (Denied right.Admin))
flushed-far true caller z = refl
flushed-far false caller z = rw z refl

unbound-far : (near : Purse → Bool) (base : Base) (h : List Record) (t : ℕ) (caller : Caller) (purse : Purse) (found : Option ℕ) → IsFar near caller purse → Seen near base caller h → (found_bound caller purse right.Control found >>= λ serial. (judge base h t caller (object_in purse serial) right.Control None >> Ok Done)) ≡ Err (Denied right.Control)
unbound-far near base h t caller purse None f s = rw (f.ordinary, f.stranger) refl
unbound-far near base h t caller purse (Some serial) f s = ap (λ j. j >> Ok Done) (denied near base h t caller (object_in purse serial) right.Control f s)

line-far : (near : Purse → Bool) (base : Base) (h : List Record) (t : ℕ) (caller : Caller) (purse : Purse) (line : ℕ → Grant → Result NameLine Refusal) (at : Option ℕ) (found : Option ℕ) → IsFar near caller purse → Seen near base caller h → (found_bound caller purse right.Read found >>= λ serial. (judge base h t caller (object_in purse serial) right.Read at >>= line serial)) ≡ Err (Denied right.Read)
line-far near base h t caller purse line at None f s = rw (f.ordinary, f.stranger) refl
line-far near base h t caller purse line at (Some serial) f s = ap (λ j. j >>= line serial) (denied-reading near base h t caller (object_in purse serial) at f s)

pub mountable-far : (near : Purse → Bool) (base : Base) (h : List Record) (t : ℕ) (caller : Caller) (purse : Purse) (name : List ℕ) (at : Option ℕ) → IsFar near caller purse → Seen near base caller h → mountable base h t caller purse name at ≡ Err (Denied right.Read)
mountable-far near base h t caller purse name at f s =
    line-far near base h t caller purse (λ serial grant. Ok (record { name = name; object = object_in purse serial; grant = grant })) at (bound_at base purse name (moment_of t at) h) f s

-- the request has a purse, and that isn't near
abbrev pub FarThere : (Purse → Bool) → Caller → Option Purse → Type 0
FarThere near caller None = ⊥
FarThere near caller (Some purse) = IsFar near caller purse

by_kind-far : (near : Purse → Bool) (base : Base) (h : List Record) (t : ℕ) (caller : Caller) (request : Request) → FarThere near caller (purse_of caller request) → Seen near base caller h → outcome_by_kind base h t caller request ≡ Err (far_refusal caller request)
by_kind-far near base h t caller (Create number) f s = let own : (caller.who == caller.who) ≡ true = eq-eqb caller.who caller.who refl in let other : (caller.who == caller.who) ≡ false = f.stranger in cc
by_kind-far near base h t caller (Delete o) f s = rw (denied near base h t caller o right.Delete f s) refl
by_kind-far near base h t caller (Read o offset n at) f s = rw (denied-reading near base h t caller o at f s) refl
by_kind-far near base h t caller (Write o offset bytes) f s = sized (nat_lt (data_limit caller.version) (offset + length bytes)) (judge base h t caller o right.Write None) (Denied right.Write) (Ok Done) (denied near base h t caller o right.Write f s)
by_kind-far near base h t caller (Append o bytes) f s = rw (denied near base h t caller o right.Write f s) (sized (nat_lt (data_limit caller.version) (length bytes)) (Err (Denied right.Write)) (Denied right.Write) (Ok Done) refl)
by_kind-far near base h t caller (Truncate o n) f s = sized (nat_lt (data_limit caller.version) n) (judge base h t caller o right.Write None) (Denied right.Write) (Ok Done) (denied near base h t caller o right.Write f s)
by_kind-far near base h t caller (GetAttr o at) f s = rw (denied-reading near base h t caller o at f s) refl
by_kind-far near base h t caller (SetAttr o bytes) f s = sized (nat_lt 256 (length bytes)) (judge base h t caller o right.Write None) (Denied right.Write) (Ok Done) (denied near base h t caller o right.Write f s)
by_kind-far near base h t caller (GetAclByUser o user at) f s = rw (denied-reading near base h t caller o at f s) refl
by_kind-far near base h t caller (GetAclByIndex o index at) f s = rw (denied-reading near base h t caller o at f s) refl
by_kind-far near base h t caller (SetAcl o user rights) f s = rw (denied near base h t caller o right.Control f s) refl
by_kind-far near base h t caller (PCreate name o) f s = rw (denied near base h t caller o right.Control f s) refl
by_kind-far near base h t caller (PDelete purse name) f s = unbound-far near base h t caller purse (bound_at base purse name t h) f s
by_kind-far near base h t caller (PList range after at) f s = absurd f
by_kind-far near base h t caller (PMount purse name at) f s = ap (λ found. found >>= λ line. Ok (Mounted line.grant line.object)) (mountable-far near base h t caller purse name at f s)
by_kind-far near base h t caller (Flush from to) f s = absurd f
by_kind-far near base h t caller (FlushO o from to) f s = flushed-far (nat_lt to from) caller f.ordinary
by_kind-far near base h t caller (SetWindow ticks) f s = absurd f
by_kind-far near base h t caller (SetBudget purse budget) f s = rw f.ordinary refl
by_kind-far near base h t caller (ReadAudit range skip) f s = absurd f

-- of the history, the horizon alone counts
pub outcome-far : (near : Purse → Bool) (base : Base) (h : List Record) (t : ℕ) (caller : Caller) (request : Request) → FarThere near caller (purse_of caller request) → Seen near base caller h → outcome base h t caller request ≡ (timely (horizon_at base h t) t (at_of request) >> Err (far_refusal caller request))
outcome-far near base h t caller request f s =
    ap (λ made. timely (horizon_at base h t) t (at_of request) >> (made >>= λ reply. affordable base h t request (purse_of caller request) >> Ok reply)) (by_kind-far near base h t caller request f s)
