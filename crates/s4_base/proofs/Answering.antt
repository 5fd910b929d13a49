-- A record that was answered can be followed.
use Rattle.std.proofs.Common.{◌≡◌, ℕ, ◌+◌, ◌≤◌, Bool, true, false, not, Option, Some, None, List, [], ◌∷◌, refl, sym, ◌∙◌, ap, subst, is_some, nat_le}
use Rattle.std.specs.Prelude.{Result, Ok, Err, is_ok, nat_lt, length, ◌&&◌, ◌==◌, if◌then◌else◌}
use Rattle.std.proofs.lemmas.Bool.{le-leb}
use Rattle.s4_types.specs.declared.principal.Caller.{Caller}
use Rattle.s4_types.specs.declared.object.Purse.{Purse}
use Rattle.s4_types.specs.declared.object.ObjectId.{ObjectId}
use Rattle.s4_types.specs.declared.acl.AclEntry.{AclEntry}
use Rattle.s4_types.specs.declared.rights.Right.TheVariants as right
use Rattle.s4_types.specs.declared.request.Request.{Request}
use Rattle.s4_types.specs.declared.request.Request.TheVariants.{Create, Delete, Write, Append, Truncate, SetAttr, SetAcl, PCreate, PDelete, Flush, FlushO, SetWindow, SetBudget}
use Rattle.s4_types.specs.declared.reply.Refusal.{Refusal}
use Rattle.s4_types.specs.declared.reply.Refusal.TheVariants.{Denied, TooLong, NamesSpent, Exists, PartsFull, Named, BadRange}
use Rattle.s4_types.specs.declared.reply.Reply.{Reply}
use Rattle.s4_types.specs.declared.reply.Reply.TheVariants.{Done, Made}
use Rattle.s4_types.specs.declared.record.Record.{Record}
use Rattle.s4_types.specs.Names.{object_in}
use Rattle.s4_types.specs.Kinds.{is_refused, only_reads}
use Rattle.s4_types.specs.Outcome.{◌>>=◌, ◌>>◌, refuse_if, reply_of}
use Rattle.s4_types.specs.Base.{Base, Standing}
use Rattle.s4_types.specs.Serials.{drawn}
use Rattle.s4_types.specs.Bindings.{bound_at, bound_count, has_name}
use Rattle.s4_types.specs.Limits.{data_limit}
use Rattle.s4_types.specs.Judgement.{judge}
use Rattle.s4_types.specs.Versions.{Value, versions, ends_by, in_force_by, unended, standing, data_track, attribute_track, acl_track}
use Rattle.s4_types.specs.Answer.{answer, outcome_by_kind, value_or_empty, settable, found_bound, administered, flushed}
use Rattle.s4_types.proofs.Outcomes.{passes_judgement, answer-by-kind}
use Rattle.s4_laws.specs.Bases.{IsBase}
use Rattle.s4_types.specs.Play.{UpTo}
use Rattle.s4_cuts.specs.Cut.{kept_object, object_left, left}
use Rattle.s4_laws.proofs.Old.{Old}
use Rattle.s4_cuts.proofs.CutTracks.{acl-kept, early-old}
use Rattle.s4_base.specs.Answered.{IsAnswered}
use Rattle.s4_base.specs.Changes.{told_done, next_in, IsSettable, CanSet, Follows, CanFollow}
use Rattle.s4_types.specs.Contents.{data_of, acl_of}

-- WHAT IS TOLD

-- tests in a row that end in a reply tell this reply, where they tell no refusal
abbrev TellsJust : Reply → Result Reply Refusal → Type 0
TellsJust reply outcome = is_refused (reply_of outcome) ≡ false → reply_of outcome ≡ reply

just : (reply : Reply) → TellsJust reply (Ok reply)
just reply e = refl

just-then : {A : Type 0} (reply : Reply) (first : Result A Refusal) (next : Result Reply Refusal) → TellsJust reply next → TellsJust reply (first >> next)
just-then reply (Ok x) next f e = f e
just-then reply (Err r) next f e = cc

just-bind : {A : Type 0} (reply : Reply) (first : Result A Refusal) (next : A → Result Reply Refusal) → ((x : A) → TellsJust reply (next x)) → TellsJust reply (first >>= next)
just-bind reply (Ok x) next f e = f x e
just-bind reply (Err r) next f e = cc

just-administered : (caller : Caller) → TellsJust Done (administered caller)
just-administered caller = just-then Done (refuse_if (not (caller.who == 0)) (Denied right.Admin)) (Ok Done) (just Done)

just-flushed : (from to : ℕ) (caller : Caller) → TellsJust Done (flushed from to caller)
just-flushed from to caller = just-then Done (refuse_if (nat_lt to from) BadRange) (administered caller) (just-administered caller)

module _ (base : Base) (h : List Record) (t : ℕ) (caller : Caller) where
  just-by-kind : (request : Request) → only_reads request ≡ false → TellsJust (told_done (left base t h) caller request) (outcome_by_kind base h t caller request)
  just-by-kind (Create number) e =
      just-then (Made (next_in (left base t h) (record { creator = caller.who; number = number }))) (refuse_if (nat_le 65535 (drawn base (record { creator = caller.who; number = number }) h)) NamesSpent) (Ok (Made (next_in (left base t h) (record { creator = caller.who; number = number })))) (just (Made (next_in (left base t h) (record { creator = caller.who; number = number }))))
  just-by-kind (Delete o) e =
      just-then Done (judge base h t caller o right.Delete None) (refuse_if (has_name base o t h) Named >> Ok Done) (just-then Done (refuse_if (has_name base o t h) Named) (Ok Done) (just Done))
  just-by-kind (Write o offset bytes) e =
      just-then Done (refuse_if (nat_lt (data_limit caller.version) (offset + length bytes)) TooLong) (judge base h t caller o right.Write None >> Ok Done) (just-then Done (judge base h t caller o right.Write None) (Ok Done) (just Done))
  just-by-kind (Append o bytes) e =
      let last : Result Reply Refusal = refuse_if (nat_lt (data_limit caller.version) (length (data_of base o t h) + length bytes)) TooLong >> Ok Done in
      just-then Done (refuse_if (nat_lt (data_limit caller.version) (length bytes)) TooLong) (judge base h t caller o right.Write None >> last)
      (just-then Done (judge base h t caller o right.Write None) last (just-then Done (refuse_if (nat_lt (data_limit caller.version) (length (data_of base o t h) + length bytes)) TooLong) (Ok Done) (just Done)))
  just-by-kind (Truncate o length) e =
      just-then Done (refuse_if (nat_lt (data_limit caller.version) length) TooLong) (judge base h t caller o right.Write None >> Ok Done) (just-then Done (judge base h t caller o right.Write None) (Ok Done) (just Done))
  just-by-kind (SetAttr o bytes) e =
      just-then Done (refuse_if (nat_lt 256 (length bytes)) TooLong) (judge base h t caller o right.Write None >> Ok Done) (just-then Done (judge base h t caller o right.Write None) (Ok Done) (just Done))
  just-by-kind (SetAcl o user rights) e =
      just-then Done (judge base h t caller o right.Control None) (settable user rights (acl_of base o t h) >> Ok Done) (just-then Done (settable user rights (acl_of base o t h)) (Ok Done) (just Done))
  just-by-kind (PCreate name o) e =
      let last : Result Reply Refusal = refuse_if (nat_le 64 (bound_count base o.purse t h)) PartsFull >> Ok Done in
      just-then Done (judge base h t caller o right.Control None) (refuse_if (is_some (bound_at base o.purse name t h)) Exists >> last)
      (just-then Done (refuse_if (is_some (bound_at base o.purse name t h)) Exists) last (just-then Done (refuse_if (nat_le 64 (bound_count base o.purse t h)) PartsFull) (Ok Done) (just Done)))
  just-by-kind (PDelete purse name) e =
      just-bind Done (found_bound caller purse right.Control (bound_at base purse name t h)) (λ serial. judge base h t caller (object_in purse serial) right.Control None >> Ok Done)
      (λ serial. just-then Done (judge base h t caller (object_in purse serial) right.Control None) (Ok Done) (just Done))
  just-by-kind (Flush from to) e = just-flushed from to caller
  just-by-kind (FlushO o from to) e = just-flushed from to caller
  just-by-kind (SetWindow ticks) e = just-administered caller
  just-by-kind (SetBudget purse budget) e = just-administered caller
  just-by-kind _ e = cc

-- ACLS

-- the newest value that has no end is in force
current-value : (t : ℕ) (vs : List (Value (List AclEntry))) (s : Standing (List AclEntry)) → Old t vs → standing vs ≡ Some s → value_or_empty (in_force_by t vs) ≡ s.value
current-value t [] s old e = cc
current-value t (v ∷ past) s old e = of v.end refl (ap (λ (o : Option (Standing (List AclEntry))). elim o as (λ _. List AclEntry) [ None ↦ s.value | Some x ↦ x.value ]) e)
  where
    known : (o : Option (Standing (List AclEntry))) → o ≡ Some s → elim o as (λ _. List AclEntry) [ None ↦ s.value | Some x ↦ x.value ] ≡ s.value
    known None e = refl
    known (Some x) e = ap (λ (o : Option (Standing (List AclEntry))). elim o as (λ _. List AclEntry) [ None ↦ s.value | Some x ↦ x.value ]) e

    of : (end : Option ℕ) → v.end ≡ end → elim (unended v.end v) as (λ _. List AclEntry) [ None ↦ s.value | Some x ↦ x.value ] ≡ s.value → value_or_empty (in_force_by t (v ∷ past)) ≡ s.value
    of None p q =
        ap (λ b. value_or_empty (if b then (if ends_by t v.end then None else Some v) else in_force_by t past)) (le-leb v.begin t old.0)
        ∙ ap (λ end. value_or_empty (if ends_by t end then None else Some v)) p
        ∙ sym (ap (λ end. elim (unended end v) as (λ _. List AclEntry) [ None ↦ s.value | Some x ↦ x.value ]) p) ∙ q
    of (Some end) p q = let none : unended v.end v ≡ None = ap (λ x. unended x v) p in cc

settable-kept : (user rights : ℕ) (acl : List AclEntry) (x y : Option (Standing (List ℕ))) (z : Option (Standing (List AclEntry))) → ((s : Standing (List AclEntry)) → z ≡ Some s → acl ≡ s.value)
    → settable user rights acl ≡ Ok tt → IsSettable user rights (kept_object x y z)
settable-kept user rights acl None y z is e = tt
settable-kept user rights acl (Some x) None z is e = tt
settable-kept user rights acl (Some x) (Some y) None is e = tt
settable-kept user rights acl (Some x) (Some y) (Some z) is e = subst (λ l. settable user rights l ≡ Ok tt) (is z refl) e

ok-unit : (r : Result (Unit {0}) Refusal) → is_ok r ≡ true → r ≡ Ok tt
ok-unit (Ok x) e = refl
ok-unit (Err r) e = cc

module _ (base : Base) (is : IsBase base) (h : List Record) (t : ℕ) (far : base.cut ≤ t) (up : UpTo t h) (caller : Caller) where
  acl-settable : (o : ObjectId) (user rights : ℕ) → is_refused (reply_of (outcome_by_kind base h t caller (SetAcl o user rights))) ≡ false → IsSettable user rights (object_left base h o)
  acl-settable o user rights e =
      let acl : List AclEntry = acl_of base o t h in
      let set = (passes_judgement (settable user rights acl) (Ok Done) (passes_judgement (judge base h t caller o right.Control None) (settable user rights acl >> Ok Done) e).1).0 in
      settable-kept user rights acl (standing (versions base data_track o h)) (standing (versions base attribute_track o h)) (standing (versions base acl_track o h))
      (λ s f. current-value t (versions base acl_track o h) s (early-old acl_track acl-kept base is t far h up o) f) (ok-unit (settable user rights acl) set)

  can-set : (request : Request) → is_refused (reply_of (outcome_by_kind base h t caller request)) ≡ false → CanSet (left base t h) request
  can-set (SetAcl o user rights) e = acl-settable o user rights e
  can-set _ e = tt

-- THE RECORD

accepted-parts : (a b : Bool) → (not a && not b) ≡ true → (a ≡ false) × (b ≡ false)
accepted-parts true b e = cc
accepted-parts false true e = cc
accepted-parts false false e = (refl, refl)

pub answered-follows : (base : Base) (h : List Record) (r : Record) → IsBase base → base.cut ≤ r.moment → UpTo r.moment h → IsAnswered base h r → CanFollow (left base r.moment h) r
answered-follows base h r is far up answered accepted =
    let parts = accepted-parts (is_refused r.reply) (only_reads r.request) accepted in
    let told : is_refused (answer base h r.moment r.caller r.request) ≡ false = ap is_refused (sym answered) ∙ parts.0 in
    let kind : answer base h r.moment r.caller r.request ≡ reply_of (outcome_by_kind base h r.moment r.caller r.request) = answer-by-kind base h r.moment r.caller r.request told in
    let passed : is_refused (reply_of (outcome_by_kind base h r.moment r.caller r.request)) ≡ false = ap is_refused (sym kind) ∙ told in
    record {
      told = answered ∙ kind ∙ just-by-kind base h r.moment r.caller r.request parts.1 passed;
      settable = can-set base is h r.moment far up r.caller r.request passed;
    }

-- ANOTHER BASE

told-alike : (a b : Base) → ((p : Purse) → a.drawn p ≡ b.drawn p) → (caller : Caller) (request : Request) → told_done a caller request ≡ told_done b caller request
told-alike a b drawn caller (Create number) = ap (λ n. Made (object_in (record { creator = caller.who; number = number }) (n + 1))) (drawn (record { creator = caller.who; number = number }))
told-alike a b drawn caller _ = refl

set-alike : (a b : Base) → ((o : ObjectId) → a.object o ≡ b.object o) → (request : Request) → CanSet a request → CanSet b request
set-alike a b object (SetAcl o user rights) e = subst (IsSettable user rights) (object o) e
set-alike a b object _ e = tt

-- whether a record can be followed depends on the serials and the objects alone
pub follow-alike : (a b : Base) → ((p : Purse) → a.drawn p ≡ b.drawn p) → ((o : ObjectId) → a.object o ≡ b.object o) → (r : Record) → CanFollow a r → CanFollow b r
follow-alike a b drawn object r can accepted =
    let follows : Follows a r = can accepted in
    record { told = follows.told ∙ told-alike a b drawn r.caller r.request; settable = set-alike a b object r.request follows.settable }
