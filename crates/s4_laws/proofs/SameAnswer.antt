-- A request about a purse is answered by the records that concern the purse, and by those that concern all purses.
use Rattle.std.proofs.Common.{◌≡◌, ℕ, ◌+◌, nat_le, nat_lt, ◌∷◌, [], Option, Some, None, Ok, List, length, refl, ap, ◌∙◌, is_some, filter, take, drop, slice_get}
use Rattle.std.specs.Prelude.{min, sum, ok_or, Result}
use mathlib.Core.Path.{fun_ext}
use Rattle.s4_types.specs.declared.principal.Caller.{Caller}
use Rattle.s4_types.specs.declared.object.Purse.{Purse}
use Rattle.s4_types.specs.declared.object.ObjectId.{ObjectId}
use Rattle.s4_types.specs.declared.rights.Right.TheVariants as right
use Rattle.s4_types.specs.declared.record.Record.{Record}
use Rattle.s4_types.specs.declared.reply.Refusal.TheVariants.{Flushed, TooLong, Exists, PartsFull, Named, NamesSpent, NoEntry}
use Rattle.s4_types.specs.declared.reply.Reply.TheVariants.{Done, Made, Data, Attr, Mounted, Entry}
use Rattle.s4_types.specs.declared.request.Request.{Request}
use Rattle.s4_types.specs.declared.request.Request.TheVariants.{Create, Delete, Read, Write, Append, Truncate, GetAttr, SetAttr, GetAclByUser, GetAclByIndex, SetAcl, PCreate, PDelete, PList, PMount, ReadAudit}
use Rattle.s4_laws.specs.Agree.{AgreeOn}
use Rattle.s4_types.specs.Base.{Base}
use Rattle.s4_types.specs.Names.{object_in}
use Rattle.s4_types.specs.Kinds.{purse_of, at_of, concerns_all}
use Rattle.s4_types.specs.Horizon.{horizon_at}
use Rattle.s4_types.specs.Versions.{value_at, data_track, attribute_track, acl_track}
use Rattle.s4_types.specs.Bindings.{bound_at, bound_count, has_name}
use Rattle.s4_types.specs.Spending.{spent_at, budget_of}
use Rattle.s4_types.specs.Limits.{data_limit}
use Rattle.s4_types.specs.Judgement.{judge, entry_of, Found}
use Rattle.s4_types.specs.Outcome.{◌>>=◌, ◌>>◌, refuse_if}
use Rattle.s4_types.specs.Answer.{timely, moment_of, is_gone, created, settable, found_bound, made_past, charge_of, within, affordable, outcome_by_kind, outcome, mountable}
use Rattle.s4_laws.proofs.OfPurse.{drawn-agree, bound_at-agree}
use Rattle.s4_laws.proofs.OfObjects.{value_at-agree, judge-agree, data_of-agree, attributes_of-agree, acl_of-agree, bound_count-agree, has_name-agree}
use Rattle.s4_laws.proofs.OfSpending.{budget-agree, spent_at-agree}
use Rattle.s4_laws.proofs.OfHorizon.{horizon_at-agree}
use Rattle.s4_types.specs.Contents.{data_of, attributes_of, acl_of}
use Rattle.s4_types.specs.declared.reply.Grant.{Grant}
use Rattle.s4_types.specs.declared.reply.NameLine.{NameLine}
use Rattle.s4_types.specs.declared.reply.Refusal.{Refusal}
use Rattle.s4_types.specs.declared.reply.Reply.{Reply}
use Rattle.s4_types.specs.declared.acl.AclEntry.{AclEntry}

-- ONE KIND AFTER THE OTHER

created-agree : (base : Base) (purse : Purse) (h k : List Record) → AgreeOn purse h k → created base h purse ≡ created base k purse
created-agree base purse h k e = ap (λ n. refuse_if (nat_le 65535 n) NamesSpent >> Ok (Made (object_in purse (n + 1)))) (drawn-agree base purse h k e)

deleted-agree : (base : Base) (t : ℕ) (caller : Caller) (o : ObjectId) (h k : List Record) → AgreeOn o.purse h k → outcome_by_kind base h t caller (Delete o) ≡ outcome_by_kind base k t caller (Delete o)
deleted-agree base t caller o h k e =
    ap (λ j. j >> (refuse_if (has_name base o t h) Named >> Ok Done)) (judge-agree base t caller o right.Delete None h k e)
    ∙ ap (λ b. judge base k t caller o right.Delete None >> (refuse_if b Named >> Ok Done)) (has_name-agree base o t h k e)

data_read-agree : (base : Base) (t : ℕ) (caller : Caller) (o : ObjectId) (offset n : ℕ) (at : Option ℕ) (h k : List Record) → AgreeOn o.purse h k → outcome_by_kind base h t caller (Read o offset n at) ≡ outcome_by_kind base k t caller (Read o offset n at)
data_read-agree base t caller o offset n at h k e =
    ap (λ j. j >>= λ grant. refuse_if (is_gone (value_at base data_track o (moment_of t at) h)) Flushed >> Ok (Data grant (take (min n (data_limit caller.version)) (drop offset (data_of base o (moment_of t at) h))))) (judge-agree base t caller o right.Read at h k e)
    ∙ ap (λ v. judge base k t caller o right.Read at >>= λ grant. refuse_if (is_gone v) Flushed >> Ok (Data grant (take (min n (data_limit caller.version)) (drop offset (data_of base o (moment_of t at) h))))) (value_at-agree base data_track o (moment_of t at) h k e)
    ∙ ap (λ bytes. judge base k t caller o right.Read at >>= λ grant. refuse_if (is_gone (value_at base data_track o (moment_of t at) k)) Flushed >> Ok (Data grant (take (min n (data_limit caller.version)) (drop offset bytes)))) (data_of-agree base o (moment_of t at) h k e)

attributes_read-agree : (base : Base) (t : ℕ) (caller : Caller) (o : ObjectId) (at : Option ℕ) (h k : List Record) → AgreeOn o.purse h k → outcome_by_kind base h t caller (GetAttr o at) ≡ outcome_by_kind base k t caller (GetAttr o at)
attributes_read-agree base t caller o at h k e =
    ap (λ j. j >>= λ grant. refuse_if (is_gone (value_at base attribute_track o (moment_of t at) h)) Flushed >> Ok (Attr grant (attributes_of base o (moment_of t at) h))) (judge-agree base t caller o right.Read at h k e)
    ∙ ap (λ v. judge base k t caller o right.Read at >>= λ grant. refuse_if (is_gone v) Flushed >> Ok (Attr grant (attributes_of base o (moment_of t at) h))) (value_at-agree base attribute_track o (moment_of t at) h k e)
    ∙ ap (λ bytes. judge base k t caller o right.Read at >>= λ grant. refuse_if (is_gone (value_at base attribute_track o (moment_of t at) k)) Flushed >> Ok (Attr grant bytes)) (attributes_of-agree base o (moment_of t at) h k e)

entry_read_by_user-agree : (base : Base) (t : ℕ) (caller : Caller) (o : ObjectId) (user : ℕ) (at : Option ℕ) (h k : List Record) → AgreeOn o.purse h k → outcome_by_kind base h t caller (GetAclByUser o user at) ≡ outcome_by_kind base k t caller (GetAclByUser o user at)
entry_read_by_user-agree base t caller o user at h k e =
    let entry : Grant → Found → Result Reply Refusal = λ grant found. Ok (Entry grant found.index user found.rights) in
    ap (λ j. j >>= λ grant. ok_or (entry_of user (acl_of base o (moment_of t at) h)) NoEntry >>= entry grant) (judge-agree base t caller o right.Read at h k e)
    ∙ ap (λ acl. judge base k t caller o right.Read at >>= λ grant. ok_or (entry_of user acl) NoEntry >>= entry grant) (acl_of-agree base o (moment_of t at) h k e)

entry_read_by_index-agree : (base : Base) (t : ℕ) (caller : Caller) (o : ObjectId) (index : ℕ) (at : Option ℕ) (h k : List Record) → AgreeOn o.purse h k → outcome_by_kind base h t caller (GetAclByIndex o index at) ≡ outcome_by_kind base k t caller (GetAclByIndex o index at)
entry_read_by_index-agree base t caller o index at h k e =
    let entry : Grant → AclEntry → Result Reply Refusal = λ grant found. Ok (Entry grant index found.who found.rights) in
    ap (λ j. j >>= λ grant. ok_or (slice_get (acl_of base o (moment_of t at) h) index) NoEntry >>= entry grant) (judge-agree base t caller o right.Read at h k e)
    ∙ ap (λ acl. judge base k t caller o right.Read at >>= λ grant. ok_or (slice_get acl index) NoEntry >>= entry grant) (acl_of-agree base o (moment_of t at) h k e)

data_appended-agree : (base : Base) (t : ℕ) (caller : Caller) (o : ObjectId) (bytes : List ℕ) (h k : List Record) → AgreeOn o.purse h k → outcome_by_kind base h t caller (Append o bytes) ≡ outcome_by_kind base k t caller (Append o bytes)
data_appended-agree base t caller o bytes h k e =
    ap (λ j. refuse_if (nat_lt (data_limit caller.version) (length bytes)) TooLong >> (j >> (refuse_if (nat_lt (data_limit caller.version) (length (data_of base o t h) + length bytes)) TooLong >> Ok Done))) (judge-agree base t caller o right.Write None h k e)
    ∙ ap (λ old. refuse_if (nat_lt (data_limit caller.version) (length bytes)) TooLong >> (judge base k t caller o right.Write None >> (refuse_if (nat_lt (data_limit caller.version) (length old + length bytes)) TooLong >> Ok Done))) (data_of-agree base o t h k e)

acl_set-agree : (base : Base) (t : ℕ) (caller : Caller) (o : ObjectId) (user rights : ℕ) (h k : List Record) → AgreeOn o.purse h k → outcome_by_kind base h t caller (SetAcl o user rights) ≡ outcome_by_kind base k t caller (SetAcl o user rights)
acl_set-agree base t caller o user rights h k e =
    ap (λ j. j >> (settable user rights (acl_of base o t h) >> Ok Done)) (judge-agree base t caller o right.Control None h k e)
    ∙ ap (λ acl. judge base k t caller o right.Control None >> (settable user rights acl >> Ok Done)) (acl_of-agree base o t h k e)

name_bound-agree : (base : Base) (t : ℕ) (caller : Caller) (name : List ℕ) (o : ObjectId) (h k : List Record) → AgreeOn o.purse h k → outcome_by_kind base h t caller (PCreate name o) ≡ outcome_by_kind base k t caller (PCreate name o)
name_bound-agree base t caller name o h k e =
    ap (λ j. j >> (refuse_if (is_some (bound_at base o.purse name t h)) Exists >> (refuse_if (nat_le 64 (bound_count base o.purse t h)) PartsFull >> Ok Done))) (judge-agree base t caller o right.Control None h k e)
    ∙ ap (λ b. judge base k t caller o right.Control None >> (refuse_if (is_some b) Exists >> (refuse_if (nat_le 64 (bound_count base o.purse t h)) PartsFull >> Ok Done))) (bound_at-agree base o.purse name t h k e)
    ∙ ap (λ n. judge base k t caller o right.Control None >> (refuse_if (is_some (bound_at base o.purse name t k)) Exists >> (refuse_if (nat_le 64 n) PartsFull >> Ok Done))) (bound_count-agree base o.purse t h k e)

name_unbound-agree : (base : Base) (t : ℕ) (caller : Caller) (purse : Purse) (name : List ℕ) (h k : List Record) → AgreeOn purse h k → outcome_by_kind base h t caller (PDelete purse name) ≡ outcome_by_kind base k t caller (PDelete purse name)
name_unbound-agree base t caller purse name h k e =
    ap (λ b. found_bound caller purse right.Control b >>= λ serial. (judge base h t caller (object_in purse serial) right.Control None >> Ok Done)) (bound_at-agree base purse name t h k e)
    ∙ ap (λ f. found_bound caller purse right.Control (bound_at base purse name t k) >>= f)
    (fun_ext (λ serial. ap (λ j. j >> Ok Done) (judge-agree base t caller (object_in purse serial) right.Control None h k e)))

pub mountable-agree : (base : Base) (t : ℕ) (caller : Caller) (purse : Purse) (name : List ℕ) (at : Option ℕ) (h k : List Record) → AgreeOn purse h k → mountable base h t caller purse name at ≡ mountable base k t caller purse name at
mountable-agree base t caller purse name at h k e =
    let line : ℕ → Grant → Result NameLine Refusal = λ serial grant. Ok (record { name = name; object = object_in purse serial; grant = grant }) in
    ap (λ b. found_bound caller purse right.Read b >>= λ serial. (judge base h t caller (object_in purse serial) right.Read at >>= line serial)) (bound_at-agree base purse name (moment_of t at) h k e)
    ∙ ap (λ f. found_bound caller purse right.Read (bound_at base purse name (moment_of t at) k) >>= f)
    (fun_ext (λ serial. ap (λ j. j >>= line serial) (judge-agree base t caller (object_in purse serial) right.Read at h k e)))

name_mounted-agree : (base : Base) (t : ℕ) (caller : Caller) (purse : Purse) (name : List ℕ) (at : Option ℕ) (h k : List Record) → AgreeOn purse h k → outcome_by_kind base h t caller (PMount purse name at) ≡ outcome_by_kind base k t caller (PMount purse name at)
name_mounted-agree base t caller purse name at h k e = ap (λ found. found >>= λ line. Ok (Mounted line.grant line.object)) (mountable-agree base t caller purse name at h k e)

-- ALL KINDS

-- the two histories agree on the purse, and there is one
abbrev pub AgreeThere : Option Purse → List Record → List Record → Type 0
AgreeThere None h k = ⊥
AgreeThere (Some purse) h k = AgreeOn purse h k

by_kind-agree : (base : Base) (t : ℕ) (caller : Caller) (request : Request) (h k : List Record) → AgreeThere (purse_of caller request) h k → outcome_by_kind base h t caller request ≡ outcome_by_kind base k t caller request
by_kind-agree base t caller (Create number) h k e = created-agree base (record { creator = caller.who; number = number }) h k e
by_kind-agree base t caller (Delete o) h k e = deleted-agree base t caller o h k e
by_kind-agree base t caller (Read o offset n at) h k e = data_read-agree base t caller o offset n at h k e
by_kind-agree base t caller (Write o offset bytes) h k e = ap (λ j. refuse_if (nat_lt (data_limit caller.version) (offset + length bytes)) TooLong >> (j >> Ok Done)) (judge-agree base t caller o right.Write None h k e)
by_kind-agree base t caller (Append o bytes) h k e = data_appended-agree base t caller o bytes h k e
by_kind-agree base t caller (Truncate o n) h k e = ap (λ j. refuse_if (nat_lt (data_limit caller.version) n) TooLong >> (j >> Ok Done)) (judge-agree base t caller o right.Write None h k e)
by_kind-agree base t caller (GetAttr o at) h k e = attributes_read-agree base t caller o at h k e
by_kind-agree base t caller (SetAttr o bytes) h k e = ap (λ j. refuse_if (nat_lt 256 (length bytes)) TooLong >> (j >> Ok Done)) (judge-agree base t caller o right.Write None h k e)
by_kind-agree base t caller (GetAclByUser o user at) h k e = entry_read_by_user-agree base t caller o user at h k e
by_kind-agree base t caller (GetAclByIndex o index at) h k e = entry_read_by_index-agree base t caller o index at h k e
by_kind-agree base t caller (SetAcl o user rights) h k e = acl_set-agree base t caller o user rights h k e
by_kind-agree base t caller (PCreate name o) h k e = name_bound-agree base t caller name o h k e
by_kind-agree base t caller (PDelete purse name) h k e = name_unbound-agree base t caller purse name h k e
by_kind-agree base t caller (PList range after at) h k e = absurd e
by_kind-agree base t caller (PMount purse name at) h k e = name_mounted-agree base t caller purse name at h k e
by_kind-agree base t caller (ReadAudit range skip) h k e = absurd e
by_kind-agree base t caller _ h k e = refl

-- CHARGES

made_past-agree : (base : Base) (t : ℕ) (caller : Caller) (request : Request) (h k : List Record) → AgreeThere (purse_of caller request) h k → made_past base h t request ≡ made_past base k t request
made_past-agree base t caller (Delete o) h k e =
    ap (λ bytes. data_track.cost bytes ∷ attribute_track.cost (attributes_of base o t h) ∷ acl_track.cost (acl_of base o t h) ∷ []) (data_of-agree base o t h k e)
    ∙ ap (λ bytes. data_track.cost (data_of base o t k) ∷ attribute_track.cost bytes ∷ acl_track.cost (acl_of base o t h) ∷ []) (attributes_of-agree base o t h k e)
    ∙ ap (λ acl. data_track.cost (data_of base o t k) ∷ attribute_track.cost (attributes_of base o t k) ∷ acl_track.cost acl ∷ []) (acl_of-agree base o t h k e)
made_past-agree base t caller (Write o offset bytes) h k e = ap (λ old. data_track.cost old ∷ []) (data_of-agree base o t h k e)
made_past-agree base t caller (Append o bytes) h k e = ap (λ old. data_track.cost old ∷ []) (data_of-agree base o t h k e)
made_past-agree base t caller (Truncate o n) h k e = ap (λ old. data_track.cost old ∷ []) (data_of-agree base o t h k e)
made_past-agree base t caller (SetAttr o bytes) h k e = ap (λ old. attribute_track.cost old ∷ []) (attributes_of-agree base o t h k e)
made_past-agree base t caller (SetAcl o user rights) h k e = ap (λ old. acl_track.cost old ∷ []) (acl_of-agree base o t h k e)
made_past-agree base t caller _ h k e = refl

affordable-agree : (base : Base) (t : ℕ) (request : Request) (purse : Option Purse) (h k : List Record) → AgreeThere purse h k → made_past base h t request ≡ made_past base k t request → affordable base h t request purse ≡ affordable base k t request purse
affordable-agree base t request None h k e g = absurd e
affordable-agree base t request (Some purse) h k e g =
    ap (λ budget. within budget (spent_at base purse h t) (charge_of base h t request)) (budget-agree base purse h k e)
    ∙ ap (λ spent. within (budget_of base purse k) spent (charge_of base h t request)) (spent_at-agree base purse t h k e)
    ∙ ap (λ charges. within (budget_of base purse k) (spent_at base purse k t) (sum charges)) g

-- two histories that agree on the purse of a request, and on what concerns all purses, give it one outcome
pub outcome-agree : (base : Base) (t : ℕ) (caller : Caller) (request : Request) (h k : List Record) → AgreeThere (purse_of caller request) h k → filter concerns_all h ≡ filter concerns_all k → outcome base h t caller request ≡ outcome base k t caller request
outcome-agree base t caller request h k e f =
    let place : Option Purse = purse_of caller request in
    let at : Option ℕ = at_of request in
    ap (λ horizon. timely horizon t at >> (outcome_by_kind base h t caller request >>= λ reply. affordable base h t request place >> Ok reply)) (horizon_at-agree base t h k f)
    ∙ ap (λ made. timely (horizon_at base k t) t at >> (made >>= λ reply. affordable base h t request place >> Ok reply)) (by_kind-agree base t caller request h k e)
    ∙ ap (λ test. timely (horizon_at base k t) t at >> (outcome_by_kind base k t caller request >>= λ reply. test >> Ok reply)) (affordable-agree base t request place h k e (made_past-agree base t caller request h k e))
