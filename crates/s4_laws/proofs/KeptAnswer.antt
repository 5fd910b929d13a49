-- A request that isn't a stranger's is answered by the records that aren't strangers'.
use Rattle.std.proofs.Common.{◌≡◌, ℕ, Bool, true, false, not, ◌&&◌, ◌||◌, ◌==◌, Option, Some, None, Result, Ok, List, filter, refl, ap, sym, ◌∙◌, subst}
use Rattle.std.proofs.lemmas.Bool.{eqb-true}
use Rattle.s4_types.specs.declared.principal.Caller.{Caller}
use Rattle.s4_types.specs.declared.object.Purse.{Purse}
use Rattle.s4_types.specs.declared.record.Record.{Record}
use Rattle.s4_types.specs.declared.reply.Reply.{Reply}
use Rattle.s4_types.specs.declared.reply.Refusal.{Refusal}
use Rattle.s4_types.specs.declared.request.Request.{Request}
use Rattle.s4_types.specs.declared.request.Request.TheVariants.{PList, Flush, SetWindow, ReadAudit}
use Rattle.s4_types.specs.Base.{Base}
use Rattle.s4_types.specs.Kinds.{purse_of, at_of, only_reads, is_wide, concerns_all}
use Rattle.s4_types.specs.Horizon.{horizon_at}
use Rattle.s4_types.specs.Outcome.{◌>>=◌, ◌>>◌}
use Rattle.s4_types.specs.Answer.{outcome, outcome_by_kind, affordable, timely}
use Rattle.s4_types.specs.Strike.{is_elsewhere, is_strangers}
use Rattle.s4_laws.specs.Kept.{without_strangers}
use Rattle.s4_laws.proofs.OfHorizon.{horizon_at-agree}
use Rattle.s4_laws.proofs.SameAnswer.{outcome-agree, AgreeThere}
use Rattle.s4_laws.proofs.Strangers.{not-false, either-false, near-agree, all-agree}
use Rattle.s4_laws.proofs.Unnamed.{IsUnnamed}
use Rattle.s4_laws.proofs.Far.{Seen, FarThere, outcome-far, far_refusal}
use Rattle.s4_laws.proofs.Pages.{KnowsOwn, far-of, seen-kept, listed-same, audit-same}

-- REQUESTS WITHOUT A PURSE

abbrev at_no_cost : Result Reply Refusal → Result Reply Refusal
at_no_cost made = made >>= λ reply. Ok reply

without_purse : (base : Base) (t : ℕ) (caller : Caller) (request : Request) (h : List Record) → purse_of caller request ≡ None → outcome base h t caller request ≡ (timely (horizon_at base h t) t (at_of request) >> at_no_cost (outcome_by_kind base h t caller request))
without_purse base t caller request h e =
    ap (λ place. timely (horizon_at base h t) t (at_of request) >> (outcome_by_kind base h t caller request >>= λ reply. affordable base h t request place >> Ok reply)) e

-- it is answered the same from two histories that agree on what concerns all purses, where its kind is
pub placeless-same : (base : Base) (t : ℕ) (caller : Caller) (request : Request) (h k : List Record) → purse_of caller request ≡ None → filter concerns_all h ≡ filter concerns_all k → outcome_by_kind base h t caller request ≡ outcome_by_kind base k t caller request → outcome base h t caller request ≡ outcome base k t caller request
placeless-same base t caller request h k e f g =
    without_purse base t caller request h e
    ∙ ap (λ horizon. timely horizon t (at_of request) >> at_no_cost (outcome_by_kind base h t caller request)) (horizon_at-agree base t h k f)
    ∙ ap (λ made. timely (horizon_at base k t) t (at_of request) >> at_no_cost made) g
    ∙ sym (without_purse base t caller request k e)

-- THE PRINCIPAL'S OWN REQUESTS

own-by_kind : (near : Purse → Bool) (base : Base) (t : ℕ) (caller : Caller) (request : Request) (h : List Record) → purse_of caller request ≡ None → KnowsOwn caller.who near → (caller.who == 0) ≡ false → Seen near base caller h → outcome_by_kind base h t caller request ≡ outcome_by_kind base (without_strangers caller.who near h) t caller request
own-by_kind near base t caller (PList range after at) h e own z s = listed-same near base t caller range after at h own z s
own-by_kind near base t caller (ReadAudit range skip) h e own z s = audit-same near base t caller range skip h z
own-by_kind near base t caller (Flush from to) h e own z s = refl
own-by_kind near base t caller (SetWindow ticks) h e own z s = refl
own-by_kind near base t caller _ h e own z s = cc

own-there : (near : Purse → Bool) (base : Base) (t : ℕ) (caller : Caller) (request : Request) (h : List Record) (purse : Purse) (b : Bool) → purse_of caller request ≡ Some purse → near purse ≡ b → KnowsOwn caller.who near → (caller.who == 0) ≡ false → Seen near base caller h → outcome base h t caller request ≡ outcome base (without_strangers caller.who near h) t caller request
own-there near base t caller request h purse true e n own z s =
    let k : List Record = without_strangers caller.who near h in
    outcome-agree base t caller request h k (subst (λ place. AgreeThere place h k) (sym e) (near-agree caller.who near purse h n)) (all-agree caller.who near h)
own-there near base t caller request h purse false e n own z s =
    let k : List Record = without_strangers caller.who near h in
    let f : FarThere near caller (purse_of caller request) = subst (FarThere near caller) (sym e) (far-of near caller purse own z n) in
    outcome-far near base h t caller request f s
    ∙ ap (λ horizon. timely horizon t (at_of request) >> Rattle.std.specs.Prelude.Err (far_refusal caller request)) (horizon_at-agree base t h k (all-agree caller.who near h))
    ∙ sym (outcome-far near base k t caller request f (seen-kept near base caller h s))

own-same : (near : Purse → Bool) (base : Base) (t : ℕ) (caller : Caller) (request : Request) (h : List Record) (place : Option Purse) → purse_of caller request ≡ place → KnowsOwn caller.who near → (caller.who == 0) ≡ false → Seen near base caller h → outcome base h t caller request ≡ outcome base (without_strangers caller.who near h) t caller request
own-same near base t caller request h (Some purse) e own z s = own-there near base t caller request h purse (near purse) e refl own z s
own-same near base t caller request h None e own z s =
    placeless-same base t caller request h (without_strangers caller.who near h) e (all-agree caller.who near h) (own-by_kind near base t caller request h e own z s)

-- OTHERS' REQUESTS

other-by_kind : (base : Base) (t : ℕ) (caller : Caller) (request : Request) (h k : List Record) → purse_of caller request ≡ None → only_reads request ≡ false → outcome_by_kind base h t caller request ≡ outcome_by_kind base k t caller request
other-by_kind base t caller (Flush from to) h k e reads = refl
other-by_kind base t caller (SetWindow ticks) h k e reads = refl
other-by_kind base t caller (PList range after at) h k e reads = cc
other-by_kind base t caller (ReadAudit range skip) h k e reads = cc
other-by_kind base t caller _ h k e reads = cc

-- another's request that changes things near, or everywhere
other-same : (who : ℕ) (near : Purse → Bool) (base : Base) (t : ℕ) (caller : Caller) (request : Request) (h : List Record) (place : Option Purse) → purse_of caller request ≡ place → only_reads request ≡ false → is_elsewhere near place (is_wide caller request) ≡ false → outcome base h t caller request ≡ outcome base (without_strangers who near h) t caller request
other-same who near base t caller request h (Some purse) e reads elsewhere =
    let k : List Record = without_strangers who near h in
    outcome-agree base t caller request h k (subst (λ place. AgreeThere place h k) (sym e) (near-agree who near purse h (not-false (near purse) elsewhere))) (all-agree who near h)
other-same who near base t caller request h None e reads elsewhere =
    let k : List Record = without_strangers who near h in
    placeless-same base t caller request h k e (all-agree who near h) (other-by_kind base t caller request h k e reads)

-- ALL REQUESTS

pub outcome-same : (who : ℕ) (near : Purse → Bool) (base : Base) (t : ℕ) (caller : Caller) (request : Request) (h : List Record) (mine : Bool) → (caller.who == who) ≡ mine → is_strangers who near caller request ≡ false → KnowsOwn who near → (who == 0) ≡ false → IsUnnamed who near base h → outcome base h t caller request ≡ outcome base (without_strangers who near h) t caller request
outcome-same who near base t caller request h true e strange own z s =
    subst (λ x. KnowsOwn x near → (x == 0) ≡ false → IsUnnamed x near base h → outcome base h t caller request ≡ outcome base (without_strangers x near h) t caller request)
    (eqb-true caller.who who e) (own-same near base t caller request h (purse_of caller request) refl) own z s
outcome-same who near base t caller request h false e strange own z s =
    let elsewhere : Bool = is_elsewhere near (purse_of caller request) (is_wide caller request) in
    let parts = either-false (only_reads request) elsewhere (sym (ap (λ b. not b && (only_reads request || elsewhere)) e) ∙ strange) in
    other-same who near base t caller request h (purse_of caller request) refl parts.0 parts.1
