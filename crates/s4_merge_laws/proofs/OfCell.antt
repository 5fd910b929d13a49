-- The records of one cell say all that matters to an answer there.
use Rattle.std.proofs.Common.{◌≡◌, ℕ, ◌%◌, ◌==◌, ◌&&◌, ◌||◌, true, nat_le, Option, Some, None, Ok, List, filter, drop, refl, ap, sym, ◌∙◌, eq-eqb}
use Rattle.std.specs.List.{flat_map}
use Rattle.std.proofs.lemmas.Bool.{eqb-true}
use mathlib.Core.Path.{fun_ext}
use Rattle.s4_types.specs.declared.principal.Caller.{Caller}
use Rattle.s4_types.specs.declared.object.Purse.{Purse}
use Rattle.s4_types.specs.declared.record.Record.{Record}
use Rattle.s4_types.specs.declared.request.After.{After}
use Rattle.s4_types.specs.declared.request.Request.{Request}
use Rattle.s4_types.specs.declared.request.Request.TheVariants.{PList, Flush, SetWindow, ReadAudit}
use Rattle.s4_types.specs.Answer.{outcome, outcome_by_kind, purse_numbers, page_of, audited}
use Rattle.s4_types.specs.Audit as audit
use Rattle.s4_types.specs.Base.{Base}
use Rattle.s4_types.specs.Horizon.{horizon_at}
use Rattle.s4_types.specs.Kinds.{purse_of, range_of, is_wide, is_about, is_accepted, concerns, concerns_all}
use Rattle.s4_types.proofs.Booleans.{both, by_test, ||-true}
use Rattle.s4_types.proofs.SameNames.{purse_is}
use Rattle.s4_laws.specs.Agree.{AgreeOn}
use Rattle.s4_laws.proofs.OfHorizon.{horizon_at-agree}
use Rattle.s4_laws.proofs.SameAnswer.{outcome-agree}
use Rattle.s4_laws.proofs.Strangers.{filter-filter}
use Rattle.s4_laws.proofs.Pages.{lines-agree}
use Rattle.s4_laws.proofs.KeptAnswer.{placeless-same}
use Rattle.s4_merge_laws.specs.Cells.{is_in_cell, records_in}
use Rattle.std.specs.Prelude.{option_map, unwrap_or}

-- WHAT A CELL HAS

wide-in : (cells cell : ℕ) (r : Record) → is_wide r.caller r.request ≡ true → is_in_cell cells cell r ≡ true
wide-in cells cell r e = ap (λ b. b || (range_of r.caller r.request % cells == cell)) e

pub own-in : (cells cell : ℕ) (r : Record) → range_of r.caller r.request % cells ≡ cell → is_in_cell cells cell r ≡ true
own-in cells cell r e = ap (λ b. is_wide r.caller r.request || b) (eq-eqb (range_of r.caller r.request % cells) cell e) ∙ ||-true (is_wide r.caller r.request)

-- a request that has a purse lies in the range of the purse's creator
range-there : (caller : Caller) (request : Request) (purse : Purse) → purse_of caller request ≡ Some purse → range_of caller request ≡ purse.creator
range-there caller (PList range after at) purse e = cc
range-there caller (ReadAudit range skip) purse e = cc
range-there caller request purse e = ap (λ place. unwrap_or (option_map (λ (p : Purse). p.creator) place) caller.who) e

range-about : (caller : Caller) (request : Request) (purse : Purse) (place : Option Purse) → purse_of caller request ≡ place → is_about purse place ≡ true → range_of caller request ≡ purse.creator
range-about caller request purse (Some other) e f = range-there caller request other e ∙ ap (λ p. p.creator) (purse_is other purse f)
range-about caller request purse None e f = cc

-- what concerns a purse is in the purse's cell
concerns-in : (cells cell : ℕ) (purse : Purse) → purse.creator % cells ≡ cell → (r : Record) → concerns purse r ≡ true → is_in_cell cells cell r ≡ true
concerns-in cells cell purse here r e =
    let parts = both (is_accepted r) (is_wide r.caller r.request || is_about purse (purse_of r.caller r.request)) e in
    by_test (is_wide r.caller r.request)
    (λ wide. wide-in cells cell r wide)
    (λ one. own-in cells cell r
    (ap (λ n. n % cells) (range-about r.caller r.request purse (purse_of r.caller r.request) refl (sym (ap (λ b. b || is_about purse (purse_of r.caller r.request)) one) ∙ parts.1))
    ∙ here))

-- and what concerns all purses is in each cell
concerns_all-in : (cells cell : ℕ) (r : Record) → concerns_all r ≡ true → is_in_cell cells cell r ≡ true
concerns_all-in cells cell r e = wide-in cells cell r (both (is_wide r.caller r.request) (is_accepted r) e).0

purse-agree : (cells cell : ℕ) (purse : Purse) (h : List Record) → purse.creator % cells ≡ cell → AgreeOn purse (records_in cells cell h) h
purse-agree cells cell purse h here = filter-filter (concerns purse) (is_in_cell cells cell) (concerns-in cells cell purse here) h

all-agree : (cells cell : ℕ) (h : List Record) → filter concerns_all (records_in cells cell h) ≡ filter concerns_all h
all-agree cells cell h = filter-filter concerns_all (is_in_cell cells cell) (concerns_all-in cells cell) h

-- PAGES

listed-here : (base : Base) (cells cell t : ℕ) (caller : Caller) (range : ℕ) (after : Option After) (at : Option ℕ) (h : List Record) → range % cells ≡ cell → outcome_by_kind base (records_in cells cell h) t caller (PList range after at) ≡ outcome_by_kind base h t caller (PList range after at)
listed-here base cells cell t caller range after at h here =
    ap (λ lines. Ok (page_of (flat_map lines purse_numbers)))
    (fun_ext (λ number. lines-agree base t caller after at (record { creator = range; number = number }) (records_in cells cell h) h (purse-agree cells cell (record { creator = range; number = number }) h here)))

shown-in : (cells cell : ℕ) (caller : Caller) (range horizon : ℕ) (r : Record) → range % cells ≡ cell → audit.is_shown caller range horizon r ≡ true → is_in_cell cells cell r ≡ true
shown-in cells cell caller range horizon r here e =
    let told = (both (nat_le horizon r.moment && audit.is_in_range range r) (audit.may_see caller r) e).0 in
    let there : audit.is_in_range range r ≡ true = (both (nat_le horizon r.moment) (audit.is_in_range range r) told).1 in
    by_test (is_wide r.caller r.request)
    (λ wide. wide-in cells cell r wide)
    (λ one. own-in cells cell r
    (ap (λ n. n % cells) (eqb-true (range_of r.caller r.request) range (sym (ap (λ b. b || (range_of r.caller r.request == range)) one) ∙ there))
    ∙ here))

audit-here : (base : Base) (cells cell t : ℕ) (caller : Caller) (range skip : ℕ) (h : List Record) → range % cells ≡ cell → outcome_by_kind base (records_in cells cell h) t caller (ReadAudit range skip) ≡ outcome_by_kind base h t caller (ReadAudit range skip)
audit-here base cells cell t caller range skip h here =
    ap (λ horizon. Ok (audited (audit.audit_page caller range skip horizon (records_in cells cell h)))) (horizon_at-agree base t (records_in cells cell h) h (all-agree cells cell h))
    ∙ ap (λ records. Ok (audited (audit.page_of (drop skip records))))
    (filter-filter (audit.is_shown caller range (horizon_at base h t)) (is_in_cell cells cell) (λ r e. shown-in cells cell caller range (horizon_at base h t) r here e) h)

-- ANSWERS

by_kind-here : (base : Base) (cells cell t : ℕ) (caller : Caller) (request : Request) (h : List Record) → purse_of caller request ≡ None → range_of caller request % cells ≡ cell → outcome_by_kind base (records_in cells cell h) t caller request ≡ outcome_by_kind base h t caller request
by_kind-here base cells cell t caller (PList range after at) h e here = listed-here base cells cell t caller range after at h here
by_kind-here base cells cell t caller (ReadAudit range skip) h e here = audit-here base cells cell t caller range skip h here
by_kind-here base cells cell t caller (Flush from to) h e here = refl
by_kind-here base cells cell t caller (SetWindow ticks) h e here = refl
by_kind-here base cells cell t caller _ h e here = cc

at-place : (base : Base) (cells cell t : ℕ) (caller : Caller) (request : Request) (h : List Record) (place : Option Purse) → purse_of caller request ≡ place → range_of caller request % cells ≡ cell → outcome base (records_in cells cell h) t caller request ≡ outcome base h t caller request
at-place base cells cell t caller request h (Some purse) e here =
    let creator : range_of caller request ≡ purse.creator = range-there caller request purse e in
    let agree : AgreeOn purse (records_in cells cell h) h = purse-agree cells cell purse h (ap (λ n. n % cells) (sym creator) ∙ here) in
    outcome-agree base t caller request (records_in cells cell h) h (rw e agree) (all-agree cells cell h)
at-place base cells cell t caller request h None e here =
    placeless-same base t caller request (records_in cells cell h) h e (all-agree cells cell h) (by_kind-here base cells cell t caller request h e here)

pub outcome-here : (base : Base) (cells cell : ℕ) (h : List Record) (t : ℕ) (caller : Caller) (request : Request) → range_of caller request % cells ≡ cell → outcome base (records_in cells cell h) t caller request ≡ outcome base h t caller request
outcome-here base cells cell h t caller request here = at-place base cells cell t caller request h (purse_of caller request) refl here

pub wide-same : (base other : Base) (h k : List Record) (t : ℕ) (caller : Caller) (request : Request) → is_wide caller request ≡ true → outcome base h t caller request ≡ outcome other k t caller request
wide-same base other h k t caller (Flush from to) e = refl
wide-same base other h k t caller (SetWindow ticks) e = refl
wide-same base other h k t caller _ e = cc
