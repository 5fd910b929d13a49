-- The spending and the budget of a purse depend on the records that concern the purse.
use Rattle.std.proofs.Common.{◌≡◌, ℕ, ◌+◌, zero, suc, cond, List, sym, ◌∙◌, ap, filter}
use Rattle.std.specs.Prelude.{sum_by, if◌then◌else◌}
use Rattle.s4_types.specs.declared.object.Purse.{Purse}
use Rattle.s4_types.specs.declared.object.ObjectId.{ObjectId}
use Rattle.s4_types.specs.declared.acl.AclEntry.{AclEntry}
use Rattle.s4_types.specs.declared.record.Record.{Record}
use Rattle.s4_laws.specs.Agree.{AgreeOn}
use Rattle.s4_types.specs.Base.{Base}
use Rattle.s4_types.specs.Horizon.{horizon_at}
use Rattle.s4_types.specs.Kinds.{concerns}
use Rattle.s4_types.specs.Names.{object_in}
use Rattle.s4_types.specs.Serials.{drawn}
use Rattle.s4_types.specs.Spending.{past_cost, spent_on_object, sum_to, is_charged, binding_cost, spent_on_name, spent_above, spent_at, budget_by, budget_after, budget_of}
use mathlib.Core.Path.{fun_ext}
use Rattle.s4_types.specs.Bindings.{names_of}
use Rattle.s4_types.specs.Versions.{Value, versions, data_track, attribute_track, acl_track}
use Rattle.s4_laws.proofs.OfPurse.{fold-filter, versions-agree, drawn-agree, bindings-agree, names_of-agree}
use Rattle.s4_laws.proofs.OfHorizon.{horizon_at-of-purse}

budget-filter : (base : Base) (purse : Purse) (h : List Record) → budget_of base purse (filter (concerns purse) h) ≡ budget_of base purse h
budget-filter base purse h = fold-filter (concerns purse) (budget_after purse) (λ old r e. ap (λ b. cond b (budget_by purse r.request old) old) e) (base.budget purse) h

-- two histories that agree on the records of a purse
pub budget-agree : (base : Base) (purse : Purse) (h k : List Record) → AgreeOn purse h k → budget_of base purse h ≡ budget_of base purse k
budget-agree base purse h k e = sym (budget-filter base purse h) ∙ ap (budget_of base purse) e ∙ budget-filter base purse k

names-cost-agree : (base : Base) (purse : Purse) (horizon : ℕ) (h k : List Record) → AgreeOn purse h k → sum_by (spent_on_name base purse horizon h) (names_of base purse h) ≡ sum_by (spent_on_name base purse horizon k) (names_of base purse k)
names-cost-agree base purse horizon h k e =
    ap (λ f. sum_by f (names_of base purse h)) (fun_ext (λ name. ap (λ vs. sum_by (λ (v : Value ℕ). if is_charged horizon v then binding_cost name else 0) vs) (bindings-agree base purse name h k e)))
    ∙ ap (sum_by (spent_on_name base purse horizon k)) (names_of-agree base purse h k e)

-- what three lists of values cost together
abbrev three_costs : ℕ → List (Value (List ℕ)) → List (Value (List ℕ)) → List (Value (List AclEntry)) → ℕ
three_costs horizon bytes attributes acls = past_cost data_track horizon bytes + past_cost attribute_track horizon attributes + past_cost acl_track horizon acls

on_object-agree : (base : Base) (horizon : ℕ) (o : ObjectId) (h k : List Record) → AgreeOn o.purse h k → spent_on_object base horizon h o ≡ spent_on_object base horizon k o
on_object-agree base horizon o h k e =
    ap (λ values. three_costs horizon values (versions base attribute_track o h) (versions base acl_track o h)) (versions-agree base data_track o h k e)
    ∙ ap (λ values. three_costs horizon (versions base data_track o k) values (versions base acl_track o h)) (versions-agree base attribute_track o h k e)
    ∙ ap (three_costs horizon (versions base data_track o k) (versions base attribute_track o k)) (versions-agree base acl_track o h k e)

sum_to-agree : (f g : ℕ → ℕ) → ((i : ℕ) → f i ≡ g i) → (n : ℕ) → sum_to n f ≡ sum_to n g
sum_to-agree f g e zero = e zero
sum_to-agree f g e (suc n) = ap (λ x. x + f (suc n)) (sum_to-agree f g e n) ∙ ap (λ x. sum_to n g + x) (e (suc n))

pub spent_above-agree : (base : Base) (purse : Purse) (horizon : ℕ) (h k : List Record) → AgreeOn purse h k → spent_above base purse horizon h ≡ spent_above base purse horizon k
spent_above-agree base purse horizon h k e =
    ap (λ n. sum_to n (λ serial. spent_on_object base horizon h (object_in purse serial)) + sum_by (spent_on_name base purse horizon h) (names_of base purse h)) (drawn-agree base purse h k e)
    ∙ ap (λ x. x + sum_by (spent_on_name base purse horizon h) (names_of base purse h)) (sum_to-agree (λ serial. spent_on_object base horizon h (object_in purse serial)) (λ serial. spent_on_object base horizon k (object_in purse serial)) (λ serial. on_object-agree base horizon (object_in purse serial) h k e) (drawn base purse k))
    ∙ ap (λ x. sum_to (drawn base purse k) (λ serial. spent_on_object base horizon k (object_in purse serial)) + x) (names-cost-agree base purse horizon h k e)

pub spent_at-agree : (base : Base) (purse : Purse) (t : ℕ) (h k : List Record) → AgreeOn purse h k → spent_at base purse h t ≡ spent_at base purse k t
spent_at-agree base purse t h k e = ap (λ horizon. spent_above base purse horizon h) (horizon_at-of-purse base purse t h k e) ∙ spent_above-agree base purse (horizon_at base k t) h k e
