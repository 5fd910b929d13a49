-- What the ledger tells is what the definitions tell of spending and budgets.
use Rattle.std.proofs.Common.{◌≡◌, ℕ, ◌+◌, ◌<◌, ◌≤◌, Bool, true, false, not, cond, Option, Some, None, List, refl, sym, ◌∙◌, ap, arith}
use Rattle.std.specs.Prelude.{Ok, Err, nat_lt, ◌&&◌, sum_by, if◌then◌else◌}
use Rattle.s4_types.specs.declared.object.Purse.{Purse}
use Rattle.s4_types.specs.declared.object.ObjectId.{ObjectId}
use Rattle.s4_types.specs.declared.record.Record.{Record}
use Rattle.s4_types.specs.declared.reply.Refusal.TheVariants.{OverBudget}
use Rattle.s4_types.specs.Names.{object_in}
use Rattle.s4_types.specs.Outcome.{refuse_if}
use Rattle.s4_types.specs.Base.{Base}
use Rattle.s4_types.specs.Bindings.{bindings, names_of}
use Rattle.s4_types.specs.Horizon.{Guarded, horizon_of, guarded_at, horizon_at, is_remembered}
use Rattle.s4_types.specs.Play.{last_of}
use Rattle.s4_types.specs.Serials.{drawn}
use Rattle.s4_types.specs.Spending.{sum_to, binding_cost, past_cost, spent_on_object, spent_on_name, spent_above, spent_at}
use Rattle.s4_types.specs.Answer.{within}
use Rattle.s4_types.specs.Versions.{Track, Value, versions, data_track, attribute_track, acl_track}
use Rattle.s4_types.proofs.Booleans.{by_test, &&-false, &&-true}
use Rattle.s4_ledger.specs.Books.{spending, lasting}
use Rattle.s4_state.specs.Weights.{weight_of, track_weight, object_weight, name_weight, names_weight, purse_weight}
use Rattle.s4_drive.specs.declared.limits.Limits.{Limits}
use Rattle.s4_drive.specs.Stands.{LimitsStand, above}
use Rattle.s4_drive.proofs.Tallying.{advanced}

-- what a value costs where it is not expired
abbrev counted : ℕ → ℕ → ℕ → ℕ
counted horizon = above horizon (λ end cost. cost)

-- by its end, and whether it is erased
value-counted : (horizon : ℕ) (end : Option ℕ) (erased : Bool) (cost : ℕ) → (if erased then 0 else weight_of (counted horizon) end cost) ≡ (if is_remembered horizon end && not erased then cost else 0)
value-counted horizon None true cost = refl
value-counted horizon None false cost = refl
value-counted horizon (Some end) true cost = sym (ap (λ b. cond b cost 0) (&&-false (nat_lt horizon end)))
value-counted horizon (Some end) false cost = sym (ap (λ b. cond b cost 0) (&&-true (nat_lt horizon end)))

track-counted : {V : Type 0} (horizon : ℕ) (track : Track V) (values : List (Value V)) → track_weight (counted horizon) track values ≡ past_cost track horizon values
track-counted horizon track values = ap (λ f. sum_by f values) (λ i v. value-counted horizon v.end v.is_erased (track.cost v.value) i)

object-counted : (base : Base) (horizon : ℕ) (h : List Record) (o : ObjectId) → object_weight base (counted horizon) h o ≡ spent_on_object base horizon h o
object-counted base horizon h o =
    let a = track-counted horizon data_track (versions base data_track o h) in
    let b = track-counted horizon attribute_track (versions base attribute_track o h) in
    let c = track-counted horizon acl_track (versions base acl_track o h) in
    omega (arith, a, b, c)

name-counted : (base : Base) (horizon : ℕ) (p : Purse) (h : List Record) (name : List ℕ) → name_weight base (counted horizon) p h name ≡ spent_on_name base p horizon h name
name-counted base horizon p h name = ap (λ f. sum_by f (bindings base p name h)) (λ i v. value-counted horizon v.end v.is_erased (binding_cost name) i)

purse-counted : (base : Base) (horizon : ℕ) (p : Purse) (h : List Record) → purse_weight base (counted horizon) p h ≡ spent_above base p horizon h
purse-counted base horizon p h =
    let objects : sum_to (drawn base p h) (λ serial. object_weight base (counted horizon) h (object_in p serial)) ≡ sum_to (drawn base p h) (λ serial. spent_on_object base horizon h (object_in p serial))
    = ap (sum_to (drawn base p h)) (λ i serial. object-counted base horizon h (object_in p serial) i) in
    let names : names_weight base (counted horizon) p h ≡ sum_by (spent_on_name base p horizon h) (names_of base p h) = ap (λ f. sum_by f (names_of base p h)) (λ i name. name-counted base horizon p h name i) in
    omega (arith, objects, names)

-- what the purse spends once the horizon is there
pub spent-told : (base : Base) (h : List Record) (limits : Limits) → LimitsStand base h limits → (late : ℕ) → limits.ledger.horizon ≤ late
    → (p : Purse) → spending p (lasting late limits.ledger.charges) ≡ spent_above base p late h
spent-told base h limits stand late le p = advanced limits.ledger.horizon late base h limits.ledger.charges stand.charges le (λ end cost. cost) p ∙ purse-counted base late p h

-- what the purse spends now
pub spent-now : (base : Base) (h : List Record) (limits : Limits) → LimitsStand base h limits → (p : Purse) → spending p limits.ledger.charges ≡ spent_above base p limits.ledger.horizon h
spent-now base h limits stand p = stand.charges (λ end cost. cost) p ∙ purse-counted base limits.ledger.horizon p h

-- THE TEST

pub fits-within : (budget spent charge : ℕ) → spent + charge ≤ budget → within budget spent charge ≡ Ok tt
fits-within budget spent charge e = by_test (nat_lt 0 charge && nat_lt budget (spent + charge))
    (λ f. absurd (grind (arith, e, f)))
    (λ f. ap (λ b. refuse_if b (OverBudget spent charge budget)) f)

pub nothing-within : (budget spent charge : ℕ) → charge ≡ 0 → within budget spent charge ≡ Ok tt
nothing-within budget spent charge e = ap (within budget spent) e

pub is-over : (budget spent charge : ℕ) → 0 < charge → budget < spent + charge → within budget spent charge ≡ Err (OverBudget spent charge budget)
is-over budget spent charge e f = by_test (nat_lt 0 charge && nat_lt budget (spent + charge))
    (λ g. ap (λ b. refuse_if b (OverBudget spent charge budget)) g)
    (λ g. absurd (grind (arith, e, f, g)))

pub within-fits : (budget spent charge : ℕ) → within budget spent charge ≡ Ok tt → 0 < charge → spent + charge ≤ budget
within-fits budget spent charge e some = by_test (nat_lt 0 charge && nat_lt budget (spent + charge))
    (λ f. absurd (cc (sym e ∙ ap (λ b. refuse_if b (OverBudget spent charge budget)) f)))
    (λ f. grind (arith, some, f))

-- LATER

later-still : (g : Guarded) (t u : ℕ) → t ≤ u → horizon_of g t ≤ horizon_of g u
later-still g t u e = omega (arith, e)

-- the ledger's horizon is not above that of a later moment
pub ledger-before : (base : Base) (h : List Record) (limits : Limits) → LimitsStand base h limits → (t : ℕ) → last_of h ≤ t → limits.ledger.horizon ≤ horizon_at base h t
ledger-before base h limits stand t later =
    let is = stand.horizon in
    let more : horizon_at base h (last_of h) ≤ horizon_at base h t = later-still (guarded_at base h) (last_of h) t later in
    omega (arith, is, more)

-- what the purse spends at a later moment
pub spent-then : (base : Base) (h : List Record) (limits : Limits) → LimitsStand base h limits → (t : ℕ) → last_of h ≤ t → (horizon : ℕ) → horizon ≡ horizon_of limits.window t
    → (p : Purse) → spending p (lasting horizon limits.ledger.charges) ≡ spent_at base p h t
spent-then base h limits stand t later horizon e p =
    let is : horizon ≡ horizon_at base h t = e ∙ ap (λ (g : Guarded). horizon_of g t) stand.window in
    ap (λ k. spending p (lasting k limits.ledger.charges)) is ∙ spent-told base h limits stand (horizon_at base h t) (ledger-before base h limits stand t later) p
