-- What one record leaves of a base.
use Rattle.std.proofs.Common.{◌≡◌, ℕ, ◌+◌, Bool, true, false, cond, not, Option, Some, None, List, [], ◌∷◌, ◌++◌, refl, sym, ◌∙◌, ap, filter, add-zero, zero-add}
use Rattle.std.specs.Prelude.{◌&&◌, ◌||◌, ◌==◌, count_by, if◌then◌else◌}
use Rattle.std.specs.Option.{option_map}
use Rattle.s4_types.specs.declared.principal.Caller.{Caller}
use Rattle.s4_types.specs.declared.object.Purse.{Purse}
use Rattle.s4_types.specs.declared.object.ObjectId.{ObjectId}
use Rattle.s4_types.specs.declared.request.Request.{Request}
use Rattle.s4_types.specs.declared.request.Request.TheVariants.{Create, Delete, Write, Append, Truncate, SetAttr, SetAcl, PCreate, PDelete, Flush, FlushO, SetWindow, SetBudget}
use Rattle.s4_types.specs.declared.reply.Reply.{Reply}
use Rattle.s4_types.specs.declared.reply.Reply.TheVariants.{Done, Made}
use Rattle.s4_types.specs.declared.record.Record.{Record}
use Rattle.s4_types.specs.Acl.{acl_with}
use Rattle.s4_types.specs.Names.{same_purse, same_object}
use Rattle.s4_types.specs.Name.{same_name}
use Rattle.s4_types.specs.Kinds.{concerns, is_create, is_refused, is_wide, is_about, is_accepted, only_reads, purse_of}
use Rattle.s4_types.specs.Serials.{draws}
use Rattle.s4_types.specs.Base.{Base, KeptObject}
use Rattle.s4_types.specs.Bindings.{with_name, named_by, rebound, bindings, names_of}
use Rattle.s4_types.specs.Horizon.{Guarded, windowed, windowed_by, guarded_at}
use Rattle.s4_types.specs.Spending.{budget_by, budget_of}
use Rattle.s4_types.specs.Versions.{Value, begun, with_end, only_kept, standing, written, of_length, is_deleted}
use Rattle.s4_types.proofs.Booleans.{by_test, &&-false, &&-true}
use Rattle.s4_types.proofs.SameNames.{purse_is, object_is, object_self, same_purses, purse_self}
use Rattle.s4_cuts.specs.Cut.{object_left, binding_left, is_left, left}
use Rattle.s4_base.specs.Changes.{with_made, with_object, with_bound, without_bound, with_budget, with_guarded, with_window, on_object, passed, changed_by, changed, told_done, next_in, made, with_bytes, with_attributes, with_acl, Follows, CanFollow}
use Rattle.s4_cuts.proofs.Cutting.{standing-kept}
use Rattle.s4_base.proofs.OneObject.{moved, affected, object-idle, object-made, object-deleted, object-changed, object-stays, standing-ended}
use Rattle.s4_base.proofs.OneName.{AllBound, binding-stays, names-stay, names-with, names-without}
use Rattle.s4_base.proofs.SameBase.{same_base}
use Rattle.std.specs.Bool.{then_some}

if-same : {A : Type 0} (b : Bool) (x : A) → (if b then x else x) ≡ x
if-same true x = refl
if-same false x = refl

count-one : (test : Record → Bool) (r : Record) → count_by test (r ∷ []) ≡ cond (test r) 1 0
count-one test r = zero-add (cond (test r) 1 0)

-- NOT CARRIED OUT

module _ (base : Base) (bound : AllBound base) (r : Record) (e : is_accepted r ≡ false) where
  unconcerned : (p : Purse) → concerns p r ≡ false
  unconcerned p = ap (λ b. b && (is_wide r.caller r.request || is_about p (purse_of r.caller r.request))) e

  unguarded : guarded_at base (r ∷ []) ≡ record { window = base.window; floor = base.floor }
  unguarded = ap (λ (b : Bool). if b then windowed_by r.moment r.request (record { window = base.window; floor = base.floor }) else record { window = base.window; floor = base.floor }) (ap (λ b. is_wide r.caller r.request && b) e ∙ &&-false (is_wide r.caller r.request))

  unbound : (p : Purse) (n : List ℕ) → binding_left base (r ∷ []) p n ≡ base.binding p n
  unbound p n = binding-stays base bound r p n (ap (λ (b : Bool). if b then rebound p n r.moment r.request (only_kept (base.binding p n)) else only_kept (base.binding p n)) (unconcerned p))

  undrawn : (p : Purse) → base.drawn p + count_by (draws p) (r ∷ []) ≡ base.drawn p
  undrawn p = ap (λ n. base.drawn p + n) (count-one (draws p) r ∙ ap (λ b. cond (b && is_create r.request) 1 0) (unconcerned p)) ∙ add-zero (base.drawn p)

  pub leaves-refused : left base r.moment (r ∷ []) ≡ passed r.moment 1 base
  leaves-refused = same_base (left base r.moment (r ∷ [])) (passed r.moment 1 base) (record {
    window = ap (λ (g : Guarded). g.window) unguarded;
    floor = ap (λ (g : Guarded). g.floor) unguarded;
    cut = refl;
    count = refl;
    object = λ o. object-idle base r o (unconcerned o.purse);
    names = λ p. names-stay base bound r p (ap (λ (b : Bool). if b then named_by p r.request (base.names p) else base.names p) (unconcerned p)) (unbound p);
    binding = unbound;
    drawn = undrawn;
    budget = λ p. ap (λ (b : Bool). if b then budget_by p r.request (base.budget p) else base.budget p) (unconcerned p);
  })

-- CARRIED OUT

abbrev pub record_as : ℕ → Caller → Request → Reply → Record
record_as m caller request reply = record { moment = m; caller = caller; request = request; reply = reply }

-- the record of a change that makes no object
abbrev pub done : ℕ → Caller → Request → Record
done m caller request = record_as m caller request Done

-- what holds of the names, the serials and the budgets where the request is about none of them
record Rests (base : Base) (r : Record) : Type 0 where
  names : (p : Purse) → names_of base p (r ∷ []) ≡ base.names p
  bindings : (p : Purse) (n : List ℕ) → bindings base p n (r ∷ []) ≡ only_kept (base.binding p n)
  drawn : (p : Purse) → base.drawn p + count_by (draws p) (r ∷ []) ≡ base.drawn p
  budget : (p : Purse) → budget_of base p (r ∷ []) ≡ base.budget p

module _ (base : Base) (bound : AllBound base) (m : ℕ) (caller : Caller) where
  none-drawn : (request : Request) → is_create request ≡ false → (p : Purse) → base.drawn p + count_by (draws p) (done m caller request ∷ []) ≡ base.drawn p
  none-drawn request e p =
      ap (λ n. base.drawn p + n) (count-one (draws p) (done m caller request) ∙ ap (λ b. cond (concerns p (done m caller request) && b) 1 0) e ∙ ap (λ b. cond b 1 0) (&&-false (concerns p (done m caller request)))) ∙ add-zero (base.drawn p)

  rests-by : (request : Request) → is_create request ≡ false → ((p : Purse) (ns : List (List ℕ)) → named_by p request ns ≡ ns)
      → ((p : Purse) (n : List ℕ) (vs : List (Value ℕ)) → rebound p n m request vs ≡ vs) → ((p : Purse) (b : ℕ) → budget_by p request b ≡ b) → Rests base (done m caller request)
  rests-by request e named bindings budget = record {
    names = λ p. ap (λ ns. if concerns p (done m caller request) then ns else base.names p) (named p (base.names p)) ∙ if-same (concerns p (done m caller request)) (base.names p);
    bindings = λ p n. ap (λ vs. if concerns p (done m caller request) then vs else only_kept (base.binding p n)) (bindings p n (only_kept (base.binding p n))) ∙ if-same (concerns p (done m caller request)) (only_kept (base.binding p n));
    drawn = none-drawn request e;
    budget = λ p. ap (λ b. if concerns p (done m caller request) then b else base.budget p) (budget p (base.budget p)) ∙ if-same (concerns p (done m caller request)) (base.budget p);
  }

  -- AN OBJECT

  -- an object that the request changes, and no other
  object-one : (request : Request) (d : ObjectId) (change : KeptObject → KeptObject) → ((p : Purse) → concerns p (done m caller request) ≡ same_purse d.purse p) → ((o : ObjectId) → is_deleted o request ≡ false)
      → ((kept : KeptObject) → affected base (done m caller request) d kept ≡ change kept) → ((o : ObjectId) → same_object d o ≡ false → (kept : KeptObject) → affected base (done m caller request) o kept ≡ kept)
      → (o : ObjectId) → object_left base (done m caller request ∷ []) o ≡ (if same_object d o then option_map change (base.object d) else base.object o)
  object-one request d change about gone here others o = by_test (same_object d o)
      (λ e. ap (object_left base (done m caller request ∷ [])) (sym (object_is d o e))
      ∙ object-changed base (done m caller request) d (about d.purse ∙ purse_self d.purse) refl (gone d)
      ∙ ap (λ (f : KeptObject → KeptObject). option_map f (base.object d)) (λ i kept. here kept i)
      ∙ sym (ap (λ (b : Bool). if b then option_map change (base.object d) else base.object o) e))
      (λ e. object-stays base (done m caller request) o refl (gone o) (others o e)
      ∙ sym (ap (λ (b : Bool). if b then option_map change (base.object d) else base.object o) e))

  object-gone : (d o : ObjectId) → object_left base (done m caller (Delete d) ∷ []) o ≡ (if same_object d o then None else base.object o)
  object-gone d o = by_test (same_object d o)
      (λ e. object-deleted base (done m caller (Delete d)) o (same_purses d o e) refl e ∙ sym (ap (λ (b : Bool). if b then None else base.object o) e))
      (λ e. object-stays base (done m caller (Delete d)) o refl e (λ kept. refl) ∙ sym (ap (λ (b : Bool). if b then None else base.object o) e))

  leaves-object : (request : Request) (d : ObjectId) (kept : Option KeptObject) → guarded_at base (done m caller request ∷ []) ≡ record { window = base.window; floor = base.floor } → Rests base (done m caller request)
      → ((o : ObjectId) → object_left base (done m caller request ∷ []) o ≡ (if same_object d o then kept else base.object o))
      → left base m (done m caller request ∷ []) ≡ passed m 1 (with_object d kept base)
  leaves-object request d kept guarded rests object = same_base (left base m (done m caller request ∷ [])) (passed m 1 (with_object d kept base)) (record {
    window = ap (λ (g : Guarded). g.window) guarded;
    floor = ap (λ (g : Guarded). g.floor) guarded;
    cut = refl;
    count = refl;
    object = object;
    names = λ p. names-stay base bound (done m caller request) p (rests.names p) (λ n. binding-stays base bound (done m caller request) p n (rests.bindings p n));
    binding = λ p n. binding-stays base bound (done m caller request) p n (rests.bindings p n);
    drawn = rests.drawn;
    budget = rests.budget;
  })

  -- THE REST

  leaves-all : (request : Request) → guarded_at base (done m caller request ∷ []) ≡ record { window = base.window; floor = base.floor } → Rests base (done m caller request)
      → ((o : ObjectId) → object_left base (done m caller request ∷ []) o ≡ base.object o) → left base m (done m caller request ∷ []) ≡ passed m 1 base
  leaves-all request guarded rests object = same_base (left base m (done m caller request ∷ [])) (passed m 1 base) (record {
    window = ap (λ (g : Guarded). g.window) guarded;
    floor = ap (λ (g : Guarded). g.floor) guarded;
    cut = refl;
    count = refl;
    object = object;
    names = λ p. names-stay base bound (done m caller request) p (rests.names p) (λ n. binding-stays base bound (done m caller request) p n (rests.bindings p n));
    binding = λ p n. binding-stays base bound (done m caller request) p n (rests.bindings p n);
    drawn = rests.drawn;
    budget = rests.budget;
  })

  -- A NEW OBJECT

  module _ (number : ℕ) where
    abbrev purse : Purse
    purse = record { creator = caller.who; number = number }

    abbrev new : ObjectId
    new = next_in base (record { creator = caller.who; number = number })

    abbrev creates : Record
    creates = record_as m caller (Create number) (Made (next_in base (record { creator = caller.who; number = number })))

    new-object : (o : ObjectId) → object_left base (creates ∷ []) o ≡ (if same_object new o then Some (made m new) else base.object o)
    new-object o = by_test (same_object new o)
        (λ e. ap (object_left base (creates ∷ [])) (sym (object_is new o e)) ∙ object-made base creates new (purse_self purse) (object_self new) ∙ sym (ap (λ (b : Bool). if b then Some (made m new) else base.object o) e))
        (λ e. object-stays base creates o e refl (λ kept. refl) ∙ sym (ap (λ (b : Bool). if b then Some (made m new) else base.object o) e))

    new-drawn : (p : Purse) → base.drawn p + count_by (draws p) (creates ∷ []) ≡ (if same_purse purse p then base.drawn purse + 1 else base.drawn p)
    new-drawn p =
        ap (λ n. base.drawn p + n) (count-one (draws p) creates ∙ ap (λ b. cond b 1 0) (&&-true (same_purse purse p)))
        ∙ by_test (same_purse purse p)
        (λ e. ap (λ b. base.drawn p + cond b 1 0) e ∙ ap (λ q. base.drawn q + 1) (sym (purse_is purse p e)) ∙ sym (ap (λ (b : Bool). if b then base.drawn purse + 1 else base.drawn p) e))
        (λ e. ap (λ b. base.drawn p + cond b 1 0) e ∙ add-zero (base.drawn p) ∙ sym (ap (λ (b : Bool). if b then base.drawn purse + 1 else base.drawn p) e))

    new-binding : (p : Purse) (n : List ℕ) → binding_left base (creates ∷ []) p n ≡ base.binding p n
    new-binding p n = binding-stays base bound creates p n (if-same (same_purse purse p) (only_kept (base.binding p n)))

    leaves-created : left base m (creates ∷ []) ≡ passed m 1 (with_made m (next_in base purse) base)
    leaves-created = same_base (left base m (creates ∷ [])) (passed m 1 (with_made m (next_in base purse) base)) (record {
      window = refl;
      floor = refl;
      cut = refl;
      count = refl;
      object = new-object;
      names = λ p. names-stay base bound creates p (if-same (same_purse purse p) (base.names p)) (new-binding p);
      binding = new-binding;
      drawn = new-drawn;
      budget = λ p. if-same (same_purse purse p) (base.budget p);
    })

  -- A NAME

  if-both : {A : Type 0} (a b : Bool) (x y : A) → (if a then (if a && b then x else y) else y) ≡ (if a && b then x else y)
  if-both true b x y = refl
  if-both false b x y = refl

  if-twice : {A : Type 0} (a : Bool) (x y : A) → (if a then (if a then x else y) else y) ≡ (if a then x else y)
  if-twice true x y = refl
  if-twice false x y = refl

  module _ (name : List ℕ) (d : ObjectId) where
    bound-binding : (p : Purse) (n : List ℕ) → binding_left base (done m caller (PCreate name d) ∷ []) p n ≡ (if same_purse d.purse p && same_name name n then Some (record { begin = m; value = d.serial }) else base.binding p n)
    bound-binding p n =
        ap standing (if-both (same_purse d.purse p) (same_name name n) (begun m d.serial ∷ only_kept (base.binding p n)) (only_kept (base.binding p n)))
        ∙ of (same_purse d.purse p && same_name name n)
      where
        of : (b : Bool) → standing (if b then begun m d.serial ∷ only_kept (base.binding p n) else only_kept (base.binding p n)) ≡ (if b then Some (record { begin = m; value = d.serial }) else base.binding p n)
        of true = refl
        of false = standing-kept (base.binding p n)

    bound-names : (p : Purse) → filter (is_left base (done m caller (PCreate name d) ∷ []) p) (names_of base p (done m caller (PCreate name d) ∷ [])) ≡ (if same_purse d.purse p then with_name name (base.names p) else base.names p)
    bound-names p = by_test (same_purse d.purse p)
        (λ e. names-with base bound (done m caller (PCreate name d)) p name (record { begin = m; value = d.serial })
        (if-twice (same_purse d.purse p) (with_name name (base.names p)) (base.names p) ∙ ap (λ (b : Bool). if b then with_name name (base.names p) else base.names p) e)
        (λ n. bound-binding p n ∙ ap (λ (b : Bool). if b && same_name name n then Some (record { begin = m; value = d.serial }) else base.binding p n) e)
        ∙ sym (ap (λ (b : Bool). if b then with_name name (base.names p) else base.names p) e))
        (λ e. names-stay base bound (done m caller (PCreate name d)) p
        (if-twice (same_purse d.purse p) (with_name name (base.names p)) (base.names p) ∙ ap (λ (b : Bool). if b then with_name name (base.names p) else base.names p) e)
        (λ n. bound-binding p n ∙ ap (λ (b : Bool). if b && same_name name n then Some (record { begin = m; value = d.serial }) else base.binding p n) e)
        ∙ sym (ap (λ (b : Bool). if b then with_name name (base.names p) else base.names p) e))

    leaves-bound : left base m (done m caller (PCreate name d) ∷ []) ≡ passed m 1 (with_bound d.purse name (record { begin = m; value = d.serial }) base)
    leaves-bound = same_base (left base m (done m caller (PCreate name d) ∷ [])) (passed m 1 (with_bound d.purse name (record { begin = m; value = d.serial }) base)) (record {
      window = refl;
      floor = refl;
      cut = refl;
      count = refl;
      object = λ o. object-stays base (done m caller (PCreate name d)) o refl refl (λ kept. refl);
      names = bound-names;
      binding = bound-binding;
      drawn = none-drawn (PCreate name d) refl;
      budget = λ p. if-same (same_purse d.purse p) (base.budget p);
    })

  module _ (place : Purse) (name : List ℕ) where
    unbound-binding : (p : Purse) (n : List ℕ) → binding_left base (done m caller (PDelete place name) ∷ []) p n ≡ (if same_purse place p && same_name name n then None else base.binding p n)
    unbound-binding p n =
        ap standing (if-both (same_purse place p) (same_name name n) (with_end m (only_kept (base.binding p n))) (only_kept (base.binding p n)))
        ∙ of (same_purse place p && same_name name n)
      where
        of : (b : Bool) → standing (if b then with_end m (only_kept (base.binding p n)) else only_kept (base.binding p n)) ≡ (if b then None else base.binding p n)
        of true = standing-ended m (base.binding p n)
        of false = standing-kept (base.binding p n)

    unbound-names : (p : Purse) → filter (is_left base (done m caller (PDelete place name) ∷ []) p) (names_of base p (done m caller (PDelete place name) ∷ [])) ≡ (if same_purse place p then filter (λ n. not (same_name name n)) (base.names p) else base.names p)
    unbound-names p = by_test (same_purse place p)
        (λ e. names-without base bound (done m caller (PDelete place name)) p name (if-same (same_purse place p) (base.names p))
        (λ n. unbound-binding p n ∙ ap (λ (b : Bool). if b && same_name name n then None else base.binding p n) e)
        ∙ sym (ap (λ (b : Bool). if b then filter (λ n. not (same_name name n)) (base.names p) else base.names p) e))
        (λ e. names-stay base bound (done m caller (PDelete place name)) p (if-same (same_purse place p) (base.names p))
        (λ n. unbound-binding p n ∙ ap (λ (b : Bool). if b && same_name name n then None else base.binding p n) e)
        ∙ sym (ap (λ (b : Bool). if b then filter (λ n. not (same_name name n)) (base.names p) else base.names p) e))

    leaves-unbound : left base m (done m caller (PDelete place name) ∷ []) ≡ passed m 1 (without_bound place name base)
    leaves-unbound = same_base (left base m (done m caller (PDelete place name) ∷ [])) (passed m 1 (without_bound place name base)) (record {
      window = refl;
      floor = refl;
      cut = refl;
      count = refl;
      object = λ o. object-stays base (done m caller (PDelete place name)) o refl refl (λ kept. refl);
      names = unbound-names;
      binding = unbound-binding;
      drawn = none-drawn (PDelete place name) refl;
      budget = λ p. if-same (same_purse place p) (base.budget p);
    })

  -- THE WINDOW, AND A BUDGET

  -- the window and the floor once the window is set, where the caller may set it
  abbrev window_set : ℕ → Bool → Guarded
  window_set ticks may = if may then windowed m ticks (record { window = base.window; floor = base.floor }) else record { window = base.window; floor = base.floor }

  leaves-window : (ticks : ℕ) → left base m (done m caller (SetWindow ticks) ∷ []) ≡ passed m 1 (with_window m ticks (caller.who == 0) base)
  leaves-window ticks = same_base (left base m (done m caller (SetWindow ticks) ∷ [])) (passed m 1 (with_guarded (window_set ticks (caller.who == 0)) base)) (record {
    window = ap (λ (g : Guarded). g.window) guarded;
    floor = ap (λ (g : Guarded). g.floor) guarded;
    cut = refl;
    count = refl;
    object = λ o. object-stays base (done m caller (SetWindow ticks)) o refl refl (λ kept. refl);
    names = λ p. names-stay base bound (done m caller (SetWindow ticks)) p (rests.names p) (λ n. binding-stays base bound (done m caller (SetWindow ticks)) p n (rests.bindings p n));
    binding = λ p n. binding-stays base bound (done m caller (SetWindow ticks)) p n (rests.bindings p n);
    drawn = rests.drawn;
    budget = rests.budget;
  }) ∙ of (caller.who == 0)
    where
      guarded : guarded_at base (done m caller (SetWindow ticks) ∷ []) ≡ window_set ticks (caller.who == 0)
      guarded = ap (window_set ticks) (&&-true (caller.who == 0))

      rests : Rests base (done m caller (SetWindow ticks))
      rests = rests-by (SetWindow ticks) refl (λ p ns. refl) (λ p n vs. refl) (λ p b. refl)

      of : (may : Bool) → passed m 1 (with_guarded (window_set ticks may) base) ≡ passed m 1 (with_window m ticks may base)
      of true = refl
      of false = refl

  leaves-budget : (purse : Purse) (budget : ℕ) → left base m (done m caller (SetBudget purse budget) ∷ []) ≡ passed m 1 (with_budget purse budget base)
  leaves-budget purse budget = same_base (left base m (done m caller (SetBudget purse budget) ∷ [])) (passed m 1 (with_budget purse budget base)) (record {
    window = refl;
    floor = refl;
    cut = refl;
    count = refl;
    object = λ o. object-stays base (done m caller (SetBudget purse budget)) o refl refl (λ kept. refl);
    names = λ p. names-stay base bound (done m caller (SetBudget purse budget)) p (if-same (same_purse purse p) (base.names p)) (λ n. binding-stays base bound (done m caller (SetBudget purse budget)) p n (if-same (same_purse purse p) (only_kept (base.binding p n))));
    binding = λ p n. binding-stays base bound (done m caller (SetBudget purse budget)) p n (if-same (same_purse purse p) (only_kept (base.binding p n)));
    drawn = none-drawn (SetBudget purse budget) refl;
    budget = λ p. if-twice (same_purse purse p) budget (base.budget p);
  })

  -- ALL KINDS

  leaves-bytes : (request : Request) (d : ObjectId) (change : List ℕ → List ℕ) → guarded_at base (done m caller request ∷ []) ≡ record { window = base.window; floor = base.floor } → Rests base (done m caller request)
      → ((p : Purse) → concerns p (done m caller request) ≡ same_purse d.purse p) → ((o : ObjectId) → is_deleted o request ≡ false)
      → ((o : ObjectId) (kept : KeptObject) → affected base (done m caller request) o kept ≡ record { bytes = moved m (then_some (same_object d o) (change kept.bytes.value)) kept.bytes; attributes = kept.attributes; acl = kept.acl })
      → left base m (done m caller request ∷ []) ≡ passed m 1 (on_object d (with_bytes m change) base)
  leaves-bytes request d change guarded rests about gone effect =
      leaves-object request d (option_map (with_bytes m change) (base.object d)) guarded rests
      (object-one request d (with_bytes m change) about gone
      (λ kept. effect d kept ∙ ap (λ b. record { bytes = moved m (then_some b (change kept.bytes.value)) kept.bytes; attributes = kept.attributes; acl = kept.acl }) (object_self d))
      (λ o e kept. effect o kept ∙ ap (λ b. record { bytes = moved m (then_some b (change kept.bytes.value)) kept.bytes; attributes = kept.attributes; acl = kept.acl }) e))

  pub leaves-done : (request : Request) → only_reads request ≡ false → left base m (record_as m caller request (told_done base caller request) ∷ []) ≡ passed m 1 (changed_by m caller request base)
  leaves-done (Create number) e = leaves-created number
  leaves-done (Delete d) e = leaves-object (Delete d) d None refl (rests-by (Delete d) refl (λ p ns. refl) (λ p n vs. refl) (λ p b. refl)) (object-gone d)
  leaves-done (Write d offset bytes) e =
      leaves-bytes (Write d offset bytes) d (written offset bytes) refl (rests-by (Write d offset bytes) refl (λ p ns. refl) (λ p n vs. refl) (λ p b. refl)) (λ p. refl) (λ o. refl) (λ o kept. refl)
  leaves-done (Append d bytes) e =
      leaves-bytes (Append d bytes) d (λ old. old ++ bytes) refl (rests-by (Append d bytes) refl (λ p ns. refl) (λ p n vs. refl) (λ p b. refl)) (λ p. refl) (λ o. refl) (λ o kept. refl)
  leaves-done (Truncate d length) e =
      leaves-bytes (Truncate d length) d (of_length length) refl (rests-by (Truncate d length) refl (λ p ns. refl) (λ p n vs. refl) (λ p b. refl)) (λ p. refl) (λ o. refl) (λ o kept. refl)
  leaves-done (SetAttr d bytes) e =
      leaves-object (SetAttr d bytes) d (option_map (with_attributes m bytes) (base.object d)) refl (rests-by (SetAttr d bytes) refl (λ p ns. refl) (λ p n vs. refl) (λ p b. refl))
      (object-one (SetAttr d bytes) d (with_attributes m bytes) (λ p. refl) (λ o. refl)
      (λ kept. ap (λ b. record { bytes = kept.bytes; attributes = moved m (then_some b bytes) kept.attributes; acl = kept.acl }) (object_self d))
      (λ o f kept. ap (λ b. record { bytes = kept.bytes; attributes = moved m (then_some b bytes) kept.attributes; acl = kept.acl }) f))
  leaves-done (SetAcl d user rights) e =
      leaves-object (SetAcl d user rights) d (option_map (with_acl m (acl_with user rights)) (base.object d)) refl (rests-by (SetAcl d user rights) refl (λ p ns. refl) (λ p n vs. refl) (λ p b. refl))
      (object-one (SetAcl d user rights) d (with_acl m (acl_with user rights)) (λ p. refl) (λ o. refl)
      (λ kept. ap (λ b. record { bytes = kept.bytes; attributes = kept.attributes; acl = moved m (then_some b (acl_with user rights kept.acl.value)) kept.acl }) (object_self d))
      (λ o f kept. ap (λ b. record { bytes = kept.bytes; attributes = kept.attributes; acl = moved m (then_some b (acl_with user rights kept.acl.value)) kept.acl }) f))
  leaves-done (PCreate name d) e = leaves-bound name d
  leaves-done (PDelete place name) e = leaves-unbound place name
  leaves-done (Flush from to) e =
      leaves-all (Flush from to) (if-same (caller.who == 0 && true) (record { window = base.window; floor = base.floor })) (rests-by (Flush from to) refl (λ p ns. refl) (λ p n vs. refl) (λ p b. refl)) (λ o. object-stays base (done m caller (Flush from to)) o refl refl (λ kept. refl))
  leaves-done (FlushO d from to) e =
      leaves-all (FlushO d from to) refl (rests-by (FlushO d from to) refl (λ p ns. refl) (λ p n vs. refl) (λ p b. refl)) (λ o. object-stays base (done m caller (FlushO d from to)) o refl refl (λ kept. refl))
  leaves-done (SetWindow ticks) e = leaves-window ticks
  leaves-done (SetBudget purse budget) e = leaves-budget purse budget
  leaves-done _ e = cc

-- ANY RECORD

-- a record that can be followed leaves the base that it changes
pub leaves : (base : Base) → AllBound base → (r : Record) → CanFollow base r → left base r.moment (r ∷ []) ≡ passed r.moment 1 (changed r base)
leaves base bound r can = by_test (is_accepted r)
    (λ e. let follows : Follows base r = can e in
    ap (λ reply. left base r.moment (record_as r.moment r.caller r.request reply ∷ [])) follows.told
    ∙ leaves-done base bound r.moment r.caller r.request (changes e)
    ∙ sym (ap (λ (b : Bool). passed r.moment 1 (if b then changed_by r.moment r.caller r.request base else base)) e))
    (λ e. leaves-refused base bound r e ∙ sym (ap (λ (b : Bool). passed r.moment 1 (if b then changed_by r.moment r.caller r.request base else base)) e))
  where
    of : (a b : Bool) → (a && not b) ≡ true → b ≡ false
    of true true e = cc
    of true false e = refl
    of false b e = cc

    changes : is_accepted r ≡ true → only_reads r.request ≡ false
    changes e = of (not (is_refused r.reply)) (only_reads r.request) e
