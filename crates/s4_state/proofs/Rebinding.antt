-- What a record adds to the past of a purse's names: what a binding weighs that it ends.
use Rattle.std.proofs.Common.{◌≡◌, ℕ, ◌+◌, ◌≤◌, Bool, true, false, not, cond, Option, Some, None, List, [], ◌∷◌, ◌++◌, refl, sym, ◌∙◌, ap, subst, arith, add-zero}
use Rattle.std.specs.Prelude.{◌&&◌, ◌||◌, nat_le, is_some, fold, sum_by, if◌then◌else◌}
use Rattle.std.specs.List.{list_any}
use Rattle.std.specs.List.Sorted.{IsStrictlySortedBy}
use Rattle.std.specs.Option.{option_map}
use Rattle.std.proofs.lemmas.List.Sums.{fold-append, sum_by-cons}
use Rattle.s4_types.specs.Base.{Base, Standing}
use Rattle.s4_types.specs.declared.object.Purse.{Purse}
use Rattle.s4_types.specs.declared.request.Request.{Request}
use Rattle.s4_types.specs.declared.request.Request.TheVariants.{PCreate, PDelete}
use Rattle.s4_types.specs.declared.record.Record.{Record}
use Rattle.s4_types.specs.Bindings.{bindings, bindings_after, rebound, bound_at, with_name, in_order, named_by, names_after, names_of}
use Rattle.s4_types.specs.Kinds.{is_refused, only_reads, is_accepted, is_wide, is_about, concerns, purse_of}
use Rattle.s4_types.specs.Name.{same_name, name_cmp}
use Rattle.s4_types.specs.Names.{same_purse}
use Rattle.s4_types.specs.Spending.{binding_cost}
use Rattle.s4_types.specs.Versions.{Value, begun, with_end, ends_by, in_force_by, only_kept}
use Rattle.s4_types.proofs.Booleans.{by_test, both, not_both, &&-false}
use Rattle.s4_types.proofs.SameNames.{purse_is, name_is, name_self}
use Rattle.s4_types.proofs.Ordered.{less-other, greater-other, by_order, IsBelow, below-through, none-below, tail-sorted}
use Rattle.s4_state.specs.Sound.{IsSound, IsNext, EndsBy, ValuesStand}
use Rattle.s4_state.specs.Weights.{values_weight, name_weight, names_weight}
use Rattle.s4_state.proofs.Granting.{accepted-asked, was_bound}
use Rattle.s4_state.proofs.Weighing.{begun-weight, end-weight, unbinding_weight, NamesMove}

-- SUMS OVER NAMES

-- a name more adds nothing, where it is among the names, or weighs nothing
sum-with : (g : List ℕ → ℕ) (a : List ℕ) (ks : List (List ℕ)) → IsStrictlySortedBy name_cmp ks → (list_any (same_name a) ks ≡ false → g a ≡ 0) → sum_by g (with_name a ks) ≡ sum_by g ks
sum-with g a [] s none =
    let one : sum_by g (a ∷ []) ≡ g a + 0 = sum_by-cons g a [] in
    let nothing : g a ≡ 0 = none refl in
    omega (arith, one, nothing)
sum-with g a (k ∷ ks) s none =
    let sorted = tail-sorted k ks s in
    by_order (name_cmp a k)
    (λ less. let more : sum_by g (a ∷ k ∷ ks) ≡ g a + sum_by g (k ∷ ks) = sum_by-cons g a (k ∷ ks) in
    let nothing : g a ≡ 0 = none (none-below a (k ∷ ks) (less, below-through a k ks less sorted.0)) in
    ap (λ o. sum_by g (in_order o (a ∷ k ∷ ks) (k ∷ ks) (k ∷ with_name a ks))) less ∙ omega (arith, more, nothing))
    (λ equal. ap (λ o. sum_by g (in_order o (a ∷ k ∷ ks) (k ∷ ks) (k ∷ with_name a ks))) equal)
    (λ greater. let other : same_name a k ≡ false = greater-other a k greater in
    let rest : sum_by g (with_name a ks) ≡ sum_by g ks = sum-with g a ks sorted.1 (λ absent. none (ap (λ b. b || list_any (same_name a) ks) other ∙ absent)) in
    let new : sum_by g (k ∷ with_name a ks) ≡ g k + sum_by g (with_name a ks) = sum_by-cons g k (with_name a ks) in
    let old : sum_by g (k ∷ ks) ≡ g k + sum_by g ks = sum_by-cons g k ks in
    ap (λ o. sum_by g (in_order o (a ∷ k ∷ ks) (k ∷ ks) (k ∷ with_name a ks))) greater ∙ omega (arith, rest, new, old))

-- where two weights differ at one name alone
module _ (f g : List ℕ → ℕ) (a : List ℕ) (same : (n : List ℕ) → same_name a n ≡ false → f n ≡ g n) where
  sum-below : (ks : List (List ℕ)) → IsBelow a ks → sum_by f ks ≡ sum_by g ks
  sum-below [] l = refl
  sum-below (k ∷ ks) l =
      let alike : f k ≡ g k = same k (less-other a k l.0) in
      let rest : sum_by f ks ≡ sum_by g ks = sum-below ks l.1 in
      let new : sum_by f (k ∷ ks) ≡ f k + sum_by f ks = sum_by-cons f k ks in
      let old : sum_by g (k ∷ ks) ≡ g k + sum_by g ks = sum_by-cons g k ks in
      omega (arith, alike, rest, new, old)

  sum-one : (ks : List (List ℕ)) → IsStrictlySortedBy name_cmp ks → list_any (same_name a) ks ≡ true → sum_by f ks + g a ≡ sum_by g ks + f a
  sum-one [] s e = cc
  sum-one (k ∷ ks) s e =
      let sorted = tail-sorted k ks s in
      let new : sum_by f (k ∷ ks) ≡ f k + sum_by f ks = sum_by-cons f k ks in
      let old : sum_by g (k ∷ ks) ≡ g k + sum_by g ks = sum_by-cons g k ks in
      by_test (same_name a k)
      (λ here. let is : a ≡ k = name_is a k here in
      let rest : sum_by f ks ≡ sum_by g ks = sum-below ks (subst (λ x. IsBelow x ks) (sym is) sorted.0) in
      let left : f a ≡ f k = ap f is in
      let right : g a ≡ g k = ap g is in
      omega (arith, rest, new, old, left, right))
      (λ other. let rest : sum_by f ks + g a ≡ sum_by g ks + f a = sum-one ks sorted.1 (sym (ap (λ b. b || list_any (same_name a) ks) other) ∙ e) in
      let alike : f k ≡ g k = same k other in
      omega (arith, rest, new, old, alike))

-- NO BINDING IS ERASED

-- the newest binding isn't erased
abbrev IsWhole : List (Value ℕ) → Type 0
IsWhole [] = Unit {0}
IsWhole (v ∷ past) = v.is_erased ≡ false

whole-either : (b : Bool) (new old : List (Value ℕ)) → IsWhole new → IsWhole old → IsWhole (cond b new old)
whole-either true new old n o = n
whole-either false new old n o = o

whole-end : (m : ℕ) (old : List (Value ℕ)) → IsWhole old → IsWhole (with_end m old)
whole-end m [] w = w
whole-end m (v ∷ past) w = w

whole-rebound : (p : Purse) (name : List ℕ) (m : ℕ) (request : Request) (old : List (Value ℕ)) → IsWhole old → IsWhole (rebound p name m request old)
whole-rebound p name m (PCreate other o) old w = whole-either (same_purse o.purse p && same_name other name) (begun m o.serial ∷ old) old refl w
whole-rebound p name m (PDelete place other) old w = whole-either (same_purse place p && same_name other name) (with_end m old) old (whole-end m old w) w
whole-rebound p name m _ old w = w

whole-fold : (p : Purse) (name : List ℕ) (old : List (Value ℕ)) (h : List Record) → IsWhole old → IsWhole (fold (bindings_after p name) old h)
whole-fold p name old [] w = w
whole-fold p name old (r ∷ h) w = whole-fold p name (bindings_after p name old r) h (whole-either (concerns p r) (rebound p name r.moment r.request old) old (whole-rebound p name r.moment r.request old w) w)

whole-kept : (kept : Option (Standing ℕ)) → IsWhole (only_kept kept)
whole-kept None = _
whole-kept (Some kept) = refl

bindings-whole : (base : Base) (p : Purse) (name : List ℕ) (h : List Record) → IsWhole (bindings base p name h)
bindings-whole base p name h = whole-fold p name (only_kept (base.binding p name)) h (whole-kept (base.binding p name))

-- A BINDING ENDS

-- what is in force from the last moment on has no end
unended : {last m : ℕ} (v : Value ℕ) (past : List (Value ℕ)) → last ≤ m → ValuesStand last (v ∷ past) → is_some (in_force_by m (v ∷ past)) ≡ true → v.end ≡ None
unended {last} {m} v past l s e = of v.end refl
  where
    of : (x : Option ℕ) → v.end ≡ x → v.end ≡ None
    of None f = f
    of (Some end) f =
        let low : v.begin ≤ last = s.0 in
        let over : end ≤ last = subst (EndsBy last) f s.1 in
        let begun : nat_le v.begin m ≡ true = grind (arith, low, l) in
        let gone : nat_le end m ≡ true = grind (arith, over, l) in
        let none : in_force_by m (v ∷ past) ≡ None = ap (λ c. if c then (if ends_by m v.end then None else Some v) else in_force_by m past) begun ∙ ap (λ x. if ends_by m x then None else Some v) f ∙ ap (λ c. if c then None else Some v) gone in
        absurd (not_both (is_some (in_force_by m (v ∷ past))) e (ap is_some none))

ended-binding : (f : ℕ → ℕ → ℕ) (cost : ℕ → ℕ) {last m : ℕ} (values : List (Value ℕ)) → last ≤ m → ValuesStand last values → IsWhole values → is_some (in_force_by m values) ≡ true → (c : ℕ) → ((x : ℕ) → cost x ≡ c)
    → values_weight f cost (with_end m values) ≡ values_weight f cost values + f m c
ended-binding f cost [] l s w e c same = cc
ended-binding f cost {last} {m} (v ∷ past) l s w e c same = end-weight f cost m v past (unended v past l s e) w ∙ ap (λ x. values_weight f cost (v ∷ past) + f m x) (same v.value)

-- ONE RECORD

module _ (f : ℕ → ℕ → ℕ) (base : Base) (h : List Record) (r : Record) (p : Purse) where
  -- what a name weighs once a request is carried out, where it is about the purse
  abbrev weight_by : Bool → Request → List ℕ → ℕ
  weight_by b request n = values_weight f (λ serial. binding_cost n) (if b then rebound p n r.moment request (bindings base p n h) else bindings base p n h)

  abbrev names_by : Bool → Request → List (List ℕ)
  names_by b request = if b then named_by p request (names_of base p h) else names_of base p h

  names-next : names_weight base f p (h ++ r ∷ []) ≡ sum_by (weight_by (concerns p r) r.request) (names_by (concerns p r) r.request)
  names-next =
      ap (λ g. sum_by g (names_of base p (h ++ r ∷ []))) (λ i n. values_weight f (λ serial. binding_cost n) (fold-append (bindings_after p n) (only_kept (base.binding p n)) h (r ∷ []) i))
      ∙ ap (sum_by (weight_by (concerns p r) r.request)) (fold-append (names_after p) (base.names p) h (r ∷ []))

  -- a record that isn't about the purse
  pub names-idle : concerns p r ≡ false → NamesMove base f h r p
  names-idle e = names-next
      ∙ ap (λ b. sum_by (weight_by b r.request) (names_by b r.request)) e
      ∙ sym (ap (λ b. names_weight base f p h + cond b (unbinding_weight f r.moment r.request) 0) e ∙ add-zero (names_weight base f p h))

  module _ (s : IsSound base h) (n : IsNext base h r) (here : concerns p r ≡ true) where
    -- a name is bound: what begins weighs nothing, and a name that wasn't listed has no past
    bound-move : (name : List ℕ) (serial : ℕ) (b : Bool)
        → sum_by (λ a. values_weight f (λ x. binding_cost a) (if b && same_name name a then begun r.moment serial ∷ bindings base p a h else bindings base p a h)) (if b then with_name name (names_of base p h) else names_of base p h) ≡ names_weight base f p h
    bound-move name serial false = refl
    bound-move name serial true =
        ap (λ g. sum_by g (with_name name (names_of base p h))) (λ i a. each a i)
        ∙ sum-with (name_weight base f p h) name (names_of base p h) (s.sorted p) (λ absent. ap (values_weight f (λ x. binding_cost name)) (s.listed p name absent))
      where
        each : (a : List ℕ) → values_weight f (λ x. binding_cost a) (if same_name name a then begun r.moment serial ∷ bindings base p a h else bindings base p a h) ≡ name_weight base f p h a
        each a = elim (same_name name a) as (λ b. values_weight f (λ x. binding_cost a) (if b then begun r.moment serial ∷ bindings base p a h else bindings base p a h) ≡ name_weight base f p h a) [
          | true ↦ begun-weight f (λ x. binding_cost a) r.moment serial (bindings base p a h)
          | false ↦ refl
        ]

    -- a name is bound no longer: the one binding ends
    unbound-move : (place : Purse) (name : List ℕ) → r.request ≡ PDelete place name → sum_by (weight_by true (PDelete place name)) (names_of base p h) ≡ names_weight base f p h + f r.moment (binding_cost name)
    unbound-move place name asked =
        let moved : sum_by (weight_by true (PDelete place name)) (names_of base p h) + name_weight base f p h name ≡ names_weight base f p h + weight_by true (PDelete place name) name = sum-one (weight_by true (PDelete place name)) (name_weight base f p h) name elsewhere (names_of base p h) (s.sorted p) listed in
        let one : weight_by true (PDelete place name) name ≡ name_weight base f p h name + f r.moment (binding_cost name) = ended in
        omega (arith, moved, one)
      where
        parts : (not (is_refused r.reply) ≡ true) × (same_purse place p ≡ true)
        parts =
            let tests = both (is_accepted r) (is_wide r.caller r.request || is_about p (purse_of r.caller r.request)) here in
            ((both (not (is_refused r.reply)) (not (only_reads r.request)) tests.0).0, sym (ap (λ request. is_wide r.caller request || is_about p (purse_of r.caller request)) asked) ∙ tests.1)

        granted : is_refused r.reply ≡ false
        granted = turned (is_refused r.reply) parts.0
          where
            turned : (b : Bool) → not b ≡ true → b ≡ false
            turned true e = cc
            turned false e = refl

        in-force : is_some (in_force_by r.moment (bindings base p name h)) ≡ true
        in-force = sym (mapped (in_force_by r.moment (bindings base p name h)))
            ∙ subst (λ x. is_some (bound_at base x name r.moment h) ≡ true) (purse_is place p parts.1) (was_bound base h r.moment r.caller place name (accepted-asked n granted (PDelete place name) asked))
          where
            mapped : (x : Option (Value ℕ)) → is_some (option_map (λ v. v.value) x) ≡ is_some x
            mapped None = refl
            mapped (Some v) = refl

        listed : list_any (same_name name) (names_of base p h) ≡ true
        listed = by_test (list_any (same_name name) (names_of base p h)) (λ e. e)
            (λ absent. absurd (not_both _ in-force (ap (λ values. is_some (in_force_by r.moment values)) (s.listed p name absent))))

        elsewhere : (a : List ℕ) → same_name name a ≡ false → weight_by true (PDelete place name) a ≡ name_weight base f p h a
        elsewhere a e = ap (λ b. values_weight f (λ x. binding_cost a) (if same_purse place p && b then with_end r.moment (bindings base p a h) else bindings base p a h)) e
            ∙ ap (λ b. values_weight f (λ x. binding_cost a) (if b then with_end r.moment (bindings base p a h) else bindings base p a h)) (&&-false (same_purse place p))

        ended : weight_by true (PDelete place name) name ≡ name_weight base f p h name + f r.moment (binding_cost name)
        ended = ap (λ b. values_weight f (λ x. binding_cost name) (if b && same_name name name then with_end r.moment (bindings base p name h) else bindings base p name h)) parts.1
            ∙ ap (λ b. values_weight f (λ x. binding_cost name) (if b then with_end r.moment (bindings base p name h) else bindings base p name h)) (name_self name)
            ∙ ended-binding f (λ x. binding_cost name) (bindings base p name h) n.later (s.bindings p name) (bindings-whole base p name h) in-force (binding_cost name) (λ x. refl)

    by-kind : (request : Request) → r.request ≡ request → sum_by (weight_by true request) (names_by true request) ≡ names_weight base f p h + unbinding_weight f r.moment request
    by-kind (PCreate name o) asked = bound-move name o.serial (same_purse o.purse p) ∙ sym (add-zero (names_weight base f p h))
    by-kind (PDelete place name) asked = unbound-move place name asked
    by-kind _ asked = sym (add-zero (names_weight base f p h))

  -- whatever record comes next
  pub names-move : IsSound base h → IsNext base h r → NamesMove base f h r p
  names-move s n = by_test (concerns p r)
      (λ here. names-next
      ∙ ap (λ b. sum_by (weight_by b r.request) (names_by b r.request)) here
      ∙ by-kind s n here r.request refl
      ∙ sym (ap (λ b. names_weight base f p h + cond b (unbinding_weight f r.moment r.request) 0) here))
      names-idle
