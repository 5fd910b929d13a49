-- Each end that waits is that of a value or a binding that is held: so no more have ended than were made.
use Rattle.std.proofs.Common.{◌≡◌, ℕ, ◌+◌, ◌-◌, ◌≤◌, Bool, true, false, Option, Some, None, List, [], ◌∷◌, ◌++◌, refl, sym, ◌∙◌, ap, subst, arith, length, drop}
use Rattle.std.specs.Prelude.{◌&&◌, ◌==◌, is_some, map, count_by, if◌then◌else◌}
use Rattle.std.specs.List.{list_all}
use Rattle.std.specs.Option.{option_map}
use Rattle.std.specs.FinMap as finmap
use Rattle.std.proofs.lemmas.Bool.{eqb-true, eq-eqb}
use Rattle.std.proofs.lemmas.List.{length-append, length-drop, length-map}
use Rattle.std.proofs.lemmas.List.Folds.{list_all-append, list_all-map}
use Rattle.std.proofs.lemmas.List.Sums.{sum_by-append, count_by-le-length}
use Rattle.s4_types.specs.Base.{Base}
use Rattle.s4_types.specs.declared.object.Purse.{Purse}
use Rattle.s4_types.specs.declared.object.ObjectId.{ObjectId}
use Rattle.s4_types.specs.declared.record.Record.{Record}
use Rattle.s4_types.specs.declared.version.Version.{Version}
use Rattle.s4_types.specs.Names.{same_purse, same_object}
use Rattle.s4_types.specs.Name.{same_name}
use Rattle.s4_types.proofs.Booleans.{by_test, not_both}
use Rattle.s4_types.proofs.SameNames.{object_self, purse_self, name_self}
use Rattle.s4_store.specs.Chains.{Chains, items_of, item_count}
use Rattle.s4_store.specs.Counts.{item_count-insert}
use Rattle.s4_store.specs.Laws.{items_here, items_elsewhere}
use Rattle.s4_objects.specs.declared.kept.Which.{Which}
use Rattle.s4_objects.specs.declared.kept.Kept.{Kept}
use Rattle.s4_objects.specs.declared.ends.Ended.{Ended}
use Rattle.s4_objects.specs.declared.objects.Objects.{Objects}
use Rattle.s4_objects.specs.Chains.{same_which, chain_of, held}
use Rattle.s4_objects.specs.Ends.{is_of, ends_of, HasEnds}
use Rattle.s4_objects.specs.Table.{found_in, held_in, ends_in, Holds}
use Rattle.s4_objects.proofs.Standing.{which_self}
use Rattle.s4_parts.specs.declared.ends.Ended.{Ended as Unbound}
use Rattle.s4_parts.specs.declared.parts.Parts.{Parts as Table}
use Rattle.s4_parts.specs.Table.{chain_at, items_on, bindings_in, Holds as TableHolds}
use Rattle.s4_parts.specs.Waiting as names
use Rattle.s4_parts.specs.Waiting.{waiting_in, Waits}
use Rattle.s4_types.proofs.Ordered.{tally, count-cons}
use Rattle.s4_types.specs.Counts.{made_count, object_ends, binding_ends, ended_count}
use Rattle.s4_state.specs.Stands.{StandsFor}

-- COUNTS

-- either none passes the test, or one does
by_one : {A P : Type 0} (test : A → Bool) (xs : List A) → (count_by test xs ≡ 0 → P) → ((x : A) → test x ≡ true → P) → P
by_one test [] none some = none refl
by_one test (x ∷ xs) none some = by_test (test x)
    (λ e. some x e)
    (λ e. by_one test xs
    (λ f. let all : count_by test (x ∷ xs) ≡ tally (test x) + count_by test xs = count-cons test x xs in
    let no : tally (test x) ≡ 0 = ap tally e in
    none (omega (arith, all, no, f)))
    some)

count-more : {A : Type 0} (p q : A → Bool) (xs : List A) → ((x : A) → p x ≡ true → q x ≡ true) → count_by p xs ≤ count_by q xs
count-more p q [] more = omega arith
count-more p q (x ∷ xs) more =
    let a : count_by p (x ∷ xs) ≡ tally (p x) + count_by p xs = count-cons p x xs in
    let b : count_by q (x ∷ xs) ≡ tally (q x) + count_by q xs = count-cons q x xs in
    let rest : count_by p xs ≤ count_by q xs = count-more p q xs more in
    by_test (p x)
    (λ e. let one : tally (p x) ≡ 1 = ap tally e in let other : tally (q x) ≡ 1 = ap tally (more x e) in omega (arith, a, b, rest, one, other))
    (λ e. let none : tally (p x) ≡ 0 = ap tally e in omega (arith, a, b, rest, none))

count-map : {A B : Type 0} (p : B → Bool) (f : A → B) (xs : List A) → count_by p (map f xs) ≡ count_by (λ x. p (f x)) xs
count-map p f [] = refl
count-map p f (x ∷ xs) = count-cons p (f x) (map f xs) ∙ ap (λ n. tally (p (f x)) + n) (count-map p f xs) ∙ sym (count-cons (λ y. p (f y)) x xs)

-- A CHAIN FOR EACH END

abbrev is_at : ℕ → Option ℕ → Bool
is_at c None = false
is_at c (Some d) = d == c

at-some : (c : ℕ) (found : Option ℕ) → is_at c found ≡ true → found ≡ Some c
at-some c None e = cc
at-some c (Some d) e = ap (λ x. Some x) (eqb-true d c e)

-- chains, each named no more often than it has items, are named no more often than there are items
fits : (m : Chains Version) (cs : List (Option ℕ)) → list_all is_some cs ≡ true → ((c : ℕ) → count_by (is_at c) cs ≤ length (items_of m c)) → length cs ≤ item_count m
fits m [] all few = omega arith
fits m (None ∷ cs) all few = cc
fits m (Some c ∷ cs) all few =
    let rest : List Version = drop 1 (items_of m c) in
    let less : Chains Version = finmap.insert m c rest in
    let here : count_by (is_at c) (Some c ∷ cs) ≡ tally (c == c) + count_by (is_at c) cs = count-cons (is_at c) (Some c) cs in
    let one : tally (c == c) ≡ 1 = ap tally (eq-eqb c c refl) in
    let most : count_by (is_at c) (Some c ∷ cs) ≤ length (items_of m c) = few c in
    let short : length rest ≡ length (items_of m c) - 1 = length-drop 1 (items_of m c) in
    let grown : item_count less + length (items_of m c) ≡ item_count m + length rest = item_count-insert m c rest in
    let left : length cs ≤ item_count less = fits less cs all (λ d. by_test (d == c)
    (λ e. subst (λ x. count_by (is_at x) cs ≤ length (items_of less x)) (sym (eqb-true d c e))
    (subst (λ xs. count_by (is_at c) cs ≤ length xs) (sym (items_here m c rest)) (omega (arith, here, one, most, short))))
    (λ e. subst (λ xs. count_by (is_at d) cs ≤ length xs) (sym (items_elsewhere m c d rest e))
    (let there : count_by (is_at d) (Some c ∷ cs) ≡ tally (c == d) + count_by (is_at d) cs = count-cons (is_at d) (Some c) cs in
    let fewer : count_by (is_at d) (Some c ∷ cs) ≤ length (items_of m d) = few d in
    omega (arith, there, fewer)))) in
    omega (arith, here, one, most, short, grown, left)

-- VALUES OF OBJECTS

ends-length : (o : ObjectId) (w : Which) (es : List Ended) → length (ends_of o w es) ≡ count_by (is_of o w) es
ends-length o w [] = refl
ends-length o w (e ∷ es) =
    let rest : length (ends_of o w es) ≡ count_by (is_of o w) es = ends-length o w es in
    let all : count_by (is_of o w) (e ∷ es) ≡ tally (is_of o w e) + count_by (is_of o w) es = count-cons (is_of o w) e es in
    by_test (is_of o w e)
    (λ t. let one : tally (is_of o w e) ≡ 1 = ap tally t in
    let more : length (ends_of o w (e ∷ es)) ≡ length (ends_of o w es) + 1 = ap (λ b. length (if b then e.end ∷ ends_of o w es else ends_of o w es)) t ∙ omega arith in
    omega (arith, rest, all, one, more))
    (λ t. let none : tally (is_of o w e) ≡ 0 = ap tally t in
    let same : length (ends_of o w (e ∷ es)) ≡ length (ends_of o w es) = ap (λ b. length (if b then e.end ∷ ends_of o w es else ends_of o w es)) t in
    omega (arith, rest, all, none, same))

has-length : (ends : List ℕ) (vs : List Version) → HasEnds ends vs → length ends ≤ length vs
has-length [] vs has = omega arith
has-length (x ∷ ends) [] has = absurd has
has-length (x ∷ ends) (v ∷ vs) has = let rest : length ends ≤ length vs = has-length ends vs has.1 in omega (arith, rest)

none-ends : (ends : List ℕ) (vs : List Version) → vs ≡ [] → HasEnds ends vs → ends ≡ []
none-ends [] vs e has = refl
none-ends (x ∷ ends) [] e has = absurd has
none-ends (x ∷ ends) (v ∷ vs) e has = cc

tail-none : (b : Bool) (x : ℕ) (xs : List ℕ) → (if b then x ∷ xs else xs) ≡ [] → xs ≡ []
tail-none true x xs e = cc
tail-none false x xs e = e

some-map : {A B : Type 0} (f : A → B) (x : Option A) → is_some (option_map f x) ≡ is_some x
some-map f None = refl
some-map f (Some x) = refl

-- the end is that of a value on the chain
record IsOn (kept : Objects) (e : Ended) (c : ℕ) : Type 0 where
  k : Kept
  found : found_in kept e.object ≡ Some k
  at : chain_of e.which k ≡ c

on-chain : (kept : Objects) (e : Ended) (c : ℕ) → is_at c (option_map (chain_of e.which) (found_in kept e.object)) ≡ true → IsOn kept e c
on-chain kept e c = of (found_in kept e.object) refl
  where
    of : (f : Option Kept) → found_in kept e.object ≡ f → is_at c (option_map (chain_of e.which) f) ≡ true → IsOn kept e c
    of None got t = cc
    of (Some k) got t = record { k = k; found = got; at = eqb-true (chain_of e.which k) c t }

module _ (chains : Chains Version) (kept : Objects) (s : Holds chains kept) where
  values-few : (c : ℕ) (x : Ended) → is_at c (option_map (chain_of x.which) (found_in kept x.object)) ≡ true
      → count_by (λ e. is_at c (option_map (chain_of e.which) (found_in kept e.object))) kept.ends.items ≤ length (items_of chains c)
  values-few c x t =
      let a : IsOn kept x c = on-chain kept x c t in
      let more : count_by (λ e. is_at c (option_map (chain_of e.which) (found_in kept e.object))) kept.ends.items ≤ count_by (is_of x.object x.which) kept.ends.items
      = count-more _ (is_of x.object x.which) kept.ends.items (λ e f.
      let b : IsOn kept e c = on-chain kept e c f in
      let same = s.chained.apart e.object x.object b.k a.k e.which x.which b.found a.found (b.at ∙ sym a.at) in
      subst (λ o. (same_object e.object o && same_which e.which x.which) ≡ true) same.0
      (subst (λ w. (same_object e.object e.object && same_which e.which w) ≡ true) same.1 (ap (λ y. y && same_which e.which e.which) (object_self e.object) ∙ which_self e.which))) in
      let long : length (ends_of x.object x.which kept.ends.items) ≡ count_by (is_of x.object x.which) kept.ends.items = ends-length x.object x.which kept.ends.items in
      let fewer : length (ends_of x.object x.which kept.ends.items) ≤ length (held_in chains kept x.object x.which) = has-length _ _ (s.queued x.object x.which) in
      let items : length (held_in chains kept x.object x.which) ≡ length (items_of chains c) = ap (λ f. length (held chains f x.which)) a.found ∙ ap (λ d. length (items_of chains d)) a.at in
      omega (arith, more, long, fewer, items)

  values-found : list_all (λ e. is_some (option_map (chain_of e.which) (found_in kept e.object))) kept.ends.items ≡ true
  values-found = all kept.ends.items (λ o w e. none-ends _ _ (unheld (found_in kept o) w e) (s.queued o w))
    where
      unheld : (f : Option Kept) (w : Which) → is_some f ≡ false → held chains f w ≡ []
      unheld None w e = refl
      unheld (Some k) w e = cc

      all : (es : List Ended) → ((o : ObjectId) (w : Which) → is_some (found_in kept o) ≡ false → ends_of o w es ≡ []) → list_all (λ e. is_some (option_map (chain_of e.which) (found_in kept e.object))) es ≡ true
      all [] none = refl
      all (x ∷ es) none = by_test (is_some (found_in kept x.object))
          (λ t. ap (λ b. b && list_all (λ e. is_some (option_map (chain_of e.which) (found_in kept e.object))) es) (some-map (chain_of x.which) (found_in kept x.object) ∙ t)
          ∙ all es (λ o w e. tail-none (is_of o w x) x.end (ends_of o w es) (none o w e)))
          (λ t. let itself : is_of x.object x.which x ≡ true = ap (λ y. y && same_which x.which x.which) (object_self x.object) ∙ which_self x.which in
          let first : x.end ∷ ends_of x.object x.which es ≡ [] = sym (ap (λ b. if b then x.end ∷ ends_of x.object x.which es else ends_of x.object x.which es) itself) ∙ none x.object x.which t in cc)

-- BINDINGS OF NAMES

names-length : (p : Purse) (n : List ℕ) (es : List Unbound) → length (names.ends_of p n es) ≡ count_by (names.is_of p n) es
names-length p n [] = refl
names-length p n (e ∷ es) =
    let rest : length (names.ends_of p n es) ≡ count_by (names.is_of p n) es = names-length p n es in
    let all : count_by (names.is_of p n) (e ∷ es) ≡ tally (names.is_of p n e) + count_by (names.is_of p n) es = count-cons (names.is_of p n) e es in
    by_test (names.is_of p n e)
    (λ t. let one : tally (names.is_of p n e) ≡ 1 = ap tally t in
    let more : length (names.ends_of p n (e ∷ es)) ≡ length (names.ends_of p n es) + 1 = ap (λ b. length (if b then e.end ∷ names.ends_of p n es else names.ends_of p n es)) t ∙ omega arith in
    omega (arith, rest, all, one, more))
    (λ t. let none : tally (names.is_of p n e) ≡ 0 = ap tally t in
    let same : length (names.ends_of p n (e ∷ es)) ≡ length (names.ends_of p n es) = ap (λ b. length (if b then e.end ∷ names.ends_of p n es else names.ends_of p n es)) t in
    omega (arith, rest, all, none, same))

names-has-length : (ends : List ℕ) (vs : List Version) → names.HasEnds ends vs → length ends ≤ length vs
names-has-length [] vs has = omega arith
names-has-length (x ∷ ends) [] has = absurd has
names-has-length (x ∷ ends) (v ∷ vs) has = let rest : length ends ≤ length vs = names-has-length ends vs has.1 in omega (arith, rest)

names-none-ends : (ends : List ℕ) (vs : List Version) → vs ≡ [] → names.HasEnds ends vs → ends ≡ []
names-none-ends [] vs e has = refl
names-none-ends (x ∷ ends) [] e has = absurd has
names-none-ends (x ∷ ends) (v ∷ vs) e has = cc

module _ {chains : Chains Version} {table : Table} (s : TableHolds chains table) (waits : Waits chains table) where
  bindings-few : (c : ℕ) (x : Unbound) → is_at c (chain_at table x.purse x.name) ≡ true → count_by (λ e. is_at c (chain_at table e.purse e.name)) (waiting_in table) ≤ length (items_of chains c)
  bindings-few c x t =
      let a : chain_at table x.purse x.name ≡ Some c = at-some c _ t in
      let more : count_by (λ e. is_at c (chain_at table e.purse e.name)) (waiting_in table) ≤ count_by (names.is_of x.purse x.name) (waiting_in table)
      = count-more _ (names.is_of x.purse x.name) (waiting_in table) (λ e f.
      let same = s.apart e.purse x.purse e.name x.name c (at-some c _ f) a in
      subst (λ p. (same_purse e.purse p && same_name e.name x.name) ≡ true) same.0
      (subst (λ n. (same_purse e.purse e.purse && same_name e.name n) ≡ true) same.1 (ap (λ y. y && same_name e.name e.name) (purse_self e.purse) ∙ name_self e.name))) in
      let long : length (names.ends_of x.purse x.name (waiting_in table)) ≡ count_by (names.is_of x.purse x.name) (waiting_in table) = names-length x.purse x.name (waiting_in table) in
      let fewer : length (names.ends_of x.purse x.name (waiting_in table)) ≤ length (bindings_in chains table x.purse x.name) = names-has-length _ _ (waits.queued x.purse x.name) in
      let items : length (bindings_in chains table x.purse x.name) ≡ length (items_of chains c) = ap (λ f. length (items_on chains f)) a in
      omega (arith, more, long, fewer, items)

  bindings-found : list_all (λ e. is_some (chain_at table e.purse e.name)) (waiting_in table) ≡ true
  bindings-found = all (waiting_in table) (λ p n e. names-none-ends _ _ (unheld (chain_at table p n) e) (waits.queued p n))
    where
      unheld : (f : Option ℕ) → is_some f ≡ false → items_on chains f ≡ []
      unheld None e = refl
      unheld (Some c) e = cc

      all : (es : List Unbound) → ((p : Purse) (n : List ℕ) → is_some (chain_at table p n) ≡ false → names.ends_of p n es ≡ []) → list_all (λ e. is_some (chain_at table e.purse e.name)) es ≡ true
      all [] none = refl
      all (x ∷ es) none = by_test (is_some (chain_at table x.purse x.name))
          (λ t. ap (λ b. b && list_all (λ e. is_some (chain_at table e.purse e.name)) es) t
          ∙ all es (λ p n e. tail-none (names.is_of p n x) x.end (names.ends_of p n es) (none p n e)))
          (λ t. let itself : names.is_of x.purse x.name x ≡ true = ap (λ y. y && same_name x.name x.name) (purse_self x.purse) ∙ name_self x.name in
          let first : x.end ∷ names.ends_of x.purse x.name es ≡ [] = sym (ap (λ b. if b then x.end ∷ names.ends_of x.purse x.name es else names.ends_of x.purse x.name es) itself) ∙ none x.purse x.name t in cc)

-- ALL THAT WAIT

module _ {base : Base} {size : ℕ} {chains : Chains Version} {kept : Objects} {serials : Purse → ℕ} {table : Table} {h : List Record} (s : StandsFor base size chains kept serials table h) where
  abbrev value-chains : List (Option ℕ)
  value-chains = map (λ e. option_map (chain_of e.which) (found_in kept e.object)) kept.ends.items

  abbrev binding-chains : List (Option ℕ)
  binding-chains = map (λ e. chain_at table e.purse e.name) (waiting_in table)

  few : (c : ℕ) → count_by (is_at c) (value-chains ++ binding-chains) ≤ length (items_of chains c)
  few c =
      let all : count_by (is_at c) (value-chains ++ binding-chains) ≡ count_by (is_at c) value-chains + count_by (is_at c) binding-chains = sum_by-append (λ x. tally (is_at c x)) value-chains binding-chains in
      let values : count_by (is_at c) value-chains ≡ count_by (λ e. is_at c (option_map (chain_of e.which) (found_in kept e.object))) kept.ends.items = count-map (is_at c) (λ (e : Ended). option_map (chain_of e.which) (found_in kept e.object)) kept.ends.items in
      let bindings : count_by (is_at c) binding-chains ≡ count_by (λ e. is_at c (chain_at table e.purse e.name)) (waiting_in table) = count-map (is_at c) (λ (e : Unbound). chain_at table e.purse e.name) (waiting_in table) in
      by_one (λ e. is_at c (option_map (chain_of e.which) (found_in kept e.object))) kept.ends.items
      (λ none. by_one (λ e. is_at c (chain_at table e.purse e.name)) (waiting_in table)
      (λ nil. omega (arith, all, values, bindings, none, nil))
      (λ x t. let most = bindings-few s.partitions.holds s.partitions.waits c x t in omega (arith, all, values, bindings, none, most)))
      (λ x t. let most = values-few chains kept s.objects.holds c x t in
      by_one (λ e. is_at c (chain_at table e.purse e.name)) (waiting_in table)
      (λ nil. omega (arith, all, values, bindings, nil, most))
      (λ y u. let on : IsOn kept x c = on-chain kept x c t in
      absurd (not_both _ (eq-eqb c (chain_of x.which on.k) (sym on.at)) (s.partitions.apart y.purse y.name c (at-some c _ u) x.object on.k x.which on.found))))

  -- each is held
  waits_fit : length (ends_in kept) + length (waiting_in table) ≤ size
  waits_fit =
      let all : length (value-chains ++ binding-chains) ≤ item_count chains = fits chains (value-chains ++ binding-chains)
      (list_all-append is_some value-chains binding-chains
      ∙ ap (λ b. b && list_all is_some binding-chains) (list_all-map is_some (λ (e : Ended). option_map (chain_of e.which) (found_in kept e.object)) kept.ends.items ∙ values-found chains kept s.objects.holds)
      ∙ list_all-map is_some (λ (e : Unbound). chain_at table e.purse e.name) (waiting_in table) ∙ bindings-found s.partitions.holds s.partitions.waits)
      few in
      let long : length (value-chains ++ binding-chains) ≡ length value-chains + length binding-chains = length-append value-chains binding-chains in
      let values : length value-chains ≡ length kept.ends.items = length-map kept.ends.items (λ (e : Ended). option_map (chain_of e.which) (found_in kept e.object)) in
      let ends : length (ends_in kept) ≡ length kept.ends.items = length-map kept.ends.items (λ (e : Ended). e.end) in
      let bindings : length binding-chains ≡ length (waiting_in table) = length-map (waiting_in table) (λ (e : Unbound). chain_at table e.purse e.name) in
      omega (arith, all, long, values, ends, bindings, s.used)

  -- no more have ended than were made
  pub ended_made : (m : ℕ) → ended_count m h ≤ s.balance.begun + made_count h
  ended_made m =
      let some : ended_count m h ≤ length (object_ends h ++ binding_ends h) = count_by-le-length _ (object_ends h ++ binding_ends h) in
      let all : length (object_ends h ++ binding_ends h) ≡ length (object_ends h) + length (binding_ends h) = length-append (object_ends h) (binding_ends h) in
      let fit = waits_fit in
      let even = s.balance.even in
      omega (arith, some, all, fit, even)
