-- How many names are bound, and whether one is bound to an object.
use Rattle.std.proofs.Common.{◌≡◌, ℕ, ◌+◌, Bool, true, false, Option, Some, None, List, [], ◌∷◌, refl, sym, ◌∙◌, ap, subst, arith, length}
use Rattle.std.specs.Prelude.{◌==◌, ◌||◌, is_some, nat_lt, count_by}
use Rattle.std.specs.List.{list_any}
use Rattle.s4_parts.specs.Table.{items_on, IsTimely}
use Rattle.s4_parts.proofs.Beginning.{timely_none}
use Rattle.s4_types.specs.declared.object.Purse.{Purse}
use Rattle.s4_types.specs.declared.version.Version.{Version}
use Rattle.std.specs.List.Sorted.{IsStrictlySortedBy}
use Rattle.s4_types.specs.Name.{name_cmp}
use Rattle.s4_types.specs.Bindings.{is_serial}
use Rattle.s4_types.proofs.Booleans.{by_test}
use Rattle.s4_store.specs.Chains.{Chains}
use Rattle.s4_parts.specs.declared.parts.Parts.{Parts}
use Rattle.s4_parts.specs.Table.{shelf_of, chain_on, names_on, serials_on, bindings_in, names_in, is_any, passes, serial_now, Holds}
use Rattle.s4_types.proofs.Ordered.{tally, count-cons, count-filter}

pub any-count : {A : Type 0} (p : A → Bool) (xs : List A) → list_any p xs ≡ nat_lt 0 (count_by p xs)
any-count p [] = refl
any-count p (x ∷ xs) = by_test (p x)
    (λ e. let more : count_by p (x ∷ xs) ≡ tally (p x) + count_by p xs = count-cons p x xs in
    let one : tally (p x) ≡ 1 = ap tally e in
    let some : nat_lt 0 (count_by p (x ∷ xs)) ≡ true = grind arith in
    ap (λ b. b || list_any p xs) e ∙ sym some)
    (λ e. let more : count_by p (x ∷ xs) ≡ tally (p x) + count_by p xs = count-cons p x xs in
    let none : tally (p x) ≡ 0 = ap tally e in
    let same : count_by p xs ≡ count_by p (x ∷ xs) = omega arith in
    ap (λ b. b || list_any p xs) e ∙ any-count p xs ∙ ap (nat_lt 0) same)

count-all : {A : Type 0} (xs : List A) → count_by (λ x. true) xs ≡ length xs
count-all [] = refl
count-all (x ∷ xs) = let rest : count_by (λ x. true) xs ≡ length xs = count-all xs in
    let more : count_by (λ x. true) (x ∷ xs) ≡ 1 + count_by (λ x. true) xs = count-cons (λ x. true) x xs in
    omega arith

passes-all : (x : Option ℕ) → passes (λ s. true) x ≡ is_some x
passes-all None = refl
passes-all (Some s) = refl

pub passes-one : (s : ℕ) (x : Option ℕ) → passes (λ y. y == s) x ≡ is_serial s x
passes-one s None = refl
passes-one s (Some y) = refl

-- a test that fails without bindings
none-fails : (test : Option ℕ → Bool) → test None ≡ false → (vs : List Version) → is_any vs ≡ false → test (serial_now vs) ≡ false
none-fails test none [] e = none
none-fails test none (v ∷ vs) e = cc

module _ {chains : Chains Version} (parts : Parts) (s : Holds chains parts) (p : Purse) where
  pub count-bound : length (serials_on (shelf_of parts p)) ≡ count_by (λ n. is_some (serial_now (bindings_in chains parts p n))) (names_in chains parts p)
  count-bound =
      sym (count-all (serials_on (shelf_of parts p))) ∙ s.known p (λ y. true)
      ∙ ap (λ f. count_by f (names_on (shelf_of parts p))) (λ i n. passes-all (serial_now (bindings_in chains parts p n)) i)
      ∙ sym (count-filter (λ n. is_some (serial_now (bindings_in chains parts p n))) (λ n. is_any (bindings_in chains parts p n)) (names_on (shelf_of parts p)) (λ n e. none-fails is_some refl (bindings_in chains parts p n) e))

  pub any-bound : (serial : ℕ) → list_any (λ y. y == serial) (serials_on (shelf_of parts p)) ≡ list_any (λ n. is_serial serial (serial_now (bindings_in chains parts p n))) (names_in chains parts p)
  any-bound serial =
      any-count (λ y. y == serial) (serials_on (shelf_of parts p)) ∙ ap (nat_lt 0) (s.known p (λ y. y == serial)
      ∙ ap (λ f. count_by f (names_on (shelf_of parts p))) (λ i n. passes-one serial (serial_now (bindings_in chains parts p n)) i)
      ∙ sym (count-filter (λ n. is_serial serial (serial_now (bindings_in chains parts p n))) (λ n. is_any (bindings_in chains parts p n)) (names_on (shelf_of parts p)) (λ n e. none-fails (is_serial serial) refl (bindings_in chains parts p n) e)))
      ∙ sym (any-count (λ n. is_serial serial (serial_now (bindings_in chains parts p n))) (names_in chains parts p))

-- a table without shelves
module _ (chains : Chains Version) (parts : Parts) (none : (p : Purse) → shelf_of parts p ≡ None) where
  no-chain : (p : Purse) (n : List ℕ) (c : ℕ) → chain_on (shelf_of parts p) n ≡ Some c → ⊥
  no-chain p n c e = let is : None ≡ Some c = sym (ap (λ x. chain_on x n) (none p)) ∙ e in cc

  pub holds-nothing : Holds chains parts
  unfolding IsStrictlySortedBy
  holds-nothing = record {
    opened = λ p n c got. absurd (no-chain p n c got);
    apart = λ p q n m c got has. absurd (no-chain p n c got);
    named = λ p n. ap (λ x. is_some (chain_on x n)) (none p) ∙ sym (ap (λ x. list_any (Rattle.s4_types.specs.Name.same_name n) (names_on x)) (none p));
    sorted = λ p. subst (λ x. IsStrictlySortedBy name_cmp (names_on x)) (sym (none p)) sorted-none;
    timely = λ p n. subst (λ x. IsTimely (items_on chains (chain_on x n))) (sym (none p)) timely_none;
    known = λ p test. ap (λ x. count_by test (serials_on x)) (none p) ∙ sym (ap (λ x. count_by (λ n. passes test (serial_now (bindings_in chains parts p n))) (names_on x)) (none p));
  }
    where
      sorted-none : IsStrictlySortedBy name_cmp []
      sorted-none = _
