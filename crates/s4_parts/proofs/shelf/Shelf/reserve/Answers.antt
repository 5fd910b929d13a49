use Rattle.std.proofs.Common.{◌≡◌, ℕ, true, false, cond, Option, Some, None, List, refl, sym, ◌∙◌, ap, subst}
use Rattle.std.specs.Prelude.{is_some}
use Rattle.std.specs.Option.{option_map}
use Rattle.std.specs.FinMap as finmap
use Rattle.std.specs.BTreeMap.{get}
use Rattle.std.specs.Map.{keys_of}
use Rattle.std.proofs.Common.{filter}
use Rattle.s4_types.specs.Name.{same_name, name_cmp}
use Rattle.s4_types.proofs.SameNames.{at_name, name_is}
use Rattle.s4_types.proofs.Booleans.{by_test}
use Rattle.s4_store.specs.Chains.{items_of}
use Rattle.s4_store.specs.Laws.{items_here, remove-insert}
use Rattle.s4_parts.specs.declared.shelf.Shelf.{Shelf}
use Rattle.s4_parts.specs.Table.{chain_on}
use Rattle.s4_parts.specs.Shelf.{or_else}
use Rattle.s4_parts.proofs.Ordered.{filter-inserted}
use Rattle.s4_parts.proofs.shelf.Shelf.reserve.Goals as goal

isnt_some : {A : Type 0} (x : Option A) → is_some x ≡ false → x ≡ None
isnt_some None e = refl
isnt_some (Some y) e = cc

none-some : {A B : Type 0} (f : A → B) (x : Option A) → x ≡ None → is_some (option_map f x) ≡ true → ⊥
none-some f None none some = cc
none-some f (Some y) none some = cc

some_is : {A : Type 0} (x y : A) → Some x ≡ Some y → x ≡ y
some_is x y e = cc

pub close-requires-clause-empty : goal.close-requires-clause-empty
close-requires-clause-empty g c = ap (λ m. items_of m c.in_ok-chain.chain) c.in_ok-chain.ensures.opened ∙ items_here _ _ _

pub returns-in-Ok-clause-grows : goal.returns-in-Ok-clause-grows
returns-in-Ok-clause-grows g c =
    let name : List ℕ = c.args.name.now in
    let before : Shelf = c.args.self.now in
    let chain : ℕ = c.in_ok-chain.chain in
    let key : c.in_ok-key.key ≡ name = c.in_ok-key.ensures.cases in
    let none : get name_cmp before.tracks name ≡ None = isnt_some _ (sym c.contains_key.ensures ∙ c.if-contains_key.false) in
    record {
      fresh = Some chain;
      needed = λ some. absurd (none-some (λ t. t.chain) (get name_cmp before.tracks name) none some);
      unopened = λ d e. subst (λ x. finmap.get (g.S.Store.chains c.args.store.now) x ≡ None) (some_is chain d e) c.in_ok-chain.ensures.fresh;
      opened = c.in_ok-chain.ensures.opened;
      chains = λ n. ap (option_map (λ t. t.chain)) (c.in-Ok.ensures.updates.0 n ∙ ap (λ k. cond (Rattle.std.specs.Ordering.is_eq (name_cmp k n)) (Some (record { chain = chain })) (get name_cmp before.tracks n)) key
          ∙ ap (λ b. cond b (Some (record { chain = chain })) (get name_cmp before.tracks n)) (at_name name n))
          ∙ by_test (same_name name n)
          (λ e. ap (λ b. option_map (λ t. t.chain) (cond b (Some (record { chain = chain })) (get name_cmp before.tracks n))) e
          ∙ sym (ap (λ b. cond b (or_else (chain_on (Some before) name) (Some chain)) (chain_on (Some before) n)) e ∙ ap (λ x. or_else (option_map (λ t. t.chain) x) (Some chain)) none))
          (λ e. ap (λ b. option_map (λ t. t.chain) (cond b (Some (record { chain = chain })) (get name_cmp before.tracks n))) e
          ∙ sym (ap (λ b. cond b (or_else (chain_on (Some before) name) (Some chain)) (chain_on (Some before) n)) e));
      names = λ test fails. ap (λ es. filter test (keys_of es)) c.in-Ok.ensures.entries ∙ ap (λ k. filter test (keys_of (Rattle.std.specs.BTreeMap.insert_entry name_cmp before.tracks.entries k (record { chain = chain })))) key
          ∙ filter-inserted test name (record { chain = chain }) (fails (ap (option_map (λ t. t.chain)) none)) before.tracks.entries;
      sorted = λ s. c.in-Ok.ensures.ordered;
      serials = c.reserve.ensures.items;
    }

pub returns-in-Err-clause-refused : goal.returns-in-Err-clause-refused
returns-in-Err-clause-refused g c n =
    ap (λ es. option_map (λ t. t.chain) (Rattle.std.specs.Map.lookup (Rattle.std.specs.BTreeMap.is_at (name_cmp n)) es)) c.in-Err.ensures.err

pub returns-in-Err-clause-grows : goal.returns-in-Err-clause-grows
returns-in-Err-clause-grows g c =
    let before : Shelf = c.args.self.now in
    let same : Rattle.std.specs.BTreeMap.BTreeMap.entries c.insert.new.self ≡ before.tracks.entries = c.in-Err.ensures.err in
    record {
      fresh = None;
      needed = λ some. refl;
      unopened = λ d e. cc;
      opened = c.close.ensures.chains ∙ ap (λ m. finmap.remove m c.in_ok-chain.chain) c.in_ok-chain.ensures.opened ∙ remove-insert _ _ _ c.in_ok-chain.ensures.fresh;
      chains = λ n. ap (λ es. option_map (λ t. t.chain) (Rattle.std.specs.Map.lookup (Rattle.std.specs.BTreeMap.is_at (name_cmp n)) es)) same
          ∙ by_test (same_name c.args.name.now n)
          (λ e. sym (ap (λ b. cond b (or_else (chain_on (Some before) c.args.name.now) None) (chain_on (Some before) n)) e ∙ or-none (chain_on (Some before) c.args.name.now) ∙ ap (chain_on (Some before)) (name_is c.args.name.now n e)))
          (λ e. sym (ap (λ b. cond b (or_else (chain_on (Some before) c.args.name.now) None) (chain_on (Some before) n)) e));
      names = λ test fails. ap (λ es. filter test (keys_of es)) same;
      sorted = λ s. c.insert.ensures.ordered;
      serials = c.reserve.ensures.items;
    }
  where
    or-none : (x : Option ℕ) → or_else x None ≡ x
    or-none None = refl
    or-none (Some c) = refl
