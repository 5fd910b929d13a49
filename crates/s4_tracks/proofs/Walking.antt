-- A walk goes from place to place.
use Rattle.std.proofs.Common.{◌≡◌, ℕ, suc, ◌+◌, ◌-◌, ◌<◌, true, false, Option, Some, None, List, sym, ◌∙◌, ap, subst, arith, take, length}
use Rattle.std.specs.Prelude.{slice_get, slice_set, IfSome}
use Rattle.std.specs.FinMap as finmap
use Rattle.std.proofs.Math.Numerals.{suc-eq-add-one}
use Rattle.std.specs.List.{list_any}
use Rattle.std.proofs.lemmas.Option.{slice_get_within}
use Rattle.std.proofs.lemmas.List.{take_all}
use Rattle.s4_types.specs.declared.version.Version.{Version}
use Rattle.s4_tracks.specs.declared.eraser.Eraser.{Eraser}
use Rattle.s4_store.specs.Chains.{Chains, items_of, reach}
use Rattle.s4_store.specs.Laws.{items_here}
use Rattle.s4_tracks.specs.Chain.{erased, is_erasable, with_first_erased}
use Rattle.s4_tracks.specs.Eraser.{looked, Stands, IsPassed, IsNext, SameWalk}
use Rattle.s4_tracks.proofs.Erasing.{any-more, with_first_at, passed_at}

module _ {P : Type 0} (index chain_at : P → ℕ) (items : ℕ → List Version) (first walk : Eraser P) (place : P) (v : Version)
    (same : SameWalk first walk) (chain : chain_at place ≡ walk.chain) (at : index place ≡ looked index walk) (passed : IsPassed index walk (items first.chain))
    (there : slice_get (items (chain_at place)) (index place) ≡ Some v) where
  -- the value at the place is one of the walk's track
  value_there : slice_get (items first.chain) (index place) ≡ Some v
  value_there = subst (λ k. slice_get (items k) (index place) ≡ Some v) (chain ∙ same.chain) there

  -- none before it is yet to be erased
  behind : list_any (is_erasable walk.from walk.to) (take (index place) (items first.chain)) ≡ false
  behind = ap (λ k. list_any (is_erasable walk.from walk.to) (take k (items first.chain))) at ∙ passed.passed

  -- it isn't either
  pub passed_on : is_erasable walk.from walk.to v ≡ false → IsPassed index (record walk { last = Some place }) (items first.chain)
  passed_on e = record { passed = any-more (is_erasable walk.from walk.to) (items first.chain) (index place) v value_there behind e }

  -- fewer are left to be looked at
  pub fewer_left : length (items first.chain) - (index place + 1) < length (items first.chain) - looked index walk
  fewer_left = let within : index place < length (items first.chain) = slice_get_within (items first.chain) (index place) v value_there in omega (arith, at)

  -- it is the next one
  pub is_next : is_erasable walk.from walk.to v ≡ true → IsNext first.from first.to (items first.chain) (index place)
  is_next e = record {
    value = v;
    there = value_there;
    erasable = ap (λ k. is_erasable k first.to v) (sym same.from) ∙ ap (λ k. is_erasable walk.from k v) (sym same.to) ∙ e;
    passed = ap (λ k. list_any (is_erasable k first.to) (take (index place) (items first.chain))) (sym same.from) ∙ ap (λ k. list_any (is_erasable walk.from k) (take (index place) (items first.chain))) (sym same.to) ∙ behind;
  }

-- all values were looked at
pub all_looked_at : {P : Type 0} (index : P → ℕ) (first walk : Eraser P) (vs : List Version) → SameWalk first walk → IsPassed index walk vs → looked index walk ≡ length vs → list_any (is_erasable first.from first.to) vs ≡ false
all_looked_at index first walk vs same passed all =
    ap (λ k. list_any (is_erasable k first.to) vs) (sym same.from) ∙ ap (λ k. list_any (is_erasable walk.from k) vs) (sym same.to)
    ∙ ap (list_any (is_erasable walk.from walk.to)) (sym (take_all (length vs) vs (omega arith)) ∙ ap (λ k. take k vs) (sym all)) ∙ passed.passed

-- WHERE A WALK CAME TO A VALUE

module _ {P : Type 0} (first walk : Eraser P) (place : P) (same : SameWalk first walk) where
  pub place_chain : (chain_at : P → ℕ) (is_place : P → Type 0) → Stands is_place chain_at walk → walk.last ≡ Some place → chain_at place ≡ first.chain
  place_chain chain_at is_place stands last = subst (λ (o : Option P). IfSome o (λ p. chain_at p ≡ walk.chain)) last stands.chain ∙ same.chain

  -- the value is erased, so it is passed
  pub passed_after : (index : P → ℕ) (m new : Chains Version) → walk.last ≡ Some place → IsNext first.from first.to (items_of m first.chain) (index place)
      → new ≡ finmap.insert m first.chain (with_first_erased first.from first.to (items_of m first.chain)) → IsPassed index walk (items_of new walk.chain)
  passed_after index m new last next changed =
      let vs : List Version = items_of m first.chain in
      let after : List Version = slice_set vs (index place) (erased next.value) in
      let is_after : items_of new first.chain ≡ after = ap (λ a. items_of a first.chain) changed ∙ items_here m first.chain (with_first_erased first.from first.to vs)
      ∙ sym (with_first_at first.from first.to vs (index place) next.value next.there next.passed next.erasable) in
      let reached : looked index walk ≡ suc (index place) = ap (reach index) last ∙ sym (suc-eq-add-one (index place)) in
      record {
        passed = ap (λ k. list_any (is_erasable k walk.to) (take (looked index walk) (items_of new walk.chain))) same.from
            ∙ ap (λ k. list_any (is_erasable first.from k) (take (looked index walk) (items_of new walk.chain))) same.to
            ∙ ap (λ k. list_any (is_erasable first.from first.to) (take (looked index walk) (items_of new k))) same.chain
            ∙ ap (λ k. list_any (is_erasable first.from first.to) (take k (items_of new first.chain))) reached
            ∙ ap (λ us. list_any (is_erasable first.from first.to) (take (suc (index place)) us)) is_after
            ∙ passed_at first.from first.to vs (index place) next.value next.there next.passed;
      }

-- A WALK THAT HAS LOOKED AT NO VALUE YET, FOR ITS CALLERS

pub stands_at_first : {P : Type 0} (is_place : P → Type 0) (chain_at : P → ℕ) (walk : Eraser P) → walk.last ≡ None → Stands is_place chain_at walk
stands_at_first {P} is_place chain_at walk none = record {
  place = subst (λ (o : Option P). IfSome o is_place) (sym none) _;
  chain = subst (λ (o : Option P). IfSome o (λ place. chain_at place ≡ walk.chain)) (sym none) _;
}

pub passed_at_first : {P : Type 0} (index : P → ℕ) (walk : Eraser P) (vs : List Version) → walk.last ≡ None → IsPassed index walk vs
passed_at_first {P} index walk vs none = record { passed = ap (λ (o : Option P). list_any (is_erasable walk.from walk.to) (take (reach index o) vs)) none }
