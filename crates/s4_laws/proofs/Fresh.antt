-- A fresh drive's base is one.
use Rattle.std.proofs.Common.{ℕ, [], refl, arith}
use Rattle.std.specs.List.Sorted.{IsStrictlySortedBy}
use Rattle.s4_types.specs.Base.{opened}
use Rattle.s4_types.specs.Name.{name_cmp}
use Rattle.s4_laws.specs.Bases.{IsBase}

none-sorted : IsStrictlySortedBy name_cmp []
unfolding IsStrictlySortedBy
none-sorted = _

pub opened-base : (window : ℕ) → IsBase (opened window)
opened-base window = record {
  objects = λ o object e. cc;
  bindings = λ purse name v e. cc;
  sorted = λ purse. none-sorted;
  bound = λ purse. refl;
  floor = omega arith;
}
