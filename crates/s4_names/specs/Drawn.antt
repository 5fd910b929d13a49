-- What the drawn serials say of a purse.
use Rattle.std.specs.Prelude.{ℕ, true, unwrap_or, is_some, ◌≡◌}
use Rattle.std.specs.BTreeMap.{get}
use Rattle.s4_types.specs.declared.object.Purse.{Purse}
use Rattle.s4_types.specs.Names.{purse_cmp}
use Rattle.s4_names.specs.declared.names.Names.{Names}

-- how many serials the purse has drawn
abbrev pub drawn_in : Names → Purse → ℕ
drawn_in names p = unwrap_or (get purse_cmp names.drawn p) 0

-- the purse's next serial takes no memory
pub record HasRoom (names : Names) (p : Purse) : Type 0 where
  pub is_there : is_some (get purse_cmp names.drawn p) ≡ true
