-- The charges as they wait in the order of their ends.
use Rattle.std.specs.Prelude.{ℕ, Bool, nat_lt, ◌&&◌, ◌==◌, List, [], ◌∷◌, map, if◌then◌else◌}
use Rattle.std.specs.List.{flat_map}
use Rattle.std.specs.List.Sorted.{IsNonDecreasingBy}
use Rattle.s4_types.specs.Names.{same_purse}
use Rattle.s4_ledger.specs.declared.accounts.Payer.{Payer}
use Rattle.s4_ledger.specs.declared.charge.Charge.{Charge}
use Rattle.s4_ledger.specs.declared.charge.Entry.{Entry}

-- the entries, and for how many more there is room
pub record Queue : Type 0 where
  pub entries : List Entry
  pub room : ℕ

abbrev pub charge_of : Entry → Charge
charge_of e = record { end = e.end; purse = e.payer.purse; cost = e.cost }

-- the charge that an entry tells of: none, where it was forgiven
abbrev pub counted : Entry → List Charge
counted e = if nat_lt 0 e.cost then charge_of e ∷ [] else []

-- the charges that count
abbrev pub charges_of : List Entry → List Charge
charges_of entries = flat_map counted entries

-- who pays for each entry, forgiven or not
abbrev pub payers_of : List Entry → List Payer
payers_of entries = map (λ e. e.payer) entries

-- whether the entry counts, and as this charge
abbrev pub counts_as : Charge → Entry → Bool
counts_as c e = nat_lt 0 e.cost && ((e.end == c.end) && (same_purse e.payer.purse c.purse && (e.cost == c.cost)))

-- none ends before one that stands in front of it
abbrev pub IsInOrder : List Entry → Type 0
IsInOrder entries = IsNonDecreasingBy (λ e. e.end) entries
