-- What the tables of a base hold.
use Rattle.std.specs.Prelude.{ℕ, Option, List}
use Rattle.std.specs.Map.{lookup}
use Rattle.std.specs.BTreeMap.{is_at}
use Rattle.s4_types.specs.Base.{Base, Standing}
use Rattle.s4_types.specs.Horizon.{Guarded}
use Rattle.s4_base.specs.Lists.{Lists, base_of_lists}
use Rattle.s4_types.specs.Name.{name_cmp}
use Rattle.s4_base.specs.declared.tables.Tables.{Tables}

abbrev pub lists_of : Tables → Lists
lists_of t = record {
  window = t.window;
  floor = t.floor;
  cut = t.cut;
  count = t.count;
  objects = t.objects;
  names = t.names;
  drawn = t.drawn;
  budgets = t.budgets;
}

-- the base that the tables tell
abbrev pub base_in : Tables → Base
base_in t = base_of_lists (lists_of t)

-- the window and the floor
abbrev pub guarded_in : Tables → Guarded
guarded_in t = record { window = t.window; floor = t.floor }

-- what a name is bound to, among the names of one purse
abbrev pub bound_among : List (List ℕ × Standing ℕ) → List ℕ → Option (Standing ℕ)
bound_among bounds name = lookup (is_at (name_cmp name)) bounds
