-- A base as plain data: in the place of look-ups, lists of what they find.
use Rattle.std.specs.Prelude.{ℕ, Option, List, [], unwrap_or}
use Rattle.std.specs.Map.{lookup, keys_of}
use Rattle.std.specs.BTreeMap.{is_at}
use Rattle.s4_types.specs.declared.object.Purse.{Purse}
use Rattle.s4_types.specs.declared.object.ObjectId.{ObjectId}
use Rattle.s4_types.specs.Names.{purse_cmp, object_cmp}
use Rattle.s4_types.specs.Name.{name_cmp}
use Rattle.s4_types.specs.Base.{Base, Standing, KeptObject, default_budget}

pub record Lists : Type 0 where
  -- the detection window in force, in ticks, and the floor of the horizon
  pub window : ℕ
  pub floor : ℕ
  -- the records before this moment are gone, and how many these are
  pub cut : ℕ
  pub count : ℕ
  -- the objects that live
  pub objects : List (ObjectId × KeptObject)
  -- the names that are bound, by their purses, each with the serial of its object
  pub names : List (Purse × List (List ℕ × Standing ℕ))
  -- how many serials were drawn, and the budgets that were set
  pub drawn : List (Purse × ℕ)
  pub budgets : List (Purse × ℕ)

-- those of a fresh drive with that window
abbrev pub fresh_lists : ℕ → Lists
fresh_lists window = record { window = window; floor = 0; cut = 0; count = 0; objects = []; names = []; drawn = []; budgets = [] }

abbrev pub object_among : List (ObjectId × KeptObject) → ObjectId → Option KeptObject
object_among objects o = lookup (is_at (object_cmp o)) objects

-- the bound names of the purse
abbrev pub bounds_among : List (Purse × List (List ℕ × Standing ℕ)) → Purse → List (List ℕ × Standing ℕ)
bounds_among names purse = unwrap_or (lookup (is_at (purse_cmp purse)) names) []

abbrev pub names_among : List (Purse × List (List ℕ × Standing ℕ)) → Purse → List (List ℕ)
names_among names purse = keys_of (bounds_among names purse)

abbrev pub binding_among : List (Purse × List (List ℕ × Standing ℕ)) → Purse → List ℕ → Option (Standing ℕ)
binding_among names purse name = lookup (is_at (name_cmp name)) (bounds_among names purse)

abbrev pub drawn_among : List (Purse × ℕ) → Purse → ℕ
drawn_among drawn purse = unwrap_or (lookup (is_at (purse_cmp purse)) drawn) 0

abbrev pub budget_among : List (Purse × ℕ) → Purse → ℕ
budget_among budgets purse = unwrap_or (lookup (is_at (purse_cmp purse)) budgets) default_budget

-- the base that the lists tell
abbrev pub base_of_lists : Lists → Base
base_of_lists l = record {
  window = l.window;
  floor = l.floor;
  cut = l.cut;
  count = l.count;
  object = object_among l.objects;
  names = names_among l.names;
  binding = binding_among l.names;
  drawn = drawn_among l.drawn;
  budget = budget_among l.budgets;
}
