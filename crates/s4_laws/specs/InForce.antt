-- When a value is in force, and what keeps an object from being made twice.
use Rattle.std.specs.Prelude.{◌≡◌, ℕ, Bool, true, not, cond, ◌+◌, ◌≤◌, ◌&&◌, nat_le, is_some, List, count_by}
use Rattle.s4_types.specs.declared.object.ObjectId.{ObjectId}
use Rattle.s4_types.specs.declared.record.Record.{Record}
use Rattle.s4_types.specs.Base.{Base}
use Rattle.s4_types.specs.Versions.{Value, ends_by, makes}

-- whether the value is in force at the moment: it began by then, and hasn't ended by then
abbrev pub is_in_force : {V : Type 0} → ℕ → Value V → Bool
is_in_force m v = nat_le v.begin m && not (ends_by m v.end)

-- how often the object was made: where the base keeps it, once before the records
abbrev pub made_count : Base → ObjectId → List Record → ℕ
made_count base o h = cond (is_some (base.object o)) 1 0 + count_by (makes o) h

-- if the base keeps the object, its serial was drawn
abbrev pub IsDrawn : Base → ObjectId → Type 0
IsDrawn base o = is_some (base.object o) ≡ true → o.serial ≤ base.drawn o.purse
