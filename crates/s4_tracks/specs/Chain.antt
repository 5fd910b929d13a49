-- The values of one track as a chain holds them: oldest first, and each but the newest with an end.
use Rattle.std.specs.Prelude.{ℕ, Bool, false, nat_lt, ◌+◌, ◌*◌, ◌^◌, ◌<◌, ◌≤◌, ◌&&◌, nat_le, Option, Some, None, is_some, List, [], ◌∷◌, ◌++◌, fold, map, filter_map, length, if◌then◌else◌}
use Rattle.s4_store.specs.Chains.{newest_of}
use Rattle.s4_types.specs.declared.version.Version.{Version}
use Rattle.s4_types.specs.Versions.{ends_by}
use Rattle.s4_types.specs.declared.version.Item.{Item}
use Rattle.s4_types.specs.declared.version.Item.TheVariants.{Data, Attr, Acl, Bind}

-- what the value costs once it is past, but for its name
abbrev pub cost_of : Item → ℕ
cost_of (Data bytes) = 64 + length bytes
cost_of (Attr bytes) = 64 + length bytes
cost_of (Acl acl) = 64 + 16 * length acl
cost_of (Bind object) = 64

-- a value whose cost a number of the drive can hold
pub record IsSmall (item : Item) : Type 0 where
  pub small : cost_of item < 2 ^ 32

-- a value that begins at the moment
abbrev pub begun : ℕ → Item → Version
begun m item = record { begin = m; end = None; item = Some item; cost = cost_of item }

-- the end of a value that ends at the moment, unless it ended before
abbrev pub end_at : ℕ → Option ℕ → Option ℕ
end_at m None = Some m
end_at m (Some end) = Some end

abbrev pub ended : ℕ → Version → Version
ended m v = record v { end = end_at m v.end }

-- the newest value ends at the moment, unless it ended before
abbrev pub with_end : ℕ → List Version → List Version
with_end m [] = []
with_end m (v ∷ []) = ended m v ∷ []
with_end m (v ∷ w ∷ vs) = v ∷ with_end m (w ∷ vs)

-- the newest value ends, and another begins
abbrev pub with_put : ℕ → Item → List Version → List Version
with_put m item vs = with_end m vs ++ begun m item ∷ []

-- LOOKING BACK

abbrev pub newer : ℕ → Option Version → Version → Option Version
newer m old v = if nat_le v.begin m then Some v else old

-- the newest value that began by the moment
abbrev pub latest : ℕ → List Version → Option Version
latest m vs = fold (newer m) None vs

-- the value, where it hasn't ended by the moment
abbrev pub unended : ℕ → Option Version → Option Version
unended m None = None
unended m (Some v) = if ends_by m v.end then None else Some v

-- the value in force at the moment
abbrev pub in_force : ℕ → List Version → Option Version
in_force m vs = unended m (latest m vs)

-- the value, where it has no end
abbrev pub endless : Option Version → Option Version
endless None = None
endless (Some v) = if is_some v.end then None else Some v

-- the current value: the newest, where it has no end
abbrev pub current_of : List Version → Option Version
current_of vs = endless (newest_of vs)

-- the current value, or the one in force at a moment
abbrev pub version_in : Option ℕ → List Version → Option Version
version_in None vs = current_of vs
version_in (Some m) vs = in_force m vs

-- ERASING

-- whether the value is past, began at or after the first moment, and ended at or before the second
abbrev pub is_within : ℕ → ℕ → Version → Bool
is_within from to v = nat_le from v.begin && ends_by to v.end

-- the value without its item
abbrev pub erased : Version → Version
erased v = record v { item = None }

abbrev pub flushed_one : ℕ → ℕ → Version → Version
flushed_one from to v = if is_within from to v then erased v else v

-- the values as a flush of these moments leaves them
abbrev pub flushed : ℕ → ℕ → List Version → List Version
flushed from to vs = map (flushed_one from to) vs

-- whether a flush of these moments has yet to erase the value
abbrev pub is_erasable : ℕ → ℕ → Version → Bool
is_erasable from to v = is_within from to v && is_some v.item

-- the end and the cost, where there is an end
abbrev pub told_by : ℕ → Option ℕ → Option (ℕ × ℕ)
told_by cost None = None
told_by cost (Some end) = Some (end, cost)

abbrev pub told_of : Version → Option (ℕ × ℕ)
told_of v = told_by v.cost v.end

-- the end and the cost of the oldest value that is yet to be erased
abbrev pub first_told : ℕ → ℕ → List Version → Option (ℕ × ℕ)
first_told from to [] = None
first_told from to (v ∷ vs) = if is_erasable from to v then told_of v else first_told from to vs

-- the values, the oldest of those that are yet to be erased without its item
abbrev pub with_first_erased : ℕ → ℕ → List Version → List Version
with_first_erased from to [] = []
with_first_erased from to (v ∷ vs) = if is_erasable from to v then erased v ∷ vs else v ∷ with_first_erased from to vs

-- the ends and the costs of all values that are yet to be erased, oldest first
abbrev pub told_if : ℕ → ℕ → Version → Option (ℕ × ℕ)
told_if from to v = if is_erasable from to v then told_of v else None

abbrev pub told : ℕ → ℕ → List Version → List (ℕ × ℕ)
told from to vs = filter_map (told_if from to) vs

-- EXPIRY

-- whether the value is past, and its end is at most the horizon
abbrev pub is_expired : ℕ → Version → Bool
is_expired horizon v = ends_by horizon v.end

-- whether the value is past, and its end is below the moment
abbrev pub end_is_before : ℕ → Option ℕ → Bool
end_is_before m None = false
end_is_before m (Some end) = nat_lt end m

abbrev pub ended_before : ℕ → Version → Bool
ended_before m v = end_is_before m v.end

-- an end, and then one that isn't below it or none
abbrev pub EndsBefore : Option ℕ → Option ℕ → Type 0
EndsBefore None later = ⊥
EndsBefore (Some end) None = Unit {0}
EndsBefore (Some end) (Some later) = end ≤ later

-- the ends never go down, and each value but the newest has one
abbrev pub IsInOrder : List Version → Type 0
IsInOrder [] = Unit {0}
IsInOrder (v ∷ []) = Unit {0}
IsInOrder (v ∷ w ∷ vs) = EndsBefore v.end w.end × IsInOrder (w ∷ vs)
