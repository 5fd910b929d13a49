-- The ends of past values that are held, in the order in which they came.
use Rattle.std.specs.Prelude.{◌≡◌, ℕ, Bool, true, false, ◌&&◌, nat_le, nat_lt, Option, Some, None, List, [], ◌∷◌, map, if◌then◌else◌}
use Rattle.std.specs.List.{list_all}
use Rattle.s4_types.specs.declared.object.ObjectId.{ObjectId}
use Rattle.s4_types.specs.declared.version.Version.{Version}
use Rattle.s4_types.specs.Names.{same_object}
use Rattle.s4_objects.specs.declared.kept.Which.{Which}
use Rattle.s4_objects.specs.declared.ends.Ended.{Ended}
use Rattle.s4_objects.specs.Chains.{same_which}

-- whether the value was one of that track
abbrev pub is_of : ObjectId → Which → Ended → Bool
is_of o w e = same_object e.object o && same_which e.which w

-- the ends of those that were values of the track
abbrev pub ends_of : ObjectId → Which → List Ended → List ℕ
ends_of o w [] = []
ends_of o w (e ∷ es) = if is_of o w e then e.end ∷ ends_of o w es else ends_of o w es

-- the ends of all
abbrev pub all_ends : List Ended → List ℕ
all_ends es = map (λ e. e.end) es

-- whether the end is at most the horizon
abbrev pub is_gone : ℕ → ℕ → Bool
is_gone horizon end = nat_le end horizon

-- whether no end is above the moment
abbrev pub all_by : ℕ → List ℕ → Bool
all_by m ends = list_all (λ end. nat_le end m) ends

-- the ends never go down
abbrev pub IsRising : List ℕ → Type 0
IsRising [] = Unit {0}
IsRising (end ∷ ends) = (list_all (nat_le end) ends ≡ true) × IsRising ends

-- at most one value, which has no end
abbrev pub IsAtMostCurrent : List Version → Type 0
IsAtMostCurrent [] = Unit {0}
IsAtMostCurrent (v ∷ []) = v.end ≡ None
IsAtMostCurrent (v ∷ w ∷ vs) = ⊥

-- the values have these ends, and at most one more is there, which has none
abbrev pub HasEnds : List ℕ → List Version → Type 0
HasEnds [] vs = IsAtMostCurrent vs
HasEnds (end ∷ ends) [] = ⊥
HasEnds (end ∷ ends) (v ∷ vs) = (v.end ≡ Some end) × HasEnds ends vs

abbrev pub is_any : List Version → Bool
is_any [] = false
is_any (v ∷ vs) = true

-- whether the value has no end, or one that isn't before its begin
abbrev pub is_end_from : ℕ → Option ℕ → Bool
is_end_from begin None = true
is_end_from begin (Some end) = nat_le begin end

abbrev pub is_timely : Version → Bool
is_timely v = is_end_from v.begin v.end

-- whether there is a value, and it begins after the moment
abbrev pub is_later : ℕ → Option Version → Bool
is_later m None = false
is_later m (Some v) = nat_lt m v.begin
