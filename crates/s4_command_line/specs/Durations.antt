-- How long something lasts, as words say it.
use Rattle.std.specs.Prelude.{ℕ, ◌+◌, ◌-◌, ◌*◌, ◌^◌, Bool, false, not, ◌&&◌, ◌==◌, nat_lt, if◌then◌else◌, Option, Some, None, List, [], ◌∷◌}
use Rattle.std.specs.Option.{option_map}
use Rattle.std.specs.Char.{is_ascii_digit}

-- how many milliseconds the unit of a letter has: s, m, h or d
abbrev pub of_letter : ℕ → Option ℕ
of_letter letter =
    if letter == 115 then Some 1000
    else if letter == 109 then Some 60000
    else if letter == 104 then Some 3600000
    else if letter == 100 then Some 86400000
    else None

-- how many milliseconds a unit has: one of a letter, or ms
abbrev pub unit_of : List ℕ → Option ℕ
unit_of [] = None
unit_of (letter ∷ []) = of_letter letter
unit_of (first ∷ second ∷ []) = if (first == 109) && (second == 115) then Some 1 else None
unit_of (first ∷ second ∷ third ∷ rest) = None

-- the number that further digits make of one, times the unit behind them, or times one
abbrev pub counted : ℕ → List ℕ → Option ℕ
counted count [] = Some count
counted count (b ∷ rest) = if is_ascii_digit b then counted (count * 10 + (b - 48)) rest else option_map (λ unit. count * unit) (unit_of (b ∷ rest))

-- a number below 2^64
abbrev pub fitting : Option ℕ → Option ℕ
fitting None = None
fitting (Some n) = if nat_lt n (2 ^ 64) then Some n else None

-- whether it begins with a digit, and with no zero that another one follows
abbrev pub begins_well : List ℕ → Bool
begins_well [] = false
begins_well (a ∷ []) = is_ascii_digit a
begins_well (a ∷ b ∷ rest) = is_ascii_digit a && not ((a == 48) && is_ascii_digit b)

-- the milliseconds that a word spells, below 2^64: digits, and a unit or none
abbrev pub duration_in : List ℕ → Option ℕ
duration_in word = if begins_well word then fitting (counted 0 word) else None
