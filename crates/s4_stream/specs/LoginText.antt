-- What a text of logins says.
use Rattle.std.specs.Prelude.{◌≡◌, ℕ, ◌+◌, ◌-◌, ◌*◌, Bool, true, false, not, ◌==◌, nat_lt, if◌then◌else◌, is_some, Option, Some, None, Result, Ok, Err, List, [], ◌∷◌}
use Rattle.std.specs.Result.{result_ok}
use Rattle.std.specs.Char.{is_ascii_digit}
use Rattle.std.specs.BTreeMap.{insert_entry}
use Rattle.std.specs.Ordering.{nat_cmp}
use Rattle.hex.specs.Hex.{decode_sized}
use Rattle.s4_stream.specs.declared.logins.LoginFault.{LoginFault}
use Rattle.s4_stream.specs.declared.logins.LoginFault.TheVariants.{BadLine, Doubled, NoMemory}
use Rattle.s4_stream.specs.Logins.{Logins, secret_of}

-- WORDS

-- the bytes before the first such byte, all where there is none
abbrev pub before : ℕ → List ℕ → List ℕ
before b [] = []
before b (x ∷ xs) = if x == b then [] else x ∷ before b xs

-- the bytes behind the first such byte
abbrev pub behind : ℕ → List ℕ → List ℕ
behind b [] = []
behind b (x ∷ xs) = if x == b then xs else behind b xs

-- the number that decimal digits spell, after digits of this value
abbrev pub number_in : ℕ → List ℕ → Option ℕ
number_in value [] = Some value
number_in value (d ∷ ds) = if is_ascii_digit d then number_in (value * 10 + (d - 48)) ds else None

-- whether a byte is there, and no 0 before others
abbrev pub is_plain : List ℕ → Bool
is_plain [] = false
is_plain (d ∷ []) = true
is_plain (d ∷ e ∷ ds) = not (d == 48)

-- the number, if it is one of a principal
abbrev pub if_principal : Option ℕ → Option ℕ
if_principal None = None
if_principal (Some n) = if nat_lt n 4294967295 then Some n else None

-- the principal that a word spells
abbrev pub principal_in : List ℕ → Option ℕ
principal_in word = if is_plain word then if_principal (number_in 0 word) else None

-- the sixteen bytes that 32 hexadecimal digits spell
abbrev pub secret_in : List ℕ → Option (List ℕ)
secret_in word = result_ok (decode_sized word 16)

-- a principal and a secret, if both are there
abbrev pub both_of : Option ℕ → Option (List ℕ) → Option (ℕ × List ℕ)
both_of None secret = None
both_of (Some who) None = None
both_of (Some who) (Some secret) = Some (who, secret)

-- the login that a line spells: a principal, a space, and its secret
abbrev pub login_of : List ℕ → Option (ℕ × List ℕ)
login_of line = both_of (principal_in (before 32 line)) (secret_in (behind 32 line))

-- LINES

-- a byte before the first of some lines
abbrev pub longer : ℕ → List (List ℕ) → List (List ℕ)
longer b [] = (b ∷ []) ∷ []
longer b (line ∷ lines) = (b ∷ line) ∷ lines

-- the lines of a text; each ends with a line feed, which the last may lack
abbrev pub lines : List ℕ → List (List ℕ)
lines [] = []
lines (b ∷ text) = if b == 10 then [] ∷ lines text else longer b (lines text)

-- TABLES

-- the table with one more login, from line n; or its fault: the line is bad, or names a principal again
abbrev pub entered : ℕ → Logins → Option (ℕ × List ℕ) → Result Logins LoginFault
entered n table None = Err (BadLine n)
entered n table (Some login) = if is_some (secret_of table login.0) then Err (Doubled n)
    else Ok (insert_entry nat_cmp table login.0 login.1)

-- the table with the lines from line n on; or the first fault, before them or in them
abbrev pub table_of : ℕ → Result Logins LoginFault → List (List ℕ) → Result Logins LoginFault
table_of n (Err fault) lines = Err fault
table_of n (Ok table) [] = Ok table
table_of n (Ok table) (line ∷ lines) = table_of (n + 1) (entered n table (login_of line)) lines

-- the table that a text says, or its first fault
abbrev pub table_in : List ℕ → Result Logins LoginFault
table_in text = table_of 1 (Ok []) (lines text)

-- the result is this table or this fault, or memory ran out
abbrev pub IsTable : Result Logins LoginFault → Result Logins LoginFault → Type 0
IsTable (Err NoMemory) table = Unit {0}
IsTable result table = result ≡ table
