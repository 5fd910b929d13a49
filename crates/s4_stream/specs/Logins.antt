-- Who may log in.
use Rattle.std.specs.Prelude.{ℕ, Bool, false, nat_eq, not, ◌&&◌, Option, Some, None, is_some, List, filter, map}
use Rattle.std.specs.Map.{lookup}
use Rattle.std.specs.Ordering.{is_eq, nat_cmp}
use Rattle.std.specs.Cmp.Lexicographic.{pointwise}

-- The principals that may log in, each with its secret, by rising number.
abbrev pub Logins : Type 0
Logins = List (ℕ × List ℕ)

-- the principal's secret, if it may log in
abbrev pub secret_of : Logins → ℕ → Option (List ℕ)
secret_of logins who = lookup (λ other. is_eq (nat_cmp who other)) logins

-- whether there is a secret, and these bytes are it
abbrev pub is_secret : Option (List ℕ) → List ℕ → Bool
is_secret None bytes = false
is_secret (Some secret) bytes = pointwise nat_eq secret bytes

-- whether the principal may log in with the secret
abbrev pub is_login : Logins → ℕ → List ℕ → Bool
is_login logins who secret = is_secret (secret_of logins who) secret

-- whether there is a secret, and it is the other one too
abbrev pub is_kept : Option (List ℕ) → Option (List ℕ) → Bool
is_kept None other = false
is_kept (Some secret) other = is_secret other secret

-- whether the principal may log in by both tables, with the same secret
abbrev pub keeps_login : Logins → Logins → ℕ → Bool
keeps_login old new who = is_kept (secret_of old who) (secret_of new who)

-- the principals of a table, by rising number
abbrev pub principals_of : Logins → List ℕ
principals_of logins = map (λ login. login.0) logins

-- whether the principal has a secret
abbrev pub is_named : Logins → ℕ → Bool
is_named logins who = is_some (secret_of logins who)

-- the principals of a table that the other one doesn't name
abbrev pub missing_in : Logins → Logins → List ℕ
missing_in table other = filter (λ who. not (is_named other who)) (principals_of table)

-- the principals of both tables whose secret isn't the same in both
abbrev pub changed_in : Logins → Logins → List ℕ
changed_in old new = filter (λ who. is_named new who && not (keeps_login old new who)) (principals_of old)
