-- What is told of a text of logins that is no table.
use Rattle.std.specs.Prelude.{◌≡◌, ℕ, Option, Some, None, Result, Ok, Err}
use Rattle.s4_stream.specs.Logins.{Logins}
use Rattle.s4_stream.specs.declared.logins.LoginFault.{LoginFault}
use Rattle.s4_stream.specs.declared.logins.LoginFault.TheVariants.{BadLine, Doubled, NoMemory}
use Rattle.s4_causes.specs.declared.logins.LoginCause.{LoginCause}
use Rattle.s4_causes.specs.declared.logins.LoginCause.TheVariants as cause

-- Nothing is told of a table; of a bad line its number; and of one that names a principal again its number, and that it does.
abbrev pub TellsOf : Result Logins LoginFault → Option (ℕ × LoginCause) → Type 0
TellsOf (Ok table) told = told ≡ None
TellsOf (Err (BadLine number)) None = ⊥
TellsOf (Err (BadLine number)) (Some told) = told.0 ≡ number
TellsOf (Err (Doubled number)) told = told ≡ Some (number, cause.Again)
TellsOf (Err NoMemory) told = ⊥
