-- What the words of the command line spell.
use Rattle.std.specs.Prelude.{◌≡◌, ◌≢◌, ◌==◌, ℕ, Bool, false, ◌∷◌, Option, Some, List, [], codes, string_bytes, unwrap_or, bytes_eq, if◌then◌else◌}
use Rattle.clap.specs.Matches.{first_value}
use Rattle.clap.specs.declared.parser.matches.Found.{Found}
use Rattle.s4_types.specs.declared.principal.WireVersion.{WireVersion}
use Rattle.s4_types.specs.declared.principal.WireVersion.TheVariants.{One, Two}
use Rattle.s4_command.specs.declared.checks.TextKind.{TextKind}
use Rattle.s4_command.specs.declared.checks.TextKind.TheVariants as kind
use Rattle.s4_command.specs.declared.command.Command.{Command}
use Rattle.s4_command.specs.declared.command.Command.TheVariants as command
use Rattle.s4_stream.specs.LoginText.{principal_in, secret_in}
use Rattle.s4_stream.specs.declared.hello.Hello.{Hello}

-- the word of the command line that has this name, or no bytes
abbrev pub word_of : Found → List ℕ → List ℕ
word_of found name = unwrap_or (first_value found name) []

-- the client that a word spells: a number as a principal's, or the greatest
abbrev pub client_in : List ℕ → Option ℕ
client_in word = if bytes_eq word (codes "4294967295") then Some 4294967295 else principal_in word

-- whether a word names a file, which has what stands in its place: it begins with an @
abbrev pub names_file : List ℕ → Bool
names_file [] = false
names_file (first ∷ rest) = first == 64

-- the word of a version of the wire
abbrev pub version_word : WireVersion → List ℕ
version_word One = codes "1"
version_word Two = codes "2"

-- the word of a kind of text
abbrev pub kind_word : TextKind → List ℕ
kind_word kind.Script = codes "script"
kind_word kind.Arrivals = codes "arrivals"
kind_word kind.Logins = codes "logins"
kind_word kind.Setup = codes "setup"

-- it is the Hello that the words of the command line spell; of the secret in a file nothing is said
pub record IsHelloOf (found : Found) (hello : Hello) : Type 0 where
  pub who : principal_in (word_of found (codes "WHO")) ≡ Some hello.caller.who
  pub client : client_in (word_of found (codes "CLIENT")) ≡ Some hello.caller.client
  pub version : word_of found (codes "wire") ≡ version_word hello.caller.version
  pub secret : names_file (word_of found (codes "SECRET")) ≡ false → secret_in (word_of found (codes "SECRET")) ≡ Some hello.secret

-- a script is to be struck for a principal other than the administrator
abbrev pub IsForTenant : Command → Type 0
IsForTenant (command.Strike who explained) = who ≢ 0
IsForTenant other = ⊥

-- it is a call at the address and with the Hello that the words spell
abbrev pub IsCallOf : Found → Command → Type 0
IsCallOf found (command.Call call) = (string_bytes call.address ≡ word_of found (codes "ADDRESS")) × IsHelloOf found call.hello
IsCallOf found other = ⊥
