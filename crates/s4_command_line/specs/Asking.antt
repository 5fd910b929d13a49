-- What the words of a call spell whose requests stand in lines.
use Rattle.std.specs.Prelude.{◌≡◌, ◌<◌, ℕ, Some, List, codes, string_bytes}
use Rattle.clap.specs.declared.parser.matches.Found.{Found}
use Rattle.s4_command.specs.declared.asking.Askers.{Askers}
use Rattle.s4_command.specs.declared.asking.Askers.TheVariants as askers
use Rattle.s4_command.specs.declared.asking.Company.{Company}
use Rattle.s4_command.specs.declared.command.Command.{Command}
use Rattle.s4_command.specs.declared.command.Command.TheVariants as command
use Rattle.s4_command_line.specs.Words.{IsHelloOf, client_in, version_word, word_of}

-- Callers that lines name: their client, which stands where else a principal does, their version, and the path of the file of their secrets
pub record IsCompanyOf (found : Found) (path : List ℕ) (company : Company) : Type 0 where
  pub client : client_in (word_of found (codes "WHO")) ≡ Some company.client
  pub version : word_of found (codes "wire") ≡ version_word company.version
  pub logins : string_bytes company.logins ≡ path

-- It is the one caller of the Hello that the words spell, with one request ahead at least; or callers that lines name.
abbrev pub AreAskersOf : Found → Askers → Type 0
AreAskersOf found (askers.One asker) = IsHelloOf found asker.hello × (0 < asker.depth)
AreAskersOf found (askers.Each company) = (path : List ℕ) × IsCompanyOf found path company

-- lines are asked at the address and by the callers that the words spell
abbrev pub IsAskingOf : Found → Command → Type 0
IsAskingOf found (command.Ask asking) = (string_bytes asking.address ≡ word_of found (codes "ADDRESS")) × AreAskersOf found asking.askers
IsAskingOf found other = ⊥
