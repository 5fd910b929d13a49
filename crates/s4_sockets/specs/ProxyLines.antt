-- The first line of a connection that a proxy passes on.
use Rattle.std.specs.Prelude.{◌≡◌, ◌==◌, ⊤, ℕ, ◌+◌, ◌≤◌, Bool, true, false, Option, Some, None, List, [], ◌∷◌, codes, length, nat_lt, if◌then◌else◌}
use Rattle.std.specs.Net.Grammar.{IsIpv4Text, IsIpv6Text}
use Rattle.std.specs.Net.Socket.{socket_ip, socket_port}
use Rattle.std.specs.declared.net.ip_addr.IpAddr.{IpAddr}
use Rattle.std.specs.declared.net.ip_addr.IpAddr.TheVariants as Ip
use Rattle.std.specs.declared.net.socket_addr.SocketAddr.{SocketAddr}
use Rattle.s4_stream.specs.LoginText.{before, behind, principal_in}
use Rattle.s4_sockets.specs.declared.proxy_line.Heard.{Heard}
use Rattle.s4_sockets.specs.declared.proxy_line.Heard.TheVariants.{Line, Torn, Bad}
use Rattle.s4_sockets.specs.declared.proxy_line.Origin.{Origin}
use Rattle.s4_sockets.specs.declared.proxy_line.Origin.TheVariants as origin

-- the number, if it is one of a port
abbrev pub if_port : Option ℕ → Option ℕ
if_port None = None
if_port (Some n) = if nat_lt n 65536 then Some n else None

-- the port that a word spells, in decimal digits without a leading zero
abbrev pub port_in : List ℕ → Option ℕ
port_in word = if_port (principal_in word)

-- the word spells this address, which is of the family
abbrev pub IsOfFamily : List ℕ → List ℕ → IpAddr → Type 0
IsOfFamily family word (Ip.V4 a) = (family ≡ codes "TCP4") × IsIpv4Text word a
IsOfFamily family word (Ip.V6 a) = (family ≡ codes "TCP6") × IsIpv6Text word a

-- Two addresses of the family, and then the port of each, with a space between each two. The first ones are the peer's.
pub record IsPeer (family words : List ℕ) (peer : SocketAddr) : Type 0 where
  pub source : IsOfFamily family (before 32 words) (socket_ip peer)
  pub destination : (ip : IpAddr) × IsOfFamily family (before 32 (behind 32 words)) ip
  pub port : port_in (before 32 (behind 32 (behind 32 words))) ≡ Some (socket_port peer)
  pub other : (n : ℕ) × (port_in (behind 32 (behind 32 (behind 32 words))) ≡ Some n)

-- whose connection the words behind the mark name: behind UNKNOWN anything may stand
abbrev pub Names : List ℕ → Origin → Type 0
Names words origin.Unknown = before 32 words ≡ codes "UNKNOWN"
Names words (origin.Peer peer) = IsPeer (before 32 words) (behind 32 words) peer

-- a line's text, without its end, says this
abbrev pub IsOrigin : List ℕ → Origin → Type 0
IsOrigin text said = (before 32 text ≡ codes "PROXY") × Names (behind 32 text) said

-- a line with this text, which has 105 bytes at most, says this
abbrev pub Says : List ℕ → Origin → Type 0
Says text said = (length text ≤ 105) × IsOrigin text said

-- A line with this text, without its end, is what it says, and two bytes longer; a bad one says nothing.
abbrev pub IsLine : List ℕ → Heard → Type 0
IsLine text (Line count said) = Says text said × (count ≡ length text + 2)
IsLine text Torn = ⊥
IsLine text Bad = (said : Origin) → ¬ (Says text said)

-- whether a line feed stands first behind a carriage return
abbrev pub is_line_end : List ℕ → Bool
is_line_end [] = false
is_line_end (byte ∷ rest) = byte == 10

-- What is heard of bytes in which a line ends, or not, with the first carriage return: only then it is a line.
abbrev pub IsHeardAt : Bool → List ℕ → Heard → Type 0
IsHeardAt true text heard = IsLine text heard
IsHeardAt false text (Line count said) = ⊥
IsHeardAt false text other = ⊤

-- what the first bytes of a connection are
abbrev pub IsHeard : List ℕ → Heard → Type 0
IsHeard bytes heard = IsHeardAt (is_line_end (behind 13 bytes)) (before 13 bytes) heard
