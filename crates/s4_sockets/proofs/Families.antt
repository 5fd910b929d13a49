-- Which words spell no address of a family.
use Rattle.std.proofs.Common.{◌≡◌, ℕ, List, codes, slice_index_or, sym, ap, ◌∙◌, arith}
use Rattle.std.specs.Net.Grammar.{IsIpv4Text, IsIpv6Text}
use Rattle.std.specs.declared.net.ip_addr.IpAddr.{IpAddr}
use Rattle.std.specs.declared.net.ip_addr.IpAddr.TheVariants as Ip
use Rattle.std.specs.declared.net.ipv4_addr.Ipv4Addr.{Ipv4Addr}
use Rattle.std.specs.declared.net.ipv6_addr.Ipv6Addr.{Ipv6Addr}
use Rattle.s4_sockets.specs.ProxyLines.{IsOfFamily}

families_differ : codes "TCP4" ≡ codes "TCP6" → ⊥
families_differ h = let e : 52 ≡ 54 = ap (λ (word : List ℕ). slice_index_or word 3 0) h in omega (arith, e)

pub no_ipv4 : (family word : List ℕ) → family ≡ codes "TCP4" → ((a : Ipv4Addr) → ¬ (IsIpv4Text word a)) → (ip : IpAddr) → ¬ (IsOfFamily family word ip)
no_ipv4 family word is none (Ip.V4 a) h = none a h.1
no_ipv4 family word is none (Ip.V6 a) h = families_differ (sym is ∙ h.0)

pub no_ipv6 : (family word : List ℕ) → family ≡ codes "TCP6" → ((a : Ipv6Addr) → ¬ (IsIpv6Text word a)) → (ip : IpAddr) → ¬ (IsOfFamily family word ip)
no_ipv6 family word is none (Ip.V4 a) h = families_differ (sym h.0 ∙ is)
no_ipv6 family word is none (Ip.V6 a) h = none a h.1

pub no_family : (family word : List ℕ) → ¬ (family ≡ codes "TCP4") → ¬ (family ≡ codes "TCP6") → (ip : IpAddr) → ¬ (IsOfFamily family word ip)
no_family family word four six (Ip.V4 a) h = four h.0
no_family family word four six (Ip.V6 a) h = six h.0
