-- Which chains were open before one of them was changed, opened or closed.
use Rattle.std.proofs.Common.{◌≡◌, ℕ, false, List, sym, ◌∙◌, ap, subst}
use Rattle.std.specs.Prelude.{◌==◌, is_some}
use Rattle.std.specs.FinMap as finmap
use Rattle.std.proofs.lemmas.Bool.{eqb-true}
use Rattle.s4_types.specs.declared.object.Purse.{Purse}
use Rattle.s4_types.specs.declared.version.Version.{Version}
use Rattle.s4_types.proofs.Booleans.{by_test}
use Rattle.s4_store.specs.Chains.{Chains, IsOpen}
use Rattle.s4_store.specs.Laws.{get_elsewhere, get_here-remove, get_elsewhere-remove, fresh_is_closed}
use Rattle.s4_parts.specs.declared.parts.Parts.{Parts}
use Rattle.s4_parts.specs.Table.{chain_at, LeavesNoChain}

pub open-elsewhere : (m : Chains Version) (d : ℕ) (xs : List Version) (c : ℕ) → (c == d) ≡ false → IsOpen (finmap.insert m d xs) c → IsOpen m c
open-elsewhere m d xs c other opened = record { is_open = sym (ap is_some (get_elsewhere m d c xs other)) ∙ opened.is_open }

pub open-changed : (m : Chains Version) (d : ℕ) (xs : List Version) → IsOpen m d → (c : ℕ) → IsOpen (finmap.insert m d xs) c → IsOpen m c
open-changed m d xs here c opened = by_test (c == d)
    (λ e. subst (IsOpen m) (sym (eqb-true c d e)) here)
    (λ e. open-elsewhere m d xs c e opened)

-- a closed chain isn't open
pub open-removed : (m : Chains Version) (d c : ℕ) → IsOpen (finmap.remove m d) c → ((c == d) ≡ false) × IsOpen m c
open-removed m d c opened = by_test (c == d)
    (λ e. absurd (fresh_is_closed (finmap.remove m d) c (ap (finmap.get (finmap.remove m d)) (eqb-true c d e) ∙ get_here-remove m d) opened))
    (λ e. (e, record { is_open = sym (ap is_some (get_elsewhere-remove m d c e)) ∙ opened.is_open }))

-- where one open chain was changed, and each name has the chain that it had
pub leaves-changed : (old new : Chains Version) (before after : Parts) (d : ℕ) (xs : List Version) → IsOpen old d → new ≡ finmap.insert old d xs → ((q : Purse) (m : List ℕ) → chain_at after q m ≡ chain_at before q m) → LeavesNoChain old new before after
leaves-changed old new before after d xs here changed own c opened foreign = (
  open-changed old d xs here c (subst (λ x. IsOpen x c) changed opened),
  λ q m got. foreign q m (own q m ∙ got),
)
