-- The rule over all tokens of a ledger: there is one log of all calls that there ever were.
use Rattle.std.specs.Prelude.{◌≡◌, ℕ, ◌+◌, ◌<◌, ◌≤◌, Bool, List, [], IsPermutation}
use Rattle.s4_calls.specs.declared.hand.Hand.{Hand}
use Rattle.s4_calls.specs.declared.hand.Noted.{Noted}
use Rattle.s4_calls.specs.Logs.{IsSublist, IsPrefix, items_of, items_in, ArePlaced}
use Rattle.s4_calls.specs.Hands.{total, flat, parts_of, shares_of, owners, calls_of, Each, AreBareWithoutParts}
use mathlib.Core.Option.{some}
use lib.ListN.{get_elem?}

module _ {T : Type 0} where
  -- the log has the calls of each hand in their order
  abbrev pub AreSublists : List (Noted T) → List (Hand T) → Type 0
  AreSublists log hands = Each (λ (h : Hand T). IsSublist h.calls log) hands

  module _ (is_wide : T → Bool) (range : T → ℕ) (n : ℕ) where
    -- the items of each cell that a hand stands for are those of the log
    abbrev pub HasItems : List (Noted T) → Hand T → Type 0
    HasItems log h = (k : ℕ) → h.cell ≤ k → k < h.cell + h.shares → h.items ≡ items_in is_wide range n k (items_of log)

    abbrev pub HaveItems : List (Noted T) → List (Hand T) → Type 0
    HaveItems log hands = Each (HasItems log) hands

    -- what a hand knows that stands for no cell is a beginning of the log's items of its cell
    abbrev pub HasPrefix : List (Noted T) → Hand T → Type 0
    HasPrefix log h = h.shares ≡ 0 → IsPrefix h.items (items_in is_wide range n h.cell (items_of log))

    abbrev pub HavePrefixes : List (Noted T) → List (Hand T) → Type 0
    HavePrefixes log hands = Each (HasPrefix log) hands

    -- There is one log, a linearization of all calls that these hands know. It has their calls and no others, those of each hand in
    -- their order. Each call names its cell and its place there, and the items of each cell are the log's items of that cell
    pub record IsLinearized (hands : List (Hand T)) : Type 0 where
      pub log : List (Noted T)
      pub placed : ArePlaced is_wide range n [] log
      pub even : IsPermutation log (calls_of hands)
      pub order : AreSublists log hands
      pub items : HaveItems log hands

    -- all tokens have 64 parts together, and a share for each of the n cells, no two for one; and there is one log of all that they know
    pub record Balanced (views : List (List (Hand T))) : Type 0 where
      pub parts : total parts_of views ≡ 64
      pub shares : total shares_of views ≡ n
      pub once : (k : ℕ) → total (owners k) views ≤ 1
      pub held : (id : ℕ) (hands : List (Hand T)) → get_elem? views id ≡ some hands → AreBareWithoutParts hands
      pub log : List (Noted T)
      pub placed : ArePlaced is_wide range n [] log
      pub even : IsPermutation log (flat calls_of views)
      pub order : (id : ℕ) (hands : List (Hand T)) → get_elem? views id ≡ some hands → AreSublists log hands
      pub items : (id : ℕ) (hands : List (Hand T)) → get_elem? views id ≡ some hands → HaveItems log hands
      pub known : (id : ℕ) (hands : List (Hand T)) → get_elem? views id ≡ some hands → HavePrefixes log hands
