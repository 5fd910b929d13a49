-- Jumps: each item of a chain has the place of an older node of it, which may have been freed.
use Rattle.std.specs.Prelude.{◌≡◌, ℕ, ◌+◌, ◌-◌, ◌^◌, ◌<◌, ◌≤◌, List, map, slice_get, Option, Some, None}
use denote.RawPtr.{Ptr}
use Rattle.s4_arena.specs.declared.leap.Leap.{Leap}
use Rattle.s4_arena.specs.declared.node.Link.{Link}
use Rattle.s4_arena.specs.declared.node.Node.{Node}
use Rattle.s4_arena.specs.declared.chain.Ends.{Ends}
use Rattle.s4_arena.specs.Forests.{IsForest}
use Rattle.s4_arena.specs.Links.{items_from, places_from}
use Rattle.s4_arena.specs.Spans.{span_at}

-- places and items of a chain, oldest first: each item's jump is the place as far back as its number says, where that is kept
abbrev pub AreLeaps : {P X : Type 0} → (X → P) → ℕ → List P → List X → Type 0
AreLeaps {X = X} jump first ps xs = (i : ℕ) (x : X) → slice_get xs i ≡ Some x → span_at first i ≤ i → slice_get ps (i - span_at first i) ≡ Some (jump x)

module _ {T : Type 0} where
  -- the items, without their jumps
  abbrev pub items_in : List (Leap T) → List T
  items_in xs = map (λ l. l.item) xs

  abbrev pub item_in : Option (Leap T) → Option T
  item_in None = None
  item_in (Some l) = Some l.item

  -- where its jump goes
  abbrev pub goes_to : Leap T → Link (Leap T)
  goes_to l = record { ptr = l.jump.ptr }

  -- the same jump, with another item
  abbrev pub with_item : Leap T → T → Leap T
  with_item l x = record { jump = l.jump; item = x }

  -- the items of the chain with the ends e
  abbrev pub items_at : List (Ptr × Node (Leap T)) → Ends (Leap T) → List T
  items_at cs e = items_in (items_from cs e.oldest e.len)

  -- each of them has its jump, and the trees are known of which the next one's is told
  pub record HasLeaps (cs : List (Ptr × Node (Leap T))) (e : Ends (Leap T)) : Type 0 where
    pub small : e.first < 2 ^ 64
    pub forest : IsForest e.forest (e.first + e.len)
    pub leaps : AreLeaps (λ l. l.jump.ptr) e.first (places_from cs e.oldest e.len) (items_from cs e.oldest e.len)
