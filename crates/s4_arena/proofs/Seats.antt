-- The nodes of a chain, and the items in them, by index.
use Rattle.std.specs.Prelude.{◌≡◌, ◌≢◌, ℕ, suc, ◌-◌, ◌<◌, ◌≤◌, nat_le, List, [], length, slice_get, Option, Some, None}
use Rattle.std.proofs.Common.{sym, ap, ◌∙◌, subst, arith}
use Rattle.std.proofs.lemmas.List.{length-map}
use Rattle.std.proofs.lemmas.List.Sums.{prefix_len-le-length}
use denote.RawPtr.{Ptr}
use Rattle.s4_arena.specs.Cells.{look}
use Rattle.s4_arena.specs.declared.leap.Leap.{Leap}
use Rattle.s4_arena.specs.declared.node.Link.{Link}
use Rattle.s4_arena.specs.declared.node.Node.{Node}
use Rattle.s4_arena.specs.declared.chain.Ends.{Ends}
use Rattle.s4_arena.specs.Links.{node, IsChain, node_at, prev_of, link_at, link_before, items_from, places_from}
use Rattle.s4_arena.specs.Linked.{IsEnds}
use Rattle.s4_arena.specs.Spans.{span_at}
use Rattle.s4_arena.specs.Leaps.{HasLeaps, goes_to, items_in, item_in, items_at}
use Rattle.s4_arena.proofs.Standing.{at_index, last_is, place_is, place_of}
use Rattle.s4_arena.proofs.Linking.{has_last, none_last}
use Rattle.s4_arena.proofs.Lists.{item_get}
use Rattle.s4_arena.proofs.Leaping.{twice}
use Rattle.s4_arena.proofs.Looking.{wanted}
use Rattle.s4_arena.proofs.Jumps.{jump_ptr, items_are}

module _ {X : Type 0} where
  -- the item with the index i stands in the node at p
  pub record Seat (cs : List (Ptr × Node X)) (c : ℕ) (e : Ends X) (i : ℕ) (p : Link X) : Type 0 where
    pub at : link_at cs e.oldest i ≡ Some p
    pub prev : Option (Link X)
    pub next : Option (Link X)
    pub item : X
    pub there : look cs p.ptr ≡ Some (node c prev next (Some item))
    pub is : slice_get (items_from cs e.oldest e.len) i ≡ Some item
    pub backward : prev ≡ link_before cs None e.oldest i

  pub seat : (cs : List (Ptr × Node X)) (c : ℕ) (e : Ends X) (i : ℕ) (p : Link X) → IsEnds cs c e → i < e.len → link_at cs e.oldest i ≡ Some p → Seat cs c e i p
  seat cs c e i p h within at =
      let s = at_index cs c e i h within in
      let u : Some s.link ≡ Some p = sym s.at ∙ at in let same : s.link ≡ p = cc in
      record {
        at = at;
        prev = s.prev;
        next = s.next;
        item = s.item;
        there = ap (λ (k : Link X). look cs k.ptr) (sym same) ∙ s.there;
        is = ap (λ (xs : List X). slice_get xs i) (items_are cs c e h) ∙ s.is;
        backward = s.backward;
      }

  -- by the place where it lies
  pub seat_lying : (cs : List (Ptr × Node X)) (c : ℕ) (e : Ends X) (i : ℕ) (p : Link X) → IsEnds cs c e → i < e.len → slice_get (places_from cs e.oldest e.len) i ≡ Some p.ptr → Seat cs c e i p
  seat_lying cs c e i p h within lies =
      let q = place_is cs c h.0 None e.oldest e.newest i p.ptr h.1 (omega (arith, h.2, within)) (ap (λ n. slice_get (places_from cs e.oldest n) i) h.2 ∙ lies) in
      let same : q.0 ≡ p = λ j. record { ptr = q.1 j } in
      seat cs c e i p h within (q.2 ∙ ap Some same)

  pub lies_at : (cs : List (Ptr × Node X)) (c : ℕ) (e : Ends X) (i : ℕ) (p : Link X) → IsEnds cs c e → i < e.len → link_at cs e.oldest i ≡ Some p → slice_get (places_from cs e.oldest e.len) i ≡ Some p.ptr
  lies_at cs c e i p h within at = ap (λ n. slice_get (places_from cs e.oldest n) i) (sym h.2) ∙ place_of cs c h.0 None e.oldest e.newest i p h.1 (omega (arith, h.2, within)) at

  pub some_newest : (cs : List (Ptr × Node X)) (c : ℕ) (e : Ends X) (q : Link X) → IsEnds cs c e → e.newest ≡ Some q → 0 < e.len
  some_newest cs c e q h is = let some : 0 < length h.0 = has_last cs c h.0 e.oldest q (subst (λ (k : Option (Link X)). IsChain cs c None e.oldest k h.0) is h.1) in omega (arith, h.2, some)

  pub seat_newest : (cs : List (Ptr × Node X)) (c : ℕ) (e : Ends X) (q : Link X) → IsEnds cs c e → e.newest ≡ Some q → Seat cs c e (e.len - 1) q
  seat_newest cs c e q h is =
      let pos : 0 < e.len = some_newest cs c e q h is in
      let n : length h.0 ≡ suc (e.len - 1) = omega (arith, h.2, pos) in
      seat cs c e (e.len - 1) q h (omega (arith, pos)) (sym (last_is cs c (e.len - 1) h.0 None e.oldest e.newest h.1 n) ∙ is)

  -- the node before it, where there is one
  pub seat_before : (cs : List (Ptr × Node X)) (c : ℕ) (e : Ends X) (i : ℕ) (p q : Link X) → IsEnds cs c e → i < e.len → 0 < i → Seat cs c e i p → prev_of (node_at cs (Some p)) ≡ Some q → Seat cs c e (i - 1) q
  seat_before cs c e i p q h within pos s is =
      let j : i ≡ suc (i - 1) = omega (arith, pos) in
      seat cs c e (i - 1) q h (omega (arith, within)) (ap (link_before cs None e.oldest) (sym j) ∙ sym s.backward ∙ sym (ap prev_of s.there) ∙ is)

  pub has_before : (cs : List (Ptr × Node X)) (c : ℕ) (e : Ends X) (i : ℕ) (p : Link X) → IsEnds cs c e → i < e.len → 0 < i → Seat cs c e i p → prev_of (node_at cs (Some p)) ≡ None → ⊥
  has_before cs c e i p h within pos s is =
      let j : i ≡ suc (i - 1) = omega (arith, pos) in
      let r = at_index cs c e (i - 1) h (omega (arith, within)) in
      let u : Some r.link ≡ None = sym r.at ∙ ap (link_before cs None e.oldest) (sym j) ∙ sym s.backward ∙ sym (ap prev_of s.there) ∙ is in cc

module _ {X : Type 0} (cs : List (Ptr × Node (Leap X))) (c : ℕ) (e : Ends (Leap X)) (h : IsEnds cs c e) (l : HasLeaps cs e) where
  -- where its jump goes
  pub seat_jump : (i : ℕ) (p : Link (Leap X)) (s : Seat cs c e i p) → 0 < span_at e.first i → i < e.len → span_at e.first i ≤ i → Seat cs c e (i - span_at e.first i) (goes_to s.item)
  seat_jump i p s some within kept = seat_lying cs c e (i - span_at e.first i) (goes_to s.item) h (omega (arith, some, within, kept)) (l.leaps i s.item s.is kept)

  -- the jump of an item, and then that one's
  pub record Twice (x : Leap X) : Type 0 where
    pub index : ℕ
    pub seat : Seat cs c e index (goes_to x)
    pub goes : slice_get (places_from cs e.oldest e.len) (e.len - span_at e.first e.len) ≡ Some seat.item.jump.ptr

  pub jump_twice : (q : Link (Leap X)) (s : Seat cs c e (e.len - 1) q) → span_at e.first e.len ≤ e.len → span_at e.first e.len ≢ 1 → Twice s.item
  jump_twice q s kept ne =
      let ps = places_from cs e.oldest e.len in let xs = items_from cs e.oldest e.len in
      let n : length xs ≡ e.len = ap length (items_are cs c e h) ∙ h.2 in
      let t = subst (λ (m : ℕ). span_at e.first m ≤ m → span_at e.first m ≢ 1 → slice_get xs (m - 1) ≡ Some s.item
      → (k : ℕ) × (k < m) × (slice_get ps k ≡ Some s.item.jump.ptr) × ((y : Leap X) → slice_get xs k ≡ Some y → slice_get ps (m - span_at e.first m) ≡ Some y.jump.ptr))
      n (λ kept ne newest. twice jump_ptr e.first ps xs s.item l.small l.leaps kept ne newest) kept ne s.is in
      let r = seat_lying cs c e t.0 (goes_to s.item) h t.1 t.2 in
      record { index = t.0; seat = r; goes = t.3 r.item r.is }

module _ {X : Type 0} (cs : List (Ptr × Node (Leap X))) (c : ℕ) (e : Ends (Leap X)) where
  -- the item as it is seen
  pub item_seen : (i : ℕ) (p : Link (Leap X)) (s : Seat cs c e i p) → slice_get (items_at cs e) i ≡ Some s.item.item
  item_seen i p s = sym (item_get (items_from cs e.oldest e.len) i) ∙ ap item_in s.is

  pub none_seen : IsEnds cs c e → e.newest ≡ None → items_at cs e ≡ []
  none_seen h is = ap items_in (items_are cs c e h ∙ none_last cs c h.0 e.oldest e.newest is h.1)

  pub has_newest : IsEnds cs c e → 0 < e.len → e.newest ≡ None → ⊥
  has_newest h pos is = absurd (omega (arith, pos, h.2, ap length (none_last cs c h.0 e.oldest e.newest is h.1)))

  pub wanted_within : (key : X → ℕ) (m : ℕ) → IsEnds cs c e → wanted key m (items_at cs e) ≤ e.len
  wanted_within key m h = omega (arith, prefix_len-le-length (λ v. nat_le (key v) m) (items_at cs e), length-map (items_from cs e.oldest e.len) (λ l. l.item), ap length (items_are cs c e h), h.2)
