-- The jumps of a chain after an item came or went.
use Rattle.std.specs.Prelude.{◌≡◌, ℕ, ◌+◌, ◌-◌, ◌^◌, ◌≤◌, List, [], ◌∷◌, ◌++◌, drop, length, slice_get, min, Option, Some, None}
use Rattle.std.proofs.Common.{sym, ap, ◌∙◌, subst, arith, length-append, length-drop}
use denote.RawPtr.{Ptr}
use Rattle.s4_arena.specs.declared.leap.Leap.{Leap}
use Rattle.s4_arena.specs.declared.node.Link.{Link}
use Rattle.s4_arena.specs.declared.node.Node.{Node}
use Rattle.s4_arena.specs.declared.chain.Ends.{Ends}
use Rattle.s4_arena.specs.Links.{items_from, places_from}
use Rattle.s4_arena.specs.Linked.{IsEnds, Linked, Unlinked}
use Rattle.s4_arena.specs.Spans.{span_at, marks_of}
use Rattle.s4_arena.specs.Leaps.{AreLeaps, HasLeaps}
use Rattle.s4_arena.proofs.Changes.{items-chain}
use Rattle.s4_arena.proofs.Places.{length_stand}
use Rattle.s4_arena.proofs.Leaping.{pushed, dropped}

module _ {X : Type 0} where
  pub items_are : (cs : List (Ptr × Node X)) (c : ℕ) (e : Ends X) (h : IsEnds cs c e) → items_from cs e.oldest e.len ≡ h.0
  items_are cs c e h = ap (items_from cs e.oldest) (sym h.2) ∙ items-chain cs c h.0 None e.oldest e.newest h.1

  -- as many nodes lie somewhere as there are items
  pub as_many : (cs : List (Ptr × Node X)) (c : ℕ) (e : Ends X) → IsEnds cs c e → length (places_from cs e.oldest e.len) ≡ e.len
  as_many cs c e h = ap (λ n. length (places_from cs e.oldest n)) (sym h.2) ∙ length_stand cs c h.0 None e.oldest e.newest h.1 ∙ h.2

module _ {X : Type 0} where
  abbrev pub jump_ptr : Leap X → Ptr
  jump_ptr l = l.jump.ptr

  pub linked_leaps : (cs ds : List (Ptr × Node (Leap X))) (c : ℕ) (e f : Ends (Leap X)) (p : Link (Leap X)) (x : Leap X) → IsEnds cs c e → HasLeaps cs e → Linked cs ds c e f p x
      → (span_at e.first e.len ≤ e.len → slice_get (places_from cs e.oldest e.len) (e.len - span_at e.first e.len) ≡ Some x.jump.ptr) → HasLeaps ds f
  linked_leaps cs ds c e f p x h l k jump =
      let ps = places_from cs e.oldest e.len in let xs = items_from cs e.oldest e.len in
      let n : e.len ≡ length xs = sym (ap length (items_are cs c e h) ∙ h.2) in
      let now : IsEnds ds c f = (h.0 ++ x ∷ [], k.row h.0 h.1, omega (arith, length-append h.0 (x ∷ []), h.2, k.len)) in
      let items : xs ++ x ∷ [] ≡ items_from ds f.oldest f.len = ap (λ ys. ys ++ x ∷ []) (items_are cs c e h) ∙ sym (items_are ds c f now) in
      let stand : ps ++ p.ptr ∷ [] ≡ places_from ds f.oldest f.len = sym (k.stands h) in
      let new : AreLeaps jump_ptr e.first (ps ++ p.ptr ∷ []) (xs ++ x ∷ []) = pushed jump_ptr e.first ps xs p.ptr x (as_many cs c e h ∙ n) l.leaps (subst (λ m. span_at e.first m ≤ m → slice_get ps (m - span_at e.first m) ≡ Some x.jump.ptr) n jump) in
      record {
        small = omega (arith, l.small, k.first);
        forest = k.forest;
        leaps = subst (λ (k : ℕ × (List Ptr × List (Leap X))). AreLeaps jump_ptr k.0 k.1.0 k.1.1) (λ i. (sym k.first i, (stand i, items i))) new;
      }

  pub unlinked_leaps : (cs ds : List (Ptr × Node (Leap X))) (c : ℕ) (e f : Ends (Leap X)) (p : Link (Leap X)) (free : Option (Link (Leap X))) (o : Option (Leap X)) → IsEnds cs c e → HasLeaps cs e → Unlinked cs ds c e f p free o → HasLeaps ds f
  unlinked_leaps cs ds c e f p free o h l k =
      let ps = places_from cs e.oldest e.len in let xs = items_from cs e.oldest e.len in
      let now : IsEnds ds c f = (drop 1 h.0, (k.row h.0 h.1 h.2).0, omega (arith, length-drop 1 h.0, h.2, k.len)) in
      let items : drop 1 xs ≡ items_from ds f.oldest f.len = ap (drop 1) (items_are cs c e h) ∙ sym (items_are ds c f now) in
      let new : AreLeaps jump_ptr (min (e.first + 1) (2 ^ 64 - 1)) (drop 1 ps) (drop 1 xs) = dropped jump_ptr e.first ps xs l.small l.leaps in
      let same : min (e.first + e.len) (2 ^ 64 - 1) ≡ min (f.first + f.len) (2 ^ 64 - 1) = omega (arith, l.small, k.first, k.len) in
      record {
        small = omega (arith, l.small, k.first);
        forest = ap (λ t. t.bits) k.forest ∙ l.forest ∙ ap marks_of same;
        leaps = subst (λ (k : ℕ × (List Ptr × List (Leap X))). AreLeaps jump_ptr k.0 k.1.0 k.1.1) (λ i. (sym k.first i, (sym k.stand i, items i))) new;
      }
