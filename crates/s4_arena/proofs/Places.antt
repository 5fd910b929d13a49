-- Where the nodes of a chain lie, after a write into one node.
use Rattle.std.specs.Prelude.{◌≡◌, ℕ, zero, suc, ◌<◌, true, false, List, [], ◌∷◌, ◌++◌, length, Option, Some, None, refl}
use Rattle.std.proofs.Common.{sym, ap, ◌∙◌, subst, arith}
use denote.RawPtr.{Ptr}
use Rattle.s4_arena.specs.Cells.{same_ptr, look, put}
use Rattle.s4_arena.specs.declared.node.Link.{Link}
use Rattle.s4_arena.specs.declared.node.Node.{Node}
use Rattle.s4_arena.specs.Links.{node, IsChain, node_at, next_of, link_at, places_from, ptr_first}
use Rattle.s4_arena.proofs.Memory.{same_ptr_eq}
use Rattle.s4_arena.proofs.Changes.{look_put, look_apart, link_same, kept}

module _ {T : Type 0} where
  -- how many nodes of a chain there are from a link on
  chain_once : (cs : List (Ptr × Node T)) (c : ℕ) (xs ys : List T) (b d l last end : Option (Link T)) → IsChain cs c b l last xs → IsChain cs c d l end ys → length xs ≡ length ys
  chain_once cs c [] [] b d l last end g h = refl
  chain_once cs c [] (y ∷ ys) b d l last end g h = let u : None ≡ Some h.0 = sym g.0 ∙ h.2 in cc
  chain_once cs c (x ∷ xs) [] b d l last end g h = let u : Some g.0 ≡ None = sym g.2 ∙ h.0 in cc
  chain_once cs c (x ∷ xs) (y ∷ ys) b d l last end g h =
      let u : Some g.0 ≡ Some h.0 = sym g.2 ∙ h.2 in let p : g.0 ≡ h.0 = cc in
      let v : Some (node c b g.1 (Some x)) ≡ Some (node c d h.1 (Some y)) = sym g.3 ∙ ap (λ (r : Link T). look cs r.ptr) p ∙ h.3 in
      let w : node c b g.1 (Some x) ≡ node c d h.1 (Some y) = cc in
      let n : g.1 ≡ h.1 = ap (λ (k : Node T). k.next) w in
      ap suc (chain_once cs c xs ys (Some g.0) (Some h.0) h.1 last end (subst (λ (k : Option (Link T)). IsChain cs c (Some g.0) k last xs) n g.4) h.4)

  -- a chain's nodes lie as before where its first node and the later ones do
  pub stand_on : (cs ds : List (Ptr × Node T)) (c : ℕ) (b : Option (Link T)) (x : T) (xs : List T) (l last : Option (Link T)) (h : IsChain cs c b l last (x ∷ xs)) → look ds h.0.ptr ≡ look cs h.0.ptr
      → places_from ds h.1 (length xs) ≡ places_from cs h.1 (length xs) → places_from ds l (suc (length xs)) ≡ places_from cs l (suc (length xs))
  stand_on cs ds c b x xs l last h same rest =
      let before : node_at cs l ≡ Some (node c b h.1 (Some x)) = ap (node_at cs) h.2 ∙ h.3 in
      let after : node_at ds l ≡ Some (node c b h.1 (Some x)) = ap (node_at ds) h.2 ∙ same ∙ h.3 in
      ap (λ (o : Option (Node T)). ptr_first l (places_from ds (next_of o) (length xs))) after ∙ ap (ptr_first l) rest
      ∙ sym (ap (λ (o : Option (Node T)). ptr_first l (places_from cs (next_of o) (length xs))) before)

  -- a chain stays where its nodes do
  module _ (cs ds : List (Ptr × Node T)) (c : ℕ) (stay : (p : Ptr) (prev next : Option (Link T)) (x : T) → look cs p ≡ Some (node c prev next (Some x)) → look ds p ≡ Some (node c prev next (Some x))) where
    pub chain_stays : (xs : List T) (b l last : Option (Link T)) → IsChain cs c b l last xs → IsChain ds c b l last xs
    chain_stays [] b l last h = h
    chain_stays (x ∷ xs) b l last h = (h.0, h.1, h.2, stay h.0.ptr b h.1 x h.3, chain_stays xs (Some h.0) h.1 last h.4)

    pub stands_still : (xs : List T) (b l last : Option (Link T)) → IsChain cs c b l last xs → places_from ds l (length xs) ≡ places_from cs l (length xs)
    stands_still [] b l last h = refl
    stands_still (x ∷ xs) b l last h = stand_on cs ds c b x xs l last h (stay h.0.ptr b h.1 x h.3 ∙ sym h.3) (stands_still xs (Some h.0) h.1 last h.4)

  -- as many nodes lie somewhere as there are
  pub length_stand : (cs : List (Ptr × Node T)) (c : ℕ) (xs : List T) (b l last : Option (Link T)) → IsChain cs c b l last xs → length (places_from cs l (length xs)) ≡ length xs
  length_stand cs c [] b l last h = refl
  length_stand cs c (x ∷ xs) b l last h =
      let a : node_at cs l ≡ Some (node c b h.1 (Some x)) = ap (node_at cs) h.2 ∙ h.3 in
      ap (λ (k : Option (Link T)). length (ptr_first k (places_from cs (next_of (node_at cs l)) (length xs)))) h.2
      ∙ ap (λ (k : Option (Node T)). suc (length (places_from cs (next_of k) (length xs)))) a ∙ ap suc (length_stand cs c xs (Some h.0) h.1 last h.4)

  module _ (cs : List (Ptr × Node T)) (c : ℕ) (p : Link T) (w : Node T) (d end : Option (Link T)) (ys : List T) (tail : IsChain cs c d (Some p) end ys) where
    -- a node with another number of nodes after it is another node
    pub apart : (xs : List T) (b l last : Option (Link T)) (q : Link T) → IsChain cs c b l last xs → l ≡ Some q → (length xs ≡ length ys → ⊥) → look (put cs p.ptr w) q.ptr ≡ look cs q.ptr
    apart xs b l last q h is n = look_apart cs q.ptr p.ptr w (λ s.
        let same : q ≡ p = link_same q p s in
        n (chain_once cs c xs ys b d (Some p) last end (subst (λ (k : Option (Link T)). IsChain cs c b k last xs) (is ∙ ap Some same) h) tail))

    pub after_kept : (xs : List T) (b l last : Option (Link T)) → length xs < length ys → IsChain cs c b l last xs → IsChain (put cs p.ptr w) c b l last xs
    after_kept [] b l last n h = h
    after_kept (x ∷ xs) b l last n h =
        (h.0, h.1, h.2, apart (x ∷ xs) b l last h.0 h h.2 (λ e. let m : length (x ∷ xs) ≡ length ys = e in absurd (omega arith)) ∙ h.3, after_kept xs (Some h.0) h.1 last (omega (arith, n)) h.4)

    -- nor do the nodes after it move
    pub after_stand : (xs : List T) (b l last : Option (Link T)) → length xs < length ys → IsChain cs c b l last xs → places_from (put cs p.ptr w) l (length xs) ≡ places_from cs l (length xs)
    after_stand [] b l last n h = refl
    after_stand (x ∷ xs) b l last n h = stand_on cs (put cs p.ptr w) c b x xs l last h (apart (x ∷ xs) b l last h.0 h h.2 (λ e. let m : length (x ∷ xs) ≡ length ys = e in absurd (omega arith))) (after_stand xs (Some h.0) h.1 last (omega (arith, n)) h.4)

  pub next_kept : (cs : List (Ptr × Node T)) (p : Ptr) (m w : Node T) → look cs p ≡ Some m → w.next ≡ m.next → (l : Option (Link T)) → next_of (node_at (put cs p w) l) ≡ next_of (node_at cs l)
  next_kept cs p m w e n None = refl
  next_kept cs p m w e n (Some q) = elim (same_ptr q.ptr p) as (λ b. same_ptr q.ptr p ≡ b → next_of (look (put cs p w) q.ptr) ≡ next_of (look cs q.ptr)) [
    | true ↦ λ s. let same : q.ptr ≡ p = same_ptr_eq q.ptr p s in
        ap (λ r. next_of (look (put cs p w) r)) same ∙ ap next_of (look_put cs p m w e) ∙ n ∙ sym (ap next_of e) ∙ sym (ap (λ r. next_of (look cs r)) same)
    | false ↦ λ s. ap next_of (look_apart cs q.ptr p w (λ t. let u : true ≡ false = sym t ∙ s in cc))
  ] refl

  pub places_kept : (cs ds : List (Ptr × Node T)) → ((l : Option (Link T)) → next_of (node_at ds l) ≡ next_of (node_at cs l)) → (n : ℕ) (l : Option (Link T)) → places_from ds l n ≡ places_from cs l n
  places_kept cs ds same zero l = refl
  places_kept cs ds same (suc n) l = ap (λ (k : Option (Link T)). ptr_first l (places_from ds k n)) (same l) ∙ ap (ptr_first l) (places_kept cs ds same n (next_of (node_at cs l)))

  no_link : (cs : List (Ptr × Node T)) (n : ℕ) → link_at cs None n ≡ None
  no_link cs zero = refl
  no_link cs (suc n) = no_link cs n

  -- the place of one node more
  pub places_more : (cs : List (Ptr × Node T)) (n : ℕ) (l : Option (Link T)) → places_from cs l (suc n) ≡ places_from cs l n ++ ptr_first (link_at cs l n) []
  places_more cs zero l = refl
  places_more cs (suc n) None = ap (λ (k : Option (Link T)). ptr_first k []) (sym (no_link cs n))
  places_more cs (suc n) (Some p) = ap (λ ps. p.ptr ∷ ps) (places_more cs n (next_of (look cs p.ptr)))

  -- the node p comes to a chain whose newest one is q
  module _ (cs : List (Ptr × Node T)) (c : ℕ) (p : Link T) (m w : Node T) (found : look cs p.ptr ≡ Some m) (none : m.item ≡ None) (q : Link T) (end v : Node T) (there : look (put cs p.ptr w) q.ptr ≡ Some end) (last : end.next ≡ None) where
    pub linked_stand : (xs : List T) (b l newest : Option (Link T)) → IsChain cs c b l newest xs → places_from (put (put cs p.ptr w) q.ptr v) l (length xs) ≡ places_from cs l (length xs)
    linked_stand [] b l newest h = refl
    linked_stand (x ∷ []) b l newest h = refl
    linked_stand (x ∷ y ∷ xs) b l newest h =
        let a = node c b h.1 (Some x) in
        let past : look (put cs p.ptr w) h.0.ptr ≡ Some a = kept cs h.0.ptr p.ptr a m w h.3 found (λ s. let u : Some x ≡ None = ap (λ (k : Node T). k.item) s ∙ none in cc) in
        let stays : look (put (put cs p.ptr w) q.ptr v) h.0.ptr ≡ Some a = kept (put cs p.ptr w) h.0.ptr q.ptr a end v past there (λ s. let u : Some h.4.0 ≡ None = sym h.4.2 ∙ ap (λ (k : Node T). k.next) s ∙ last in cc) in
        stand_on cs (put (put cs p.ptr w) q.ptr v) c b x (y ∷ xs) l newest h (stays ∙ sym h.3) (linked_stand (y ∷ xs) (Some h.0) h.1 newest h.4)
