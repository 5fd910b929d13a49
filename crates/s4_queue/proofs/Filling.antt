-- Blocks that are filled in a row: what they hold, as items are put, taken and changed.
use Rattle.std.proofs.Common.{◌≡◌, ℕ, zero, suc, ◌+◌, ◌-◌, ◌<◌, ◌≤◌, List, [], ◌∷◌, ◌++◌, refl, sym, ◌∙◌, ap, subst, arith, length, get_or, set, take, drop, append_assoc, append-nil, length-append}
use Rattle.std.specs.declared.collections.VecDeque.{VecDeque}
use Rattle.std.specs.VecDeque.{deque_len, deque_capacity}
use Rattle.std.proofs.lemmas.List.{flat_map_more, nil_from_length, set-append_left, set-append_right, get_or_append_left, get_or-append_right}
use Rattle.s4_queue.specs.Blocks.{AreFilled, LiesAt, items_of}

module _ {T A : Type 0} where
  -- they hold so many items
  pub length_of : (taken len : ℕ) (bs : List (VecDeque T A)) → AreFilled taken len bs → length (items_of bs) ≡ len
  length_of taken len [] f = sym f
  length_of taken len (b ∷ bs) f =
      let here = b.ok.0 in
      let rest = length_of 0 (len - (64 - taken)) bs f.2 in
      length-append b.items (items_of bs) ∙ omega arith

  items-none : (taken len : ℕ) (bs : List (VecDeque T A)) → AreFilled taken len bs → len ≡ 0 → items_of bs ≡ []
  items-none taken len bs f e = nil_from_length (items_of bs) (length_of taken len bs f ∙ e)

  filled-as : (len more : ℕ) (bs : List (VecDeque T A)) → len ≡ more → AreFilled 0 len bs → AreFilled 0 more bs
  filled-as len more bs e f = subst (λ (n : ℕ). AreFilled 0 n bs) e f

  -- ONE BLOCK MORE

  pub filled_more : (taken len : ℕ) (bs : List (VecDeque T A)) (b : VecDeque T A) → deque_len b ≡ 0 → 64 ≤ deque_capacity b → AreFilled taken len bs → AreFilled taken len (bs ++ b ∷ [])
  filled_more taken len [] b e c f = (omega arith, c, omega arith)
  filled_more taken len (x ∷ bs) b e c f = (f.0, f.1, filled_more 0 (len - (64 - taken)) bs b e c f.2)

  items-more : (bs : List (VecDeque T A)) (b : VecDeque T A) → items_of (bs ++ b ∷ []) ≡ items_of bs ++ b.items
  items-more bs b = sym (flat_map_more (λ (x : VecDeque T A). x.items) [] bs b)

  pub items_still : (bs : List (VecDeque T A)) (b : VecDeque T A) → deque_len b ≡ 0 → items_of (bs ++ b ∷ []) ≡ items_of bs
  items_still bs b e = items-more bs b ∙ ap (λ ys. items_of bs ++ ys) (nil_from_length b.items (sym b.ok.0 ∙ e)) ∙ append-nil (items_of bs)

  -- ONE ITEM MORE

  -- its block has room
  pub open_at : (taken len k r : ℕ) (bs : List (VecDeque T A)) (d : VecDeque T A) → taken ≤ 64 → AreFilled taken len bs → LiesAt taken len k r → k < length bs → deque_len (get_or bs k d) < deque_capacity (get_or bs k d)
  open_at taken len k r [] d t f at l = absurd (omega arith)
  open_at taken len zero r (b ∷ bs) d t f at l = let g = f.0 in let c = f.1 in omega arith
  open_at taken len (suc k) r (b ∷ bs) d t f at l =
      open_at 0 (len - (64 - taken)) k r bs d (omega arith) f.2 (subst (λ (n : ℕ). LiesAt 0 n k r) (omega arith) at.1) (omega arith)

  -- a block with an item more
  pub record Puts (old : VecDeque T A) (x : T) (new : VecDeque T A) : Type 0 where
    pub items : new.items ≡ old.items ++ x ∷ []
    pub len : deque_len new ≡ deque_len old + 1
    pub capacity : deque_capacity new ≡ deque_capacity old

  pub filled_put : (taken len k r : ℕ) (bs : List (VecDeque T A)) (d new : VecDeque T A) (x : T) → taken ≤ 64 → AreFilled taken len bs → LiesAt taken len k r → k < length bs → Puts (get_or bs k d) x new → AreFilled taken (len + 1) (set bs k new)
  filled_put taken len k r [] d new x t f at l p = absurd (omega arith)
  filled_put taken len zero r (b ∷ bs) d new x t f at l p =
      let g = f.0 in let c = f.1 in
      (omega arith, omega arith, filled-as (len - (64 - taken)) (len + 1 - (64 - taken)) bs (omega arith) f.2)
  filled_put taken len (suc k) r (b ∷ bs) d new x t f at l p =
      let g = f.0 in
      let rest = filled_put 0 (len - (64 - taken)) k r bs d new x (omega arith) f.2 (subst (λ (n : ℕ). LiesAt 0 n k r) (omega arith) at.1) (omega arith) p in
      (omega arith, f.1, filled-as (len - (64 - taken) + 1) (len + 1 - (64 - taken)) (set bs k new) (omega arith) rest)

  pub items_put : (taken len k r : ℕ) (bs : List (VecDeque T A)) (d new : VecDeque T A) (x : T) → taken ≤ 64 → AreFilled taken len bs → LiesAt taken len k r → k < length bs → Puts (get_or bs k d) x new → items_of (set bs k new) ≡ items_of bs ++ x ∷ []
  items_put taken len k r [] d new x t f at l p = absurd (omega arith)
  items_put taken len zero r (b ∷ bs) d new x t f at l p =
      let none = items-none 0 (len - (64 - taken)) bs f.2 (omega arith) in
      ap (λ ys. new.items ++ ys) none ∙ append-nil new.items ∙ p.items ∙ ap (λ ys. ys ++ x ∷ []) (sym (append-nil b.items) ∙ ap (λ ys. b.items ++ ys) (sym none))
  items_put taken len (suc k) r (b ∷ bs) d new x t f at l p =
      ap (λ ys. b.items ++ ys) (items_put 0 (len - (64 - taken)) k r bs d new x (omega arith) f.2 (subst (λ (n : ℕ). LiesAt 0 n k r) (omega arith) at.1) (omega arith) p)
      ∙ sym (append_assoc b.items (items_of bs) (x ∷ []))

  -- ONE ITEM

  -- it lies in one of the blocks, within that
  pub within_at : (taken len index k r : ℕ) (bs : List (VecDeque T A)) (d : VecDeque T A) → taken ≤ 64 → AreFilled taken len bs → LiesAt taken index k r → index < len → (k < length bs) × (r < deque_len (get_or bs k d))
  within_at taken len index k r [] d t f at l = absurd (omega arith)
  within_at taken len index zero r (b ∷ bs) d t f at l = let g = f.0 in (omega arith, omega arith)
  within_at taken len index (suc k) r (b ∷ bs) d t f at l =
      let rest = within_at 0 (len - (64 - taken)) (taken + index - 64) k r bs d (omega arith) f.2 at.1 (omega arith) in
      (omega arith, rest.1)

  pub read_at : (taken len index k r : ℕ) (bs : List (VecDeque T A)) (d : VecDeque T A) (e : T) → taken ≤ 64 → AreFilled taken len bs → LiesAt taken index k r → index < len → get_or (items_of bs) index e ≡ get_or (get_or bs k d).items r e
  read_at taken len index k r [] d e t f at l = absurd (omega arith)
  read_at taken len index zero r (b ∷ bs) d e t f at l =
      let g = f.0 in let here = b.ok.0 in
      get_or_append_left b.items (items_of bs) e index (omega arith) ∙ ap (λ n. get_or b.items n e) (sym at.1)
  read_at taken len index (suc k) r (b ∷ bs) d e t f at l =
      let g = f.0 in let here = b.ok.0 in
      get_or-append_right b.items (items_of bs) (64 - taken) index e (omega arith) (omega arith)
      ∙ ap (λ n. get_or (items_of bs) n e) (omega arith)
      ∙ read_at 0 (len - (64 - taken)) (taken + index - 64) k r bs d e (omega arith) f.2 at.1 (omega arith)

  -- a block with another item at the place
  pub record Sets (old : VecDeque T A) (r : ℕ) (x : T) (new : VecDeque T A) : Type 0 where
    pub items : new.items ≡ set old.items r x
    pub len : deque_len new ≡ deque_len old
    pub capacity : deque_capacity new ≡ deque_capacity old

  pub filled_set : (taken len k r : ℕ) (bs : List (VecDeque T A)) (d new : VecDeque T A) (x : T) → AreFilled taken len bs → Sets (get_or bs k d) r x new → AreFilled taken len (set bs k new)
  filled_set taken len k r [] d new x f s = f
  filled_set taken len zero r (b ∷ bs) d new x f s = (s.len ∙ f.0, let c = f.1 in omega arith, f.2)
  filled_set taken len (suc k) r (b ∷ bs) d new x f s = (f.0, f.1, filled_set 0 (len - (64 - taken)) k r bs d new x f.2 s)

  pub items_set : (taken len index k r : ℕ) (bs : List (VecDeque T A)) (d new : VecDeque T A) (x : T) → taken ≤ 64 → AreFilled taken len bs → LiesAt taken index k r → index < len → Sets (get_or bs k d) r x new → items_of (set bs k new) ≡ set (items_of bs) index x
  items_set taken len index k r [] d new x t f at l s = absurd (omega arith)
  items_set taken len index zero r (b ∷ bs) d new x t f at l s =
      let g = f.0 in let here = b.ok.0 in
      ap (λ ys. ys ++ items_of bs) (s.items ∙ ap (λ n. set b.items n x) at.1) ∙ sym (set-append_left b.items (items_of bs) index x (omega arith))
  items_set taken len index (suc k) r (b ∷ bs) d new x t f at l s =
      let g = f.0 in let here = b.ok.0 in
      ap (λ ys. b.items ++ ys) (items_set 0 (len - (64 - taken)) (taken + index - 64) k r bs d new x (omega arith) f.2 at.1 (omega arith) s
      ∙ ap (λ n. set (items_of bs) n x) (omega arith))
      ∙ sym (set-append_right b.items (items_of bs) (64 - taken) index x (omega arith) (omega arith))

  -- ONE ITEM LESS

  -- a block without its first item
  pub record Pops (old : VecDeque T A) (x : T) (new : VecDeque T A) : Type 0 where
    pub items : old.items ≡ x ∷ new.items
    pub len : deque_len new + 1 ≡ deque_len old
    pub capacity : deque_capacity new ≡ deque_capacity old

  pub any_first : (taken len : ℕ) (bs : List (VecDeque T A)) (d : VecDeque T A) → taken < 64 → 0 < len → AreFilled taken len bs → (0 < length bs) × (0 < deque_len (get_or bs 0 d))
  any_first taken len [] d t l f = absurd (omega arith)
  any_first taken len (b ∷ bs) d t l f = let g = f.0 in (omega arith, omega arith)

  pub filled_pop : (taken len : ℕ) (bs : List (VecDeque T A)) (d new : VecDeque T A) (x : T) → taken < 64 → 0 < len → AreFilled taken len bs → Pops (get_or bs 0 d) x new → AreFilled (taken + 1) (len - 1) (set bs 0 new)
  filled_pop taken len [] d new x t l f p = absurd (omega arith)
  filled_pop taken len (b ∷ bs) d new x t l f p =
      let g = f.0 in let c = f.1 in
      (omega arith, omega arith, filled-as (len - (64 - taken)) (len - 1 - (64 - (taken + 1))) bs (omega arith) f.2)

  pub items_pop : (taken len : ℕ) (bs : List (VecDeque T A)) (d new : VecDeque T A) (x : T) → 0 < length bs → Pops (get_or bs 0 d) x new → items_of bs ≡ x ∷ items_of (set bs 0 new)
  items_pop taken len [] d new x l p = absurd (omega arith)
  items_pop taken len (b ∷ bs) d new x l p = ap (λ ys. ys ++ items_of bs) p.items

  -- the first block, once all its places are given up, becomes the last
  pub filled_turned : (len : ℕ) (bs : List (VecDeque T A)) → AreFilled 64 len bs → AreFilled 0 len (drop 1 bs ++ take 1 bs)
  filled_turned len [] f = f
  filled_turned len (b ∷ bs) f = let g = f.0 in filled_more 0 len bs b (omega arith) f.1 (filled-as (len - (64 - 64)) len bs (omega arith) f.2)

  pub items_turned : (len : ℕ) (bs : List (VecDeque T A)) → AreFilled 64 len bs → items_of (drop 1 bs ++ take 1 bs) ≡ items_of bs
  items_turned len [] f = refl
  items_turned len (b ∷ bs) f =
      let g = f.0 in
      let empty : deque_len b ≡ 0 = omega arith in
      items_still bs b empty ∙ ap (λ ys. ys ++ items_of bs) (sym (nil_from_length b.items (sym b.ok.0 ∙ empty)))
