-- The fields of a queue, as items are put, taken and changed.
use Rattle.std.proofs.Common.{◌≡◌, ℕ, ◌+◌, ◌-◌, ◌<◌, List, [], ◌∷◌, ◌++◌, sym, ◌∙◌, ap, subst, refl, arith, length, get_or, set, take, drop, length-set, length-append, length-take, length-drop, Bor}
use Rattle.std.specs.Prelude.{◌↔◌, Option, Some, None, IsSome, IfSome, slice_get}
use Rattle.std.specs.Option.{option_copied, option_to_list}
use Rattle.std.proofs.lemmas.List.{nil_from_length}
use Rattle.std.proofs.lemmas.Bool.{false≢true}
use Rattle.std.proofs.lemmas.Option.{slice_get-get_or}
use Rattle.std.specs.declared.collections.VecDeque.{VecDeque}
use Rattle.std.specs.VecDeque.{deque_len, deque_capacity}
use Rattle.s4_queue.specs.Blocks.{AreFilled, LiesAt, IsLaid, items_of}
use Rattle.s4_queue.specs.Contents.{Contents}
use Rattle.s4_queue.proofs.Placing.{lies_below}
use Rattle.s4_queue.proofs.Filling.{length_of, within_at, read_at, Puts, Sets, Pops, open_at, filled_put, items_put, filled_set, items_set, any_first, filled_pop, items_pop, filled_turned, items_turned}

abbrev pub shown : {T : Type 0} → List T → ℕ → Contents T
shown items room = record { items = items; room = room }

module _ {T A : Type 0} {bs : List (VecDeque T A)} {taken len room : ℕ} (laid : IsLaid bs taken len room) where
  -- its block is one of them
  pub below_lies : (index k r : ℕ) → LiesAt taken index k r → index < len → k < length bs
  below_lies index k r at l = lies_below taken index k r (length bs) at (let begun = laid.begun in let fits = laid.fits in omega arith)

  -- AN ITEM MORE
  module _ (k r : ℕ) (at : LiesAt taken len k r) (some : 0 < room) where
    pub below_put : k < length bs
    below_put = lies_below taken len k r (length bs) at (let begun = laid.begun in let fits = laid.fits in omega arith)

    module _ (old : VecDeque T A) (e : old ≡ get_or bs k old) where
      pub open_put : deque_len old < deque_capacity old
      open_put = subst (λ (b : VecDeque T A). deque_len b < deque_capacity b) (sym e) (open_at taken len k r bs old (let begun = laid.begun in omega arith) laid.filled at below_put)

      module _ (new : VecDeque T A) (x : T) (p : Puts old x new) where
        there : Puts (get_or bs k old) x new
        there = subst (λ (b : VecDeque T A). Puts b x new) e p

        pub laid_put : IsLaid (set bs k new) taken (len + 1) (room - 1)
        laid_put =
            let begun = laid.begun in let fits = laid.fits in let few = laid.few in
            record {
              begun = laid.begun;
              filled = filled_put taken len k r bs old new x (omega arith) laid.filled at below_put there;
              fits = omega (arith, length-set bs k new);
              few = omega arith;
            }

        pub items_with : items_of (set bs k new) ≡ items_of bs ++ x ∷ []
        items_with = items_put taken len k r bs old new x (let begun = laid.begun in omega arith) laid.filled at below_put there

  -- ANOTHER ITEM
  module _ (k r : ℕ) (old new : VecDeque T A) (x : T) (e : old ≡ get_or bs k old) (s : Sets old r x new) where
    set-there : Sets (get_or bs k old) r x new
    set-there = subst (λ (b : VecDeque T A). Sets b r x new) e s

    pub laid_set : IsLaid (set bs k new) taken len room
    laid_set =
        let fits = laid.fits in
        record {
          begun = laid.begun;
          filled = filled_set taken len k r bs old new x laid.filled set-there;
          fits = omega (arith, length-set bs k new);
          few = laid.few;
        }

    pub items_changed : (index : ℕ) → LiesAt taken index k r → index < len → items_of (set bs k new) ≡ set (items_of bs) index x
    items_changed index at l = items_set taken len index k r bs old new x (let begun = laid.begun in omega arith) laid.filled at l set-there

  -- AN ITEM LESS
  pub any_there : 0 < len → (old : VecDeque T A) → old ≡ get_or bs 0 old → 0 < deque_len old
  any_there some old e = subst (λ (b : VecDeque T A). 0 < deque_len b) (sym e) (any_first taken len bs old laid.begun some laid.filled).1

  module _ (some : 0 < len) (old new : VecDeque T A) (x : T) (e : old ≡ get_or bs 0 old) (p : Pops old x new) where
    pop-there : Pops (get_or bs 0 old) x new
    pop-there = subst (λ (b : VecDeque T A). Pops b x new) e p

    filled-popped : AreFilled (taken + 1) (len - 1) (set bs 0 new)
    filled-popped = filled_pop taken len bs old new x laid.begun some laid.filled pop-there

    pub laid_pop : taken + 1 < 64 → IsLaid (set bs 0 new) (taken + 1) (len - 1) (room + 1)
    laid_pop l =
        let fits = laid.fits in let few = laid.few in
        record { begun = l; filled = filled-popped; fits = omega (arith, length-set bs 0 new); few = omega arith }

    pub items_popped : items_of bs ≡ x ∷ items_of (set bs 0 new)
    items_popped = items_pop taken len bs old new x (any_first taken len bs old laid.begun some laid.filled).0 pop-there

    module _ (last : taken + 1 ≡ 64) (turned : List (VecDeque T A)) (is : turned ≡ drop 1 (set bs 0 new) ++ take 1 (set bs 0 new)) where
      filled-last : AreFilled 64 (len - 1) (set bs 0 new)
      filled-last = subst (λ (n : ℕ). AreFilled n (len - 1) (set bs 0 new)) last filled-popped

      pub laid_turned : IsLaid turned 0 (len - 1) (room + 1)
      laid_turned =
          let fits = laid.fits in let few = laid.few in
          let long = ap length is ∙ length-append (drop 1 (set bs 0 new)) (take 1 (set bs 0 new)) in
          record {
            begun = omega arith;
            filled = subst (AreFilled 0 (len - 1)) (sym is) (filled_turned (len - 1) (set bs 0 new) filled-last);
            fits = omega (arith, length-set bs 0 new, length-take 1 (set bs 0 new), length-drop 1 (set bs 0 new));
            few = omega arith;
          }

      pub items_behind : items_of bs ≡ x ∷ items_of turned
      items_behind = items_popped ∙ ap (λ ys. x ∷ ys) (sym (ap items_of is ∙ items_turned (len - 1) (set bs 0 new) filled-last))

  -- AS CALLERS SEE IT
  module _ (q : Contents T) (is : shown (items_of bs) room ≡ q) where
    pub items_seen : items_of bs ≡ q.items
    items_seen = ap (λ (d : Contents T). d.items) is

    pub room_seen : room ≡ q.room
    room_seen = ap (λ (d : Contents T). d.room) is

    pub len_seen : len ≡ length q.items
    len_seen = sym (length_of taken len bs laid.filled) ∙ ap length items_seen

    pub some_seen : 0 < q.room → 0 < room
    some_seen l = subst (λ (n : ℕ). 0 < n) (sym room_seen) l

    pub within_seen : (index : ℕ) → index < length q.items → index < len
    within_seen index l = subst (λ (n : ℕ). index < n) (sym len_seen) l

    pub nothing_seen : len ≡ 0 → q.items ≡ []
    nothing_seen e = nil_from_length q.items (sym len_seen ∙ e)

    -- an item that is asked for is one of its block
    module _ (index k r : ℕ) (at : LiesAt taken index k r) (l : index < len) (old : VecDeque T A) (e : old ≡ get_or bs k old) where
      within-block : r < deque_len old
      within-block =
          subst (λ (b : VecDeque T A). r < deque_len b) (sym e) (within_at taken len index k r bs old (let begun = laid.begun in omega arith) laid.filled at l).1

      read-there : (d : T) → get_or old.items r d ≡ get_or q.items index d
      read-there d =
          ap (λ (b : VecDeque T A). get_or b.items r d) e ∙ sym (read_at taken len index k r bs old d (let begun = laid.begun in omega arith) laid.filled at l)
          ∙ ap (λ ys. get_or ys index d) items_seen

      pub item_seen : (got : Option (Bor T)) → (IsSome got ↔ (r < deque_len old)) → IfSome got (λ b. b.now ≡ get_or old.items r b.now) → option_copied got ≡ slice_get q.items index
      item_seen None some here = absurd (false≢true (some.1 within-block))
      item_seen (Some b) some here =
          ap Some (here ∙ read-there b.now) ∙ sym (slice_get-get_or q.items index b.now (let long = len_seen in omega arith))

-- what a block gave is its first item
pub popped : {T A : Type 0} (old new : VecDeque T A) → 0 < deque_len old → (got : Option T) → (IsSome got ↔ (0 < deque_len old))
    → old.items ≡ option_to_list got ++ new.items → deque_len new + length (option_to_list got) ≡ deque_len old → deque_capacity new ≡ deque_capacity old
    → (x : T) × (got ≡ Some x) × Pops old x new
popped old new any None some items len capacity = absurd (false≢true (some.1 any))
popped old new any (Some x) some items len capacity = (x, refl, record { items = items; len = len; capacity = capacity })

-- no block, and no item
pub laid_none : {T A : Type 0} (bs : List (VecDeque T A)) → bs ≡ [] → IsLaid bs 0 0 0
laid_none [] e = record { begun = omega arith; filled = refl; fits = omega arith; few = omega arith }
laid_none (b ∷ bs) e = absurd cc
