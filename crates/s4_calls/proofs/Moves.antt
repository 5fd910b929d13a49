-- Each step keeps the tokens balanced.
use Rattle.std.proofs.Common.{◌≡◌, ◌≢◌, ℕ, zero, suc, ◌+◌, ◌-◌, ◌<◌, ◌≤◌, ◌%◌, ◌==◌, ◌&&◌, ◌||◌, nat_le, nat_lt, Bool, true, false, List, [], ◌∷◌, ◌++◌, length, filter, set, append_assoc, sym, ap, ◌∙◌, refl, subst, ⊎_elim, arith, cond, ne_eqb}
use Rattle.std.specs.Prelude.{IsPermutation, Option, None, Some}
use Rattle.std.proofs.lemmas.Bool.Decides.{nat_tests}
use Rattle.std.proofs.lemmas.List.{set_comm, append-nil, map-append}
use Rattle.std.proofs.lemmas.List.Sorted.{IsPermutation-refl, IsPermutation-sym, IsPermutation-trans, IsPermutation-append_right, IsPermutation-to_front}
use mathlib.Core.Option.{some, some-injective, some-ne-none}
use lib.ListN.{get_elem?}
use Rattle.atomic_table.specs.Table.{State, Me, keeps, Allows, Splits, Joins}
use Rattle.atomic_table.proofs.Lists.{at_set, set_again, set_else}
use Rattle.s4_calls.specs.declared.hand.Hand.{Hand}
use Rattle.s4_calls.specs.declared.hand.Noted.{Noted}
use Rattle.s4_calls.specs.Logs.{noted, items_of, IsSublist, IsPrefix, is_in, home, items_in, ArePlaced}
use Rattle.s4_calls.specs.Hands.{total, flat, hand, parts_of, shares_of, owns, owners, calls_of, HaveParts, AreBareWithoutParts, first, rest, with_item, with_call, noted_by, noted_in, told_in, widen, place_in, widened, told_to_all, cell_cut, left_by_cell, pass_cut, left_by_pass, reader_cut, followed}
use Rattle.s4_calls.specs.Rule.{AreSublists, HaveItems, HavePrefixes, IsLinearized, Balanced}
use Rattle.s4_calls.specs.Tokens.{CanCutCell, CanCutPass, CanNoteItem, CanNote, CanFollow, SecondIsPrefix, IsRow, ToldIs}
use Rattle.s4_calls.proofs.Flats.{total_set, total_append, flat_append, past, mid, flat_set, flat_loses, flat_split, each_append, each_then, AreAll, all_set, all_anew, all_push, bare_none, no_shares, no_calls, alone, alone_total, elsewhere, there, sublist_on, sublist_last}
use Rattle.s4_calls.proofs.Prefixes.{prefix_of_all, prefix_of_itself, prefix_on}

module _ {T : Type 0} (is_wide : T → Bool) (range : T → ℕ) (n : ℕ) where
  -- the items of a cell, of a log that goes on
  abbrev Of : ℕ → List (Noted T) → List T
  Of k log = items_in is_wide range n k (items_of log)

  filter_push : (p : T → Bool) (xs : List T) (x : T) → filter p (xs ++ x ∷ []) ≡ filter p xs ++ cond (p x) (x ∷ []) []
  filter_push p [] x = refl
  filter_push p (y ∷ xs) x = more (p y) _ _ _ (filter_push p xs x)
    where
      more : (b : Bool) (l m e : List T) → l ≡ m ++ e → cond b (y ∷ l) l ≡ cond b (y ∷ m) m ++ e
      more true l m e p = ap (λ l. y ∷ l) p
      more false l m e p = p

  items_push : (log : List (Noted T)) (c : Noted T) → items_of (log ++ c ∷ []) ≡ items_of log ++ c.item ∷ []
  items_push log c = map-append (λ (c : Noted T). c.item) log (c ∷ [])

  of_push : (k : ℕ) (log : List (Noted T)) (c : Noted T) → Of k (log ++ c ∷ []) ≡ Of k log ++ cond (is_in is_wide range n k c.item) (c.item ∷ []) []
  of_push k log c = ap (λ l. items_in is_wide range n k l) (items_push log c) ∙ filter_push (is_in is_wide range n k) (items_of log) c.item

  of_this : (k : ℕ) (log : List (Noted T)) (c : Noted T) → is_in is_wide range n k c.item ≡ true → Of k (log ++ c ∷ []) ≡ Of k log ++ c.item ∷ []
  of_this k log c e = of_push k log c ∙ ap (λ (b : Bool). Of k log ++ cond b (c.item ∷ []) []) e

  of_other : (k : ℕ) (log : List (Noted T)) (c : Noted T) → is_in is_wide range n k c.item ≡ false → Of k (log ++ c ∷ []) ≡ Of k log
  of_other k log c e = of_push k log c ∙ (ap (λ (b : Bool). Of k log ++ cond b (c.item ∷ []) []) e ∙ append-nil _)

  placed_push : (done : List T) (log : List (Noted T)) (c : Noted T) → ArePlaced is_wide range n done log → c.cell ≡ home is_wide range n c.item
      → c.place ≡ length (items_in is_wide range n c.cell (done ++ items_of log)) → ArePlaced is_wide range n done (log ++ c ∷ [])
  placed_push done [] c p cell place = (cell, place ∙ ap (λ l. length (items_in is_wide range n c.cell l)) (append-nil done), tt)
  placed_push done (d ∷ log) c p cell place = (p.0, p.1, placed_push (done ++ d.item ∷ []) log c p.2 cell (place ∙ ap (λ l. length (items_in is_wide range n c.cell l)) (sym (append_assoc done (d.item ∷ []) (items_of log)))))

  in_range : (k : ℕ) (h : Hand T) → h.cell ≤ k → k < h.cell + h.shares → owns k h ≡ 1
  in_range k h from to = both _ _ (le_yes h.cell k from) (lt_yes k (h.cell + h.shares) to)
    where
      le_yes : (a b : ℕ) → a ≤ b → nat_le a b ≡ true
      le_yes a b p = grind (arith, nat_tests)

      lt_yes : (a b : ℕ) → a < b → nat_lt a b ≡ true
      lt_yes a b p = grind (arith, nat_tests)

      one : ℕ
      one = 1

      both : (a b : Bool) → a ≡ true → b ≡ true → cond (a && b) one 0 ≡ one
      both a b p q = ap (λ (a : Bool). cond (a && b) one 0) p ∙ ap (λ (b : Bool). cond (true && b) one 0) q

  -- an ordinary item of a cell that these hands don't stand for changes nothing of what they know
  keep_items : (cell : ℕ) (log : List (Noted T)) (c : Noted T) (hands : List (Hand T)) → is_wide c.item ≡ false → range c.item % n ≡ cell → owners cell hands ≡ 0 → HaveItems is_wide range n log hands → HaveItems is_wide range n (log ++ c ∷ []) hands
  keep_items cell log c [] own here none all = tt
  keep_items cell log c (h ∷ hands) own here none all = (
    (λ k from to. all.0 k from to ∙ sym (of_other k log c (not_in k (λ same. absurd (omega (arith, none, subst (λ (j : ℕ). owns j h ≡ 1) same (in_range k h from to))))))),
    keep_items cell log c hands own here (omega (arith, none)) all.1,
  )
    where
      not_in : (k : ℕ) → (k ≡ cell → ⊥) → is_in is_wide range n k c.item ≡ false
      not_in k other = ap (λ (b : Bool). b || (range c.item % n == k)) own ∙ (ap (λ (j : ℕ). j == k) here ∙ ne_eqb cell k (λ e. other (sym e)))

  -- what is known of a log is known of it as it goes on
  known_on : (log : List (Noted T)) (c : Noted T) (hands : List (Hand T)) → HavePrefixes is_wide range n log hands → HavePrefixes is_wide range n (log ++ c ∷ []) hands
  known_on log c hands known = each_then _ _ (λ h p none. subst (IsPrefix h.items) (sym (of_push h.cell log c)) (prefix_on h.items (Of h.cell log) _ (p none))) hands known

  -- what one token has more of calls, and that it has as many parts, shares and cells
  record Change (c : Noted T) (v w : List (Hand T)) : Type 0 where
    parts : parts_of w ≡ parts_of v
    shares : shares_of w ≡ shares_of v
    once : (k : ℕ) → owners k w ≡ owners k v
    held : AreBareWithoutParts w
    calls : IsPermutation (calls_of w) (c ∷ calls_of v)
    order : (log : List (Noted T)) → AreSublists log v → AreSublists (log ++ c ∷ []) w
    known : (log : List (Noted T)) → HavePrefixes is_wide range n log v → HavePrefixes is_wide range n (log ++ c ∷ []) w

  order_on : (log : List (Noted T)) (c : Noted T) (hands : List (Hand T)) → AreSublists log hands → AreSublists (log ++ c ∷ []) hands
  order_on log c hands o = each_then _ _ (λ h s. sublist_on h.calls log c s) hands o

  changed : (views : List (List (Hand T))) (id : ℕ) (v w : List (Hand T)) (c : Noted T) → get_elem? views id ≡ some v → (b : Balanced is_wide range n views) → Change c v w
      → c.cell ≡ home is_wide range n c.item → c.place ≡ length (Of c.cell b.log)
      → AreAll (HaveItems is_wide range n (b.log ++ c ∷ [])) (set views id w) → Balanced is_wide range n (set views id w)
  changed views id v w c at b change cell place items = record {
    parts = let s = total_set parts_of views id v w at in let p = b.parts in let q = change.parts in omega arith;
    shares = let s = total_set shares_of views id v w at in let p = b.shares in let q = change.shares in omega arith;
    once = λ k. let s = total_set (owners k) views id v w at in let p = b.once k in let q = change.once k in omega arith;
    held = all_set AreBareWithoutParts views id w change.held b.held;
    log = b.log ++ c ∷ [];
    placed = placed_push [] b.log c b.placed cell place;
    even = IsPermutation-trans _ _ _ (IsPermutation-to_front b.log c)
        (IsPermutation-trans _ _ _ (IsPermutation-append_right (c ∷ []) _ _ b.even) (IsPermutation-sym _ _ (flat_set calls_of (c ∷ []) views id v w at change.calls)));
    order = all_anew (AreSublists (b.log ++ c ∷ [])) (AreSublists (b.log ++ c ∷ [])) views id w (change.order b.log (b.order id v at)) (λ j u away here. order_on b.log c u (b.order j u here));
    items = items;
    known = all_anew (HavePrefixes is_wide range n (b.log ++ c ∷ [])) (HavePrefixes is_wide range n (b.log ++ c ∷ [])) views id w (change.known b.log (b.known id v at)) (λ j u away here. known_on b.log c u (b.known j u here));
  }

  -- AN ORDINARY ITEM

  note_one : (x : T) (h caller : Hand T) (hands : List (Hand T)) → h.shares ≡ 1 → HaveParts (h ∷ caller ∷ hands) → Change (noted h.cell (length h.items) x) (h ∷ caller ∷ hands) (noted_by x h (caller ∷ hands))
  note_one x h caller hands one have = record {
    parts = refl;
    shares = refl;
    once = λ k. refl;
    held = bare_none (noted_by x h (caller ∷ hands)) have;
    calls = IsPermutation-trans _ _ _ (IsPermutation-append_right h.calls _ _ (mid caller.calls (c ∷ []) (calls_of hands))) (past h.calls (c ∷ []) (caller.calls ++ calls_of hands));
    order = λ log o. (sublist_on h.calls log c o.0, (sublist_last caller.calls log c o.1.0, order_on log c hands o.1.1));
    known = λ log k. ((λ none. absurd (omega (arith, one, none))), known_on log c (caller ∷ hands) k.1);
  }
    where
      c : Noted T
      c = noted h.cell (length h.items) x

  notes_one : (views : List (List (Hand T))) (id : ℕ) (v : List (Hand T)) (x : T) → CanNoteItem is_wide range n x v → HaveParts v → get_elem? views id ≡ some v → Balanced is_wide range n views → Balanced is_wide range n (set views id (noted_in x v))
  notes_one views id [] x can have at b = absurd can
  notes_one views id (h ∷ []) x can have at b = absurd can
  notes_one views id (h ∷ caller ∷ hands) x can have at b =
      let c : Noted T = noted h.cell (length h.items) x in
      let mine : owns h.cell h ≡ 1 = in_range h.cell h (omega arith) (omega (arith, can.0)) in
      let few : total (owners h.cell) views ≤ 1 = b.once h.cell in
      let here = there (owners h.cell) views id (h ∷ caller ∷ hands) at in
      let all = b.items id (h ∷ caller ∷ hands) at in
      let items_are : h.items ≡ Of h.cell b.log = all.0 h.cell (omega arith) (omega (arith, can.0)) in
      let yes_in : is_in is_wide range n h.cell x ≡ true = ap (λ (j : ℕ). is_wide x || (j == h.cell)) can.2 ∙ (ap (λ (w : Bool). w || (h.cell == h.cell)) can.1 ∙ same_number h.cell) in
      changed views id (h ∷ caller ∷ hands) (noted_by x h (caller ∷ hands)) c at b (note_one x h caller hands can.0 have)
      (sym (ap (λ (w : Bool). cond w 0 (range x % n)) can.1 ∙ can.2))
      (ap (λ l. length l) items_are)
      (all_anew (HaveItems is_wide range n b.log) (HaveItems is_wide range n (b.log ++ c ∷ [])) views id (noted_by x h (caller ∷ hands)) (
        (λ k from to.
            let same : k ≡ h.cell = omega (arith, from, to, can.0) in
            subst (λ (j : ℕ). h.items ++ x ∷ [] ≡ Of j (b.log ++ c ∷ [])) (sym same) (ap (λ l. l ++ x ∷ []) items_are ∙ sym (of_this h.cell b.log c yes_in))),
        keep_items h.cell b.log c (caller ∷ hands) can.1 can.2 (omega (arith, few, here, mine)) all.1,
      )
      (λ j u away at_u. keep_items h.cell b.log c u can.1 can.2 (elsewhere (owners h.cell) views id (h ∷ caller ∷ hands) at (omega (arith, few, mine)) j u away at_u) (b.items j u at_u)))
    where
      same_number : (k : ℕ) → (k == k) ≡ true
      same_number k = grind (arith, nat_tests)

  told_one : (views : List (List (Hand T))) (id : ℕ) (v : List (Hand T)) (told : Option T) → CanNote is_wide range n told v → HaveParts v → get_elem? views id ≡ some v → Balanced is_wide range n views → Balanced is_wide range n (set views id (told_in told v))
  told_one views id v None can have at b = subst (Balanced is_wide range n) (sym (set_again views id v at)) b
  told_one views id v (Some x) can have at b = notes_one views id v x can have at b

  -- A WIDE ITEM

  widen_owners : (k place : ℕ) (x : T) (hands : List (Hand T)) → owners k (widen place x hands) ≡ owners k hands
  widen_owners k place x [] = refl
  widen_owners k place x (h ∷ hands) = by (widen_owners k place x hands) (h.shares == 0)
    where
      by : owners k (widen place x hands) ≡ owners k hands → (b : Bool) → owners k (cond b (with_call (noted 0 place x) h ∷ hands) (with_item x h ∷ widen place x hands)) ≡ owners k (h ∷ hands)
      by i true = refl
      by i false = ap (λ (m : ℕ). owns k h + m) i

  widen_parts : (place : ℕ) (x : T) (hands : List (Hand T)) → parts_of (widen place x hands) ≡ parts_of hands
  widen_parts place x [] = refl
  widen_parts place x (h ∷ hands) = by (widen_parts place x hands) (h.shares == 0)
    where
      by : parts_of (widen place x hands) ≡ parts_of hands → (b : Bool) → parts_of (cond b (with_call (noted 0 place x) h ∷ hands) (with_item x h ∷ widen place x hands)) ≡ parts_of (h ∷ hands)
      by i true = refl
      by i false = omega (arith, i)

  widen_shares : (place : ℕ) (x : T) (hands : List (Hand T)) → shares_of (widen place x hands) ≡ shares_of hands
  widen_shares place x [] = refl
  widen_shares place x (h ∷ hands) = by (widen_shares place x hands) (h.shares == 0)
    where
      by : shares_of (widen place x hands) ≡ shares_of hands → (b : Bool) → shares_of (cond b (with_call (noted 0 place x) h ∷ hands) (with_item x h ∷ widen place x hands)) ≡ shares_of (h ∷ hands)
      by i true = refl
      by i false = omega (arith, i)

  widen_held : (place : ℕ) (x : T) (hands : List (Hand T)) → HaveParts hands → HaveParts (widen place x hands)
  widen_held place x [] p = p
  widen_held place x (h ∷ hands) p = by (widen_held place x hands p.1) (h.shares == 0)
    where
      by : HaveParts (widen place x hands) → (b : Bool) → HaveParts (cond b (with_call (noted 0 place x) h ∷ hands) (with_item x h ∷ widen place x hands))
      by i true = (p.0, p.1)
      by i false = (p.0, i)

  pub all_held : (told : Option T) (hands : List (Hand T)) → HaveParts hands → HaveParts (told_to_all told hands)
  all_held None hands have = have
  all_held (Some x) hands have = widen_held (place_in 0 hands) x hands have

  -- at the caller, and at a cell
  at_caller : (place : ℕ) (x : T) (h : Hand T) (hands : List (Hand T)) → h.shares ≡ 0 → widen place x (h ∷ hands) ≡ with_call (noted 0 place x) h ∷ hands
  at_caller place x h hands e = ap (λ (n : ℕ). cond (n == 0) (with_call (noted 0 place x) h ∷ hands) (with_item x h ∷ widen place x hands)) e

  at_cell : (place : ℕ) (x : T) (h : Hand T) (hands : List (Hand T)) → h.shares ≡ 1 → widen place x (h ∷ hands) ≡ with_item x h ∷ widen place x hands
  at_cell place x h hands e = ap (λ (n : ℕ). cond (n == 0) (with_call (noted 0 place x) h ∷ hands) (with_item x h ∷ widen place x hands)) e

  -- one call more
  widen_calls : (m place : ℕ) (x : T) (hands : List (Hand T)) → IsRow m hands → IsPermutation (calls_of (widen place x hands)) (noted 0 place x ∷ [] ++ calls_of hands)
  widen_calls m place x [] row = absurd row
  widen_calls zero place x (h ∷ hands) row =
      subst (λ l. IsPermutation (calls_of l) (noted 0 place x ∷ [] ++ calls_of (h ∷ hands))) (sym (at_caller place x h hands row)) (mid h.calls (noted 0 place x ∷ []) (calls_of hands))
  widen_calls (suc m) place x (h ∷ hands) row =
      subst (λ l. IsPermutation (calls_of l) (noted 0 place x ∷ [] ++ calls_of (h ∷ hands))) (sym (at_cell place x h hands row.1))
      (IsPermutation-trans _ _ _ (IsPermutation-append_right h.calls _ _ (widen_calls m place x hands row.2)) (past h.calls (noted 0 place x ∷ []) (calls_of hands)))

  place_at_caller : (place : ℕ) (h : Hand T) (hands : List (Hand T)) → h.shares ≡ 0 → place_in place (h ∷ hands) ≡ place
  place_at_caller place h hands e = ap (λ (n : ℕ). cond (n == 0) place (place_in (length h.items) hands)) e

  place_at_cell : (place : ℕ) (h : Hand T) (hands : List (Hand T)) → h.shares ≡ 1 → place_in place (h ∷ hands) ≡ place_in (length h.items) hands
  place_at_cell place h hands e = ap (λ (n : ℕ). cond (n == 0) place (place_in (length h.items) hands)) e

  widen_order : (place : ℕ) (x : T) (log : List (Noted T)) (hands : List (Hand T)) → AreSublists log hands → AreSublists (log ++ noted 0 place x ∷ []) (widen place x hands)
  widen_order place x log [] o = tt
  widen_order place x log (h ∷ hands) o = by (widen_order place x log hands o.1) (order_on log (noted 0 place x) hands o.1) (sublist_last h.calls log (noted 0 place x) o.0) (sublist_on h.calls log (noted 0 place x) o.0) (h.shares == 0)
    where
      by : AreSublists (log ++ noted 0 place x ∷ []) (widen place x hands) → AreSublists (log ++ noted 0 place x ∷ []) hands → IsSublist (h.calls ++ noted 0 place x ∷ []) (log ++ noted 0 place x ∷ []) → IsSublist h.calls (log ++ noted 0 place x ∷ [])
          → (b : Bool) → AreSublists (log ++ noted 0 place x ∷ []) (cond b (with_call (noted 0 place x) h ∷ hands) (with_item x h ∷ widen place x hands))
      by i j k l true = (k, j)
      by i j k l false = (l, i)

  widen_known : (m place : ℕ) (x : T) (log : List (Noted T)) (hands : List (Hand T)) → IsRow m hands → HavePrefixes is_wide range n log hands → HavePrefixes is_wide range n (log ++ noted 0 place x ∷ []) (widen place x hands)
  widen_known m place x log [] row k = absurd row
  widen_known zero place x log (h ∷ hands) row k =
      subst (λ l. HavePrefixes is_wide range n (log ++ noted 0 place x ∷ []) l) (sym (at_caller place x h hands row)) (known_on log (noted 0 place x) (h ∷ hands) k)
  widen_known (suc m) place x log (h ∷ hands) row k =
      subst (λ l. HavePrefixes is_wide range n (log ++ noted 0 place x ∷ []) l) (sym (at_cell place x h hands row.1))
      ((λ none. absurd (omega (arith, row.1, none))), widen_known m place x log hands row.2 k.1)

  row_shares : (m : ℕ) (hands : List (Hand T)) → IsRow m hands → m ≤ shares_of hands
  row_shares m [] row = absurd row
  row_shares zero (h ∷ hands) row = omega arith
  row_shares (suc m) (h ∷ hands) row = let i = row_shares m hands row.2 in omega (arith, row.1)

  -- hands that stand for no cell have any items
  bare : (log : List (Noted T)) (hands : List (Hand T)) → shares_of hands ≡ 0 → HaveItems is_wide range n log hands
  bare log [] none = tt
  bare log (h ∷ hands) none = ((λ k from to. absurd (omega (arith, from, to, none))), bare log hands (omega (arith, none)))

  -- all cells have it
  widen_items : (m place : ℕ) (x : T) (log : List (Noted T)) (hands : List (Hand T)) → is_wide x ≡ true → IsRow m hands → shares_of hands ≤ m → HaveItems is_wide range n log hands → HaveItems is_wide range n (log ++ noted 0 place x ∷ []) (widen place x hands)
  widen_items m place x log [] wide row all a = absurd row
  widen_items zero place x log (h ∷ hands) wide row all a =
      subst (λ l. HaveItems is_wide range n (log ++ noted 0 place x ∷ []) l) (sym (at_caller place x h hands row))
      (bare (log ++ noted 0 place x ∷ []) (with_call (noted 0 place x) h ∷ hands) (omega (arith, all)))
  widen_items (suc m) place x log (h ∷ hands) wide row all a =
      subst (λ l. HaveItems is_wide range n (log ++ noted 0 place x ∷ []) l) (sym (at_cell place x h hands row.1)) (
        (λ k from to. ap (λ l. l ++ x ∷ []) (a.0 k from to) ∙ sym (of_this k log (noted 0 place x) (ap (λ (w : Bool). w || (range x % n == k)) wide))),
        widen_items m place x log hands wide row.2 (omega (arith, all, row.1)) a.1,
      )

  -- the place of the call is the first cell's
  widen_place : (m place : ℕ) (log : List (Noted T)) (hands : List (Hand T)) → IsRow (suc m) hands → HaveItems is_wide range n log hands → place_in place hands ≡ length (Of 0 log)
  widen_place m place log [] row a = absurd row
  widen_place zero place log (h ∷ []) row a = absurd row.2
  widen_place zero place log (h ∷ caller ∷ hands) row a =
      place_at_cell place h (caller ∷ hands) row.1 ∙ (place_at_caller (length h.items) caller hands row.2 ∙ ap (λ l. length l) (a.0 0 (omega (arith, row.0)) (omega (arith, row.0, row.1))))
  widen_place (suc m) place log (h ∷ hands) row a = place_at_cell place h hands row.1 ∙ widen_place m (length h.items) log hands row.2 a.1

  widens_one : (views : List (List (Hand T))) (id : ℕ) (v : List (Hand T)) (x : T) → 0 < n → IsRow n v → is_wide x ≡ true → HaveParts v → get_elem? views id ≡ some v → Balanced is_wide range n views → Balanced is_wide range n (set views id (widened x v))
  widens_one views id v x some_cell row wide have at b =
      let place = place_in 0 v in
      let all : total shares_of views ≤ shares_of v = omega (arith, b.shares, row_shares n v row) in
      let mine : shares_of v ≤ n = let s = total_set shares_of views id v [] at in let t = b.shares in omega arith in
      changed views id v (widened x v) (noted 0 place x) at b
      (record {
        parts = widen_parts place x v;
        shares = widen_shares place x v;
        once = λ k. widen_owners k place x v;
        held = bare_none (widen place x v) (widen_held place x v have);
        calls = widen_calls n place x v row;
        order = λ log o. widen_order place x log v o;
        known = λ log k. widen_known n place x log v row k;
      })
      (sym (ap (λ (w : Bool). cond w 0 (range x % n)) wide))
      (placed_here n some_cell row)
      (all_anew (HaveItems is_wide range n b.log) (HaveItems is_wide range n (b.log ++ noted 0 place x ∷ [])) views id (widened x v)
      (widen_items n place x b.log v wide row mine (b.items id v at))
      (λ j u away here. bare (b.log ++ noted 0 place x ∷ []) u (elsewhere shares_of views id v at all j u away here)))
    where
      placed_here : (m : ℕ) → 0 < m → IsRow m v → place_in 0 v ≡ length (Of 0 b.log)
      placed_here zero some_cell row = absurd (omega (arith, some_cell))
      placed_here (suc m) some_cell row = widen_place m 0 b.log v row (b.items id v at)

  told_all : (views : List (List (Hand T))) (id : ℕ) (v : List (Hand T)) (told : Option T) → 0 < n → IsRow n v → ToldIs is_wide true told → HaveParts v → get_elem? views id ≡ some v → Balanced is_wide range n views → Balanced is_wide range n (set views id (told_to_all told v))
  told_all views id v None some_cell row wide have at b = subst (Balanced is_wide range n) (sym (set_again views id v at)) b
  told_all views id v (Some x) some_cell row wide have at b = widens_one views id v x some_cell row wide have at b

  -- WHO HAS ALL PARTS, AND WHO JOINS, SPLITS AND CUTS

  settles : (views : List (List (Hand T))) (id : ℕ) (v : List (Hand T)) → 64 ≤ parts_of v → get_elem? views id ≡ some v → Balanced is_wide range n views → IsLinearized is_wide range (shares_of v) v
  settles views id v all at b =
      let few : total parts_of views ≤ parts_of v = omega (arith, all, b.parts) in
      subst (λ (m : ℕ). IsLinearized is_wide range m v) (sym b.shares ∙ alone_total shares_of no_shares views id v at b.held few)
      (record {
        log = b.log;
        placed = b.placed;
        even = subst (λ l. IsPermutation b.log l) (alone calls_of no_calls views id v at b.held few) b.even;
        order = b.order id v at;
        items = b.items id v at;
      })

  -- a split that gives out w and leaves u
  split : (views : List (List (Hand T))) (id : ℕ) (v u w : List (Hand T)) → get_elem? views id ≡ some v → (b : Balanced is_wide range n views)
      → parts_of u + parts_of w ≡ parts_of v → shares_of u + shares_of w ≡ shares_of v → ((k : ℕ) → owners k u + owners k w ≡ owners k v) → AreBareWithoutParts u → AreBareWithoutParts w
      → IsPermutation (calls_of v) (calls_of w ++ calls_of u)
      → AreSublists b.log u → AreSublists b.log w → HaveItems is_wide range n b.log u → HaveItems is_wide range n b.log w → HavePrefixes is_wide range n b.log u → HavePrefixes is_wide range n b.log w
      → Balanced is_wide range n (set views id u ++ w ∷ [])
  split views id v u w at b parts shares once held held_too calls order order_too items items_too known known_too = record {
    parts = let s = total_set parts_of views id v u at in let t = total_append parts_of (set views id u) (w ∷ []) in let p = b.parts in omega (arith, parts);
    shares = let s = total_set shares_of views id v u at in let t = total_append shares_of (set views id u) (w ∷ []) in let p = b.shares in omega (arith, shares);
    once = λ k. let s = total_set (owners k) views id v u at in let t = total_append (owners k) (set views id u) (w ∷ []) in let p = b.once k in let q = once k in omega arith;
    held = all_push AreBareWithoutParts (set views id u) w held_too (all_set AreBareWithoutParts views id u held b.held);
    log = b.log;
    placed = b.placed;
    even = IsPermutation-trans _ _ _ b.even (IsPermutation-sym _ _ (flat_split calls_of views id v u w at calls));
    order = all_push (AreSublists b.log) (set views id u) w order_too (all_set (AreSublists b.log) views id u order b.order);
    items = all_push (HaveItems is_wide range n b.log) (set views id u) w items_too (all_set (HaveItems is_wide range n b.log) views id u items b.items);
    known = all_push (HavePrefixes is_wide range n b.log) (set views id u) w known_too (all_set (HavePrefixes is_wide range n b.log) views id u known b.known);
  }

  splits_first : (views : List (List (Hand T))) (id : ℕ) (v : List (Hand T)) → get_elem? views id ≡ some v → Balanced is_wide range n views → Balanced is_wide range n (set views id (rest v) ++ first v ∷ [])
  splits_first views id [] at b = split views id [] [] [] at b refl refl (λ k. refl) tt tt (IsPermutation-refl []) tt tt tt tt tt tt
  splits_first views id (h ∷ hands) at b =
      let held = b.held id (h ∷ hands) at in
      let order = b.order id (h ∷ hands) at in
      let items = b.items id (h ∷ hands) at in
      let known = b.known id (h ∷ hands) at in
      split views id (h ∷ hands) hands (h ∷ []) at b (omega arith) (omega arith) (λ k. omega arith) held.1 (held.0, tt)
      (subst (λ l. IsPermutation (h.calls ++ calls_of hands) (l ++ calls_of hands)) (sym (append-nil h.calls)) (IsPermutation-refl _))
      order.1
      (order.0, tt)
      items.1
      (items.0, tt)
      known.1
      (known.0, tt)

  splits_all : (views : List (List (Hand T))) (id : ℕ) (v : List (Hand T)) → get_elem? views id ≡ some v → Balanced is_wide range n views → Balanced is_wide range n (set views id [] ++ v ∷ [])
  splits_all views id v at b =
      split views id v [] v at b (omega arith) (omega arith) (λ k. omega arith) tt (b.held id v at)
      (subst (λ l. IsPermutation (calls_of v) l) (sym (append-nil (calls_of v))) (IsPermutation-refl _))
      tt
      (b.order id v at)
      tt
      (b.items id v at)
      tt
      (b.known id v at)

  -- the cells from one on are this one and those from the next on
  owns_cut : (k cell shares : ℕ) → 0 < shares → cond (nat_le (cell + 1) k && nat_lt k (cell + 1 + (shares - 1))) 1 0 + cond (nat_le cell k && nat_lt k (cell + 1)) 1 0 ≡ cond (nat_le cell k && nat_lt k (cell + shares)) 1 0
  owns_cut k cell shares some_share = grind (arith, nat_tests)

  splits_cell : (views : List (List (Hand T))) (id : ℕ) (v : List (Hand T)) → CanCutCell v → get_elem? views id ≡ some v → Balanced is_wide range n views → Balanced is_wide range n (set views id (left_by_cell v) ++ cell_cut v ∷ [])
  splits_cell views id [] can at b = absurd can
  splits_cell views id (h ∷ hands) can at b =
      let held = b.held id (h ∷ hands) at in
      let order = b.order id (h ∷ hands) at in
      let items = b.items id (h ∷ hands) at in
      let known = b.known id (h ∷ hands) at in
      split views id (h ∷ hands) (left_by_cell (h ∷ hands)) (cell_cut (h ∷ hands)) at b
      (omega (arith, can.0)) (omega (arith, can.1)) (λ k. let e = owns_cut k h.cell h.shares can.1 in omega arith) ((λ none. absurd (omega (arith, can.0, none))), held.1) ((λ none. absurd (omega (arith, none))), tt)
      (IsPermutation-refl _)
      (order.0, order.1)
      (tt, tt)
      ((λ k from to. items.0 k (omega (arith, from)) (omega (arith, to, can.1))), items.1)
      ((λ k from to. sym can.2 ∙ items.0 k from (omega (arith, to, can.1))), tt)
      ((λ none. subst (λ l. IsPrefix l (Of (h.cell + 1) b.log)) (sym can.2) (prefix_of_all (Of (h.cell + 1) b.log))), known.1)
      ((λ none. prefix_of_all (Of h.cell b.log)), tt)

  -- no cell is one of none
  no_cell : (k cell : ℕ) → owns k (hand {T = T} 0 0 cell [] []) ≡ 0
  no_cell k cell = grind (arith, nat_tests)

  splits_pass : (views : List (List (Hand T))) (id : ℕ) (v : List (Hand T)) → CanCutPass v → get_elem? views id ≡ some v → Balanced is_wide range n views → Balanced is_wide range n (set views id (left_by_pass v) ++ pass_cut v ∷ [])
  splits_pass views id [] can at b = absurd can
  splits_pass views id (h ∷ hands) can at b =
      let held = b.held id (h ∷ hands) at in
      let order = b.order id (h ∷ hands) at in
      let items = b.items id (h ∷ hands) at in
      let known = b.known id (h ∷ hands) at in
      split views id (h ∷ hands) (left_by_pass (h ∷ hands)) (pass_cut (h ∷ hands)) at b
      (omega (arith, can)) (omega arith) (λ k. let e = no_cell k 0 in omega arith) ((λ none. absurd (omega (arith, can, none))), held.1) ((λ none. absurd (omega (arith, none))), tt)
      (IsPermutation-refl _)
      (order.0, order.1)
      (tt, tt)
      (items.0, items.1)
      ((λ k from to. absurd (omega (arith, from, to))), tt)
      (known.0, known.1)
      ((λ none. prefix_of_all (Of 0 b.log)), tt)

  splits_reader : (views : List (List (Hand T))) (id : ℕ) (v : List (Hand T)) → get_elem? views id ≡ some v → Balanced is_wide range n views → Balanced is_wide range n (set views id v ++ reader_cut v ∷ [])
  splits_reader views id [] at b = split views id [] [] [] at b refl refl (λ k. refl) tt tt (IsPermutation-refl []) tt tt tt tt tt tt
  splits_reader views id (h ∷ hands) at b =
      split views id (h ∷ hands) (h ∷ hands) (reader_cut (h ∷ hands)) at b
      (omega arith) (omega arith) (λ k. let e = no_cell k h.cell in omega arith) (b.held id (h ∷ hands) at) ((λ none. (refl, refl)), tt)
      (IsPermutation-refl _)
      (b.order id (h ∷ hands) at)
      (tt, tt)
      (b.items id (h ∷ hands) at)
      ((λ k from to. absurd (omega (arith, from, to))), tt)
      (b.known id (h ∷ hands) at)
      ((λ none. prefix_of_all (Of h.cell b.log)), tt)

  -- what one had goes over to another
  moved : {X : Type 0} (f : List (Hand T) → List X) → ((xs ys : List (Hand T)) → f (xs ++ ys) ≡ f xs ++ f ys) → f [] ≡ []
      → (views : List (List (Hand T))) (id : ℕ) (v : List (Hand T)) (other : ℕ) (w : List (Hand T)) → get_elem? views id ≡ some v → other ≢ id → get_elem? views other ≡ some w
      → IsPermutation (flat f (set (set views id (w ++ v)) other [])) (flat f views)
  moved f append nil views id v other w at apart there =
      subst (λ l. IsPermutation (flat f l) (flat f views)) (set_comm views other id [] (w ++ v) apart)
      (IsPermutation-trans _ _ _
      (flat_set f (f w) (set views other []) id v (w ++ v) (set_else views other id [] (λ e. apart (sym e)) ∙ at) (subst (λ l. IsPermutation l (f w ++ f v)) (sym (append w v)) (IsPermutation-refl _)))
      (IsPermutation-sym _ _ (flat_loses f (f w) views other w [] there (subst (λ l. IsPermutation (f w) (f w ++ l)) (sym nil) (subst (λ l. IsPermutation (f w) l) (sym (append-nil (f w))) (IsPermutation-refl _))))))

  joined : (views : List (List (Hand T))) (id : ℕ) (v : List (Hand T)) (other : ℕ) (w : List (Hand T)) → get_elem? views id ≡ some v → other ≢ id → get_elem? (set views id (w ++ v)) other ≡ some w
      → Balanced is_wide range n views → Balanced is_wide range n (set (set views id (w ++ v)) other [])
  joined views id v other w at apart there b = record {
    parts = let x = total_set parts_of views id v (w ++ v) at in let y = total_set parts_of one other w [] there in let z = total_append (λ (h : Hand T). h.parts) w v in let p = b.parts in omega arith;
    shares = let x = total_set shares_of views id v (w ++ v) at in let y = total_set shares_of one other w [] there in let z = total_append (λ (h : Hand T). h.shares) w v in let p = b.shares in omega arith;
    once = λ k. let x = total_set (owners k) views id v (w ++ v) at in let y = total_set (owners k) one other w [] there in let z = total_append (owns k) w v in let p = b.once k in omega arith;
    held = gather AreBareWithoutParts (λ x y. each_append _ w v x y) tt b.held;
    log = b.log;
    placed = b.placed;
    even = IsPermutation-trans _ _ _ b.even (IsPermutation-sym _ _ (moved calls_of (λ xs ys. flat_append _ xs ys) refl views id v other w at apart before));
    order = gather (AreSublists b.log) (λ x y. each_append _ w v x y) tt b.order;
    items = gather (HaveItems is_wide range n b.log) (λ x y. each_append _ w v x y) tt b.items;
    known = gather (HavePrefixes is_wide range n b.log) (λ x y. each_append _ w v x y) tt b.known;
  }
    where
      one : List (List (Hand T))
      one = set views id (w ++ v)

      before : get_elem? views other ≡ some w
      before = ⊎_elim (λ (t : (other ≡ id) × ((w ++ v) ≡ w)). absurd (apart t.0)) (λ (t : (other ≢ id) × (get_elem? views other ≡ some w)). t.1) (at_set views id other (w ++ v) w there)

      gather : (P : List (Hand T) → Type 0) → (P w → P v → P (w ++ v)) → P [] → AreAll P views → AreAll P (set one other [])
      gather P both none all = all_set P one other [] none (all_set P views id (w ++ v) (both (all other w before) (all id v at)) all)

  -- a reader knows what its cell's book does, which begins with what it knew
  catches_up : (views : List (List (Hand T))) (id : ℕ) (v : List (Hand T)) → CanFollow v → get_elem? views id ≡ some v → Balanced is_wide range n views → Balanced is_wide range n (set views id (followed v)) × SecondIsPrefix v
  catches_up views id [] can at b = absurd can
  catches_up views id (h ∷ []) can at b = absurd can
  catches_up views id (h ∷ reader ∷ hands) can at b = (
    record {
      parts = let s = total_set parts_of views id v (followed v) at in let p = b.parts in omega arith;
      shares = let s = total_set shares_of views id v (followed v) at in let p = b.shares in omega arith;
      once = λ k. let s = total_set (owners k) views id v (followed v) at in let p = b.once k in omega arith;
      held = all_set AreBareWithoutParts views id (followed v) (b.held id v at) b.held;
      log = b.log;
      placed = b.placed;
      even = IsPermutation-trans _ _ _ b.even (IsPermutation-sym _ _ (flat_set calls_of [] views id v (followed v) at (IsPermutation-refl (calls_of v))));
      order = all_set (AreSublists b.log) views id (followed v) (b.order id v at) b.order;
      items = all_set (HaveItems is_wide range n b.log) views id (followed v) (items.0, ((λ k from to. absurd (omega (arith, from, to, can.1))), items.1.1)) b.items;
      known = all_set (HavePrefixes is_wide range n b.log) views id (followed v) (known.0, ((λ none. subst (IsPrefix h.items) items_are (prefix_of_itself h.items)), known.1.1)) b.known;
    },
    subst (IsPrefix reader.items) (sym items_are) (known.1.0 can.1),
  )
    where
      v : List (Hand T)
      v = h ∷ reader ∷ hands

      items : HaveItems is_wide range n b.log v
      items = b.items id v at

      known : HavePrefixes is_wide range n b.log v
      known = b.known id v at

      items_are : h.items ≡ Of reader.cell b.log
      items_are = subst (λ (k : ℕ). h.items ≡ Of k b.log) (sym can.3) (items.0 h.cell (omega arith) (omega (arith, can.0)))

  pub opens : Balanced is_wide range n ((hand 64 n 0 [] [] ∷ []) ∷ [])
  opens = record {
    parts = omega arith;
    shares = omega arith;
    once = λ k. at_most k;
    held = λ id hands at. only AreBareWithoutParts ((λ none. absurd (omega (arith, none))), tt) id hands at;
    log = [];
    placed = tt;
    even = IsPermutation-refl [];
    order = λ id hands at. only (AreSublists []) (tt, tt) id hands at;
    items = λ id hands at. only (HaveItems is_wide range n []) ((λ k from to. refl), tt) id hands at;
    known = λ id hands at. only (HavePrefixes is_wide range n []) ((λ none. refl), tt) id hands at;
  }
    where
      start : List (Hand T)
      start = hand 64 n 0 [] [] ∷ []

      at_most : (k : ℕ) → total (owners k) (start ∷ []) ≤ 1
      at_most k = by (nat_le 0 k && nat_lt k (0 + n))
        where
          by : (b : Bool) → cond b 1 0 + 0 + 0 ≤ 1
          by true = omega arith
          by false = omega arith

      only : (P : List (Hand T) → Type 0) → P start → (id : ℕ) (hands : List (Hand T)) → get_elem? (start ∷ []) id ≡ some hands → P hands
      only P p zero hands at = subst P (some-injective _ _ at) p
      only P p (suc id) hands at = absurd (some-ne-none hands (sym at))

  module _ {S : Type 0} where
    abbrev Holds : State S (List (Hand T)) → Type 0
    Holds s = Balanced is_wide range n s.views

    pub notes : (slots id : ℕ) (me : Me S (List (Hand T))) (i : ℕ) (told : Option T) → CanNote is_wide range n told me.0 → HaveParts me.0 → Allows Holds slots id me i (λ m. m) (λ m w. w ≡ (told_in told me.0, me.1))
    notes slots id me i told can have s b homes at fits = (told_in told me.0, keeps, tt, told_one s.views id me.0 told can have at b, refl)

    pub widens : (slots id : ℕ) (me : Me S (List (Hand T))) (i : ℕ) (told : Option T) → 0 < n → IsRow n me.0 → ToldIs is_wide true told → HaveParts me.0 → Allows Holds slots id me i (λ m. m) (λ m w. w ≡ (told_to_all told me.0, me.1))
    widens slots id me i told some_cell row wide have s b homes at fits = (told_to_all told me.0, keeps, tt, told_all s.views id me.0 told some_cell row wide have at b, refl)

    pub learns : (slots id : ℕ) (me : Me S (List (Hand T))) (i : ℕ) → Allows Holds slots id me i (λ m. m) (λ m w. (w ≡ me) × (64 ≤ parts_of me.0 → IsLinearized is_wide range (shares_of me.0) me.0))
    learns slots id me i s b homes at fits = (me.0, keeps, tt, subst (Balanced is_wide range n) (sym (set_again s.views id me.0 at)) b, (refl, λ all. settles s.views id me.0 all at b))

    pub follows : (slots id : ℕ) (me : Me S (List (Hand T))) (i : ℕ) → CanFollow me.0 → Allows Holds slots id me i (λ m. m) (λ m w. (w ≡ (followed me.0, me.1)) × SecondIsPrefix me.0)
    follows slots id me i can s b homes at fits = let done = catches_up s.views id me.0 can at b in (followed me.0, keeps, tt, done.0, (refl, done.1))

    pub joins : (id : ℕ) (v : List (Hand T)) (other : ℕ) (w : List (Hand T)) → Joins Holds id v other w (w ++ v) []
    joins id v other w s b at apart there = joined s.views id v other w at apart there b

    pub gives_first : (id : ℕ) (v : List (Hand T)) → Splits Holds id v (rest v) (first v)
    gives_first id v s b at = splits_first s.views id v at b

    pub gives_all : (id : ℕ) (v : List (Hand T)) → Splits Holds id v [] v
    gives_all id v s b at = splits_all s.views id v at b

    pub cuts_cell : (id : ℕ) (v : List (Hand T)) → CanCutCell v → Splits Holds id v (left_by_cell v) (cell_cut v)
    cuts_cell id v can s b at = splits_cell s.views id v can at b

    pub cuts_pass : (id : ℕ) (v : List (Hand T)) → CanCutPass v → Splits Holds id v (left_by_pass v) (pass_cut v)
    cuts_pass id v can s b at = splits_pass s.views id v can at b

    pub cuts_reader : (id : ℕ) (v : List (Hand T)) → Splits Holds id v v (reader_cut v)
    cuts_reader id v s b at = splits_reader s.views id v at b
