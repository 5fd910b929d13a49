-- Logs of calls: of which cells their items are, and at which places they stand there.
use Rattle.std.specs.Prelude.{◌≡◌, ◌⊎◌, ℕ, ◌+◌, ◌<◌, ◌%◌, ◌==◌, ◌||◌, slice_get, slice_index, Bool, true, List, [], ◌∷◌, ◌++◌, length, drop, map, filter, cond, ⊤, Some}
use Rattle.s4_calls.specs.declared.hand.Noted.{Noted}

-- the second list has all of the first, in its order, and may have others between
abbrev pub IsSublist : {A : Type 0} → List A → List A → Type 0
IsSublist [] ys = ⊤
IsSublist (x ∷ xs) [] = ⊥
IsSublist (x ∷ xs) (y ∷ ys) = ((x ≡ y) × IsSublist xs ys) ⊎ IsSublist (x ∷ xs) ys

-- the second list begins with the first
abbrev pub IsPrefix : {A : Type 0} → List A → List A → Type 0
IsPrefix xs ys = ys ≡ xs ++ drop (length xs) ys

module _ {T : Type 0} where
  abbrev pub noted : ℕ → ℕ → T → Noted T
  noted cell place item = record { cell = cell; place = place; item = item }

  abbrev pub items_of : List (Noted T) → List T
  items_of log = map (λ (c : Noted T). c.item) log

  module _ (is_wide : T → Bool) (range : T → ℕ) (n : ℕ) where
    -- whether the item is one of the k-th of n cells: it is wide, or the number of its range, modulo n, is the cell's
    abbrev pub is_in : ℕ → T → Bool
    is_in k x = is_wide x || (range x % n == k)

    -- the cell that a call of the item names: that of its range, and the first for a wide one
    abbrev pub home : T → ℕ
    home x = cond (is_wide x) 0 (range x % n)

    -- the items of the cell, in their order
    abbrev pub items_in : ℕ → List T → List T
    items_in k items = filter (is_in k) items

    -- each call names its cell, and its place among the items of that cell, behind these
    abbrev pub ArePlaced : List T → List (Noted T) → Type 0
    ArePlaced done [] = ⊤
    ArePlaced done (c ∷ cs) = (c.cell ≡ home c.item) × (c.place ≡ length (items_in c.cell done)) × ArePlaced (done ++ c.item ∷ []) cs

    -- there is a call of the cell that names the place and is of the item
    pub record IsCalled (log : List (Noted T)) (k place : ℕ) (x : T) : Type 0 where
      pub i : ℕ
      pub there : slice_get log i ≡ Some (noted k place x)

    -- calls and what was recorded match one to one: each call's item stands at its place in its cell, no two calls name one place,
    -- and each place that calls name has its call
    pub record AreOneToOne (log : List (Noted T)) : Type 0 where
      pub stands : (i : ℕ) (c : Noted T) → slice_get log i ≡ Some c → slice_get (items_in c.cell (items_of log)) c.place ≡ Some c.item
      pub apart : (i j : ℕ) (c d : Noted T) → slice_get log i ≡ Some c → slice_get log j ≡ Some d → c.cell ≡ d.cell → c.place ≡ d.place → i ≡ j
      pub found : (k place : ℕ) (x : T) → slice_get (items_in k (items_of log)) place ≡ Some x → home x ≡ k → IsCalled log k place x

    -- where in the list the items of the cell stand, counted from i
    abbrev pub places : ℕ → ℕ → List T → List ℕ
    places k i [] = []
    places k i (x ∷ xs) = cond (is_in k x) (i ∷ places k (i + 1) xs) (places k (i + 1) xs)

    -- where in the list the item of a call stands, by its cell and its place there
    abbrev pub position : List T → Noted T → ℕ
    position items c = slice_index (places c.cell 0 items) c.place

    -- of two calls the earlier one's item stands first
    abbrev pub StandInOrder : List T → List (Noted T) → Type 0
    StandInOrder items calls = (i j : ℕ) (c d : Noted T) → i < j → slice_get calls i ≡ Some c → slice_get calls j ≡ Some d → position items c < position items d

    -- the first list has the items of each cell in the order of the second
    abbrev pub IsMergeOf : List T → List T → Type 0
    IsMergeOf all items = (k : ℕ) → k < n → items_in k all ≡ items_in k items

    -- the item of each call stands where its cell and its place say
    abbrev pub StandThere : List T → List (Noted T) → Type 0
    StandThere items calls = (i : ℕ) (c : Noted T) → slice_get calls i ≡ Some c → slice_get items (position items c) ≡ Some c.item

    -- of two calls of one cell the earlier one's item stands first, a wide call counting as one of every cell
    abbrev pub StandInCells : List T → List (Noted T) → Type 0
    StandInCells items calls = (k i j : ℕ) (c d : Noted T) → k < n → i < j → slice_get calls i ≡ Some c → slice_get calls j ≡ Some d
        → is_in k c.item ≡ true → is_in k d.item ≡ true → position items c < position items d
