-- What tokens know of calls, and how that changes.
use Rattle.std.specs.Prelude.{◌≡◌, ℕ, ◌+◌, ◌-◌, ◌<◌, ◌==◌, ◌&&◌, nat_le, nat_lt, List, [], ◌∷◌, ◌++◌, length, cond, ⊤, Option, None, Some}
use Rattle.s4_calls.specs.declared.hand.Hand.{Hand}
use Rattle.s4_calls.specs.declared.hand.Noted.{Noted}
use Rattle.s4_calls.specs.Logs.{noted}

abbrev pub total : {A : Type 0} → (A → ℕ) → List A → ℕ
total f [] = 0
total f (x ∷ xs) = f x + total f xs

abbrev pub flat : {A X : Type 0} → (A → List X) → List A → List X
flat f [] = []
flat f (x ∷ xs) = f x ++ flat f xs

module _ {T : Type 0} where
  abbrev pub hand : ℕ → ℕ → ℕ → List T → List (Noted T) → Hand T
  hand parts shares cell items calls = record { parts = parts; shares = shares; cell = cell; items = items; calls = calls }

  -- a hand that knows no call: of a ledger for so many cells, of a cell, and of a pass
  abbrev pub fresh : ℕ → Hand T
  fresh cells = hand 64 cells 0 [] []

  abbrev pub of_cell : ℕ → List T → Hand T
  of_cell cell items = hand 1 1 cell items []

  abbrev pub of_pass : List (Noted T) → Hand T
  of_pass calls = hand 1 0 0 [] calls

  -- of one who reads a cell: it has no part, stands for no cell, and notes no call
  abbrev pub of_reader : ℕ → List T → Hand T
  of_reader cell items = hand 0 0 cell items []

  abbrev pub parts_of : List (Hand T) → ℕ
  parts_of hands = total (λ (h : Hand T). h.parts) hands

  abbrev pub shares_of : List (Hand T) → ℕ
  shares_of hands = total (λ (h : Hand T). h.shares) hands

  -- whether the hand stands for the cell of that number
  abbrev pub owns : ℕ → Hand T → ℕ
  owns k h = cond (nat_le h.cell k && nat_lt k (h.cell + h.shares)) 1 0

  abbrev pub owners : ℕ → List (Hand T) → ℕ
  owners k hands = total (owns k) hands

  abbrev pub calls_of : List (Hand T) → List (Noted T)
  calls_of hands = flat (λ (h : Hand T). h.calls) hands

  -- it holds of each hand
  abbrev pub Each : (Hand T → Type 0) → List (Hand T) → Type 0
  Each P [] = ⊤
  Each P (h ∷ hands) = P h × Each P hands

  -- each hand has a part
  abbrev pub HaveParts : List (Hand T) → Type 0
  HaveParts hands = Each (λ (h : Hand T). 0 < h.parts) hands

  -- a hand without a part, as a reader's, stands for no cell and has no call
  abbrev pub AreBareWithoutParts : List (Hand T) → Type 0
  AreBareWithoutParts hands = Each (λ (h : Hand T). h.parts ≡ 0 → (h.shares ≡ 0) × (h.calls ≡ [])) hands

  -- the first hand, and the others
  abbrev pub first : List (Hand T) → List (Hand T)
  first [] = []
  first (h ∷ hands) = h ∷ []

  abbrev pub rest : List (Hand T) → List (Hand T)
  rest [] = []
  rest (h ∷ hands) = hands

  -- NOTES

  -- an item more is recorded by a hand, and a call more is noted
  abbrev pub with_item : T → Hand T → Hand T
  with_item x h = hand h.parts h.shares h.cell (h.items ++ x ∷ []) h.calls

  abbrev pub with_call : Noted T → Hand T → Hand T
  with_call call h = hand h.parts h.shares h.cell h.items (h.calls ++ call ∷ [])

  -- recorded by the first hand, at the next place of its cell, and noted as a call by the second
  abbrev pub noted_by : T → Hand T → List (Hand T) → List (Hand T)
  noted_by x h [] = h ∷ []
  noted_by x h (caller ∷ hands) = with_item x h ∷ with_call (noted h.cell (length h.items) x) caller ∷ hands

  abbrev pub noted_in : T → List (Hand T) → List (Hand T)
  noted_in x [] = []
  noted_in x (h ∷ hands) = noted_by x h hands

  -- where something was told
  abbrev pub told_in : Option T → List (Hand T) → List (Hand T)
  told_in None hands = hands
  told_in (Some x) hands = noted_in x hands

  -- recorded by all hands of cells before the caller's, which notes it as a call of the first cell, at this place
  abbrev pub widen : ℕ → T → List (Hand T) → List (Hand T)
  widen place x [] = []
  widen place x (h ∷ hands) = cond (h.shares == 0) (with_call (noted 0 place x) h ∷ hands) (with_item x h ∷ widen place x hands)

  -- how many items the last hand of a cell before the caller's has
  abbrev pub place_in : ℕ → List (Hand T) → ℕ
  place_in place [] = place
  place_in place (h ∷ hands) = cond (h.shares == 0) place (place_in (length h.items) hands)

  abbrev pub widened : T → List (Hand T) → List (Hand T)
  widened x hands = widen (place_in 0 hands) x hands

  abbrev pub told_to_all : Option T → List (Hand T) → List (Hand T)
  told_to_all None hands = hands
  told_to_all (Some x) hands = widened x hands

  -- CUTS

  -- what a cut gives out of the first hand, and what it leaves
  abbrev pub cell_cut : List (Hand T) → List (Hand T)
  cell_cut [] = []
  cell_cut (h ∷ hands) = of_cell h.cell [] ∷ []

  abbrev pub left_by_cell : List (Hand T) → List (Hand T)
  left_by_cell [] = []
  left_by_cell (h ∷ hands) = hand (h.parts - 1) (h.shares - 1) (h.cell + 1) h.items h.calls ∷ hands

  abbrev pub pass_cut : List (Hand T) → List (Hand T)
  pass_cut [] = []
  pass_cut (h ∷ hands) = of_pass [] ∷ []

  abbrev pub left_by_pass : List (Hand T) → List (Hand T)
  left_by_pass [] = []
  left_by_pass (h ∷ hands) = hand (h.parts - 1) h.shares h.cell h.items h.calls ∷ hands

  -- what a cut gives to a reader of the first hand's cell, and it leaves all as it was
  abbrev pub reader_cut : List (Hand T) → List (Hand T)
  reader_cut [] = []
  reader_cut (h ∷ hands) = of_reader h.cell [] ∷ []

  -- READERS

  -- these items in place of those that a hand knew
  abbrev pub with_items : List T → Hand T → Hand T
  with_items items h = hand h.parts h.shares h.cell items h.calls

  -- the second hand knows what the first does
  abbrev pub followed_by : Hand T → List (Hand T) → List (Hand T)
  followed_by h [] = h ∷ []
  followed_by h (reader ∷ hands) = h ∷ with_items h.items reader ∷ hands

  abbrev pub followed : List (Hand T) → List (Hand T)
  followed [] = []
  followed (h ∷ hands) = followed_by h hands
