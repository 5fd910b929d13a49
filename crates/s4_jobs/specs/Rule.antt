-- What the queue keeps true, of the jobs in it and of what each seat knows.
use Rattle.std.specs.Prelude.{◌≡◌, ◌≢◌, ℕ, ◌+◌, ◌<◌, Bool, true, false, List, [], ◌∷◌, ◌++◌, length, map, All, sum_by}
use mathlib.Core.Option.{Option, some, none}
use lib.ListN.{get_elem?}
use Rattle.s4_jobs.specs.Log.{Taking, tag, tags_of, numbers_of, put_by, taken_by}
use Rattle.s4_jobs.specs.declared.rule.Tag.{Tag}
use Rattle.s4_jobs.specs.declared.rule.View.{View}
use Rattle.s4_jobs.specs.declared.rule.Hand.{Hand}
use Rattle.s4_jobs.specs.declared.rule.Posted.{Posted}

abbrev pub view_of : Bool → ℕ → ℕ → List ℕ → List Tag → List Hand → List Tag → View
view_of l m s p t c r = record { live = l; made = m; seat = s; put = p; taken = t; closed = c; left = r }

-- the first seat, once so many were made
abbrev pub first_view : ℕ → View
first_view made = view_of true made 0 [] [] [] []

abbrev pub one_made : View → View
one_made v = view_of v.live (v.made + 1) v.seat v.put v.taken v.closed v.left

-- the seat that is made then
abbrev pub newcomer : View → View
newcomer v = view_of true 0 v.made [] [] [] []

abbrev pub with_put : View → Tag → View
with_put v t = view_of v.live v.made v.seat (v.put ++ t.number ∷ []) v.taken v.closed v.left

abbrev pub with_taken : View → Tag → View
with_taken v t = view_of v.live v.made v.seat v.put (v.taken ++ t ∷ []) v.closed v.left

-- once these seats have ended in it
abbrev pub with_all_ended : View → List Hand → View
with_all_ended v hands = view_of v.live v.made v.seat v.put v.taken (v.closed ++ hands) v.left

abbrev pub hand_in : View → Hand
hand_in v = record { put = v.put; taken = v.taken }

abbrev pub with_ended : View → View → View
with_ended v u = with_all_ended v (hand_in u ∷ [])

abbrev pub ended : View
ended = view_of false 0 0 [] [] [] []

-- once these jobs were left over
abbrev pub with_left : View → List Tag → View
with_left v ts = view_of v.live v.made v.seat v.put v.taken v.closed (v.left ++ ts)

-- a seat of that number, which others may still use
pub record IsSeated (number : ℕ) (v : View) : Type 0 where
  pub live : v.live ≡ true
  pub seat : number ≡ v.seat
  pub closed : v.closed ≡ []
  pub left : v.left ≡ []

-- the first seat, which takes the others in
pub record IsFirst (v : View) : Type 0 where
  pub live : v.live ≡ true
  pub seat : v.seat ≡ 0
  pub left : v.left ≡ []

-- the first seat, in which all others have ended
pub record IsWhole (v : View) : Type 0 where
  pub live : v.live ≡ true
  pub seat : v.seat ≡ 0
  pub made : v.made ≡ length v.closed + 1

-- a seat that has ended put and took what the log says; `all` is all that was put, in its order
pub record HandFits (log : List Taking) (all : List Tag) (seat : ℕ) (x : Hand) : Type 0 where
  pub put : x.put ≡ put_by seat all
  pub taken : x.taken ≡ taken_by seat log

-- a live seat is that of its owner, and put and took what the log says; the first
-- knows how many seats were made, which have ended, and what was left
pub record Fits (owner : ℕ → Option ℕ) (made : ℕ) (closed : List Hand) (left : List Tag) (log : List Taking) (all : List Tag)
    (port : ℕ) (v : View) : Type 0 where
  pub owned : v.live ≡ true → owner v.seat ≡ some port
  pub below : v.live ≡ true → v.seat < made
  pub put : v.live ≡ true → v.put ≡ put_by v.seat all
  pub taken : v.live ≡ true → v.taken ≡ taken_by v.seat log
  pub leads : v.live ≡ true → v.seat ≡ 0 → (v.made ≡ made) × (v.closed ≡ closed) × (v.left ≡ left)

-- There is a log of what was taken. What was put is that, what was left over, and what the queue
-- holds, in this order. Nothing is left over before all seats but the first have ended
pub record Holds (items : List Tag) (views : List View) : Type 0 where
  pub log : List Taking
  pub left : List Tag
  pub closed : List Hand
  pub made : ℕ
  pub owner : ℕ → Option ℕ
  pub from : All (λ (t : Tag). t.from < made) (tags_of log ++ (left ++ items))
  pub by : All (λ (x : Taking). x.by < made) log
  pub hands : (k : ℕ) (x : Hand) → get_elem? closed k ≡ some x → HandFits log (tags_of log ++ (left ++ items)) (k + 1) x
  pub dead : (k : ℕ) (x : Hand) → get_elem? closed k ≡ some x → owner (k + 1) ≡ none
  pub ending : left ≢ [] → made ≡ length closed + 1
  pub fits : (port : ℕ) (v : View) → get_elem? views port ≡ some v → Fits owner made closed left log (tags_of log ++ (left ++ items)) port v

-- the tag of a job in the queue
abbrev pub tag_of : {J : Type 0} → (J → ℕ) → Posted J → Tag
tag_of number x = tag x.from (number x.job)

abbrev pub HoldsOf : {J : Type 0} → (J → ℕ) → List (Posted J) → List View → Type 0
HoldsOf number items views = Holds (map (tag_of number) items) views

-- There is a log of what was taken. With what the queue holds it says what the seat of
-- that number put, and what it took. The first seat knows how many seats there are
pub record Sees (number seats : ℕ) (have_put : List ℕ) (have_taken : List Tag) (items : List Tag) : Type 0 where
  pub log : List Taking
  pub put : have_put ≡ put_by number (tags_of log ++ items)
  pub taken : have_taken ≡ taken_by number log
  pub from : number ≡ 0 → All (λ (t : Tag). t.from < seats) (tags_of log ++ items)
  pub by : number ≡ 0 → All (λ (x : Taking). x.by < seats) log

abbrev pub SeenBy : {J : Type 0} → (J → ℕ) → View → List (Posted J) → Type 0
SeenBy number v items = Sees v.seat v.made v.put v.taken (map (tag_of number) items)

-- the same of the first seat in which all others have ended: what was put is
-- what the log says, what was left over, and what the queue holds
pub record Settles (v : View) (items : List Tag) : Type 0 where
  pub log : List Taking
  pub from : All (λ (t : Tag). t.from < v.made) (tags_of log ++ (v.left ++ items))
  pub by : All (λ (x : Taking). x.by < v.made) log
  pub put : v.put ≡ put_by 0 (tags_of log ++ (v.left ++ items))
  pub taken : v.taken ≡ taken_by 0 log
  pub hands : (k : ℕ) (x : Hand) → get_elem? v.closed k ≡ some x → HandFits log (tags_of log ++ (v.left ++ items)) (k + 1) x

abbrev pub SettlesOf : {J : Type 0} → (J → ℕ) → View → List (Posted J) → Type 0
SettlesOf number v items = Settles v (map (tag_of number) items)

-- how many jobs all seats put, and how many they took
abbrev pub puts_of : View → ℕ
puts_of v = length v.put + sum_by (λ (h : Hand). length h.put) v.closed

abbrev pub takes_of : View → ℕ
takes_of v = length v.taken + sum_by (λ (h : Hand). length h.taken) v.closed

-- one job of that number more is left over, and there was one
pub record LeftOne (number : ℕ) (v w : View) : Type 0 where
  pub tag : Tag
  pub numbered : tag.number ≡ number
  pub left : w ≡ with_left v (tag ∷ [])
  pub more : length v.left + takes_of v < puts_of v

abbrev pub LeftBy : {J : Type 0} → (J → ℕ) → View → Posted J → View → Type 0
LeftBy number v x w = LeftOne (number x.job) v w

-- these jobs are all that was left over
pub record Drained {J : Type 0} (number : J → ℕ) (v : View) (jobs : List J) : Type 0 where
  pub rest : List Tag
  pub numbers : numbers_of rest ≡ map number jobs
  pub settles : Settles (with_left v rest) []
