-- The tokens of passes.
use Rattle.std.specs.Prelude.{◌≡◌, ℕ, List, [], ◌∷◌, map}
use Rattle.s4_types.specs.declared.record.Record.{Record}
use Rattle.s4_types.specs.Play.{last_of}
use Rattle.s4_calls.specs.declared.hand.Hand.{Hand}
use Rattle.s4_calls.specs.declared.hand.Noted.{Noted}
use Rattle.s4_calls.specs.Logs.{items_of}
use Rattle.s4_calls.specs.Hands.{of_pass}
use Rattle.s4_passes.specs.Calls.{CallList, Ends, noted_of}
use Rattle.s4_passes.specs.declared.call.Call.{Call}

-- what is seen of the calls that a pass keeps: its number, the moment of the last call that there ever was, the calls, and for how many more
-- there is room
pub record KeptCalls : Type 0 where
  pub number : ℕ
  pub last : ℕ
  pub calls : List Call
  pub room : ℕ

-- the calls that the first hand knows
abbrev pub calls_by : List (Hand Record) → List (Noted Record)
calls_by [] = []
calls_by (h ∷ hands) = h.calls

-- these tokens are those of a pass, and know all calls that there ever were: what the pass keeps are the last ones of them
pub record IsOfPass (hands : List (Hand Record)) (kept : KeptCalls) : Type 0 where
  pub one : hands ≡ of_pass (calls_by hands) ∷ []
  pub ends : Ends (calls_by hands) (map noted_of kept.calls)
  pub last : kept.last ≡ last_of (items_of (calls_by hands))

-- what one knows who took in the passes
abbrev pub with_passes : List CallList → List (Hand Record) → List (Hand Record)
with_passes [] hands = hands
with_passes (p ∷ passes) hands = with_passes passes (of_pass p.ever ∷ hands)
