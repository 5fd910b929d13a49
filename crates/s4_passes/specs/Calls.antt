-- Calls: what was asked, and what was told.
use Rattle.std.specs.Prelude.{◌≡◌, ℕ, ◌-◌, List, [], ◌∷◌, ◌++◌, length, map, take, slice_get, Some}
use Rattle.s4_types.specs.declared.record.Record.{Record}
use Rattle.s4_types.specs.Play.{last_of}
use Rattle.s4_calls.specs.declared.hand.Noted.{Noted}
use Rattle.s4_calls.specs.Logs.{noted, items_of}
use Rattle.s4_passes.specs.declared.call.Asked.{Asked}
use Rattle.s4_passes.specs.declared.call.Receipt.{Receipt}
use Rattle.s4_passes.specs.declared.call.Call.{Call}

-- what callers see of a pass: its number, all calls that were ever made with it, the last ones of them, which it still keeps, and for how
-- many more there is room
pub record CallList : Type 0 where
  pub number : ℕ
  pub ever : List (Noted Record)
  pub calls : List Call
  pub room : ℕ

abbrev pub call_of : Asked → Receipt → Call
call_of asked receipt = record { asked = asked; receipt = receipt }

-- the record that a call's receipt speaks of
abbrev pub record_of : Call → Record
record_of call = record { moment = call.receipt.moment; caller = call.asked.caller; request = call.asked.request; reply = call.receipt.reply }

-- the call as all calls that there ever were are known: the cell and the place that its receipt names, and its record
abbrev pub noted_of : Call → Noted Record
noted_of call = noted call.receipt.cell call.receipt.place (record_of call)

-- the calls, from what was asked and told of each
abbrev pub calls_of : List Asked → List Receipt → List Call
calls_of [] receipts = []
calls_of (asked ∷ more) [] = []
calls_of (asked ∷ more) (receipt ∷ receipts) = call_of asked receipt ∷ calls_of more receipts

abbrev pub receipts_of : List Call → List Receipt
receipts_of [] = []
receipts_of (call ∷ calls) = call.receipt ∷ receipts_of calls

-- the moment of the last call that there ever was, 0 where there was none
abbrev pub last_moment : CallList → ℕ
last_moment pass = last_of (items_of pass.ever)

-- the first list ends with the second
abbrev pub Ends : {A : Type 0} → List A → List A → Type 0
Ends all left = all ≡ take (length all - length left) all ++ left

-- the calls that the pass keeps are the last ones of those that there ever were
abbrev pub KeepsLast : CallList → Type 0
KeepsLast pass = Ends pass.ever (map noted_of pass.calls)

abbrev pub AllKeepLast : List CallList → Type 0
AllKeepLast passes = (p : ℕ) (pass : CallList) → slice_get passes p ≡ Some pass → KeepsLast pass
