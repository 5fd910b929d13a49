-- What one call leaves.
use Rattle.std.specs.Prelude.{◌≡◌, ℕ, ◌≤◌, List, length, slice_index_or, MatchBool}
use Rattle.s4_types.specs.declared.principal.Caller.{Caller}
use Rattle.s4_types.specs.declared.request.Request.{Request}
use Rattle.s4_types.specs.declared.reply.Reply.{Reply}
use Rattle.s4_types.specs.Play.{is_no_memory}
use Rattle.s4_types.specs.Log.{Log, swept, with_record}
use Rattle.s4_cells.specs.Many.{AllAdd}
use Rattle.s4_passes.specs.declared.call.Asked.{Asked}
use Rattle.s4_passes.specs.declared.call.Receipt.{Receipt}
use Rattle.s4_passes.specs.declared.call.Call.{Call}
use Rattle.s4_passes.specs.Calls.{CallList, call_of, last_moment, record_of}
use Rattle.s4_passes.specs.Changes.{AddsCall, KeepsCalls}

-- what a caller asked, by its clock
abbrev pub asked : Caller → ℕ → Request → Asked
asked caller clock request = record { caller = caller; clock = clock; request = request }

-- the pass has one call more: what was asked, with this reply, at a moment that is neither before the clock nor before the pass's last
pub record Serves (old new : CallList) (caller : Caller) (clock : ℕ) (request : Request) (reply : Reply) : Type 0 where
  pub receipt : Receipt
  pub adds : AddsCall (call_of (asked caller clock request) receipt) old new
  pub reply_is : receipt.reply ≡ reply
  pub clock_is : clock ≤ receipt.moment
  pub later : last_moment old ≤ receipt.moment

-- the pass has the call, or it met want of memory and has none
abbrev pub ServesUnlessRefused : CallList → CallList → Caller → ℕ → Request → Reply → Type 0
ServesUnlessRefused old new caller clock request reply = MatchBool (is_no_memory reply) (KeepsCalls old new)
    (Serves old new caller clock request reply)

-- the cell has one record more and the pass one call, and the receipt names the record by the cell's number and by its place, which counts
-- from the first record that the cell ever had
pub record Adds (cell : ℕ) (before after : Log) (old new : CallList) : Type 0 where
  pub call : Call
  pub adds : AddsCall call old new
  pub log : after ≡ with_record before (record_of call)
  pub place : call.receipt.place ≡ length before.history
  pub cell_is : call.receipt.cell ≡ cell

-- and of the values that are expired then at most so many are freed
pub record AddsAndFrees (most cell : ℕ) (before after : Log) (old new : CallList) : Type 0 where
  pub between : Log
  pub adds : Adds cell before between old new
  pub freed : after ≡ swept most between

-- every cell and the pass have one more: the record stands in each cell, and the receipt names the first cell's
pub record AddsToAll (before after : List Log) (old new : CallList) : Type 0 where
  pub call : Call
  pub adds : AddsCall call old new
  pub records : AllAdd (record_of call) before after
  pub place : (none : Log) → call.receipt.place ≡ length (slice_index_or before 0 none).history
  pub cell_is : call.receipt.cell ≡ 0
