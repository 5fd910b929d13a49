-- What the definition gives is told as it is.
use Rattle.std.proofs.Common.{◌≡◌, ℕ, List, Bool, true, false, refl, not}
use Rattle.std.specs.Prelude.{Result, Ok, Err, nat_lt, ◌==◌}
use Rattle.s4_types.specs.declared.reply.Refusal.{Refusal}
use Rattle.s4_types.specs.declared.reply.Refusal.TheVariants.{Denied, NoObject, Future, TooOld, TooLong, AclFull, NoEntry, NoPartition, Exists, PartsFull, Named, NamesSpent, OverBudget, Flushed, BadRange, NoMemory}
use Rattle.s4_types.specs.declared.reply.Reply.{Reply}
use Rattle.s4_types.specs.declared.rights.Right.TheVariants as right
use Rattle.s4_drive.specs.Step.{IsOutcome, is_bare}
use Rattle.s4_types.specs.declared.principal.Caller.{Caller}
use Rattle.s4_types.specs.declared.request.Request.{Request}
use Rattle.s4_types.specs.declared.request.Request.TheVariants.{Flush, SetWindow}
use Rattle.s4_types.specs.declared.record.Record.{Record}
use Rattle.s4_types.specs.Base.{Base}
use Rattle.s4_types.specs.Kinds.{is_wide}
use Rattle.s4_types.specs.Answer.{answer}
use Rattle.s4_types.specs.Outcome.{◌>>=◌, ◌>>◌, refuse_if, reply_of}
use Rattle.s4_types.specs.declared.reply.Reply.TheVariants.{Done}

pub exactly : (result wanted : Result Reply Refusal) → result ≡ wanted → IsOutcome result wanted
exactly (Ok reply) wanted e = e
exactly (Err (Denied right)) wanted e = e
exactly (Err NoObject) wanted e = e
exactly (Err Future) wanted e = e
exactly (Err (TooOld horizon)) wanted e = e
exactly (Err TooLong) wanted e = e
exactly (Err AclFull) wanted e = e
exactly (Err NoEntry) wanted e = e
exactly (Err NoPartition) wanted e = e
exactly (Err Exists) wanted e = e
exactly (Err PartsFull) wanted e = e
exactly (Err Named) wanted e = e
exactly (Err NamesSpent) wanted e = e
exactly (Err (OverBudget spent charge budget)) wanted e = e
exactly (Err Flushed) wanted e = e
exactly (Err BadRange) wanted e = e
exactly (Err NoMemory) wanted e = _

-- a wide request is answered by a word, or by a refusal
pub bare-answer : (base : Base) (h : List Record) (t : ℕ) (caller : Caller) (request : Request) → is_wide caller request ≡ true → is_bare (answer base h t caller request) ≡ true
bare-answer base h t caller (Flush from to) e = of (nat_lt to from) (not (caller.who == 0))
  where
    of : (a b : Bool) → is_bare (reply_of (refuse_if a BadRange >> (refuse_if b (Denied right.Admin) >> Ok Done) >>= λ reply. Ok reply)) ≡ true
    of true b = refl
    of false true = refl
    of false false = refl
bare-answer base h t caller (SetWindow ticks) e = of (not (caller.who == 0))
  where
    of : (b : Bool) → is_bare (reply_of ((refuse_if b (Denied right.Admin) >> Ok Done) >>= λ reply. Ok reply)) ≡ true
    of true = refl
    of false = refl
bare-answer base h t caller _ e = cc
