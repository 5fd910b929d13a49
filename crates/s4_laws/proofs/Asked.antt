-- No answer gives more data than the request asks for: a Read is told at most as many bytes as it names, and nothing else is told any.
use Rattle.std.proofs.Common.{ℕ, ◌+◌, ◌≤◌, nat_le, nat_lt, Bool, not, Option, None, Result, Ok, Err, List, le_refl, is_some, arith}
use Rattle.std.specs.Prelude.{◌==◌, length, min, take, drop, slice_get, ok_or}
use Rattle.std.proofs.lemmas.List.{length-take}
use Rattle.s4_types.specs.declared.principal.Caller.{Caller}
use Rattle.s4_types.specs.declared.object.Purse.{Purse}
use Rattle.s4_types.specs.declared.acl.AclEntry.{AclEntry}
use Rattle.s4_types.specs.declared.rights.Right.TheVariants as right
use Rattle.s4_types.specs.declared.reply.Grant.{Grant}
use Rattle.s4_types.specs.declared.reply.Refusal.{Refusal}
use Rattle.s4_types.specs.declared.reply.Refusal.TheVariants.{Denied, Flushed, TooLong, NamesSpent, Exists, PartsFull, Named, BadRange, NoEntry}
use Rattle.s4_types.specs.declared.reply.Reply.{Reply}
use Rattle.s4_types.specs.declared.reply.Reply.TheVariants.{Done, Made, Data, Attr, Mounted, Entry}
use Rattle.s4_types.specs.declared.request.Request.{Request}
use Rattle.s4_types.specs.declared.request.Request.TheVariants.{Create, Delete, Read, Write, Append, Truncate, GetAttr, SetAttr, GetAclByUser, GetAclByIndex, SetAcl, PCreate, PDelete, PList, PMount, Flush, FlushO, SetWindow, SetBudget, ReadAudit}
use Rattle.s4_types.specs.declared.record.Record.{Record}
use Rattle.s4_types.specs.Names.{object_in}
use Rattle.s4_types.specs.Kinds.{at_of, purse_of}
use Rattle.s4_types.specs.Base.{Base}
use Rattle.s4_types.specs.Horizon.{horizon_at}
use Rattle.s4_types.specs.Versions.{value_at, data_track, attribute_track}
use Rattle.s4_types.specs.Serials.{drawn}
use Rattle.s4_types.specs.Bindings.{bound_at, bound_count, has_name}
use Rattle.s4_types.specs.Limits.{data_limit, data_asked, data_in}
use Rattle.s4_types.specs.Judgement.{Found, entry_of, judge}
use Rattle.s4_types.specs.Outcome.{◌>>=◌, ◌>>◌, refuse_if, reply_of}
use Rattle.s4_types.specs.Answer.{answer, outcome_by_kind, affordable, timely, moment_of, is_gone, settable, found_bound, administered, flushed, mountable}
use Rattle.s4_types.specs.Contents.{data_of, attributes_of, acl_of}

-- TESTS IN A ROW

-- what is told of it has at most n bytes of data
abbrev TellsUpTo : ℕ → Result Reply Refusal → Type 0
TellsUpTo n told = data_in (reply_of told) ≤ n

up-then : {A : Type 0} (n : ℕ) (first : Result A Refusal) (next : Result Reply Refusal) → TellsUpTo n next → TellsUpTo n (first >> next)
up-then n (Ok x) next e = e
up-then n (Err r) next e = omega arith

up-bind : {A : Type 0} (n : ℕ) (first : Result A Refusal) (next : A → Result Reply Refusal) → ((x : A) → TellsUpTo n (next x)) → TellsUpTo n (first >>= next)
up-bind n (Ok x) next e = e x
up-bind n (Err r) next e = omega arith

-- a test whose outcome isn't told, behind what is
up-tested : {A : Type 0} (n : ℕ) (told : Result Reply Refusal) (test : Result A Refusal) → TellsUpTo n told → TellsUpTo n (told >>= λ reply. test >> Ok reply)
up-tested n (Ok reply) test e = up-then n test (Ok reply) e
up-tested n (Err r) test e = omega arith

-- WHAT IS TOLD NO DATA

-- after a test and a judgement
none-sized : (long : Bool) (judged : Result Grant Refusal) → TellsUpTo 0 (refuse_if long TooLong >> (judged >> Ok Done))
none-sized long judged = up-then 0 (refuse_if long TooLong) (judged >> Ok Done) (up-then 0 judged (Ok Done) (le_refl 0))

none-administered : (caller : Caller) → TellsUpTo 0 (administered caller)
none-administered caller = up-then 0 (refuse_if (not (caller.who == 0)) (Denied right.Admin)) (Ok Done) (le_refl 0)

none-flushed : (from to : ℕ) (caller : Caller) → TellsUpTo 0 (flushed from to caller)
none-flushed from to caller = up-then 0 (refuse_if (nat_lt to from) BadRange) (administered caller) (none-administered caller)

-- BY THE REQUEST'S KIND

-- a part of no more than so many bytes
part-short : (n most : ℕ) (bytes : List ℕ) → length (take (min n most) bytes) ≤ n
part-short n most bytes = grind (arith, length-take (min n most) bytes)

module _ (base : Base) (h : List Record) (t : ℕ) (caller : Caller) where
  up-by-kind : (request : Request) → TellsUpTo (data_asked request) (outcome_by_kind base h t caller request)
  up-by-kind (Read o offset n at) =
      let gone : Bool = is_gone (value_at base data_track o (moment_of t at) h) in
      let part : List ℕ = take (min n (data_limit caller.version)) (drop offset (data_of base o (moment_of t at) h)) in
      up-bind n (judge base h t caller o right.Read at) (λ g. refuse_if gone Flushed >> Ok (Data g part))
      (λ g. up-then n (refuse_if gone Flushed) (Ok (Data g part)) (part-short n (data_limit caller.version) (drop offset (data_of base o (moment_of t at) h))))
  up-by-kind (Create number) =
      let purse : Purse = record { creator = caller.who; number = number } in
      up-then 0 (refuse_if (nat_le 65535 (drawn base purse h)) NamesSpent) (Ok (Made (object_in purse (drawn base purse h + 1)))) (le_refl 0)
  up-by-kind (Delete o) =
      let named : Bool = has_name base o t h in
      up-then 0 (judge base h t caller o right.Delete None) (refuse_if named Named >> Ok Done) (up-then 0 (refuse_if named Named) (Ok Done) (le_refl 0))
  up-by-kind (Write o offset bytes) = none-sized (nat_lt (data_limit caller.version) (offset + length bytes)) (judge base h t caller o right.Write None)
  up-by-kind (Append o bytes) =
      let full : Bool = nat_lt (data_limit caller.version) (length (data_of base o t h) + length bytes) in
      let judged : Result Grant Refusal = judge base h t caller o right.Write None in
      up-then 0 (refuse_if (nat_lt (data_limit caller.version) (length bytes)) TooLong) (judged >> (refuse_if full TooLong >> Ok Done))
      (up-then 0 judged (refuse_if full TooLong >> Ok Done) (up-then 0 (refuse_if full TooLong) (Ok Done) (le_refl 0)))
  up-by-kind (Truncate o n) = none-sized (nat_lt (data_limit caller.version) n) (judge base h t caller o right.Write None)
  up-by-kind (GetAttr o at) =
      let gone : Bool = is_gone (value_at base attribute_track o (moment_of t at) h) in
      let shown : Grant → Reply = λ g. Attr g (attributes_of base o (moment_of t at) h) in
      up-bind 0 (judge base h t caller o right.Read at) (λ g. refuse_if gone Flushed >> Ok (shown g)) (λ g. up-then 0 (refuse_if gone Flushed) (Ok (shown g)) (le_refl 0))
  up-by-kind (SetAttr o bytes) = none-sized (nat_lt 256 (length bytes)) (judge base h t caller o right.Write None)
  up-by-kind (GetAclByUser o user at) =
      let found : Option Found = entry_of user (acl_of base o (moment_of t at) h) in
      let entry : Grant → Found → Result Reply Refusal = λ g x. Ok (Entry g x.index user x.rights) in
      up-bind 0 (judge base h t caller o right.Read at) (λ g. ok_or found NoEntry >>= entry g) (λ g. up-bind 0 (ok_or found NoEntry) (entry g) (λ x. le_refl 0))
  up-by-kind (GetAclByIndex o index at) =
      let found : Option AclEntry = slice_get (acl_of base o (moment_of t at) h) index in
      let entry : Grant → AclEntry → Result Reply Refusal = λ g x. Ok (Entry g index x.who x.rights) in
      up-bind 0 (judge base h t caller o right.Read at) (λ g. ok_or found NoEntry >>= entry g) (λ g. up-bind 0 (ok_or found NoEntry) (entry g) (λ x. le_refl 0))
  up-by-kind (SetAcl o user rights) =
      let settled : Result (Unit {0}) Refusal = settable user rights (acl_of base o t h) in
      up-then 0 (judge base h t caller o right.Control None) (settled >> Ok Done) (up-then 0 settled (Ok Done) (le_refl 0))
  up-by-kind (PCreate name o) =
      let taken : Bool = is_some (bound_at base o.purse name t h) in
      let full : Bool = nat_le 64 (bound_count base o.purse t h) in
      up-then 0 (judge base h t caller o right.Control None) (refuse_if taken Exists >> (refuse_if full PartsFull >> Ok Done))
      (up-then 0 (refuse_if taken Exists) (refuse_if full PartsFull >> Ok Done) (up-then 0 (refuse_if full PartsFull) (Ok Done) (le_refl 0)))
  up-by-kind (PDelete purse name) =
      let judged : ℕ → Result Grant Refusal = λ serial. judge base h t caller (object_in purse serial) right.Control None in
      up-bind 0 (found_bound caller purse right.Control (bound_at base purse name t h)) (λ serial. judged serial >> Ok Done) (λ serial. up-then 0 (judged serial) (Ok Done) (le_refl 0))
  up-by-kind (PList range after at) = le_refl 0
  up-by-kind (PMount purse name at) = up-bind 0 (mountable base h t caller purse name at) (λ line. Ok (Mounted line.grant line.object)) (λ line. le_refl 0)
  up-by-kind (Flush from to) = none-flushed from to caller
  up-by-kind (FlushO o from to) = none-flushed from to caller
  up-by-kind (SetWindow ticks) = none-administered caller
  up-by-kind (SetBudget purse budget) = none-administered caller
  up-by-kind (ReadAudit range skip) = le_refl 0

  -- the answer to a request gives no more data than it asks for
  pub data_in-answer : (request : Request) → data_in (answer base h t caller request) ≤ data_asked request
  data_in-answer request =
      let told : Result Reply Refusal = outcome_by_kind base h t caller request in
      let paid : Result (Unit {0}) Refusal = affordable base h t request (purse_of caller request) in
      up-then (data_asked request) (timely (horizon_at base h t) t (at_of request)) (told >>= λ reply. paid >> Ok reply)
      (up-tested (data_asked request) told paid (up-by-kind request))
