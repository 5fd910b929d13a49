use Rattle.std.proofs.Common.{rules, ◌≡◌, ◌<◌, ◌+◌, ℕ, List, false, eqb, length, arith, ◌∙◌, sym}
use Rattle.std.specs.Prelude.{Result, Ok, Err}
use Rattle.s4_stream.specs.declared.logins.LoginFault.{LoginFault}
use Rattle.s4_stream.specs.Logins.{Logins}
use Rattle.s4_stream.specs.LoginText.{before, behind, lines, login_of, entered, table_of, table_in, IsTable}
use Rattle.s4_stream.proofs.LoginLines.{first_line, fewer_left, goes_on, faulty}
use Rattle.s4_stream.proofs.logins.Logins.read.Goals as goal

pub returns-in_err-logins : goal.returns-in_err-logins
returns-in_err-logins c =
    let left : List ℕ = c.loop-left.left.now in
    let n : ℕ = c.loop-left.number + 1 in
    let table : Logins = c.loop-left.logins in
    let whole : Result Logins LoginFault = table_in c.args.text.now in
    let one : Result Logins LoginFault = entered n table (login_of (before 10 left)) in
    let some : eqb (length left) 0 ≡ false = search rules in
    let so_far : table_of (n + 1) one (lines (behind 10 left)) ≡ whole = sym (first_line n table left some) ∙ c.loop-left.invariant.so_far in
    let fault : LoginFault = c.in_err-logins.field-0.0 in
    let told : c.from_residual.result ≡ Err fault = search rules in
    let is : IsTable (Err fault) one = rw c.split_at_byte.ensures.front at c.in_err-logins.ensures in
    rw told (faulty (n + 1) one whole (lines (behind 10 left)) so_far fault is)

pub loop-left-smaller : goal.loop-left-smaller
loop-left-smaller c =
    let left : List ℕ = c.loop-left.left.now in
    let some : eqb (length left) 0 ≡ false = search rules in
    rw c.split_at_byte.ensures.rest (fewer_left left some)

pub loop-left-preserved : goal.loop-left-preserved
loop-left-preserved c =
    let left : List ℕ = c.loop-left.left.now in
    let n : ℕ = c.loop-left.number + 1 in
    let table : Logins = c.loop-left.logins in
    let new : Logins = c.in_ok-logins.logins in
    let whole : Result Logins LoginFault = table_in c.args.text.now in
    let one : Result Logins LoginFault = entered n table (login_of (before 10 left)) in
    let some : eqb (length left) 0 ≡ false = search rules in
    let fewer : length (behind 10 left) < length left = fewer_left left some in
    let so_far : table_of (n + 1) one (lines (behind 10 left)) ≡ whole = sym (first_line n table left some) ∙ c.loop-left.invariant.so_far in
    let is : IsTable (Ok new) one = rw c.split_at_byte.ensures.front at c.in_ok-logins.ensures in
    record {
      within = rw c.split_at_byte.ensures.rest (omega arith);
      so_far = rw c.split_at_byte.ensures.rest (goes_on (n + 1) one whole (lines (behind 10 left)) so_far new is);
    }
