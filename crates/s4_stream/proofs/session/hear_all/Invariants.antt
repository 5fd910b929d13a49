use Rattle.std.proofs.Common.{◌≡◌, ◌≤◌, ◌-◌, length, drop}
use Rattle.s4_stream.specs.declared.event.SessionState.TheVariants as states
use Rattle.s4_stream.specs.Stream.{hear}
use Rattle.s4_stream.specs.Feeding.{in_all, heard_so_far}
use Rattle.s4_stream.proofs.session.hear_all.Given as goal

abbrev pub invariant-loop : goal.invariant-loop
invariant-loop l = record {
  live : l.hearing.state ≡ states.Closed → ⊥;
  within : l.hearing.count ≤ length l.bytes;
  so_far : in_all (length l.bytes - l.counter) l.logins (heard_so_far l.hearing.events.items l.hearing.state (drop l.hearing.count l.bytes)) ≡ hear l.logins l.state l.bytes;
}
