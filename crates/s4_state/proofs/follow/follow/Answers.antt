use Rattle.std.proofs.Common.{sym, ◌∙◌, arith}
use Rattle.std.specs.Prelude.{Result, Ok, Err, OnOk, OnErr}
use Rattle.s4_state.proofs.Resting.{no_flush, stands_refused}
use Rattle.s4_state.proofs.Refunding.{plain_charged, refused_charged}
use Rattle.s4_state.proofs.follow.follow.Goals as goal

pub returns-then-is_refused-clause-ok : goal.returns-then-is_refused-clause-ok
returns-then-is_refused-clause-ok g c =
    stands_refused c.requires.kept c.args.added.now c.requires.sound (sym c.is_refused.ensures ∙ c.if-is_refused.true)

pub change-requires : goal.change-requires
change-requires g c = record {
  kept = c.requires.kept;
  next = c.requires.next;
  granted = sym c.is_refused.ensures ∙ c.if-is_refused.false;
  plain = no_flush c.args.added.now.request c.in_default.not-Flush c.in_default.not-FlushO;
  sound = c.requires.sound;
}

pub returns-then-is_refused-clause-charged : goal.returns-then-is_refused-clause-charged
returns-then-is_refused-clause-charged g c weight p nothing =
    refused_charged c.requires.kept.sound c.requires.next weight p c.requires.empty (sym c.is_refused.ensures ∙ c.if-is_refused.true)

on_ok : {T E P : Type 0} (r : Result T E) → P → OnOk r P
on_ok (Ok x) p = p
on_ok (Err x) p = tt

on_err : {T E P : Type 0} (r : Result T E) → P → OnErr r P
on_err (Ok x) p = tt
on_err (Err x) p = p

pub returns-in_default : goal.returns-in_default
returns-in_default g c = record {
  ok = c.change.ensures.ok;
  charged = on_ok c.change.result (λ weight p nothing. plain_charged c.requires.kept.sound c.requires.next weight p c.requires.empty (no_flush c.args.added.now.request c.in_default.not-Flush c.in_default.not-FlushO));
  refused = λ e. c.requires.empty;
  err = c.change.ensures.err;
  none = on_err c.change.result c.requires.empty;
  capacity = omega arith;
  enough = λ wide room. c.change.ensures.wide wide;
  history = c.change.ensures.history;
  start = c.change.ensures.start;
}
