use Rattle.std.proofs.Common.{sym, ◌∙◌, ap}
use Rattle.std.specs.Prelude.{◌&&◌, nat_eq, slice_index_or}
use Rattle.s4_stream.proofs.Compared.{one_more, compared}
use Rattle.s4_stream.proofs.logins.is_same.Goals as goal

pub loop-place-preserved : goal.loop-place-preserved
loop-place-preserved c =
    let same = nat_eq (slice_index_or c.args.known.now c.loop-place.place 0) (slice_index_or c.args.secret.now c.loop-place.place 0) in
    ap (λ b. b && same) c.loop-place.invariant ∙ sym (one_more c.args.known.now c.args.secret.now c.loop-place.place c.loop-place-test.true c.if-known-secret.false)

pub returns : goal.returns
returns c = c.loop-place.invariant ∙ compared c.args.known.now c.args.secret.now c.loop-place.place c.loop-place-test.false c.if-known-secret.false
