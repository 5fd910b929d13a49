use Rattle.std.proofs.Common.{◌≡◌, ◌-◌, ◌++◌, length, take, drop, ◌+◌, true, ap, ◌∙◌, subst, sym, arith}
use Rattle.s4_causes.specs.Begun.{samples}
use Rattle.s4_causes.specs.Taken.{takes}
use Rattle.s4_causes.proofs.spot.spot_in.Goals as goal

-- What was tried is the line up to the word's end and the samples of the further places, and it was taken.
pub loop-before-preserved : goal.loop-before-preserved
loop-before-preserved c = λ _.
    let further = take (length c.args.slots.now - (c.loop-before.before + 1)) (drop (c.loop-before.before + 1) c.args.slots.now) in
    let taken = ap (takes c.args.form) (sym (c.as_slice.ensures.value ∙ c.in_ok-tried.ensures)) ∙ (sym c.in_ok-takes.ensures ∙ c.if-not-branch.false) in
    let behind : c.end_of_word-end.result + 1 - 1 ≡ c.end_of_word-end.result = omega arith in
    (further, subst (λ end. takes c.args.form (take end c.args.line.now ++ samples further) ≡ true) (sym behind) taken)
