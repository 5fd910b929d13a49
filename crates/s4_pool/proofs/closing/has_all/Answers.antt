use Rattle.std.proofs.Common.{rules, ◌≡◌, nat_lt, sym, ◌∙◌, subst, arith}
use Rattle.std.proofs.lemmas.Bool.{ltb-true, ltb-false}
use Rattle.s4_types.proofs.Booleans.{by_test}
use Rattle.s4_pool.specs.Numbers.{numbered}
use Rattle.s4_pool.proofs.closing.has_all.Goals as goal

pub loop-number-preserved : goal.loop-number-preserved
loop-number-preserved g c =
    let last = c.loop-number.number in
    let one : c.count_numbered.result ≡ 1 = search rules in
    let here : numbered last c.args.passes.now ≡ 1 = sym c.count_numbered.ensures ∙ one in
    λ number e. by_test (nat_lt number last)
    (λ t. c.loop-number.invariant number (ltb-true number last t))
    (λ f. let same : last ≡ number = omega (arith, e, ltb-false number last f) in subst (λ k. numbered k c.args.passes.now ≡ 1) same here)
