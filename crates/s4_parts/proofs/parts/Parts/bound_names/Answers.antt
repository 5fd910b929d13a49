use Rattle.std.proofs.Common.{◌≡◌, ◌∙◌, ap, length, vec_len, rules}
use Rattle.s4_parts.specs.Table.{serials_on}
use Rattle.s4_parts.proofs.Counting.{count-bound}
use Rattle.s4_parts.proofs.parts.Parts.bound_names.Goals as goal

pub returns-in-Some : goal.returns-in-Some
returns-in-Some c chains s =
    let len : vec_len c.in-Some.shelf.now.bound ≡ length c.in-Some.shelf.now.bound.items = search rules in
    c.len.ensures ∙ len ∙ ap (λ x. length (serials_on x)) c.in-Some.ensures.value ∙ count-bound c.args.self.now s c.args.purse.now
