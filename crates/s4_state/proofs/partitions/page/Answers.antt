use Rattle.std.proofs.Common.{◌≡◌, List, subst, take, length}
use Rattle.std.specs.Prelude.{IfOk, nat_lt}
use Rattle.s4_types.specs.declared.reply.NameLine.{NameLine}
use Rattle.s4_state.proofs.Mounting.{all-lines}
use Rattle.s4_state.proofs.partitions.page.Goals as goal

pub returns-clause-lines : goal.returns-clause-lines
returns-clause-lines g c =
    subst (λ (all : List NameLine). IfOk c.list.result (λ page. page.lines ≡ take 64 all))
    (all-lines c.requires.kept c.args.moment c.requires.later c.args.caller c.args.range c.args.after.now c.args.at.now c.requires.told) c.list.ensures.lines

pub returns-clause-more : goal.returns-clause-more
returns-clause-more g c =
    subst (λ (all : List NameLine). IfOk c.list.result (λ page. page.more ≡ nat_lt 64 (length all)))
    (all-lines c.requires.kept c.args.moment c.requires.later c.args.caller c.args.range c.args.after.now c.args.at.now c.requires.told) c.list.ensures.more
