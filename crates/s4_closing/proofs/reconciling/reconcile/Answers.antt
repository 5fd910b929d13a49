use Rattle.s4_closing.proofs.Settling.{settled}
use Rattle.s4_closing.proofs.Counting.{none_uncounted}
use Rattle.s4_closing.proofs.Closing.{are_home, closing, have_same_wides}
use Rattle.s4_closing.proofs.reconciling.reconcile.Goals as goal

pub returns-then-not-are_whole-clause-fits : goal.returns-then-not-are_whole-clause-fits
returns-then-not-are_whole-clause-fits g c =
    let logged = settled c.args.books.now c.args.cells.now c.args.passes.now c.audit.new.passes g.N.Names.passes c.args.rest.now.hands c.audit.ensures.passes c.requires.rest c.requires.even c.requires.few c.requires.passes c.requires.order c.requires.kept c.keep_last.ensures c.audit.ensures.log in
    (c.if-not-are_whole.ensures, none_uncounted c.args.cells.now c.audit.new.passes logged, logged)

pub merged_history-requires-clause-home : goal.merged_history-requires-clause-home
merged_history-requires-clause-home g c =
    let logged = settled c.args.books.now c.args.cells.now c.args.passes.now c.audit.new.passes g.N.Names.passes c.args.rest.now.hands c.audit.ensures.passes c.requires.rest c.requires.even c.requires.few c.requires.passes c.requires.order c.requires.kept c.keep_last.ensures c.audit.ensures.log in
    are_home c.args.cells.now c.audit.new.passes logged

pub merged_history-requires-clause-wides : goal.merged_history-requires-clause-wides
merged_history-requires-clause-wides g c =
    let logged = settled c.args.books.now c.args.cells.now c.args.passes.now c.audit.new.passes g.N.Names.passes c.args.rest.now.hands c.audit.ensures.passes c.requires.rest c.requires.even c.requires.few c.requires.passes c.requires.order c.requires.kept c.keep_last.ensures c.audit.ensures.log in
    have_same_wides c.args.cells.now c.audit.new.passes logged c.requires.some c.if-not-are_whole.ensures.starts

pub returns-clause-fits : goal.returns-clause-fits
returns-clause-fits g c =
    let logged = settled c.args.books.now c.args.cells.now c.args.passes.now c.audit.new.passes g.N.Names.passes c.args.rest.now.hands c.audit.ensures.passes c.requires.rest c.requires.even c.requires.few c.requires.passes c.requires.order c.requires.kept c.keep_last.ensures c.audit.ensures.log in (
      c.if-not-are_whole.ensures,
      none_uncounted c.args.cells.now c.audit.new.passes logged,
      closing c.args.cells.now c.audit.new.passes logged c.args.window c.in-Ok.left.items c.requires.some c.if-not-are_whole.ensures c.all_came.ensures c.in-Ok.ensures.merge c.in-Ok.ensures.rises,
    )
