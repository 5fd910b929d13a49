use Rattle.std.proofs.Common.{◌≡◌, ◌<◌, List, length, ap, sym, subst, ◌∙◌, slice_index_or, arith}
use Rattle.s4_types.specs.declared.record.Record.{Record}
use Rattle.s4_types.specs.declared.reply.Reply.{Reply}
use Rattle.s4_types.specs.declared.request.Request.{Request}
use Rattle.s4_types.specs.Play.{is_no_memory}
use Rattle.s4_types.proofs.Outcomes.{is_no_memory-answer}
use Rattle.s4_types.specs.Log.{fresh_log, base_of}
use Rattle.s4_calls.specs.Books.{BookState}
use Rattle.s4_cells.specs.Many.{AllAdd}
use Rattle.s4_closing.specs.Kept.{AreKept}
use Rattle.s4_pool.proofs.Beside.{first_kept, kept_with}
use Rattle.s4_pool.proofs.stepping.step_in_all.Goals as goal

pub returns-clause-told : goal.returns-clause-told
returns-clause-told g c =
    let first = slice_index_or c.args.cells.now 0 (fresh_log 0) in
    ap is_no_memory (c.in_ok-reply.ensures.reply 0 (fresh_log 0) c.requires.some) ∙ is_no_memory-answer (base_of first) first.history c.latest-moment.result c.args.caller c.args.request.now

pub add_wide-requires-clause-place : goal.add_wide-requires-clause-place
add_wide-requires-clause-place g c =
    let first = c.index-cells-0.result in
    let some : 0 < length c.args.books.now = omega (arith, c.requires.some, c.requires.all, c.requires.books) in
    let kept = first_kept c.args.books.now c.args.cells.now first some c.requires.some c.requires.kept in
    c.next_place-place.ensures ∙ sym kept

pub returns-clause-kept : goal.returns-clause-kept
returns-clause-kept g c =
    let moment = c.latest-moment.result in
    let added : Record = record { moment = moment; caller = c.args.caller; request = c.args.request.now; reply = c.in_ok-reply.field-0.reply } in
    let noted : Record = record { moment = moment; caller = c.args.caller; request = c.in_ok-copy.field-0; reply = c.in_ok-reply.field-0.copy } in
    let same : added ≡ noted = sym (
    ap (λ (r : Request). record { moment = moment; caller = c.args.caller; request = r; reply = c.in_ok-reply.field-0.copy }) c.in_ok-copy.ensures
    ∙ ap (λ (r : Reply). record { moment = moment; caller = c.args.caller; request = c.args.request.now; reply = r }) c.in_ok-reply.ensures.copy
    ) in
    let adds = subst (λ (r : Record). AllAdd r c.args.cells.now c.wide_with_copy.new.cells) same c.in_ok-reply.ensures.adds in
    subst (λ (books : List (BookState Record)). AreKept books c.wide_with_copy.new.cells) (sym c.add_wide.ensures.books)
    (kept_with noted c.args.books.now c.args.cells.now c.wide_with_copy.new.cells c.requires.kept adds)
