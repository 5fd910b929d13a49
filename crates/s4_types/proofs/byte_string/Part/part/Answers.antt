use Rattle.std.proofs.Common.{◌-◌, ◌∙◌, ap, sym, take, drop, length, subst, ◌≤◌}
use Rattle.std.specs.Arc.{arc_slice_items}
use Rattle.std.proofs.lemmas.Result.{IfOk-weaker}
use Rattle.s4_types.proofs.Sharing.{inside-room, part-of-part}
use Rattle.s4_types.proofs.byte_string.Part.part.Goals as goal

pub returns : goal.returns
returns c =
    let p = c.self.inside in
    let room = p.end - p.start in
    let block = arc_slice_items p.block in
    let within = inside-room room c.args.end (drop p.start block) (subst (λ bytes. c.args.end ≤ length bytes) (sym c.self.view_is) c.requires.1) in
    IfOk-weaker c.part_of.result _ _
    (λ part is. is
    ∙ part-of-part p.start room c.args.start c.args.end block c.requires.0 within
    ∙ ap (λ bytes. take (c.args.end - c.args.start) (drop c.args.start bytes)) c.self.view_is)
    c.part_of.ensures
