use Rattle.s4_talk.specs.Turning.{told}
use Rattle.s4_talk.proofs.Laws.{Intakes-filled, Intakes-more}
use Rattle.s4_talk.proofs.turns.take_in.Goals as goal

pub returns-in-Ok-Enough-serve_held-clause-takes : goal.returns-in-Ok-Enough-serve_held-clause-takes
returns-in-Ok-Enough-serve_held-clause-takes g c =
    Intakes-more c.args.logins.now _ _ _ _ _ (told c.args.session.now c.args.fault.now c.args.waiting.now.items) (told c.fill.new.self c.serve_held.new.fault c.serve_held.new.waiting.items) _
    (Intakes-filled c.args.logins.now _ _ c.in-Ok.field-0 _ _ (told c.args.session.now c.args.fault.now c.args.waiting.now.items) c.serve_held.new.session c.fill.new.self c.serve_held.new.fault c.serve_held.new.waiting.items
    c.serve_held.ensures.takes c.in-Ok.ensures.fills)
    c.serve_held-in-Ok.ensures.takes

pub returns-in-Ok-Nothing-serve_held-clause-takes : goal.returns-in-Ok-Nothing-serve_held-clause-takes
returns-in-Ok-Nothing-serve_held-clause-takes g c =
    Intakes-more c.args.logins.now _ _ _ _ _ (told c.args.session.now c.args.fault.now c.args.waiting.now.items) (told c.fill.new.self c.serve_held.new.fault c.serve_held.new.waiting.items) _
    (Intakes-filled c.args.logins.now _ _ c.in-Ok.field-0 _ _ (told c.args.session.now c.args.fault.now c.args.waiting.now.items) c.serve_held.new.session c.fill.new.self c.serve_held.new.fault c.serve_held.new.waiting.items
    c.serve_held.ensures.takes c.in-Ok.ensures.fills)
    c.serve_held-in-Ok.ensures.takes

pub returns-in-Ok-Nothing-serve_held-2-clause-takes : goal.returns-in-Ok-Nothing-serve_held-2-clause-takes
returns-in-Ok-Nothing-serve_held-2-clause-takes g c =
    Intakes-more c.args.logins.now _ _ _ _ _ (told c.args.session.now c.args.fault.now c.args.waiting.now.items) (told c.fill.new.self c.serve_held.new.fault c.serve_held.new.waiting.items) _
    (Intakes-filled c.args.logins.now _ _ c.in-Ok.field-0 _ _ (told c.args.session.now c.args.fault.now c.args.waiting.now.items) c.serve_held.new.session c.fill.new.self c.serve_held.new.fault c.serve_held.new.waiting.items
    c.serve_held.ensures.takes c.in-Ok.ensures.fills)
    c.serve_held-in-Ok.ensures.takes

pub returns-in-Err-serve_held-clause-takes : goal.returns-in-Err-serve_held-clause-takes
returns-in-Err-serve_held-clause-takes g c =
    Intakes-more c.args.logins.now _ _ _ _ _ (told c.args.session.now c.args.fault.now c.args.waiting.now.items) (told c.fill.new.self c.serve_held.new.fault c.serve_held.new.waiting.items) _
    (Intakes-filled c.args.logins.now _ _ c.in-Ok.field-0 _ _ (told c.args.session.now c.args.fault.now c.args.waiting.now.items) c.serve_held.new.session c.fill.new.self c.serve_held.new.fault c.serve_held.new.waiting.items
    c.serve_held.ensures.takes c.in-Ok.ensures.fills)
    c.serve_held-in-Ok.ensures.takes
