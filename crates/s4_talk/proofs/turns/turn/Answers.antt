use Rattle.std.proofs.Common.{refl}
use Rattle.s4_talk.proofs.Laws.{turn_of_sends, turn_of_all, met_told}
use Rattle.s4_talk.proofs.turns.turn.Goals as goal

pub returns-in-Later-clause-turns : goal.returns-in-Later-clause-turns
returns-in-Later-clause-turns g c = turn_of_sends c.args.logins.now _ _ _ _ c.args.session.now c.args.fault.now c.args.waiting.now.items c.send.new.waiting.items c.send.ensures.sends

pub returns-in-Failed-clause-turns : goal.returns-in-Failed-clause-turns
returns-in-Failed-clause-turns g c = turn_of_sends c.args.logins.now _ _ _ _ c.args.session.now c.args.fault.now c.args.waiting.now.items c.send.new.waiting.items c.send.ensures.sends

pub returns-in-Some-clause-turns : goal.returns-in-Some-clause-turns
returns-in-Some-clause-turns g c = turn_of_sends c.args.logins.now _ _ _ _ c.args.session.now c.args.fault.now c.args.waiting.now.items c.send.new.waiting.items c.send.ensures.sends

pub returns-in-Later-send-clause-turns : goal.returns-in-Later-send-clause-turns
returns-in-Later-send-clause-turns g c =
    turn_of_all c.args.logins.now _ _ _ _ _ _ _ c.args.session.now c.take_in.new.session c.args.fault.now c.take_in.new.fault c.args.waiting.now.items c.send.new.waiting.items c.take_in.new.waiting.items c.send-2.new.waiting.items
    c.send.ensures.sends c.take_in.ensures.takes c.send-2.ensures.sends

pub returns-in-Failed-send-clause-turns : goal.returns-in-Failed-send-clause-turns
returns-in-Failed-send-clause-turns g c =
    turn_of_all c.args.logins.now _ _ _ _ _ _ _ c.args.session.now c.take_in.new.session c.args.fault.now c.take_in.new.fault c.args.waiting.now.items c.send.new.waiting.items c.take_in.new.waiting.items c.send-2.new.waiting.items
    c.send.ensures.sends c.take_in.ensures.takes c.send-2.ensures.sends

pub returns-in-Some-fault-clause-turns : goal.returns-in-Some-fault-clause-turns
returns-in-Some-fault-clause-turns g c =
    turn_of_all c.args.logins.now _ _ _ _ _ _ _ c.args.session.now c.take_in.new.session c.args.fault.now c.take_in.new.fault c.args.waiting.now.items c.send.new.waiting.items c.take_in.new.waiting.items c.send-2.new.waiting.items
    c.send.ensures.sends c.take_in.ensures.takes c.send-2.ensures.sends

pub returns-clause-turns : goal.returns-clause-turns
returns-clause-turns g c =
    turn_of_all c.args.logins.now _ _ _ _ _ _ _ c.args.session.now c.take_in.new.session c.args.fault.now c.take_in.new.fault c.args.waiting.now.items c.send.new.waiting.items c.take_in.new.waiting.items c.send-2.new.waiting.items
    c.send.ensures.sends c.take_in.ensures.takes c.send-2.ensures.sends

pub returns-in-Some-fault-clause-so : goal.returns-in-Some-fault-clause-so
returns-in-Some-fault-clause-so g c =
    (c.in-Some-fault.is, c.in-All-send.ensures.all refl, met_told c.args.logins.now c.take_in.new.session c.take_in.new.fault c.in-Some-fault.told c.take_in.ensures.met c.in-Some-fault.is)
