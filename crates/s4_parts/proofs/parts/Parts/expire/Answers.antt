use Rattle.std.proofs.Common.{◌≡◌, ◌≤◌, true, false, ◌∷◌, sym, ◌∙◌, ap, arith, drop, take, min}
use Rattle.std.specs.Prelude.{◌||◌}
use Rattle.std.specs.List.{list_any, prefix_len}
use Rattle.std.proofs.Math.Nat.{min-eq_left, min-eq_right}
use Rattle.s4_tracks.proofs.Expiring.{one_more, no_more}
use Rattle.s4_parts.specs.declared.parts.Parts.{Parts}
use Rattle.s4_parts.specs.Ends.{Queue}
use Rattle.s4_parts.specs.Table.{KeepsRoom}
use Rattle.s4_parts.specs.Waiting.{is_gone, waiting_in}
use Rattle.s4_parts.proofs.Queueing.{rising-count}
use Rattle.s4_parts.proofs.Draining.{sweeps-none, sweeps-more, waits-drained, first-current}
use Rattle.s4_parts.proofs.Rooming.{keeps-through, room-kept}
use Rattle.s4_parts.proofs.Telling.{tells_same}
use Rattle.s4_parts.proofs.parts.Parts.expire.Goals as goal

pub loop-freed-init : goal.loop-freed-init
loop-freed-init g c = record {
  holds = c.requires.holds;
  waits = c.requires.waits;
  sweeps = sweeps-none c.args.horizon (g.S.Store.chains c.args.store.now) c.args.self.now;
  keeps = record { names = λ p. omega arith; ends = omega arith };
  gone = omega arith;
  room = omega arith;
}

pub returns-in_default-clause-freed : goal.returns-in_default-clause-freed
returns-in_default-clause-freed g c =
    let gone = is_gone c.args.horizon in
    let old = waiting_in c.args.self.now in
    let stop : list_any gone (take 1 (drop c.loop-freed.freed old)) ≡ false = ap (λ es. list_any gone (take 1 es)) (sym c.loop-freed.invariant.sweeps.waiting) ∙ c.in_default.ensures.none in
    let all : c.loop-freed.freed ≡ prefix_len gone old = no_more gone c.loop-freed.freed old c.loop-freed.invariant.gone stop in
    let most : c.loop-freed.freed ≤ c.args.most = omega (arith, c.loop-freed-test.true) in
    sym (ap (min c.args.most) (sym (all ∙ rising-count c.args.horizon old c.requires.waits.rising)) ∙ min-eq_right most)

pub returns-in_default-clause-tells : goal.returns-in_default-clause-tells
returns-in_default-clause-tells g c =
    let told = tells_same c.loop-freed.invariant.sweeps in
    record { mounted = told.mounted; listed = told.listed; bound = told.bound; named = told.named }

pub free-requires-clause-ended : goal.free-requires-clause-ended
free-requires-clause-ended g c = first-current c.args.horizon c.loop-freed.invariant.waits c.in-Some.ended c.take_gone.new.self.ended c.in-Some.ensures.taken c.in-Some.ensures.gone

pub loop-freed-preserved : goal.loop-freed-preserved
loop-freed-preserved g c =
    let gone = is_gone c.args.horizon in
    let old = waiting_in c.args.self.now in
    let s = c.loop-freed.invariant.sweeps in
    let is : waiting_in c.loop-freed.self ≡ c.in-Some.ended ∷ waiting_in c.free.new.self = c.in-Some.ensures.taken ∙ ap (λ (q : Queue). c.in-Some.ended ∷ q.ended) (sym c.free.ensures.ends) in
    let go : list_any gone (take 1 (drop c.loop-freed.freed old)) ≡ true = ap (λ es. list_any gone (take 1 es)) (sym s.waiting ∙ is) ∙ ap (λ b. b || false) c.in-Some.ensures.gone in
    record {
      holds = c.free.ensures.holds;
      waits = waits-drained c.args.horizon (g.S.Store.chains c.free.new.store) c.free.new.self c.loop-freed.invariant.waits c.in-Some.ended is c.in-Some.ensures.gone c.free.ensures.bindings c.free.ensures.bound (ap (λ (q : Queue). q.awaited) c.free.ensures.ends ∙ c.in-Some.ensures.awaited);
      sweeps = sweeps-more c.args.horizon (g.S.Store.chains c.free.new.store) c.free.new.self c.loop-freed.invariant.waits c.in-Some.ended is c.in-Some.ensures.gone c.free.ensures.bindings
          (g.S.Store.chains c.args.store.now) c.args.self.now c.loop-freed.freed s c.free.ensures.names c.free.ensures.own c.free.ensures.given_up (record { still = c.free.ensures.others.still; items = c.free.ensures.others.items }) c.free.ensures.leaves c.free.ensures.used;
      keeps = keeps-through c.loop-freed.invariant.keeps (record { names = c.free.ensures.keeps_room.names; ends = omega (arith, c.in-Some.ensures.spare, c.free.ensures.keeps_room.ends) });
      gone = one_more gone c.loop-freed.freed old c.loop-freed.invariant.gone go;
      room = omega (arith, c.loop-freed.invariant.room, c.free.ensures.room);
    }

pub returns-clause-freed : goal.returns-clause-freed
returns-clause-freed g c =
    let gone = is_gone c.args.horizon in
    let old = waiting_in c.args.self.now in
    let most : c.args.most ≡ c.loop-freed.freed = omega (arith, c.loop-freed-test.false, c.loop-freed.auto.freed-end) in
    let enough : c.args.most ≤ prefix_len gone old = omega (arith, c.loop-freed.invariant.gone) in
    sym (min-eq_left enough) ∙ ap (min c.args.most) (rising-count c.args.horizon old c.requires.waits.rising)

pub returns-clause-tells : goal.returns-clause-tells
returns-clause-tells g c = tells_same c.loop-freed.invariant.sweeps

pub returns-in_default-clause-rooms : goal.returns-in_default-clause-rooms
returns-in_default-clause-rooms g c p n there has =
    let last : Parts = record { alloc = c.loop-freed.self.alloc; shelves = c.loop-freed.self.shelves; ends = c.take_gone.new.self } in
    let kept : KeepsRoom c.loop-freed.self last = record { names = λ q. omega arith; ends = c.in_default.ensures.spare } in
    room-kept (keeps-through c.loop-freed.invariant.keeps kept) p n there has

pub returns-clause-rooms : goal.returns-clause-rooms
returns-clause-rooms g c p n there has = room-kept c.loop-freed.invariant.keeps p n there has
