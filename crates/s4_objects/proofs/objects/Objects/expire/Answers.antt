use Rattle.std.proofs.Common.{◌≡◌, ◌≤◌, ℕ, true, false, Option, Some, None, List, ◌∷◌, refl, sym, ◌∙◌, ap, subst, arith, drop, take, min}
use Rattle.std.specs.Prelude.{◌||◌, is_some}
use Rattle.std.specs.List.{list_any, prefix_len}
use Rattle.std.proofs.Math.Nat.{min-eq_left, min-eq_right}
use Rattle.std.proofs.lemmas.List.{drop-drop}
use Rattle.s4_tracks.proofs.Expiring.{one_more, no_more}
use Rattle.s4_tracks.proofs.Sweeping.{swept_none, swept_through}
use Rattle.s4_objects.specs.declared.ends.Ended.{Ended}
use Rattle.s4_objects.specs.declared.kept.Kept.{Kept}
use Rattle.s4_objects.specs.Ends.{is_gone, all_ends}
use Rattle.s4_objects.specs.Table.{HoldsFor, found_in, held_in, ends_in}
use Rattle.s4_objects.proofs.Queueing.{by_left, rising_count}
use Rattle.s4_objects.proofs.Holding.{spares_none, spares_then, leaves_none, leaves_then, first_any, holds_drained, swept_drained}
use Rattle.s4_objects.proofs.objects.Objects.expire.Given.{Over}
use Rattle.s4_objects.proofs.objects.Objects.expire.Goals as goal
use Rattle.s4_objects.proofs.objects.Objects.expire.Goals.{In-Some}

some-there : (x y : Option Kept) → ((k : Kept) → x ≡ Some k → y ≡ Some k) → is_some x ≡ true → is_some y ≡ true
some-there None y up e = cc
some-there (Some k) y up e = ap is_some (up k refl)

pub loop-freed-init : goal.loop-freed-init
loop-freed-init g c = record {
  holds = c.requires;
  ends = refl;
  gone = omega arith;
  held = λ o w. swept_none c.args.horizon (held_in (g.S.Store.chains c.args.store.now) c.args.self.now o w);
  kept = λ o k got. got;
  others = spares_none (g.S.Store.chains c.args.store.now) (found_in c.args.self.now);
  leaves = leaves_none (g.S.Store.chains c.args.store.now) (found_in c.args.self.now);
  ends_room = omega arith;
  used = omega arith;
  room = omega arith;
}

-- what is kept, where the end that waits first is shown
holds-first : (g : Over) (c : In-Some g) → HoldsFor (g.S.Store.chains c.loop-freed.store) (found_in c.loop-freed.self) (c.in-Some.ended ∷ c.take_gone.new.ends.items) c.loop-freed.self.has_reversed
holds-first g c = subst (λ es. HoldsFor (g.S.Store.chains c.loop-freed.store) (found_in c.loop-freed.self) es c.loop-freed.self.has_reversed) c.in-Some.ensures.taken c.loop-freed.invariant.holds

pub free-requires-clause-chained : goal.free-requires-clause-chained
free-requires-clause-chained g c = c.loop-freed.invariant.holds.chained

pub free-requires-clause-any : goal.free-requires-clause-any
free-requires-clause-any g c = first_any c.in-Some.ended (holds-first g (goal.at.free-requires-clause-any g c).In-Some)

pub loop-freed-preserved : goal.loop-freed-preserved
loop-freed-preserved g c =
    let i = c.loop-freed.invariant in
    let gone = is_gone c.args.horizon in
    let old = ends_in c.args.self.now in
    let e : Ended = c.in-Some.ended in
    let rest : List ℕ = all_ends c.take_gone.new.ends.items in
    let h = holds-first g (goal.at.loop-freed-preserved g c).In-Some in
    let is : e.end ∷ rest ≡ drop c.loop-freed.freed old = ap all_ends (sym c.in-Some.ensures.taken) ∙ i.ends in
    let go : list_any gone (take 1 (drop c.loop-freed.freed old)) ≡ true = ap (λ ends. list_any gone (take 1 ends)) (sym is) ∙ ap (λ b. b || false) c.in-Some.ensures.gone in
    record {
      holds = holds_drained e h c.free.ensures.frees;
      ends = ap (drop 1) is ∙ drop-drop 1 c.loop-freed.freed old;
      gone = one_more gone c.loop-freed.freed old i.gone go;
      held = λ o w. swept_through c.args.horizon _ _ _ (swept_drained e h c.free.ensures.frees c.args.horizon c.in-Some.ensures.gone o w) (i.held o w);
      kept = λ o k got. i.kept o k (c.free.ensures.frees.kept o k got);
      others = spares_then i.others c.free.ensures.frees.others;
      leaves = leaves_then i.leaves c.free.ensures.frees.leaves;
      ends_room = omega (arith, i.ends_room, c.in-Some.ensures.room);
      used = omega (arith, i.used, c.free.ensures.used);
      room = omega (arith, i.room, c.free.ensures.room);
    }

pub returns-in_default-clause-first : goal.returns-in_default-clause-first
returns-in_default-clause-first g c =
    let gone = is_gone c.args.horizon in
    let old = ends_in c.args.self.now in
    let stop : list_any gone (take 1 (drop c.loop-freed.freed old)) ≡ false = ap (λ ends. list_any gone (take 1 ends)) (sym c.loop-freed.invariant.ends) ∙ c.in_default.ensures.none in
    let all : c.loop-freed.freed ≡ prefix_len gone old = no_more gone c.loop-freed.freed old c.loop-freed.invariant.gone stop in
    let most : c.loop-freed.freed ≤ c.args.most = omega (arith, c.loop-freed-test.true) in
    sym (ap (min c.args.most) (sym all) ∙ min-eq_right most)

pub returns-in_default-clause-ends : goal.returns-in_default-clause-ends
returns-in_default-clause-ends g c = ap all_ends c.in_default.ensures.same ∙ c.loop-freed.invariant.ends

pub returns-in_default-clause-held : goal.returns-in_default-clause-held
returns-in_default-clause-held g c = c.loop-freed.invariant.held

pub returns-in_default-clause-kept : goal.returns-in_default-clause-kept
returns-in_default-clause-kept g c o kept = some-there (found_in c.loop-freed.self o) (found_in c.args.self.now o) (c.loop-freed.invariant.kept o) kept

pub returns-in_default-clause-holds : goal.returns-in_default-clause-holds
returns-in_default-clause-holds g c = subst (λ es. HoldsFor (g.S.Store.chains c.loop-freed.store) (found_in c.loop-freed.self) es c.loop-freed.self.has_reversed) (sym c.in_default.ensures.same) c.loop-freed.invariant.holds

pub returns-clause-first : goal.returns-clause-first
returns-clause-first g c =
    let gone = is_gone c.args.horizon in
    let old = ends_in c.args.self.now in
    let most : c.args.most ≡ c.loop-freed.freed = omega (arith, c.loop-freed-test.false, c.loop-freed.auto.freed-end) in
    let enough : c.args.most ≤ prefix_len gone old = omega (arith, c.loop-freed.invariant.gone) in
    sym (min-eq_left enough)

pub returns-clause-kept : goal.returns-clause-kept
returns-clause-kept g c o kept = some-there (found_in c.loop-freed.self o) (found_in c.args.self.now o) (c.loop-freed.invariant.kept o) kept

pub returns-in_default-clause-freed : goal.returns-in_default-clause-freed
returns-in_default-clause-freed g c = returns-in_default-clause-first g c ∙ ap (min c.args.most) (rising_count c.args.horizon (ends_in c.args.self.now) c.requires.rising)

pub returns-in_default-clause-by_then : goal.returns-in_default-clause-by_then
returns-in_default-clause-by_then g c m = by_left m c.loop-freed.freed (ends_in c.args.self.now) _ (ap all_ends c.in_default.ensures.same ∙ c.loop-freed.invariant.ends)

pub returns-clause-freed : goal.returns-clause-freed
returns-clause-freed g c = returns-clause-first g c ∙ ap (min c.args.most) (rising_count c.args.horizon (ends_in c.args.self.now) c.requires.rising)

pub returns-clause-by_then : goal.returns-clause-by_then
returns-clause-by_then g c m = by_left m c.loop-freed.freed (ends_in c.args.self.now) (ends_in c.loop-freed.self) c.loop-freed.invariant.ends
