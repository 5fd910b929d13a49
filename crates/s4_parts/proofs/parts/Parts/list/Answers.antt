use Rattle.std.proofs.Common.{◌≡◌, ℕ, ◌+◌, ◌≤◌, ◌<◌, List, refl, sym, ◌∙◌, ap, subst, arith, take, length, flat_map, vec_len, rules, min}
use Rattle.std.specs.Prelude.{nat_lt}
use Rattle.std.proofs.lemmas.List.{length-take}
use Rattle.s4_types.specs.Answer.{purse_numbers}
use Rattle.s4_parts.specs.Page.{lines_in, lines_of}
use Rattle.s4_parts.proofs.Listing.{next-purse, cut-page, more-page}
use Rattle.s4_parts.proofs.parts.Parts.list.Goals as goal
use Rattle.s4_parts.proofs.parts.Parts.list.Given.{Over}
use Rattle.s4_parts.proofs.parts.Parts.list.Goals.{After-new-2, in-Some, in_default}

pub loop-number-init : goal.loop-number-init
loop-number-init g c = record {
  room = c.in_ok-lines.ensures.capacity;
  lines = c.in_ok-lines.ensures.items;
}

pub list_purse-requires-clause-fits : goal.list_purse-requires-clause-fits
list_purse-requires-clause-fits g c =
    let cut : length c.loop-number.lines.items ≡ min 65 (length (flat_map (lines_in (g.S.Store.chains c.args.store.now) c.args.self.now (g.V.Visible.shown c.args.visible.now) c.args.range c.args.after.now c.args.at.now) (take c.loop-number.number purse_numbers))) =
    ap length c.loop-number.invariant.lines ∙ length-take 65 _ in
    omega arith

pub list_purse-requires-clause-room : goal.list_purse-requires-clause-room
list_purse-requires-clause-room g c = c.loop-number.invariant.room

pub loop-number-preserved : goal.loop-number-preserved
loop-number-preserved g c =
    let f = lines_in (g.S.Store.chains c.args.store.now) c.args.self.now (g.V.Visible.shown c.args.visible.now) c.args.range c.args.after.now c.args.at.now in
    elim c.match-new.branch [
      | in-Some w ↦ record {
        room = rw w.lines-is w.list_purse.ensures.room;
        lines = ap (λ v. v.items) w.lines-is ∙ next-purse f c.loop-number.number (search rules) c.loop-number.lines.items w.list_purse.new.lines.items c.loop-number.invariant.lines
            (w.list_purse.ensures.lines ∙ ap (λ n. take 65 (Rattle.std.proofs.Common.◌++◌ c.loop-number.lines.items (f n))) w.in-Some.ensures.value);
      }
      | in_default w ↦ absurd (search rules)
    ]

-- all sixteen purses were looked through
all-lines : (g : Over) (c : After-new-2 g) → c.loop-number.lines.items ≡ take 65 (lines_of (g.S.Store.chains c.args.store.now) c.args.self.now (g.V.Visible.shown c.args.visible.now) c.args.range c.args.after.now c.args.at.now)
all-lines g c =
    let f = lines_in (g.S.Store.chains c.args.store.now) c.args.self.now (g.V.Visible.shown c.args.visible.now) c.args.range c.args.after.now c.args.at.now in
    let all : c.loop-number.number ≡ 16 = omega (arith, c.loop-number-test.false, c.loop-number.auto.number-end) in
    c.loop-number.invariant.lines ∙ ap (λ n. take 65 (flat_map f (take n purse_numbers))) all

pub returns-clause-lines : goal.returns-clause-lines
returns-clause-lines g c =
    c.new-2.ensures ∙ c.truncate.ensures.items
    ∙ cut-page (lines_of (g.S.Store.chains c.args.store.now) c.args.self.now (g.V.Visible.shown c.args.visible.now) c.args.range c.args.after.now c.args.at.now) c.loop-number.lines.items (all-lines g c)

pub returns-clause-more : goal.returns-clause-more
returns-clause-more g c =
    let len : vec_len c.loop-number.lines ≡ length c.loop-number.lines.items = search rules in
    ap (nat_lt 64) (c.len-more.ensures ∙ len)
    ∙ more-page (lines_of (g.S.Store.chains c.args.store.now) c.args.self.now (g.V.Visible.shown c.args.visible.now) c.args.range c.args.after.now c.args.at.now) c.loop-number.lines.items (all-lines g c)
