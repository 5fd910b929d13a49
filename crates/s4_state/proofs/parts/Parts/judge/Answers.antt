use Rattle.std.proofs.Common.{◌≡◌, ℕ, true, false, Option, Some, None, List, refl, sym, ap, ◌∙◌}
use Rattle.std.specs.Prelude.{is_some}
use Rattle.s4_types.specs.declared.principal.Caller.{Caller}
use Rattle.s4_types.specs.declared.object.ObjectId.{ObjectId}
use Rattle.s4_types.specs.declared.rights.Right.{Right}
use Rattle.s4_types.specs.declared.record.Record.{Record}
use Rattle.s4_types.specs.Answer.{moment_of}
use Rattle.s4_types.specs.Judgement.{held_at, judge, judge_now, judge_past}
use Rattle.s4_types.specs.Base.{Base}
use Rattle.s4_state.specs.Stands.{base_in}
use Rattle.s4_state.proofs.parts.Parts.judge.Goals as goal

past : (base : Base) (h : List Record) (t : ℕ) (caller : Caller) (o : ObjectId) (needed : Right) (at : Option ℕ) → is_some at ≡ true → judge_past caller o (held_at base o (moment_of t at) h) ≡ judge base h t caller o needed at
past base h t caller o needed None e = cc
past base h t caller o needed (Some m) e = refl

now : (base : Base) (h : List Record) (t : ℕ) (caller : Caller) (o : ObjectId) (needed : Right) (at : Option ℕ) → is_some at ≡ false → judge_now caller o needed (held_at base o (moment_of t at) h) ≡ judge base h t caller o needed at
now base h t caller o needed None e = refl
now base h t caller o needed (Some m) e = cc

pub returns-then-names_a_moment : goal.returns-then-names_a_moment
returns-then-names_a_moment g c t later =
    c.judge_past.ensures ∙ ap (judge_past c.args.caller c.args.object.now) (c.held-held.ensures t later)
    ∙ past (base_in c.args.self.now) c.args.self.now.history.records t c.args.caller c.args.object.now c.args.right c.args.at (sym c.is_some-names_a_moment.ensures ∙ c.if-names_a_moment.true)

pub returns-else-names_a_moment : goal.returns-else-names_a_moment
returns-else-names_a_moment g c t later =
    c.judge_now.ensures ∙ ap (judge_now c.args.caller c.args.object.now c.args.right) (c.held-held.ensures t later)
    ∙ now (base_in c.args.self.now) c.args.self.now.history.records t c.args.caller c.args.object.now c.args.right c.args.at (sym c.is_some-names_a_moment.ensures ∙ c.if-names_a_moment.false)
