use Rattle.std.proofs.Common.{◌≡◌, ◌≤◌, ◌<◌, Bool, true, false, Option, Some, None, refl, sym, ◌∙◌, ap, arith}
use Rattle.std.specs.Prelude.{Result, Ok, is_some, nat_le}
use Rattle.std.specs.Option.{option_map}
use Rattle.s4_types.specs.declared.rights.Right.TheVariants as right
use Rattle.s4_types.specs.declared.reply.Grant.{Grant}
use Rattle.s4_types.specs.declared.reply.Refusal.{Refusal}
use Rattle.s4_types.specs.declared.reply.Refusal.TheVariants.{Exists, PartsFull}
use Rattle.s4_types.specs.declared.reply.Reply.TheVariants.{Done}
use Rattle.s4_types.specs.Names.{object_in}
use Rattle.s4_types.specs.Bindings.{bound_at, bound_count}
use Rattle.s4_types.specs.Judgement.{judge}
use Rattle.s4_types.specs.Outcome.{◌>>◌, refuse_if}
use Rattle.s4_types.specs.Log.{base_of}
use Rattle.s4_drive.proofs.partitions.bind_outcome.Goals as goal

-- what is told once the judgement and the first test passed
told : (judged : Result Grant Refusal) (taken full is_full : Bool) (grant : Grant) → judged ≡ Ok grant → taken ≡ false → full ≡ is_full
    → (judged >> (refuse_if taken Exists >> (refuse_if full PartsFull >> Ok Done))) ≡ (refuse_if is_full PartsFull >> Ok Done)
told judged taken full is_full grant e f k =
    ap (λ j. j >> (refuse_if taken Exists >> (refuse_if full PartsFull >> Ok Done))) e ∙ ap (λ b. refuse_if b Exists >> (refuse_if full PartsFull >> Ok Done)) f ∙ ap (λ b. refuse_if b PartsFull >> Ok Done) k

same-some : {A B : Type 0} (f : A → B) (x : Option A) → is_some (option_map f x) ≡ is_some x
same-some f None = refl
same-some f (Some y) = refl

pub returns-then-bound_count-ge64 : goal.returns-then-bound_count-ge64
returns-then-bound_count-ge64 g c =
    let base = base_of c.args.state.now in
    let h = c.args.state.now.history in
    let o = c.args.object.now in
    let taken : is_some (bound_at base o.purse c.args.name.now c.args.moment h) ≡ false =
    sym (same-some (object_in o.purse) (bound_at base o.purse c.args.name.now c.args.moment h)) ∙ ap is_some (sym (c.bound.ensures c.args.moment c.requires.later)) ∙ sym c.is_some.ensures ∙ c.if-is_some.false in
    let count : c.bound_count.result ≡ bound_count base o.purse c.args.moment h = c.bound_count.ensures c.args.moment c.requires.later in
    let high : 64 ≤ c.bound_count.result = c.if-bound_count-ge64.true in
    let full : nat_le 64 (bound_count base o.purse c.args.moment h) ≡ true = grind arith in
    sym (told (judge base h c.args.moment c.args.caller o right.Control None) _ _ true c.in_ok-judge.field-0 (sym (c.judge.ensures c.args.moment c.requires.later) ∙ c.in_ok-judge.was) taken full)

pub returns : goal.returns
returns g c =
    let base = base_of c.args.state.now in
    let h = c.args.state.now.history in
    let o = c.args.object.now in
    let taken : is_some (bound_at base o.purse c.args.name.now c.args.moment h) ≡ false =
    sym (same-some (object_in o.purse) (bound_at base o.purse c.args.name.now c.args.moment h)) ∙ ap is_some (sym (c.bound.ensures c.args.moment c.requires.later)) ∙ sym c.is_some.ensures ∙ c.if-is_some.false in
    let count : c.bound_count.result ≡ bound_count base o.purse c.args.moment h = c.bound_count.ensures c.args.moment c.requires.later in
    let low : c.bound_count.result < 64 = c.if-bound_count-ge64.false in
    let full : nat_le 64 (bound_count base o.purse c.args.moment h) ≡ false = grind arith in
    sym (told (judge base h c.args.moment c.args.caller o right.Control None) _ _ false c.in_ok-judge.field-0 (sym (c.judge.ensures c.args.moment c.requires.later) ∙ c.in_ok-judge.was) taken full)
