use Rattle.std.proofs.Common.{rules, ◌≡◌, Option, Some, None, false, refl, sym, ◌∙◌, ap, unwrap_or, cond}
use Rattle.std.specs.Prelude.{is_some}
use Rattle.std.specs.Ordering.{is_eq}
use Rattle.std.specs.BTreeMap.{get}
use Rattle.s4_types.specs.Names.{same_purse, purse_cmp}
use Rattle.s4_types.proofs.Booleans.{by_test}
use Rattle.s4_types.proofs.SameNames.{purse_is}
use Rattle.s4_types.proofs.SameNames.{at_purse}
use Rattle.s4_names.proofs.Keeping.{still_some}
use Rattle.s4_names.proofs.names.Names.reserve.Goals as goal

isnt_some : {A : Type 0} (o : Option A) → is_some o ≡ false → o ≡ None
isnt_some None e = refl
isnt_some (Some x) e = cc

pub returns-clause-drawn : goal.returns-clause-drawn
returns-clause-drawn c p =
    let before = c.args.self.now.drawn in
    let after = c.insert.new.self in
    let old : get purse_cmp before c.args.purse.now ≡ None = isnt_some _ (search rules) in
    let updates : get purse_cmp after p ≡ cond (is_eq (purse_cmp c.args.purse.now p)) (Some 0) (get purse_cmp before p) = c.in_ok-insert.ensures.updates.0 p in
    let by : get purse_cmp after p ≡ cond (same_purse c.args.purse.now p) (Some 0) (get purse_cmp before p) = updates ∙ ap (λ b. cond b (Some 0) (get purse_cmp before p)) (at_purse c.args.purse.now p) in
    ap (λ x. unwrap_or x 0) by ∙ by_test (same_purse c.args.purse.now p)
    (λ e. ap (λ b. unwrap_or (cond b (Some 0) (get purse_cmp before p)) 0) e ∙ ap (λ x. unwrap_or x 0) (sym old) ∙ ap (λ q. unwrap_or (get purse_cmp before q) 0) (purse_is _ p e))
    (λ e. ap (λ b. unwrap_or (cond b (Some 0) (get purse_cmp before p)) 0) e)

pub returns-clause-still : goal.returns-clause-still
returns-clause-still c p room = record { is_there = ap is_some (c.in_ok-insert.ensures.updates.0 p) ∙ still_some _ _ _ room.is_there }
