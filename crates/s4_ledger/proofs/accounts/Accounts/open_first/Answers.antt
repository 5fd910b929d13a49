use Rattle.std.proofs.Common.{◌≡◌, Some, None, cond, length, List, [], ◌∷◌, ◌++◌, sym, ◌∙◌, ap, subst}
use Rattle.std.specs.Prelude.{false}
use Rattle.std.specs.Map.{keys_of, lookup}
use Rattle.std.specs.BTreeMap.{is_at}
use Rattle.std.specs.Ordering.{is_eq}
use Rattle.s4_types.specs.declared.object.Purse.{Purse}
use Rattle.s4_types.specs.Names.{purse_cmp}
use Rattle.s4_ledger.specs.declared.accounts.Account.{Account}
use Rattle.s4_ledger.specs.Accounts.{budgets_of, ArePlaces}
use Rattle.s4_ledger.specs.Books.{place_of, place_among, has_budget}
use Rattle.s4_ledger.proofs.Accounting.{fresh, isnt_some, has-account}
use Rattle.s4_ledger.proofs.Placing.{at_self, keys-budgets, place-new, places-new}
use Rattle.s4_ledger.proofs.accounts.Accounts.open_first.Goals as goal

none_yet : (purse : Purse) (accounts seen : List (Purse × Account)) → accounts ≡ seen → has_budget purse (budgets_of seen) ≡ false → lookup (is_at (purse_cmp purse)) accounts ≡ None
none_yet purse accounts seen is has = isnt_some _ (sym (has-account purse accounts) ∙ ap (λ es. has_budget purse (budgets_of es)) is ∙ has)

pub invariant_of-self-2 : goal.invariant_of-self-2
invariant_of-self-2 c =
    let purse : Purse = c.args.purse.now in
    let accounts : List (Purse × Account) = c.self.inside.accounts.items in
    let n = c.len-place.result in
    let long : n ≡ length accounts = c.len-place.ensures ∙ c.self.inside.accounts.ok.0 in
    subst (ArePlaces c.insert.new.self.entries) (sym (c.push_reserved.ensures.items ∙ ap (λ es. es ++ (purse, fresh) ∷ []) c.reserve.ensures.items))
    (places-new purse fresh accounts (none_yet purse accounts c.args.self.now c.self.view_is c.requires) c.self.inside.places.entries c.insert.new.self.entries c.self.invariant
    (λ p. c.in_ok-insert.ensures.updates.0 p ∙ ap (λ k. cond (is_eq (purse_cmp purse p)) (Some k) (lookup (is_at (purse_cmp p)) c.self.inside.places.entries)) long))

pub returns-clause-place : goal.returns-clause-place
returns-clause-place c =
    let purse : Purse = c.args.purse.now in
    let accounts : List (Purse × Account) = c.self.inside.accounts.items in
    let long : c.len-place.result ≡ length accounts = c.len-place.ensures ∙ c.self.inside.accounts.ok.0 in
    ap (λ es. place_of purse (budgets_of es)) (c.push_reserved.ensures.items ∙ ap (λ es. es ++ (purse, fresh) ∷ []) c.reserve.ensures.items)
    ∙ ap (place_among purse) (keys-budgets (accounts ++ (purse, fresh) ∷ []))
    ∙ place-new purse fresh accounts (none_yet purse accounts c.args.self.now c.self.view_is c.requires) purse
    ∙ ap (λ b. cond b (Some (length accounts)) (place_among purse (keys_of accounts))) (at_self purse) ∙ ap Some (sym long)

pub returns-clause-ok : goal.returns-clause-ok
returns-clause-ok c =
    let purse : Purse = c.args.purse.now in
    let accounts : List (Purse × Account) = c.self.inside.accounts.items in
    c.push_reserved.ensures.items ∙ ap (λ es. es ++ (purse, fresh) ∷ []) (c.reserve.ensures.items ∙ c.self.view_is)
    ∙ sym (ap (λ b. cond b c.args.self.now (c.args.self.now ++ (purse, fresh) ∷ [])) (sym (has-account purse c.args.self.now) ∙ c.requires))
