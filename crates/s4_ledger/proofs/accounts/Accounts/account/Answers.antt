use Rattle.std.proofs.Common.{◌≡◌, ◌<◌, Some, unwrap_or, sym, ◌∙◌, ap, subst}
use Rattle.std.specs.Prelude.{is_some}
use Rattle.std.specs.Map.{keys_of}
use Rattle.s4_ledger.specs.Accounts.{account_of}
use Rattle.s4_ledger.specs.Books.{place_among}
use Rattle.s4_ledger.proofs.Accounting.{fresh, isnt_some}
use Rattle.s4_ledger.proofs.Placing.{at-place, place-lookup}
use Rattle.s4_ledger.proofs.accounts.Accounts.account.Goals as goal

pub index-requires : goal.index-requires
index-requires c =
    let placed : place_among c.args.purse.now (keys_of c.self.inside.accounts.items) ≡ Some c.in-Some.place =
    sym (c.self.invariant c.args.purse.now) ∙ sym c.get.ensures.value ∙ sym c.copied.ensures ∙ c.in-Some.is in
    subst (λ n. c.in-Some.place < n) (sym c.self.inside.accounts.ok.0) (at-place c.args.purse.now c.self.inside.accounts.items c.in-Some.place placed).within

pub returns-in-Some : goal.returns-in-Some
returns-in-Some c =
    let placed : place_among c.args.purse.now (keys_of c.self.inside.accounts.items) ≡ Some c.in-Some.place =
    sym (c.self.invariant c.args.purse.now) ∙ sym c.get.ensures.value ∙ sym c.copied.ensures ∙ c.in-Some.is in
    let found = (at-place c.args.purse.now c.self.inside.accounts.items c.in-Some.place placed).found c.index.result.now in
    ap (λ e. e.1) c.index.ensures ∙ sym (ap (λ o. unwrap_or o fresh) found) ∙ ap (account_of c.args.purse.now) c.self.view_is

pub returns-in-None : goal.returns-in-None
returns-in-None c =
    let none = sym (c.self.invariant c.args.purse.now) ∙ sym c.get.ensures.value ∙ sym c.copied.ensures ∙ c.in-None.is in
    sym (ap (λ o. unwrap_or o fresh) (isnt_some _ (sym (place-lookup c.args.purse.now c.self.inside.accounts.items) ∙ ap is_some none)))
    ∙ ap (account_of c.args.purse.now) c.self.view_is
