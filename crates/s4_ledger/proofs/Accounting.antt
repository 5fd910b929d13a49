-- What an edit of the accounts does to what is told of them.
use Rattle.std.proofs.Common.{◌≡◌, ℕ, ◌+◌, Bool, true, false, cond, Option, Some, None, List, [], ◌∷◌, ◌++◌, length, get_or, refl, sym, ◌∙◌, ap, subst, unwrap_or, arith}
use Rattle.std.specs.Prelude.{is_some, slice_set, Result, Ok, Err, OnOk, OnErr, IfOk}
use Rattle.std.specs.Option.{option_map}
use Rattle.std.specs.Ordering.{is_eq}
use Rattle.std.specs.Map.{lookup, keys_of}
use Rattle.std.specs.BTreeMap.{is_at}
use Rattle.s4_types.specs.declared.object.Purse.{Purse}
use Rattle.s4_types.specs.Base.{default_budget}
use Rattle.s4_types.specs.Names.{same_purse, purse_cmp}
use Rattle.s4_types.proofs.Booleans.{by_test}
use Rattle.s4_types.proofs.SameNames.{at_purse, purse_is}
use Rattle.s4_ledger.specs.declared.accounts.Account.{Account}
use Rattle.s4_ledger.specs.declared.accounts.Payer.{Payer}
use Rattle.s4_ledger.specs.Accounts.{account_of, spent_in, budgets_of, opened, ArePlaces}
use Rattle.s4_ledger.specs.Books.{budget_of, has_budget, place_of, place_among, HasAccount}
use Rattle.s4_ledger.proofs.Placing.{at_is, map-set_same, IsAt, at-place, keys-budgets, lookup-set, lookup-new, place-new, place-none, place-lookup}

pub isnt_some : {A : Type 0} (o : Option A) → is_some o ≡ false → o ≡ None
isnt_some None e = refl
isnt_some (Some x) e = cc

abbrev pub fresh : Account
fresh = record { spent = 0; budget = default_budget }

lookup-budgets : (test : Purse → Bool) (accounts : List (Purse × Account)) → lookup test (budgets_of accounts) ≡ option_map (λ a. a.budget) (lookup test accounts)
lookup-budgets test [] = refl
lookup-budgets test (e ∷ accounts) = by_test (test e.0)
    (λ t. ap (λ b. cond b (Some e.1.budget) (lookup test (budgets_of accounts))) t ∙ sym (ap (λ b. option_map (λ a. a.budget) (cond b (Some e.1) (lookup test accounts))) t))
    (λ f. ap (λ b. cond b (Some e.1.budget) (lookup test (budgets_of accounts))) f ∙ lookup-budgets test accounts ∙ sym (ap (λ b. option_map (λ a. a.budget) (cond b (Some e.1) (lookup test accounts))) f))

-- the budget that an account says
pub budget-account : (p : Purse) (accounts : List (Purse × Account)) → budget_of p (budgets_of accounts) ≡ (account_of p accounts).budget
budget-account p accounts = ap (λ o. unwrap_or o default_budget) (lookup-budgets (is_at (purse_cmp p)) accounts) ∙ of (lookup (is_at (purse_cmp p)) accounts)
  where
    of : (o : Option Account) → unwrap_or (option_map (λ a. a.budget) o) default_budget ≡ (unwrap_or o fresh).budget
    of None = refl
    of (Some a) = refl

pub budget-same : (old new : List (Purse × Account)) → ((p : Purse) → account_of p new ≡ account_of p old) → (p : Purse) → budget_of p (budgets_of new) ≡ budget_of p (budgets_of old)
budget-same old new same p = budget-account p new ∙ ap (λ (a : Account). a.budget) (same p) ∙ sym (budget-account p old)

-- whether there is an account
pub has-account : (p : Purse) (accounts : List (Purse × Account)) → has_budget p (budgets_of accounts) ≡ is_some (lookup (is_at (purse_cmp p)) accounts)
has-account p accounts = ap is_some (lookup-budgets (is_at (purse_cmp p)) accounts) ∙ of (lookup (is_at (purse_cmp p)) accounts)
  where
    of : (o : Option Account) → is_some (option_map (λ a. a.budget) o) ≡ is_some o
    of None = refl
    of (Some a) = refl

-- one purse's account is another
module _ (old new : List (Purse × Account)) (q : Purse) (account : Account) (changed : (p : Purse) → lookup (is_at (purse_cmp p)) new ≡ cond (is_eq (purse_cmp q p)) (Some account) (lookup (is_at (purse_cmp p)) old)) where
  here : (p : Purse) → same_purse q p ≡ true → lookup (is_at (purse_cmp p)) new ≡ Some account
  here p t = changed p ∙ ap (λ b. cond b (Some account) (lookup (is_at (purse_cmp p)) old)) (at_purse q p ∙ t)

  there : (p : Purse) → same_purse q p ≡ false → lookup (is_at (purse_cmp p)) new ≡ lookup (is_at (purse_cmp p)) old
  there p f = changed p ∙ ap (λ b. cond b (Some account) (lookup (is_at (purse_cmp p)) old)) (at_purse q p ∙ f)

  pub account-changed : (p : Purse) → account_of p new ≡ cond (same_purse q p) account (account_of p old)
  account-changed p = by_test (same_purse q p)
      (λ t. ap (λ o. unwrap_or o fresh) (here p t) ∙ sym (ap (λ b. cond b account (account_of p old)) t))
      (λ f. ap (λ o. unwrap_or o fresh) (there p f) ∙ sym (ap (λ b. cond b account (account_of p old)) f))

  pub open-changed : (p : Purse) → has_budget p (budgets_of old) ≡ true → has_budget p (budgets_of new) ≡ true
  open-changed p has = has-account p new ∙ by_test (same_purse q p)
      (λ t. ap is_some (here p t))
      (λ f. ap is_some (there p f) ∙ sym (has-account p old) ∙ has)

  pub open-here : has_budget q (budgets_of new) ≡ true
  open-here = has-account q new ∙ ap is_some (here q (Rattle.s4_types.proofs.SameNames.purse_self q))

  -- it says what it said
  pub account-same : account ≡ account_of q old → (p : Purse) → account_of p new ≡ account_of p old
  account-same e p = account-changed p ∙ by_test (same_purse q p)
      (λ t. ap (λ b. cond b account (account_of p old)) t ∙ e ∙ ap (λ x. account_of x old) (purse_is q p t))
      (λ f. ap (λ b. cond b account (account_of p old)) f)

  -- it has spent what it had
  pub spent-same : account.spent ≡ spent_in q old → (p : Purse) → spent_in p new ≡ spent_in p old
  spent-same e p = ap (λ (a : Account). a.spent) (account-changed p) ∙ by_test (same_purse q p)
      (λ t. ap (λ b. (cond b account (account_of p old)).spent) t ∙ e ∙ ap (λ x. spent_in x old) (purse_is q p t))
      (λ f. ap (λ b. (cond b account (account_of p old)).spent) f)

  -- it has spent more, or less
  pub spent-more : (cost : ℕ) → account.spent ≡ spent_in q old + cost → (p : Purse) → spent_in p new ≡ spent_in p old + cond (same_purse q p) cost 0
  spent-more cost e p = ap (λ (a : Account). a.spent) (account-changed p) ∙ by_test (same_purse q p)
      (λ t. ap (λ b. (cond b account (account_of p old)).spent) t ∙ e ∙ ap (λ x. spent_in x old + cost) (purse_is q p t) ∙ sym (ap (λ b. spent_in p old + cond b cost 0) t))
      (λ f. ap (λ b. (cond b account (account_of p old)).spent) f ∙ omega arith ∙ sym (ap (λ b. spent_in p old + cond b cost 0) f))

  pub spent-less : (cost : ℕ) → account.spent + cost ≡ spent_in q old → (p : Purse) → spent_in p old ≡ spent_in p new + cond (same_purse q p) cost 0
  spent-less cost e p = sym (ap (λ (a : Account). a.spent + cond (same_purse q p) cost 0) (account-changed p) ∙ by_test (same_purse q p)
      (λ t. ap (λ b. (cond b account (account_of p old)).spent + cond b cost 0) t ∙ e ∙ ap (λ x. spent_in x old) (purse_is q p t))
      (λ f. ap (λ b. (cond b account (account_of p old)).spent + cond b cost 0) f ∙ omega arith))

  pub budget-changed : (p : Purse) → budget_of p (budgets_of new) ≡ cond (same_purse q p) account.budget (budget_of p (budgets_of old))
  budget-changed p = budget-account p new ∙ ap (λ (a : Account). a.budget) (account-changed p) ∙ by_test (same_purse q p)
      (λ t. ap (λ b. (cond b account (account_of p old)).budget) t ∙ sym (ap (λ b. cond b account.budget (budget_of p (budgets_of old))) t))
      (λ f. ap (λ b. (cond b account (account_of p old)).budget) f ∙ sym (budget-account p old) ∙ sym (ap (λ b. cond b account.budget (budget_of p (budgets_of old))) f))

-- an account that was opened, where there was none
module _ (q : Purse) (old : List (Purse × Account)) where
  -- by whether there was one
  by_opened : {A : Type 0} → (is_some (lookup (is_at (purse_cmp q)) old) ≡ true → opened q old ≡ old → A)
      → (lookup (is_at (purse_cmp q)) old ≡ None → opened q old ≡ old ++ (q, fresh) ∷ [] → A) → A
  by_opened there new = by_test (is_some (lookup (is_at (purse_cmp q)) old))
      (λ t. there t (ap (λ b. cond b old (old ++ (q, fresh) ∷ [])) t))
      (λ f. new (isnt_some (lookup (is_at (purse_cmp q)) old) f) (ap (λ b. cond b old (old ++ (q, fresh) ∷ [])) f))

  opened-changed : lookup (is_at (purse_cmp q)) old ≡ None → opened q old ≡ old ++ (q, fresh) ∷ [] → (p : Purse) → lookup (is_at (purse_cmp p)) (opened q old) ≡ cond (is_eq (purse_cmp q p)) (Some fresh) (lookup (is_at (purse_cmp p)) old)
  opened-changed none e p = ap (lookup (is_at (purse_cmp p))) e ∙ lookup-new q fresh old none p

  pub opened-same : (p : Purse) → account_of p (opened q old) ≡ account_of p old
  opened-same p = by_opened
      (λ t e. ap (account_of p) e)
      (λ none e. account-same old (opened q old) q fresh (opened-changed none e) (sym (ap (λ o. unwrap_or o fresh) none)) p)

  pub opened-still : (p : Purse) → has_budget p (budgets_of old) ≡ true → has_budget p (budgets_of (opened q old)) ≡ true
  opened-still p has = by_opened
      (λ t e. ap (λ es. has_budget p (budgets_of es)) e ∙ has)
      (λ none e. open-changed old (opened q old) q fresh (opened-changed none e) p has)

  pub opened-others : (p : Purse) → same_purse q p ≡ false → has_budget p (budgets_of (opened q old)) ≡ has_budget p (budgets_of old)
  opened-others p other = by_opened
      (λ t e. ap (λ es. has_budget p (budgets_of es)) e)
      (λ none e. has-account p (opened q old) ∙ ap is_some (opened-changed none e p ∙ ap (λ b. cond b (Some fresh) (lookup (is_at (purse_cmp p)) old)) (at_purse q p ∙ other)) ∙ sym (has-account p old))

  pub opened-places : (p : Purse) (i : ℕ) → place_of p (budgets_of old) ≡ Some i → place_of p (budgets_of (opened q old)) ≡ Some i
  opened-places p i is = by_opened
      (λ t e. ap (λ es. place_of p (budgets_of es)) e ∙ is)
      (λ none e. ap (place_among p) (keys-budgets (opened q old)) ∙ ap (λ es. place_among p (keys_of es)) e ∙ place-new q fresh old none p
      ∙ by_test (is_eq (purse_cmp q p))
      (λ t. absurd (missing (place_among q (keys_of old)) (place-none q fresh old none) (ap (λ x. place_among x (keys_of old)) (at_is q p t) ∙ ap (place_among p) (sym (keys-budgets old)) ∙ is)))
      (λ f. ap (λ b. cond b (Some (length old)) (place_among p (keys_of old))) f ∙ ap (place_among p) (sym (keys-budgets old)) ∙ is))
    where
      missing : (o : Option ℕ) → o ≡ None → o ≡ Some i → ⊥
      missing o e f = cc

-- the purse's account is where its place says
pub there_is : (q : Purse) (i : ℕ) (accounts : List (Purse × Account)) → place_of q (budgets_of accounts) ≡ Some i → IsAt q accounts i
there_is q i accounts placed = at-place q accounts i (ap (place_among q) (sym (keys-budgets accounts)) ∙ placed)

-- what is held there
module _ (q : Purse) (i : ℕ) (old : List (Purse × Account)) (held : Purse × Account) (placed : place_of q (budgets_of old) ≡ Some i) (is : held ≡ get_or old i held) where
  named : held.0 ≡ q
  named = ap (λ (e : Purse × Account). e.0) is ∙ (there_is q i old placed).named held

  pub held_is : held.1 ≡ account_of q old
  held_is = sym (ap (λ o. unwrap_or o fresh) ((there_is q i old placed).found held) ∙ ap (λ (e : Purse × Account). e.1) (sym is))

-- another account in the place of the purse's
module _ (q : Purse) (i : ℕ) (old : List (Purse × Account)) (held : Purse × Account) (account : Account) (placed : place_of q (budgets_of old) ≡ Some i) (is : held ≡ get_or old i held) where
  abbrev pub new : List (Purse × Account)
  new = slice_set old i (held.0, account)

  pub written : (p : Purse) → lookup (is_at (purse_cmp p)) new ≡ cond (is_eq (purse_cmp q p)) (Some account) (lookup (is_at (purse_cmp p)) old)
  written p = ap (λ n. lookup (is_at (purse_cmp p)) (slice_set old i (n, account))) (named q i old held placed is) ∙ lookup-set q account old i (ap (place_among q) (sym (keys-budgets old)) ∙ placed) p

  pub written-keys : keys_of new ≡ keys_of old
  written-keys = map-set_same (λ e. e.0) old i (held.0, account) held (there_is q i old placed).within (ap (λ (e : Purse × Account). e.0) is)

  pub written-places : (places : List (Purse × ℕ)) → ArePlaces places old → ArePlaces places new
  written-places places are p = are p ∙ ap (place_among p) (sym written-keys)

  pub written-place : (p : Purse) → place_of p (budgets_of new) ≡ place_of p (budgets_of old)
  written-place p = ap (place_among p) (keys-budgets new ∙ written-keys ∙ sym (keys-budgets old))

  pub written-budgets : account.budget ≡ held.1.budget → budgets_of new ≡ budgets_of old
  written-budgets same = map-set_same (λ e. (e.0, e.1.budget)) old i (held.0, account) held (there_is q i old placed).within
      (ap (λ n. (held.0, n)) same ∙ ap (λ (e : Purse × Account). (e.0, e.1.budget)) is)

-- a purse has an account where it has a place
pub has-place : (p : Purse) (accounts : List (Purse × Account)) → has_budget p (budgets_of accounts) ≡ is_some (place_of p (budgets_of accounts))
has-place p accounts = has-account p accounts ∙ sym (place-lookup p accounts) ∙ sym (ap (λ ks. is_some (place_among p ks)) (keys-budgets accounts))

-- what holds of the accounts after an opening, where it holds of those that it may leave
pub by_result : {A E : Type 0} (P : List (Purse × Account) → Type 0) (r : Result A E) (old more now : List (Purse × Account)) → OnOk r (now ≡ more) → OnErr r (now ≡ old) → P old → P more → P now
by_result P (Ok x) old more now ok err before after = subst P (sym ok) after
by_result P (Err e) old more now ok err before after = subst P (sym err) before

pub ok-has : {E : Type 0} (q : Purse) (accounts : List (Purse × Account)) (r : Result Payer E) → IfOk r (λ payer. payer.purse ≡ q) → IfOk r (λ payer. HasAccount payer (budgets_of accounts)) → OnOk r (has_budget q (budgets_of accounts) ≡ true)
ok-has q accounts (Ok payer) own place = ap (λ p. has_budget p (budgets_of accounts)) (sym own) ∙ has-place payer.purse accounts ∙ ap is_some place
ok-has q accounts (Err e) own place = tt

pub err-budgets : {A E : Type 0} (r : Result A E) (old now : List (Purse × Account)) (budgets : List (Purse × ℕ)) → OnErr r (now ≡ old) → budgets_of old ≡ budgets → OnErr r (budgets_of now ≡ budgets)
err-budgets (Ok x) old now budgets same is = tt
err-budgets (Err e) old now budgets same is = ap budgets_of same ∙ is
