use Rattle.std.proofs.Common.{◌≡◌, ℕ, List, length, take, drop, ◌++◌, ap, refl, subst, sym, ◌∙◌, arith}
use Rattle.std.proofs.lemmas.Grind.{common_steps}
use Rattle.s4_passes.specs.Calls.{CallList}
use Rattle.s4_types.specs.Log.{Log}
use Rattle.s4_closing.specs.Closing.{AreLogged, IsClosing, NoneUncounted}
use Rattle.s4_closing.specs.Merged.{AreWhole, HaveWindow}
use Rattle.s4_pool.specs.Closings.{AreOf}
use Rattle.s4_pool.specs.Fronts.{FrontState}
use Rattle.s4_pool.specs.Numbers.{HasAll}
use Rattle.s4_pool.proofs.Enough.{enough_passes}
use Rattle.s4_pool.proofs.front.Front.close.Goals as goal

pub returns-then-not-has_all-clause-why : goal.returns-then-not-has_all-clause-why
returns-then-not-has_all-clause-why g c =
    let count = ap FrontState.passes c.self.view_is in
    let missing = subst (λ n. ¬ HasAll n c.as_slice.result.now) count c.if-not-has_all.ensures in
    (subst (λ (p : List CallList). ¬ HasAll c.args.self.passes p) c.as_slice.ensures.value missing, refl)

pub reconcile-requires-clause-passes : goal.reconcile-requires-clause-passes
reconcile-requires-clause-passes g c =
    let enough = enough_passes c.self.inside.shell.passes c.as_slice.result.now c.if-not-has_all.ensures in
    let same = ap (λ (l : List CallList). length l) (c.as_slice.ensures.value ∙ sym c.as_mut_slice.ensures.value) in
    omega (arith, enough, same, c.self.invariant.2)

pub returns-in-Whole-clause-there : goal.returns-in-Whole-clause-there
returns-in-Whole-clause-there g c =
    let count = ap FrontState.passes c.self.view_is in
    let there = subst (λ n. HasAll n c.as_slice.result.now) count c.if-not-has_all.ensures in
    subst (λ (p : List CallList). HasAll c.args.self.passes p) c.as_slice.ensures.value there

pub returns-in-Whole-clause-counted : goal.returns-in-Whole-clause-counted
returns-in-Whole-clause-counted g c =
    let same : c.reconcile.new.passes ≡ c.args.passes.items = c.reconcile.ensures.passes ∙ c.as_mut_slice.ensures.value in
    let back : take c.args.passes.len (c.reconcile.new.passes ++ drop (length c.reconcile.new.passes) c.args.passes.items) ≡ c.args.passes.items = grind (arith, common_steps, same) in
    let counted = subst (λ (p : List CallList). NoneUncounted c.reconcile.new.self.cells.items p) same c.in-Whole.ensures.fits.1 in
    subst (λ (p : List CallList). NoneUncounted c.into_cells.result.items p) (sym back)
    (subst (λ (l : List Log). NoneUncounted l c.args.passes.items) (sym (ap (λ v. v.items) c.into_cells.ensures)) counted)

pub returns-in-Whole-clause-history : goal.returns-in-Whole-clause-history
returns-in-Whole-clause-history g c =
    let window = ap FrontState.window c.self.view_is in
    let same : c.reconcile.new.passes ≡ c.args.passes.items = c.reconcile.ensures.passes ∙ c.as_mut_slice.ensures.value in
    let back : take c.args.passes.len (c.reconcile.new.passes ++ drop (length c.reconcile.new.passes) c.args.passes.items) ≡ c.args.passes.items = grind (arith, common_steps, same) in
    let told = subst (λ (p : List CallList). IsClosing c.self.inside.shell.window c.reconcile.new.self.cells.items p c.in-Whole.history.items) same c.in-Whole.ensures.fits.2 in
    let here = subst (λ (l : List Log). IsClosing c.self.inside.shell.window l c.args.passes.items c.in-Whole.history.items) (sym (ap (λ v. v.items) c.into_cells.ensures)) told in
    subst (λ (p : List CallList). IsClosing c.args.self.window c.into_cells.result.items p c.in-Whole.history.items) (sym back)
    (subst (λ w. IsClosing w c.into_cells.result.items c.args.passes.items c.in-Whole.history.items) window here)

pub returns-in-Torn-clause-why : goal.returns-in-Torn-clause-why
returns-in-Torn-clause-why g c =
    let there = subst (λ n. HasAll n c.as_slice.result.now) (ap FrontState.passes c.self.view_is) c.if-not-has_all.ensures in
    let same : c.reconcile.new.passes ≡ c.args.passes.items = c.reconcile.ensures.passes ∙ c.as_mut_slice.ensures.value in
    let cells = sym (ap (λ v. v.items) c.into_cells-in-Torn.ensures) in
    let torn = subst (λ w. ¬ AreWhole w c.reconcile.new.self.cells.items) (ap FrontState.window c.self.view_is) c.in-Torn.ensures.fits.0 in
    let still = ap (λ (l : List Log). length l) c.reconcile.ensures.cells in
    let of : AreOf c.args.self c.args.passes.items c.reconcile.new.self.cells.items = record {
      count = still ∙ (c.unlock-unlocked.ensures ∙ (sym c.self.invariant.1 ∙ ap FrontState.cells c.self.view_is));
      window = subst (λ (w : ℕ). HaveWindow w c.reconcile.new.self.cells.items) (sym c.self.invariant.0 ∙ ap FrontState.window c.self.view_is)
          (subst (λ (l : List Log). HaveWindow g.N.Names.window l) (sym c.reconcile.ensures.cells) c.unlock-unlocked.result.window);
      counted = subst (λ (p : List CallList). NoneUncounted c.reconcile.new.self.cells.items p) same c.in-Torn.ensures.fits.1;
      logged = subst (λ (p : List CallList). AreLogged c.reconcile.new.self.cells.items p) same c.in-Torn.ensures.fits.2;
    } in (
      subst (λ (p : List CallList). HasAll c.args.self.passes p) c.as_slice.ensures.value there,
      (
        subst (λ (l : List Log). AreOf c.args.self c.args.passes.items l) cells of,
        subst (λ (l : List Log). ¬ AreWhole c.args.self.window l) cells torn,
      ),
    )

pub returns-in-NoMemory-clause-why : goal.returns-in-NoMemory-clause-why
returns-in-NoMemory-clause-why g c =
    let count = ap FrontState.passes c.self.view_is in
    let there = subst (λ n. HasAll n c.as_slice.result.now) count c.if-not-has_all.ensures in
    (subst (λ (p : List CallList). HasAll c.args.self.passes p) c.as_slice.ensures.value there, c.self.view_is)
