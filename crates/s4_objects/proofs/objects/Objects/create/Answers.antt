use Rattle.std.proofs.Common.{◌≡◌, ℕ, false, Option, Some, None, sym, ap, ◌∙◌, subst, arith}
use Rattle.std.specs.Prelude.{is_some}
use Rattle.std.specs.BTreeMap.{get}
use Rattle.s4_objects.specs.Keys.{object_cmp}
use Rattle.s4_objects.specs.Table.{HoldsFor, SparesOthers, LeavesNone, found_in}
use Rattle.s4_objects.proofs.Opening.{hollow, closed}
use Rattle.s4_objects.proofs.Holding.{holds_made, held_made, spares_made, leaves_made, spares_none, leaves_none}
use Rattle.s4_objects.proofs.Using.{used_open}
use Rattle.s4_objects.proofs.objects.Objects.create.Goals as goal

isnt_some : {A : Type 0} (x : Option A) → is_some x ≡ false → x ≡ None
isnt_some None e = Rattle.std.proofs.Common.refl
isnt_some (Some y) e = cc

pub close-requires : goal.close-requires
close-requires g c = hollow c.in_ok-kept.ensures.ok

pub returns-in-Ok-clause-holds : goal.returns-in-Ok-clause-holds
returns-in-Ok-clause-holds g c =
    holds_made c.requires.holds c.args.object.now (isnt_some _ c.requires.fresh) (c.begin.ensures.begins (g.S.Store.chains c.args.store.now) _ c.in_ok-kept.ensures.ok c.in_ok-acl.ensures) c.in-Ok.ensures.ok

pub returns-in-Err-clause-refused : goal.returns-in-Err-clause-refused
returns-in-Err-clause-refused g c = c.close.ensures.chains ∙ closed c.in_ok-kept.ensures.ok

pub returns-in-Err-clause-holds : goal.returns-in-Err-clause-holds
returns-in-Err-clause-holds g c =
    subst (λ m. HoldsFor m (get object_cmp c.keep.new.objects) c.args.self.now.ends.items c.args.self.now.has_reversed) (sym (c.close.ensures.chains ∙ closed c.in_ok-kept.ensures.ok))
    (subst (λ f. HoldsFor (g.S.Store.chains c.args.store.now) f c.args.self.now.ends.items c.args.self.now.has_reversed) (λ i q. sym (c.in-Err.ensures.err q) i) c.requires.holds)

pub returns-in-Err-clause-others : goal.returns-in-Err-clause-others
returns-in-Err-clause-others g c =
    subst (λ m. SparesOthers (g.S.Store.chains c.args.store.now) m (found_in c.args.self.now) (get object_cmp c.keep.new.objects)) (sym (c.close.ensures.chains ∙ closed c.in_ok-kept.ensures.ok))
    (subst (λ f. SparesOthers (g.S.Store.chains c.args.store.now) (g.S.Store.chains c.args.store.now) (found_in c.args.self.now) f) (λ i q. sym (c.in-Err.ensures.err q) i) (spares_none (g.S.Store.chains c.args.store.now) (found_in c.args.self.now)))

pub returns-in-Ok-clause-held : goal.returns-in-Ok-clause-held
returns-in-Ok-clause-held g c =
    held_made c.requires.holds c.args.object.now (isnt_some _ c.requires.fresh) (c.begin.ensures.begins (g.S.Store.chains c.args.store.now) _ c.in_ok-kept.ensures.ok c.in_ok-acl.ensures) c.in-Ok.ensures.ok

pub returns-in-Ok-clause-others : goal.returns-in-Ok-clause-others
returns-in-Ok-clause-others g c =
    spares_made c.requires.holds c.args.object.now (isnt_some _ c.requires.fresh) (c.begin.ensures.begins (g.S.Store.chains c.args.store.now) _ c.in_ok-kept.ensures.ok c.in_ok-acl.ensures) c.in-Ok.ensures.ok

pub returns-in-Ok-clause-used : goal.returns-in-Ok-clause-used
returns-in-Ok-clause-used g c = let opened = used_open c.in_ok-kept.ensures.ok in omega (arith, opened, c.begin.ensures.used)

pub returns-in-Ok-clause-leaves : goal.returns-in-Ok-clause-leaves
returns-in-Ok-clause-leaves g c =
    leaves_made c.requires.holds c.args.object.now (isnt_some _ c.requires.fresh) (c.begin.ensures.begins (g.S.Store.chains c.args.store.now) _ c.in_ok-kept.ensures.ok c.in_ok-acl.ensures) c.in-Ok.ensures.ok

pub returns-in-Err-clause-leaves : goal.returns-in-Err-clause-leaves
returns-in-Err-clause-leaves g c =
    subst (λ m. LeavesNone (g.S.Store.chains c.args.store.now) m (found_in c.args.self.now) (get object_cmp c.keep.new.objects)) (sym (c.close.ensures.chains ∙ closed c.in_ok-kept.ensures.ok))
    (subst (λ f. LeavesNone (g.S.Store.chains c.args.store.now) (g.S.Store.chains c.args.store.now) (found_in c.args.self.now) f) (λ i q. sym (c.in-Err.ensures.err q) i) (leaves_none (g.S.Store.chains c.args.store.now) (found_in c.args.self.now)))
