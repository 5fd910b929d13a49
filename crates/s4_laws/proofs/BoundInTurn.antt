-- In a run a name is bound to one object at a time.
use Rattle.std.proofs.Common.{◌≡◌, ℕ, Bool, true, false, not, cond, Option, Some, None, List, [], ◌∷◌, ◌++◌, refl, sym, ◌∙◌, ap, subst, is_some, nat_le, arith}
use Rattle.std.specs.Prelude.{◌&&◌, ◌||◌}
use Rattle.std.specs.Option.{option_map}
use Rattle.std.proofs.lemmas.List.Sums.{fold-append}
use Rattle.s4_types.specs.declared.principal.Caller.{Caller}
use Rattle.s4_types.specs.declared.object.Purse.{Purse}
use Rattle.s4_types.specs.declared.object.ObjectId.{ObjectId}
use Rattle.s4_types.specs.declared.rights.Right.TheVariants as right
use Rattle.s4_types.specs.declared.reply.Refusal.TheVariants.{Exists, PartsFull}
use Rattle.s4_types.specs.declared.reply.Reply.TheVariants.{Done}
use Rattle.s4_types.specs.declared.request.Request.{Request}
use Rattle.s4_types.specs.declared.request.Request.TheVariants.{PCreate, PDelete}
use Rattle.s4_types.specs.declared.record.Record.{Record}
use Rattle.s4_types.specs.declared.record.Step.{Step}
use Rattle.s4_types.specs.declared.record.Step.TheVariants as step
use Rattle.s4_types.specs.Names.{same_purse}
use Rattle.s4_types.specs.Name.{same_name}
use Rattle.s4_types.specs.Kinds.{concerns, is_accepted, is_refused, is_wide, is_about, only_reads, purse_of}
use Rattle.s4_types.specs.Base.{Base, Standing}
use Rattle.s4_types.specs.Versions.{Value, begun, with_end, only_kept, in_force_by}
use Rattle.s4_types.specs.Bindings.{rebound, bindings_after, bindings, bound_at, bound_count}
use Rattle.s4_types.specs.Judgement.{judge}
use Rattle.s4_types.specs.Outcome.{◌>>◌, refuse_if}
use Rattle.s4_types.specs.Answer.{answer}
use Rattle.s4_types.specs.Play.{play, play_on, record_of, NeverDown}
use Rattle.s4_types.proofs.Booleans.{both}
use Rattle.s4_types.proofs.SameNames.{purse_is, name_is}
use Rattle.s4_types.proofs.Outcomes.{answer-by-kind, passes_test, passes_judgement}
use Rattle.s4_laws.specs.Bases.{IsBase}
use Rattle.s4_laws.proofs.Strangers.{not-true}
use Rattle.s4_laws.proofs.Old.{Old, end-old}
use Rattle.s4_laws.proofs.Turns.{InTurn, old-still, none-over, end-turn}

-- values that began by the moment, one after the other
record IsSteady (m : ℕ) (vs : List (Value ℕ)) : Type 0 where
  old : Old m vs
  turn : InTurn vs

unbound : (found : Option (Value ℕ)) → is_some (option_map (λ (v : Value ℕ). v.value) found) ≡ false → found ≡ None
unbound None e = refl
unbound (Some v) e = cc

-- a name is bound only where it isn't
bound-free : (base : Base) (h : List Record) (t : ℕ) (caller : Caller) (name : List ℕ) (o : ObjectId) → is_refused (answer base h t caller (PCreate name o)) ≡ false → in_force_by t (bindings base o.purse name h) ≡ None
bound-free base h t caller name o e =
    let taken : Bool = is_some (bound_at base o.purse name t h) in
    let full : Bool = nat_le 64 (bound_count base o.purse t h) in
    let told = sym (ap is_refused (answer-by-kind base h t caller (PCreate name o) e)) ∙ e in
    let judged = passes_judgement (judge base h t caller o right.Control None) (refuse_if taken Exists >> (refuse_if full PartsFull >> Rattle.std.specs.Prelude.Ok Done)) told in
    let free = passes_test taken Exists (refuse_if full PartsFull >> Rattle.std.specs.Prelude.Ok Done) judged.1 in
    unbound (in_force_by t (bindings base o.purse name h)) free.0

module _ (base : Base) (purse : Purse) (name : List ℕ) where
  bind-steady : (h : List Record) (t : ℕ) (caller : Caller) (other : List ℕ) (o : ObjectId) → is_refused (answer base h t caller (PCreate other o)) ≡ false → IsSteady t (bindings base purse name h) → IsSteady t (rebound purse name t (PCreate other o) (bindings base purse name h))
  bind-steady h t caller other o e s = of (same_purse o.purse purse && same_name other name) refl
    where
      of : (b : Bool) → (same_purse o.purse purse && same_name other name) ≡ b → IsSteady t (cond b (begun t o.serial ∷ bindings base purse name h) (bindings base purse name h))
      of false f = s
      of true f =
          let parts = both (same_purse o.purse purse) (same_name other name) f in
          let free : in_force_by t (bindings base purse name h) ≡ None =
          sym (ap (λ (p : Purse). in_force_by t (bindings base p other h)) (purse_is o.purse purse parts.0) ∙ ap (λ n. in_force_by t (bindings base purse n h)) (name_is other name parts.1))
          ∙ bound-free base h t caller other o e in
          record { old = (omega arith, tt, s.old); turn = (none-over t (bindings base purse name h) s.old s.turn free, s.turn) }

  unbind-steady : (t : ℕ) (b : Bool) (vs : List (Value ℕ)) → IsSteady t vs → IsSteady t (cond b (with_end t vs) vs)
  unbind-steady t true vs s = record { old = end-old t t vs (omega arith) s.old; turn = end-turn t vs s.turn }
  unbind-steady t false vs s = s

  kind-steady : (h : List Record) (t : ℕ) (caller : Caller) (request : Request) → is_refused (answer base h t caller request) ≡ false → IsSteady t (bindings base purse name h) → IsSteady t (rebound purse name t request (bindings base purse name h))
  kind-steady h t caller (PCreate other o) e s = bind-steady h t caller other o e s
  kind-steady h t caller (PDelete place other) e s = unbind-steady t (same_purse place purse && same_name other name) (bindings base purse name h) s
  kind-steady h t caller request e s = s

  record-steady : (h : List Record) (t : ℕ) (caller : Caller) (request : Request) → IsSteady t (bindings base purse name h) → IsSteady t (bindings_after purse name (bindings base purse name h) (record_of base h t caller request))
  record-steady h t caller request s = of (concerns purse r) refl
    where
      r : Record
      r = record_of base h t caller request

      of : (b : Bool) → concerns purse r ≡ b → IsSteady t (cond b (rebound purse name t request (bindings base purse name h)) (bindings base purse name h))
      of false e = s
      of true e =
          let accepted : is_accepted r ≡ true = (both (is_accepted r) (is_wide caller request || is_about purse (purse_of caller request)) e).0 in
          kind-steady h t caller request (not-true (is_refused r.reply) (both (not (is_refused r.reply)) (not (only_reads request)) accepted).0) s

  run-turn : (from : ℕ) (steps : List Step) (h : List Record) → NeverDown from steps → IsSteady from (bindings base purse name h) → InTurn (bindings base purse name (play_on base h steps))
  run-turn from [] h d s = s.turn
  run-turn from (step.Sweep n ∷ steps) h d s = run-turn from steps h d s
  run-turn from (step.Request t caller request ∷ steps) h d s =
      let r : Record = record_of base h t caller request in
      let now : IsSteady t (bindings base purse name h) = record { old = old-still from t (bindings base purse name h) d.0 s.old; turn = s.turn } in
      run-turn t steps (h ++ r ∷ []) d.1
      (subst (IsSteady t) (sym (fold-append (bindings_after purse name) (only_kept (base.binding purse name)) h (r ∷ []))) (record-steady h t caller request now))

  pub bindings-turn : (steps : List Step) → IsBase base → NeverDown base.cut steps → InTurn (bindings base purse name (play base steps))
  bindings-turn steps is d = run-turn base.cut steps [] d (of (base.binding purse name) refl)
    where
      of : (kept : Option (Standing ℕ)) → base.binding purse name ≡ kept → IsSteady base.cut (only_kept kept)
      of None e = record { old = tt; turn = tt }
      of (Some v) e = record { old = (is.bindings purse name v e, tt, tt); turn = (tt, tt) }
