-- A step of a drive adds the call that it is.
use Rattle.std.proofs.Common.{◌≡◌, ◌∙◌, ℕ, Bool, true, false, cond, List, [], ◌∷◌, ◌++◌, map, refl, sym, ap, subst}
use Rattle.std.specs.Prelude.{MatchBool}
use Rattle.std.proofs.lemmas.List.{append-nil, map-append}
use Rattle.s4_types.specs.declared.principal.Caller.{Caller}
use Rattle.s4_types.specs.declared.request.Request as asked
use Rattle.s4_types.specs.declared.reply.Reply.{Reply}
use Rattle.s4_types.specs.declared.record.Record.{Record}
use Rattle.s4_types.specs.Play.{record_of, is_no_memory}
use Rattle.s4_types.proofs.Booleans.{by_test}
use Rattle.s4_types.specs.Log.{Log, base_of}
use Rattle.s4_drive.specs.Step.{Steps, Answers}
use Rattle.s4_talk.specs.Calls.{Call, call_made}
use Rattle.s4_bytes_tests.specs.Desks.{call_of}

abbrev called : Caller → asked.Request → Reply → Call
called caller r reply = record { caller = caller; request = r; reply = reply }

module _ (old new : Log) (t : ℕ) (caller : Caller) (r : asked.Request) (reply : Reply) where
  refused : is_no_memory reply ≡ true → new ≡ old → map call_of new.history ≡ map call_of old.history ++ call_made caller r reply
  refused e same =
      ap (λ (l : Log). map call_of l.history) same
      ∙ (sym (append-nil (map call_of old.history)) ∙ ap (λ (b : Bool). map call_of old.history ++ cond b [] (called caller r reply ∷ [])) (sym e))

  answered : is_no_memory reply ≡ false → Answers old new t caller r reply → map call_of new.history ≡ map call_of old.history ++ call_made caller r reply
  answered e a =
      let now : Record = record_of (base_of old) old.history t caller r in
      ap (λ (l : Log). map call_of l.history) a.grows
      ∙ (map-append call_of old.history (now ∷ [])
      ∙ (ap (λ (x : Reply). map call_of old.history ++ called caller r x ∷ []) (sym a.answer_is)
      ∙ ap (λ (b : Bool). map call_of old.history ++ cond b [] (called caller r reply ∷ [])) (sym e)))

  pub step_calls : Steps old new t caller r reply → map call_of new.history ≡ map call_of old.history ++ call_made caller r reply
  step_calls s = by_test (is_no_memory reply)
      (λ e. refused e (subst (λ b. MatchBool b (new ≡ old) (Answers old new t caller r reply)) e s))
      (λ e. answered e (subst (λ b. MatchBool b (new ≡ old) (Answers old new t caller r reply)) e s))
