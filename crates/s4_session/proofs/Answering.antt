-- Answering events in turn.
use Rattle.std.proofs.Common.{◌≡◌, ℕ, ◌+◌, ◌≤◌, Bool, true, false, not, cond, List, [], ◌∷◌, ◌++◌, length, refl, sym, ap, subst, ◌∙◌, append_assoc, arith}
use Rattle.std.specs.Prelude.{if◌then◌else◌, MatchBool}
use Rattle.std.proofs.lemmas.List.{append-nil, length-append}
use Rattle.std.proofs.lemmas.List.Elements.{filter-append}
use Rattle.s4_types.specs.declared.principal.Caller.{Caller}
use Rattle.s4_types.specs.declared.request.Request as asked
use Rattle.s4_types.specs.declared.reply.Reply.{Reply}
use Rattle.s4_types.specs.declared.record.Step.{Step}
use Rattle.s4_types.specs.declared.record.Step.TheVariants as steps
use Rattle.s4_types.specs.Play.{record_of, replies as replies_in, last_of, is_no_memory, request_count, carried_out, without_no_memory}
use Rattle.s4_types.proofs.Booleans.{by_test}
use Rattle.s4_types.proofs.Snoc.{last_of-snoc, replies-snoc}
use Rattle.s4_types.specs.Log.{Log, base_of, log_after, steps_on}
use Rattle.s4_types.specs.declared.principal.WireVersion.{WireVersion}
use Rattle.s4_codec.specs.Fits.{fit}
use Rattle.s4_codec.specs.Replies.{has_body}
use Rattle.s4_codec.proofs.FitLaws.{fit-append}
use Rattle.s4_drive.specs.Step.{Steps, Answers}
use Rattle.s4_stream.specs.declared.event.Event.{Event}
use Rattle.s4_stream.specs.declared.event.Event.TheVariants.{Welcome, Request, Fault}
use Rattle.s4_stream.specs.declared.event.SessionFault as kinds
use Rattle.s4_stream.specs.Talk.{sent_for, welcome, fault_frame, reply_frame, requests_in}
use Rattle.s4_stream.proofs.Joined.{sent_for-append}
use Rattle.s4_session.specs.Arrivals.{versions_of}
use Rattle.s4_session.specs.Answered.{steps_by, Answered}

-- ---- lists that are joined

pub steps_on-append : (log : Log) (xs ys : List Step) → steps_on log (xs ++ ys) ≡ steps_on (steps_on log xs) ys
steps_on-append log [] ys = refl
steps_on-append log (x ∷ xs) ys = steps_on-append (log_after log x) xs ys

pub request_count-append : (xs ys : List Step) → request_count (xs ++ ys) ≡ request_count xs + request_count ys
request_count-append [] ys = omega arith
request_count-append (steps.Sweep n ∷ xs) ys = request_count-append xs ys
request_count-append (steps.Request t caller r ∷ xs) ys = omega (arith, request_count-append xs ys)

chosen-append : (b : Bool) (q : Step) (xs ys : List Step) → cond b (xs ++ ys) (q ∷ (xs ++ ys)) ≡ cond b xs (q ∷ xs) ++ ys
chosen-append true q xs ys = refl
chosen-append false q xs ys = refl

pub carried_out-append : (xs ys : List Step) (told more : List Reply) → length told ≡ request_count xs → carried_out (xs ++ ys) (told ++ more) ≡ carried_out xs told ++ carried_out ys more
carried_out-append [] ys [] more e = refl
carried_out-append [] ys (x ∷ told) more e = absurd (omega (arith, e))
carried_out-append (steps.Sweep n ∷ xs) ys told more e = ap (λ (w : List Step). steps.Sweep n ∷ w) (carried_out-append xs ys told more e)
carried_out-append (steps.Request t caller r ∷ xs) ys [] more e = absurd (omega (arith, e))
carried_out-append (steps.Request t caller r ∷ xs) ys (x ∷ told) more e =
    let q : Step = steps.Request t caller r in
    ap (λ (w : List Step). cond (is_no_memory x) w (q ∷ w)) (carried_out-append xs ys told more (omega (arith, e)))
    ∙ chosen-append (is_no_memory x) q (carried_out xs told) (carried_out ys more)

pub without-append : (xs ys : List Reply) → without_no_memory (xs ++ ys) ≡ without_no_memory xs ++ without_no_memory ys
without-append xs ys = filter-append (λ r. not (is_no_memory r)) xs ys

pub count_steps : (t : ℕ) (events : List Event) → request_count (steps_by t events) ≡ requests_in events
count_steps t [] = refl
count_steps t (Welcome caller ∷ events) = count_steps t events
count_steps t (Request caller r ∷ events) = ap (λ (n : ℕ). n + 1) (count_steps t events)
count_steps t (Fault f ∷ events) = count_steps t events

pub steps_by-append : (t : ℕ) (xs ys : List Event) → steps_by t (xs ++ ys) ≡ steps_by t xs ++ steps_by t ys
steps_by-append t [] ys = refl
steps_by-append t (Welcome caller ∷ xs) ys = steps_by-append t xs ys
steps_by-append t (Request caller r ∷ xs) ys = ap (λ (w : List Step). steps.Request t caller r ∷ w) (steps_by-append t xs ys)
steps_by-append t (Fault f ∷ xs) ys = steps_by-append t xs ys

-- ---- versions

pub versions_of-append : (xs ys : List Step) → versions_of (xs ++ ys) ≡ versions_of xs ++ versions_of ys
versions_of-append [] ys = refl
versions_of-append (steps.Sweep n ∷ xs) ys = versions_of-append xs ys
versions_of-append (steps.Request t caller r ∷ xs) ys = ap (λ (w : List WireVersion). caller.version ∷ w) (versions_of-append xs ys)

versions_count : (xs : List Step) → length (versions_of xs) ≡ request_count xs
versions_count [] = refl
versions_count (steps.Sweep n ∷ xs) = versions_count xs
versions_count (steps.Request t caller r ∷ xs) = omega (arith, versions_count xs)

-- replies that fit, and further ones that do
pub fit_joined : (xs ys : List Step) (told more : List Reply) → length told ≡ request_count xs → fit (versions_of xs) told ≡ true → fit (versions_of ys) more ≡ true
    → fit (versions_of (xs ++ ys)) (told ++ more) ≡ true
fit_joined xs ys told more e one two =
    ap (λ (w : List WireVersion). fit w (told ++ more)) (versions_of-append xs ys)
    ∙ fit-append (versions_of xs) (versions_of ys) told more (e ∙ sym (versions_count xs))
    ∙ (rw (one, two) refl)

-- ---- answers one after the other

pub answered_none : (t : ℕ) (log : Log) (bytes after : List ℕ) → after ≡ bytes → Answered t [] log log bytes after
answered_none t log bytes after e = record {
  replies = [];
  each = refl;
  bodies = refl;
  log = refl;
  told = sym (append-nil (replies_in log.history));
  sent = e ∙ sym (append-nil bytes);
}

pub answered_then : (t : ℕ) (xs ys : List Event) (a b c : Log) (p q r : List ℕ) → Answered t xs a b p q → Answered t ys b c q r → Answered t (xs ++ ys) a c p r
answered_then t xs ys a b c p q r one two =
    let first : List Step = steps_by t xs in
    let second : List Step = steps_by t ys in
    record {
      replies = one.replies ++ two.replies;
      each = rw (steps_by-append t xs ys) (omega (arith, length-append one.replies two.replies, request_count-append first second, one.each, two.each));
      bodies = ap (λ (w : List Step). fit (versions_of w) (one.replies ++ two.replies)) (steps_by-append t xs ys) ∙ fit_joined first second one.replies two.replies one.each one.bodies two.bodies;
      log = two.log
          ∙ ap (λ (l : Log). steps_on l (carried_out second two.replies)) one.log
          ∙ sym (steps_on-append a (carried_out first one.replies) (carried_out second two.replies))
          ∙ ap (steps_on a) (sym (carried_out-append first second one.replies two.replies one.each))
          ∙ ap (λ (w : List Step). steps_on a (carried_out w (one.replies ++ two.replies))) (sym (steps_by-append t xs ys));
      told = two.told ∙ ap (λ (w : List Reply). w ++ without_no_memory two.replies) one.told
          ∙ append_assoc (replies_in a.history) (without_no_memory one.replies) (without_no_memory two.replies)
          ∙ ap (λ (w : List Reply). replies_in a.history ++ w) (sym (without-append one.replies two.replies));
      sent = two.sent ∙ ap (λ (w : List ℕ). w ++ sent_for ys two.replies) one.sent
          ∙ append_assoc p (sent_for xs one.replies) (sent_for ys two.replies)
          ∙ ap (λ (w : List ℕ). p ++ w) (sym (sent_for-append xs ys one.replies two.replies (one.each ∙ count_steps t xs)));
    }

-- ---- one event

pub answered_welcome : (t : ℕ) (caller : Caller) (log : Log) (p q : List ℕ) → q ≡ p ++ welcome caller.version → Answered t (Welcome caller ∷ []) log log p q
answered_welcome t caller log p q e = record {
  replies = [];
  each = refl;
  bodies = refl;
  log = refl;
  told = sym (append-nil (replies_in log.history));
  sent = e ∙ ap (λ (w : List ℕ). p ++ w) (sym (append-nil (welcome caller.version)));
}

pub answered_fault : (t : ℕ) (f : kinds.SessionFault) (log : Log) (p q : List ℕ) → q ≡ p ++ fault_frame f → Answered t (Fault f ∷ []) log log p q
answered_fault t f log p q e = record {
  replies = [];
  each = refl;
  bodies = refl;
  log = refl;
  told = sym (append-nil (replies_in log.history));
  sent = e ∙ ap (λ (w : List ℕ). p ++ w) (sym (append-nil (fault_frame f)));
}

module _ (t : ℕ) (caller : Caller) (r : asked.Request) (old new : Log) (reply : Reply) where
  -- the moment of the newest record
  pub step_last : last_of old.history ≤ t → Steps old new t caller r reply → last_of new.history ≤ t
  step_last before s = by_test (is_no_memory reply)
      (λ e. let same : new ≡ old = subst (λ b. MatchBool b (new ≡ old) (Answers old new t caller r reply)) e s in
      subst (λ (l : Log). last_of l.history ≤ t) (sym same) before)
      (λ e. let a : Answers old new t caller r reply = subst (λ b. MatchBool b (new ≡ old) (Answers old new t caller r reply)) e s in
      let is : last_of new.history ≡ t = ap (λ (l : Log). last_of l.history) a.grows ∙ last_of-snoc old.history (record_of (base_of old) old.history t caller r) in
      omega (arith, is))

  module _ (p q : List ℕ) (sent : q ≡ p ++ reply_frame caller.version reply) (body : has_body caller.version reply ≡ true) where
    refused : is_no_memory reply ≡ true → new ≡ old → Answered t (Request caller r ∷ []) old new p q
    refused e same = record {
      replies = reply ∷ [];
      each = refl;
      bodies = rw body refl;
      log = same ∙ ap (λ b. steps_on old (cond b [] (steps.Request t caller r ∷ []))) (sym e);
      told = ap (λ (l : Log). replies_in l.history) same ∙ sym (append-nil (replies_in old.history)) ∙ ap (λ b. replies_in old.history ++ (if not b then reply ∷ [] else [])) (sym e);
      sent = sent ∙ ap (λ (w : List ℕ). p ++ w) (sym (append-nil (reply_frame caller.version reply)));
    }

    carried : is_no_memory reply ≡ false → Answers old new t caller r reply → Answered t (Request caller r ∷ []) old new p q
    carried e a = record {
      replies = reply ∷ [];
      each = refl;
      bodies = rw body refl;
      log = a.grows ∙ ap (λ b. steps_on old (cond b [] (steps.Request t caller r ∷ []))) (sym e);
      told = ap (λ (l : Log). replies_in l.history) a.grows ∙ replies-snoc old.history (record_of (base_of old) old.history t caller r)
          ∙ ap (λ x. replies_in old.history ++ x ∷ []) (sym a.answer_is) ∙ ap (λ b. replies_in old.history ++ (if not b then reply ∷ [] else [])) (sym e);
      sent = sent ∙ ap (λ (w : List ℕ). p ++ w) (sym (append-nil (reply_frame caller.version reply)));
    }

    pub answered_request : Steps old new t caller r reply → Answered t (Request caller r ∷ []) old new p q
    answered_request s = by_test (is_no_memory reply)
        (λ e. refused e (subst (λ b. MatchBool b (new ≡ old) (Answers old new t caller r reply)) e s))
        (λ e. carried e (subst (λ b. MatchBool b (new ≡ old) (Answers old new t caller r reply)) e s))
