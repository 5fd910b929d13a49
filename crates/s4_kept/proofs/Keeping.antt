-- A base that is kept stays that of the records that went.
use Rattle.std.proofs.Common.{◌≡◌, ℕ, ◌+◌, ◌≤◌, ◌<◌, max, false, cond, List, [], ◌∷◌, ◌++◌, refl, sym, ap, subst, ◌∙◌, arith, length, nat_le, nat_lt, le_refl, le_trans, le_of_lt}
use Rattle.std.specs.Prelude.{MatchBool}
use Rattle.std.proofs.lemmas.Bool.{leb-true, leb-false, le-ltb}
use Rattle.std.proofs.lemmas.List.{append-nil, length-append}
use Rattle.std.proofs.lemmas.List.Elements.{filter-append}
use Rattle.s4_types.specs.declared.principal.Caller.{Caller}
use Rattle.s4_types.specs.declared.record.Record.{Record}
use Rattle.s4_types.specs.declared.record.Step.TheVariants as step
use Rattle.s4_types.specs.declared.request.Request.{Request}
use Rattle.s4_types.specs.declared.reply.Reply.{Reply}
use Rattle.s4_types.specs.Answer.{answer}
use Rattle.s4_types.specs.Base.{Base, opened}
use Rattle.s4_types.specs.Horizon.{horizon_at}
use Rattle.s4_types.specs.Log.{Log, base_of, fresh_log, horizon_in, with_record, swept}
use Rattle.s4_types.specs.Play.{InOrder, last_of, record_of, is_no_memory}
use Rattle.s4_types.proofs.Booleans.{by_test}
use Rattle.s4_types.proofs.Snoc.{last_of-snoc}
use Rattle.s4_laws.specs.Bases.{IsBase}
use Rattle.s4_cuts.specs.Cut.{before, since, left, base_at, told, IsHistory}
use Rattle.s4_cuts.specs.CutLog.{gone_of, left_of, base_left, cut_log}
use Rattle.s4_cuts.proofs.CutPlay.{horizon-later, split-at, opened-base, base-low, base-again, base-earlier, history-told}
use Rattle.s4_base.specs.Lists.{Lists, base_of_lists}
use Rattle.s4_base.specs.Changes.{CanFollowAll}
use Rattle.s4_base.proofs.Cuts.{left-is, left-order, left-fits}
use Rattle.s4_base.proofs.Turning.{follow-more}
use Rattle.s4_state.proofs.Living.{history_next, horizon_by-last}
use Rattle.s4_drive.specs.Step.{Steps, Answers}
use Rattle.s4_kept.specs.Kept.{IsKept}

-- THE OPENING

pub kept_fresh : (window : ℕ) (lists : Lists) → base_of_lists lists ≡ opened window → IsKept (fresh_log window) lists
kept_fresh window lists is = record {
  history = record { is_base = opened-base window; order = tt; last = tt; now = omega arith };
  told = omega arith;
  base = is ∙ sym (base-low (opened window) [] 0 (opened-base window) tt (le_refl 0)).0;
  follows = tt;
}

-- A STEP

-- a record that isn't before the moment doesn't go
before-next : (c : ℕ) (h : List Record) (r : Record) → c ≤ r.moment → before c (h ++ r ∷ []) ≡ before c h
before-next c h r e = filter-append (λ (x : Record). nat_lt x.moment c) h (r ∷ [])
    ∙ ap (λ b. before c h ++ cond b (r ∷ []) []) (le-ltb r.moment c e) ∙ append-nil (before c h)

module _ (log : Log) (lists : Lists) (is : IsKept log lists) where
  -- the cut isn't to come
  pub cut-past : log.cut ≤ last_of log.history
  cut-past = le_trans is.told (horizon_by-last is.history)

  kept_next : (t : ℕ) (caller : Caller) (request : Request) → last_of log.history ≤ t → IsKept (with_record log (record_of (base_of log) log.history t caller request)) lists
  kept_next t caller request later =
      let r : Record = record_of (base_of log) log.history t caller request in
      let last : last_of (log.history ++ r ∷ []) ≡ t = last_of-snoc log.history r in
      let history : IsHistory (base_of log) (log.history ++ r ∷ []) (last_of (log.history ++ r ∷ []))
      = subst (IsHistory (base_of log) (log.history ++ r ∷ [])) (sym last) (history_next (base_of log) (last_of log.history) log.history r is.history later) in
      let grows : horizon_in log ≤ horizon_at (base_of log) (log.history ++ r ∷ []) t = horizon-later (base_of log) log.history r (last_of log.history) t later (le_refl t) in
      record {
        history = history;
        told = subst (λ n. log.cut ≤ horizon_at (base_of log) (log.history ++ r ∷ []) n) (sym last) (le_trans is.told grows);
        base = is.base ∙ ap (left (base_of log) log.cut) (sym (before-next log.cut log.history r (le_trans cut-past later)));
        follows = follow-more (base_of log) log.history r history.is_base history.order refl is.follows;
      }

  -- a step keeps it so, also one that meets want of memory
  pub kept_step : (new : Log) (t : ℕ) (caller : Caller) (request : Request) (reply : Reply) → Steps log new t caller request reply → last_of log.history ≤ t → IsKept new lists
  kept_step new t caller request reply steps later = by_test (is_no_memory reply)
      (λ e. let same : new ≡ log = subst (λ b. MatchBool b (new ≡ log) (Answers log new t caller request reply)) e steps in
      subst (λ l. IsKept l lists) (sym same) is)
      (λ e. let made : Answers log new t caller request reply = subst (λ b. MatchBool b (new ≡ log) (Answers log new t caller request reply)) e steps in
      subst (λ l. IsKept l lists) (sym made.grows) (kept_next t caller request later))

  -- the base and the records that are left give the same answer
  pub rest_answer : (t : ℕ) (caller : Caller) (request : Request) → last_of log.history ≤ t
      → answer (base_of log) log.history t caller request ≡ answer (base_left log) (left_of log) t caller request
  rest_answer t caller request later =
      let one : told (base_of log) log.history (step.Request t caller request ∷ []) ≡ told (base_left log) (left_of log) (step.Request t caller request ∷ [])
      = history-told (base_of log) log.history log.cut (last_of log.history) (step.Request t caller request ∷ []) is.history is.told (later, tt) in
      ap (λ replies. elim replies as (λ _. Reply) [ [] ↦ answer (base_of log) log.history t caller request | reply ∷ _ ↦ reply ]) one

  pub rest_told : (new : Log) (t : ℕ) (caller : Caller) (request : Request) (reply : Reply) → Steps log new t caller request reply → last_of log.history ≤ t
      → is_no_memory reply ≡ false → reply ≡ answer (base_left log) (left_of log) t caller request
  rest_told new t caller request reply steps later e =
      let made : Answers log new t caller request reply = subst (λ b. MatchBool b (new ≡ log) (Answers log new t caller request reply)) e steps in
      made.answer_is ∙ rest_answer t caller request later

  pub kept_swept : (n : ℕ) → IsKept (swept n log) lists
  kept_swept n = record { history = is.history; told = is.told; base = is.base; follows = is.follows }

-- A CUT

-- what the base at a moment and the records since then leave is what all leave at the later one of the two moments
pub left-twice : (base : Base) (h : List Record) (c d : ℕ) → IsBase base → InOrder base.cut h → base_at (base_at base h c) (since c h) d ≡ base_at base h (max c d)
left-twice base h c d is o = by_test (nat_le d c)
    (λ e. let low : d ≤ c = leb-true d c e in
    let same : c ≡ max c d = omega (arith, low) in
    (base-earlier base h c d is o low).0 ∙ ap (base_at base h) same)
    (λ e. let high : c < d = leb-false d c e in
    let same : d ≡ max c d = omega (arith, high) in
    base-again base h c d is o (le_of_lt high) ∙ ap (base_at base h) same)

module _ (log : Log) (lists : Lists) (is : IsKept log lists) where
  -- at a moment that isn't below the last cut it is what all records before it leave
  pub whole_at : (c : ℕ) → log.cut ≤ c → base_at (base_left log) (left_of log) c ≡ base_at (base_of log) log.history c
  whole_at c e = base-again (base_of log) log.history log.cut c is.history.is_base is.history.order e

  pub left_cut : (c : ℕ) → base_at (base_left log) (left_of log) c ≡ base_left (cut_log c log)
  left_cut c = left-twice (base_of log) log.history log.cut c is.history.is_base is.history.order

  pub kept_cut : (c : ℕ) (next : Lists) → c ≤ horizon_in log → base_of_lists next ≡ base_at (base_left log) (left_of log) c → IsKept (cut_log c log) next
  kept_cut c next above e = record {
    history = is.history;
    told = (let told = is.told in omega (arith, told, above));
    base = e ∙ left_cut c;
    follows = is.follows;
  }

  -- the base can be brought on by the records that are left
  pub base-is : IsBase (base_of_lists lists)
  base-is = subst IsBase (sym is.base) (left-is (base_of log) log.history log.cut is.history.is_base is.history.order)

  pub base-order : InOrder (base_of_lists lists).cut (left_of log)
  base-order = subst (λ (b : Base). InOrder b.cut (left_of log)) (sym is.base) (left-order (base_of log) log.history log.cut is.history.is_base is.history.order)

  pub base-fits : CanFollowAll (base_of_lists lists) (left_of log)
  base-fits = subst (λ (b : Base). CanFollowAll b (left_of log)) (sym is.base) (left-fits (base_of log) log.history log.cut is.history.is_base is.history.order is.follows)

  -- it counts those that went
  pub base-count : lists.count ≡ length (gone_of log)
  base-count = (let count : lists.count ≡ 0 + length (gone_of log) = ap (λ (b : Base). b.count) is.base in omega (arith, count))

  pub all-count : lists.count + length (left_of log) ≡ length log.history
  all-count =
      let all : length log.history ≡ length (gone_of log) + length (left_of log)
      = ap length (split-at log.cut 0 log.history is.history.order) ∙ length-append (gone_of log) (left_of log) in
      omega (arith, all, base-count)
