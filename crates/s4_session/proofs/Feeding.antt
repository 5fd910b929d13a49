-- A session among the others.
use Rattle.std.proofs.Common.{◌≡◌, ℕ, Bool, false, cond, eqb, Some, List, sym, ap, ◌∙◌}
use Rattle.std.specs.Prelude.{unwrap_or, OnOk, Result, Ok, Err}
use Rattle.std.specs.Ordering.{is_eq, nat_cmp}
use Rattle.s4_types.proofs.Booleans.{by_test}
use Rattle.s4_stream.specs.Logins.{Logins}
use Rattle.s4_stream.specs.Feeding.{Listening, hear_piece, left_by}
use Rattle.s4_session.specs.Halls.{Sessions, session_of, fresh, heard_on, Feeds}
use Rattle.s4_session.proofs.Numbers.{eq_is}

same_some : (x y : Listening) → Some x ≡ Some y → x ≡ y
same_some x y e = cc

module _ (logins : Logins) (c : ℕ) (piece : List ℕ) (old between new : Sessions) (s after : Listening)
    (opened : session_of c between ≡ Some (unwrap_or (session_of c old) fresh))
    (others : (d : ℕ) → eqb c d ≡ false → session_of d between ≡ session_of d old)
    (found : session_of c between ≡ Some s)
    (updates : (d : ℕ) → session_of d new ≡ cond (is_eq (nat_cmp c d)) (Some after) (session_of d between)) where
  feeds : after ≡ left_by (hear_piece logins s piece) → Feeds logins c piece old new
  feeds e d =
      let known : s ≡ unwrap_or (session_of c old) fresh = same_some s (unwrap_or (session_of c old) fresh) (sym found ∙ opened) in
      let here : after ≡ left_by (heard_on logins c old piece) = e ∙ ap (λ (w : Listening). left_by (hear_piece logins w piece)) known in
      updates d ∙ ap (λ (b : Bool). cond b (Some after) (session_of d between)) (eq_is c d)
      ∙ by_test (eqb c d)
      (λ t. ap (λ (b : Bool). cond b (Some after) (session_of d between)) t ∙ ap (λ (w : Listening). Some w) here
      ∙ ap (λ (b : Bool). cond b (Some (left_by (heard_on logins c old piece))) (session_of d old)) (sym t))
      (λ f. ap (λ (b : Bool). cond b (Some after) (session_of d between)) f ∙ others d f
      ∙ ap (λ (b : Bool). cond b (Some (left_by (heard_on logins c old piece))) (session_of d old)) (sym f))

  pub on_feeds : {A E : Type 0} (result : Result A E) → OnOk result (after ≡ left_by (hear_piece logins s piece)) → OnOk result (Feeds logins c piece old new)
  on_feeds (Ok x) e = feeds e
  on_feeds (Err x) e = tt
