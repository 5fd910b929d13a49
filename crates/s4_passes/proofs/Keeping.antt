-- What a pass keeps, and what its token knows.
use Rattle.std.proofs.Common.{◌≡◌, ℕ, List, [], ◌∷◌, ◌++◌, map, drop, sym, ap, ◌∙◌}
use Rattle.std.proofs.lemmas.List.{map-append, drop-map}
use Rattle.s4_types.specs.declared.record.Record.{Record}
use Rattle.s4_types.specs.Play.{last_of}
use Rattle.s4_types.proofs.Snoc.{last_of-snoc}
use Rattle.s4_calls.specs.declared.hand.Hand.{Hand}
use Rattle.s4_calls.specs.declared.hand.Noted.{Noted}
use Rattle.s4_calls.specs.Logs.{items_of, noted}
use Rattle.s4_calls.specs.Hands.{of_pass}
use Rattle.s4_calls.specs.Books.{with_call_of}
use Rattle.s4_passes.specs.declared.call.Call.{Call}
use Rattle.s4_passes.specs.Calls.{noted_of, record_of}
use Rattle.s4_passes.specs.Tokens.{IsOfPass, KeptCalls, calls_by}
use Rattle.s4_passes.proofs.Endings.{ends_add, ends_drop}

-- the hand of a pass that notes a call more
known_more : (call : Noted Record) (hands : List (Hand Record)) → hands ≡ of_pass (calls_by hands) ∷ [] → with_call_of call hands ≡ of_pass (calls_by hands ++ call ∷ []) ∷ []
known_more call hands one = ap (λ (l : List (Hand Record)). with_call_of call l) one

last_more : (ever : List (Noted Record)) (call : Noted Record) → last_of (items_of (ever ++ call ∷ [])) ≡ call.item.moment
last_more ever call = ap (λ (l : List Record). last_of l) (map-append (λ (c : Noted Record). c.item) ever (call ∷ [])) ∙ last_of-snoc (items_of ever) call.item

keeps_noted : (call : Call) (hands : List (Hand Record)) (old new : KeptCalls) → new.last ≡ call.receipt.moment → new.calls ≡ old.calls ++ call ∷ []
    → IsOfPass hands old → IsOfPass (with_call_of (noted_of call) hands) new
keeps_noted call hands old new last calls is =
    let ever = calls_by hands in
    let known = known_more (noted_of call) hands is.one in
    let more : calls_by (with_call_of (noted_of call) hands) ≡ ever ++ noted_of call ∷ [] = ap (λ (l : List (Hand Record)). calls_by l) known in
    let kept : map noted_of new.calls ≡ map noted_of old.calls ++ noted_of call ∷ [] = ap (λ (l : List Call). map noted_of l) calls ∙ map-append noted_of old.calls (call ∷ []) in
    record {
      one = known ∙ ap (λ (l : List (Noted Record)). of_pass l ∷ []) (sym more);
      ends = rw (more, kept) (ends_add ever (map noted_of old.calls) (noted_of call) is.ends);
      last = last ∙ sym (ap (λ (l : List (Noted Record)). last_of (items_of l)) more ∙ last_more ever (noted_of call));
    }

-- a call is kept that was noted at the cell and the place that its receipt names
pub keeps_more : (cell place : ℕ) (call : Call) (hands noted_hands : List (Hand Record)) (old new : KeptCalls) → call.receipt.cell ≡ cell → call.receipt.place ≡ place
    → noted_hands ≡ with_call_of (noted cell place (record_of call)) hands → new.last ≡ call.receipt.moment → new.calls ≡ old.calls ++ call ∷ []
    → IsOfPass hands old → IsOfPass noted_hands new
keeps_more cell place call hands noted_hands old new at there known last calls is =
    let here : noted_hands ≡ with_call_of (noted_of call) hands =
    known ∙ ap (λ (k : ℕ). with_call_of (noted k place (record_of call)) hands) (sym at) ∙ ap (λ (p : ℕ). with_call_of (noted call.receipt.cell p (record_of call)) hands) (sym there) in
    rw here (keeps_noted call hands old new last calls is)

-- the first calls are kept no longer
pub keeps_less : (count : ℕ) (hands : List (Hand Record)) (old new : KeptCalls) → new.last ≡ old.last → new.calls ≡ drop count old.calls → IsOfPass hands old → IsOfPass hands new
keeps_less count hands old new last calls is =
    let kept : map noted_of new.calls ≡ drop count (map noted_of old.calls) = ap (λ (l : List Call). map noted_of l) calls ∙ sym (drop-map noted_of count old.calls) in
    record {
      one = is.one;
      ends = rw kept (ends_drop count (calls_by hands) (map noted_of old.calls) is.ends);
      last = last ∙ is.last;
    }
