-- Events that are joined.
use Rattle.std.proofs.Common.{◌≡◌, ℕ, ◌+◌, true, List, [], ◌∷◌, ◌++◌, length, refl, sym, ap, ◌∙◌, append_assoc, arith}
use Rattle.s4_types.specs.declared.principal.WireVersion.{WireVersion}
use Rattle.s4_types.specs.declared.reply.Reply.{Reply}
use Rattle.s4_codec.specs.Fits.{fit}
use Rattle.s4_codec.proofs.FitLaws.{fit-append}
use Rattle.s4_stream.specs.declared.event.Event.{Event}
use Rattle.s4_stream.specs.declared.event.Event.TheVariants.{Welcome, Request, Fault}
use Rattle.s4_stream.specs.Talk.{welcome, reply_frame, fault_frame, requests_in, versions_in, sent_for}

pub requests_in-append : (xs ys : List Event) → requests_in (xs ++ ys) ≡ requests_in xs + requests_in ys
requests_in-append [] ys = omega arith
requests_in-append (Welcome caller ∷ xs) ys = requests_in-append xs ys
requests_in-append (Request caller r ∷ xs) ys = omega (arith, requests_in-append xs ys)
requests_in-append (Fault f ∷ xs) ys = requests_in-append xs ys

pub versions_in-append : (xs ys : List Event) → versions_in (xs ++ ys) ≡ versions_in xs ++ versions_in ys
versions_in-append [] ys = refl
versions_in-append (Welcome caller ∷ xs) ys = versions_in-append xs ys
versions_in-append (Request caller r ∷ xs) ys = ap (λ (w : List WireVersion). caller.version ∷ w) (versions_in-append xs ys)
versions_in-append (Fault f ∷ xs) ys = versions_in-append xs ys

pub versions_count : (events : List Event) → length (versions_in events) ≡ requests_in events
versions_count [] = refl
versions_count (Welcome caller ∷ events) = versions_count events
versions_count (Request caller r ∷ events) = omega (arith, versions_count events)
versions_count (Fault f ∷ events) = versions_count events

-- replies that fit, and further ones that do
pub fit-joined : (xs ys : List Event) (told more : List Reply) → length told ≡ requests_in xs → fit (versions_in xs) told ≡ true → fit (versions_in ys) more ≡ true
    → fit (versions_in (xs ++ ys)) (told ++ more) ≡ true
fit-joined xs ys told more e one two =
    ap (λ (w : List WireVersion). fit w (told ++ more)) (versions_in-append xs ys)
    ∙ (fit-append (versions_in xs) (versions_in ys) told more (e ∙ sym (versions_count xs))
    ∙ rw (one, two) refl)

pub sent_for-append : (xs ys : List Event) (told more : List Reply) → length told ≡ requests_in xs → sent_for (xs ++ ys) (told ++ more) ≡ sent_for xs told ++ sent_for ys more
sent_for-append [] ys [] more e = refl
sent_for-append [] ys (x ∷ told) more e = absurd (omega (arith, e))
sent_for-append (Welcome caller ∷ xs) ys told more e =
    ap (λ (w : List ℕ). welcome caller.version ++ w) (sent_for-append xs ys told more e) ∙ sym (append_assoc (welcome caller.version) (sent_for xs told) (sent_for ys more))
sent_for-append (Request caller r ∷ xs) ys [] more e = absurd (omega (arith, e))
sent_for-append (Request caller r ∷ xs) ys (x ∷ told) more e =
    ap (λ (w : List ℕ). reply_frame caller.version x ++ w) (sent_for-append xs ys told more (omega (arith, e)))
    ∙ sym (append_assoc (reply_frame caller.version x) (sent_for xs told) (sent_for ys more))
sent_for-append (Fault f ∷ xs) ys told more e =
    ap (λ (w : List ℕ). fault_frame f ++ w) (sent_for-append xs ys told more e) ∙ sym (append_assoc (fault_frame f) (sent_for xs told) (sent_for ys more))
