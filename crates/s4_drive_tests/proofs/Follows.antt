-- Records that a base can follow.
use Rattle.std.proofs.Common.{◌≡◌, ℕ, ◌≤◌, List, [], ◌∷◌, refl, sym, ◌∙◌, ap, subst, le_refl}
use Rattle.s4_types.specs.declared.principal.Caller.{Caller}
use Rattle.s4_types.specs.declared.request.Request.{Request}
use Rattle.s4_types.specs.declared.request.Request.TheVariants.{Create, SetAcl}
use Rattle.s4_types.specs.declared.reply.Reply.TheVariants.{Done, Made}
use Rattle.s4_types.specs.declared.record.Record.{Record}
use Rattle.s4_types.specs.Base.{Base}
use Rattle.s4_types.specs.Play.{InOrder}
use Rattle.s4_laws.specs.Bases.{IsBase}
use Rattle.s4_cuts.specs.Cut.{left}
use Rattle.s4_cuts.proofs.CutPlay.{left-base}
use Rattle.s4_base.specs.Changes.{told_done, next_in, CanSet, CanFollow, CanFollowAll}
use Rattle.s4_drive_tests.specs.Plain.{IsPlainKind, IsPlain, ArePlain}

told-plain : (base : Base) (caller : Caller) (request : Request) → IsPlainKind request → told_done base caller request ≡ Done
told-plain base caller (Create number) plain = absurd plain
told-plain base caller _ plain = refl

set-plain : (base : Base) (request : Request) → IsPlainKind request → CanSet base request
set-plain base (SetAcl o user rights) plain = absurd plain
set-plain base _ plain = tt

pub plain-follows : (base : Base) (r : Record) → IsPlain r → CanFollow base r
plain-follows base r plain accepted =
    let both : IsPlainKind r.request × (r.reply ≡ Done) = plain accepted in
    record { told = both.1 ∙ sym (told-plain base r.caller r.request both.0); settable = set-plain base r.request both.0 }

pub all-follow : (base : Base) (h : List Record) → ArePlain h → CanFollowAll base h
all-follow base [] all = tt
all-follow base (r ∷ h) all = (plain-follows base r all.0, all-follow (left base r.moment (r ∷ [])) h all.1)

pub create-follows : (base : Base) (r : Record) (number : ℕ) → r.request ≡ Create number → r.reply ≡ Made (next_in base (record { creator = r.caller.who; number = number })) → CanFollow base r
create-follows base r number is told accepted = record { told = told ∙ sym (ap (told_done base r.caller) is); settable = subst (CanSet base) (sym is) tt }

-- one record leaves a base
pub next-base : (old new : Base) (r : Record) → IsBase old → old.cut ≤ r.moment → new ≡ left old r.moment (r ∷ []) → IsBase new
next-base old new r is low e = subst IsBase (sym e) (left-base old is r.moment low (r ∷ []) (le_refl r.moment, tt))

-- ONE RECORD MORE

pub order-more : (from last : ℕ) (h late rest : List Record) (r : Record) → late ≡ r ∷ rest → last ≤ r.moment → (InOrder last late → InOrder from h) → InOrder r.moment rest → InOrder from h
order-more from last h late rest r e low all o = all (subst (InOrder last) (sym e) (low, o))

pub plain-more : (h late rest : List Record) (r : Record) → late ≡ r ∷ rest → IsPlain r → (ArePlain late → ArePlain h) → ArePlain rest → ArePlain h
plain-more h late rest r e plain all are = all (subst ArePlain (sym e) (plain, are))
