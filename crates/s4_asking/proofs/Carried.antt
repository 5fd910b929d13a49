-- Lines that are carried out, one after another.
use Rattle.std.proofs.Common.{◌≡◌, ℕ, ◌+◌, Bool, true, false, Option, Some, None, List, [], ◌∷◌, ◌++◌, flat_map, refl, sym, ap, ◌∙◌, subst, append_assoc, inl, inr}
use Rattle.std.specs.Prelude.{◌||◌, ◌&&◌, is_none, option_to_list}
use Rattle.std.proofs.lemmas.List.{append-nil}
use Rattle.std.proofs.lemmas.List.Concat.{flat_map-append}
use Rattle.std.specs.Option.{option_map}
use Rattle.std.specs.Io.KnownBytes.{Appends, Consumes, IsAtEnd, Keeps, prepend_known}
use Rattle.s4_types.proofs.Booleans.{||-false}
use Rattle.s4_types.specs.Kinds.{is_refused}
use Rattle.s4_types.specs.declared.principal.Caller.{Caller}
use Rattle.s4_types.specs.declared.principal.WireVersion.{WireVersion}
use Rattle.s4_types.specs.declared.reply.Reply.{Reply}
use Rattle.s4_types.specs.declared.request.Request.{Request}
use Rattle.s4_asking.specs.Lines.{text_of, with_feed}
use Rattle.s4_asking.specs.Rehearsal.{AllFit, CarriesSome, Exchange, Fits, Grows, IsWanted, Rehearses, RehearsesSome, any_refusal, exchange, is_refusal, told_lines}
use Rattle.s4_asking.specs.Spelling.{asked_in, before_arrow, behind_arrow, told_line, told_text}
use Rattle.s4_asking.proofs.Turns.{one_more}
use Rattle.s4_asking.proofs.Known.{ap_both, appends_both, appends_kept, appends_none, consumes_all, consumes_both, consumes_none}

-- EXCHANGES

pub grows_none : (a : Option (List Exchange)) → Grows a a []
grows_none None = tt
grows_none (Some l) = sym (append-nil l)

pub grows_both : (a b c : Option (List Exchange)) (xs ys : List Exchange) → Grows a b xs → Grows b c ys → Grows a c (xs ++ ys)
grows_both None b c xs ys first second = tt
grows_both (Some l) None c xs ys first second = absurd first
grows_both (Some l) (Some m) None xs ys first second = absurd second
grows_both (Some l) (Some m) (Some n) xs ys first second = second ∙ (ap (λ (z : List Exchange). z ++ ys) first ∙ append_assoc l xs ys)

-- LINES

pub fit_more : (version : WireVersion) (client : ℕ) (lines : List (List ℕ)) (es : List Exchange) (line : List ℕ) (e : Exchange) → AllFit version client lines es → Fits version client line e → AllFit version client (lines ++ line ∷ []) (es ++ e ∷ [])
fit_more version client [] [] line e all one = (one, tt)
fit_more version client [] (f ∷ fs) line e all one = absurd all
fit_more version client (l ∷ ls) [] line e all one = absurd all
fit_more version client (l ∷ ls) (f ∷ fs) line e all one = (all.0, fit_more version client ls fs line e all.1 one)

or_assoc : (a b c : Bool) → (a || (b || c)) ≡ ((a || b) || c)
or_assoc true b c = refl
or_assoc false b c = refl

pub refusal_more : (version : WireVersion) (client : ℕ) (lines : List (List ℕ)) (es : List Exchange) (line : List ℕ) (e : Exchange) → AllFit version client lines es → any_refusal (lines ++ line ∷ []) (es ++ e ∷ []) ≡ (any_refusal lines es || is_refusal line e)
refusal_more version client [] [] line e all = ||-false (is_refusal line e)
refusal_more version client [] (f ∷ fs) line e all = absurd all
refusal_more version client (l ∷ ls) [] line e all = absurd all
refusal_more version client (l ∷ ls) (f ∷ fs) line e all = ap (λ (b : Bool). is_refusal l f || b) (refusal_more version client ls fs line e all.1) ∙ or_assoc (is_refusal l f) (any_refusal ls fs) (is_refusal line e)

-- WHOLE RUNS

pub rehearses_none : (version : WireVersion) (client : ℕ) (left : Option (List ℕ)) (held : Option (List Exchange)) (told : Option (List ℕ)) → Rehearses version client left (prepend_known [] left) held held told told false
rehearses_none version client left held told = record {
  lines = [];
  exchanges = [];
  taken = consumes_none left;
  fit = tt;
  grown = grows_none held;
  tells = appends_none told;
  refuses = refl;
}

pub lines_more : (es : List Exchange) (e : Exchange) → told_lines es ++ told_line e.reply ≡ told_lines (es ++ e ∷ [])
lines_more es e = one_more (λ (it : Exchange). told_line it.reply) es e

pub rehearses_more : (version : WireVersion) (client : ℕ) (a b c : Option (List ℕ)) (h k m : Option (List Exchange)) (s t u : Option (List ℕ)) (refused is_refused : Bool) (line : List ℕ) (e : Exchange) → Rehearses version client a b h k s t refused → Consumes b c (with_feed line) → Fits version client line e → Grows k m (e ∷ []) → Appends t u (told_line e.reply) → is_refused ≡ is_refusal line e → Rehearses version client a c h m s u (refused || is_refused)
rehearses_more version client a b c h k m s t u refused is_refused line e run taken fits grown told is = record {
  lines = run.lines ++ line ∷ [];
  exchanges = run.exchanges ++ e ∷ [];
  taken = subst (λ (w : List ℕ). Consumes a c w) (one_more with_feed run.lines line) (consumes_both a b c (text_of run.lines) (with_feed line) run.taken taken);
  fit = fit_more version client run.lines run.exchanges line e run.fit fits;
  grown = grows_both h k m run.exchanges (e ∷ []) run.grown grown;
  tells = subst (λ (w : List ℕ). Appends s u w) (lines_more run.exchanges e) (appends_both s t u (told_lines run.exchanges) (told_line e.reply) run.tells told);
  refuses = refusal_more version client run.lines run.exchanges line e run.fit ∙ ap_both (λ (x y : Bool). x || y) _ _ _ _ run.refuses (sym is);
}

pub rehearses_all : (version : WireVersion) (client : ℕ) (a b : Option (List ℕ)) (h k : Option (List Exchange)) (s t : Option (List ℕ)) (refused : Bool) → Rehearses version client a b h k s t refused → IsAtEnd b → Rehearses version client a (Some []) h k s t refused
rehearses_all version client a b h k s t refused run end = record {
  lines = run.lines;
  exchanges = run.exchanges;
  taken = consumes_all a b (text_of run.lines) run.taken end;
  fit = run.fit;
  grown = run.grown;
  tells = run.tells;
  refuses = run.refuses;
}

pub rehearses_some : (version : WireVersion) (client : ℕ) (a b : Option (List ℕ)) (h k m : Option (List Exchange)) (s t u : Option (List ℕ)) (refused : Bool) → Rehearses version client a b h k s t refused → CarriesSome k m t u → RehearsesSome version client a h m s u
rehearses_some version client a b h k m s t u refused run some = record {
  lines = run.lines;
  exchanges = run.exchanges;
  last = some.last;
  shown = some.shown;
  front = (b, run.taken);
  fit = run.fit;
  grown = grows_both h k m run.exchanges (option_to_list some.last) run.grown some.grown;
  tells = subst (λ (w : List ℕ). Appends s u w) (sym (flat_map-append (λ (it : Exchange). told_line it.reply) run.exchanges (option_to_list some.shown))) (appends_both s t u (told_lines run.exchanges) (told_lines (option_to_list some.shown)) run.tells some.tells);
  same = some.same;
}

-- nothing more is carried out
pub carries_none : (held : Option (List Exchange)) (told : Option (List ℕ)) → CarriesSome held held told told
carries_none held told = record { last = None; shown = None; grown = grows_none held; tells = appends_none told; same = inl refl }

-- FORMS FOR CALLERS

none_mapped : {A B : Type 0} (f : A → B) (wanted : Option A) → is_none (option_map f wanted) ≡ is_none wanted
none_mapped f None = refl
none_mapped f (Some x) = refl

-- who asks for what in a line at the front of what is left, and what is wanted there
abbrev pub IsNextLine : {V : Type 0} → (V → List ℕ) → WireVersion → ℕ → Option (List ℕ) → Option (List ℕ) → Caller → Request → Option V → Type 0
IsNextLine items version client left left' caller request wanted = (line : List ℕ) × Consumes left left' (with_feed line)
    × (asked_in version client (before_arrow line) ≡ Some (record { caller = caller; request = request })) × (option_map items wanted ≡ behind_arrow line)

-- the request was carried out, and its reply is the one that is wanted, and told
abbrev pub IsCarriedOut : {V : Type 0} → (V → List ℕ) → Option (List Exchange) → Option (List Exchange) → Option (List ℕ) → Option (List ℕ) → Caller → Request → Option V → Bool → Type 0
IsCarriedOut items held held' told told' caller request wanted is_refusal = (reply : Reply) × Grows held held' (exchange caller request reply ∷ [])
    × Appends told told' (told_line reply) × IsWanted (option_map items wanted) (told_text reply) × (is_refusal ≡ (is_none wanted && is_refused reply))

pub rehearses_next : {V : Type 0} (items : V → List ℕ) (version : WireVersion) (client : ℕ) (a b c : Option (List ℕ)) (h k m : Option (List Exchange)) (s t u : Option (List ℕ)) (refused after is_refusal : Bool) (caller : Caller) (request : Request) (wanted : Option V) → Rehearses version client a b h k s t refused → IsNextLine items version client b c caller request wanted → IsCarriedOut items k m t u caller request wanted is_refusal → after ≡ (refused || is_refusal) → Rehearses version client a c h m s u after
rehearses_next items version client a b c h k m s t u refused after is_refusal caller request wanted run next done more =
    subst (λ (r : Bool). Rehearses version client a c h m s u r) (sym more) (rehearses_more version client a b c h k m s t u refused is_refusal next.0 (exchange caller request done.0) run next.1
    (record { asked = next.2; wanted = subst (λ (w : Option (List ℕ)). IsWanted w (told_text done.0)) next.3 done.3 })
    done.1 done.2
    (done.4 ∙ ap (λ (b : Bool). b && is_refused done.0) (sym (none_mapped items wanted) ∙ ap (λ (w : Option (List ℕ)). is_none w) next.3)))

pub rehearses_begin : (version : WireVersion) (client : ℕ) (left : Option (List ℕ)) (kept : Option (List Exchange)) (told : Option (List ℕ)) (held : List ℕ) → held ≡ [] → Rehearses version client left (prepend_known held left) kept kept told told false
rehearses_begin version client left kept told held empty =
    subst (λ (h : List ℕ). Rehearses version client left (prepend_known h left) kept kept told told false) (sym empty) (rehearses_none version client left kept told)

-- a request is carried out, and its reply isn't told
pub carries_untold : (h k : Option (List Exchange)) (t u : Option (List ℕ)) (e : Exchange) → Grows h k (e ∷ []) → Keeps t u → CarriesSome h k t u
carries_untold h k t u e grown kept = record { last = Some e; shown = None; grown = grown; tells = appends_kept t t u [] (appends_none t) kept; same = inl refl }

pub carries_unseen : (h k : Option (List Exchange)) (t : Option (List ℕ)) (e : Exchange) → Grows h k (e ∷ []) → CarriesSome h k t t
carries_unseen h k t e grown = record { last = Some e; shown = None; grown = grown; tells = appends_none t; same = inl refl }

pub carries_told : (h k : Option (List Exchange)) (t u : Option (List ℕ)) (e : Exchange) → Grows h k (e ∷ []) → Appends t u (told_line e.reply) → CarriesSome h k t u
carries_told h k t u e grown told = record { last = Some e; shown = Some e; grown = grown; tells = subst (λ (w : List ℕ). Appends t u w) (sym (append-nil (told_line e.reply))) told; same = inr refl }

pub carries_nothing : (h k : Option (List Exchange)) (t : Option (List ℕ)) → Grows h k [] → CarriesSome h k t t
carries_nothing h k t grown = record { last = None; shown = None; grown = grown; tells = appends_none t; same = inl refl }
