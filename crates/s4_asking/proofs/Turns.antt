-- Requests that are sent, and replies that are told, one after another.
use Rattle.std.proofs.Common.{◌≡◌, ◌≤◌, ℕ, ◌+◌, Bool, false, Option, Some, None, Result, Ok, Err, List, [], ◌∷◌, ◌++◌, length, map, flat_map, refl, sym, ap, ◌∙◌, subst, arith}
use Rattle.std.specs.Prelude.{◌||◌, IfSome}
use Rattle.std.specs.List.{list_any}
use Rattle.std.proofs.lemmas.List.{length-append, map-append, append-nil}
use Rattle.std.proofs.lemmas.List.Concat.{flat_map-append}
use Rattle.std.proofs.lemmas.List.Folds.{list_any-append}
use Rattle.std.specs.Io.KnownBytes.{Appends, Consumes, IsAtEnd, Keeps, prepend_known}
use Rattle.s4_types.proofs.Booleans.{||-false}
use Rattle.s4_types.specs.Kinds.{is_refused}
use Rattle.s4_types.specs.declared.principal.WireVersion.{WireVersion}
use Rattle.s4_types.specs.declared.reply.Reply.{Reply}
use Rattle.s4_types.specs.declared.request.Request.{Request}
use Rattle.s4_stream.specs.Talk.{reply_frame}
use Rattle.s4_client.specs.Calls.{Begins, request_frame}
use Rattle.s4_asking.specs.Dialogue.{Asks, AsksSome, IfUntold, Tells, TellsOn, TellsSome, TellsSomeOn, request_frames, reply_frames, reply_lines}
use Rattle.s4_asking.specs.declared.fault.AskFault.{AskFault}
use Rattle.s4_asking.specs.declared.fault.AskFault.TheVariants as fault
use Rattle.s4_asking.specs.Lines.{text_of, with_feed}
use Rattle.s4_asking.specs.Spelling.{request_in, told_line}
use Rattle.s4_asking.proofs.Known.{ap_both, appends_both, appends_kept, appends_none, begins_all, begins_more, consumes_all, consumes_both, consumes_none, consumes_same}

-- one more of what is made of each
pub one_more : {X : Type 0} (f : X → List ℕ) (xs : List X) (x : X) → flat_map f xs ++ f x ≡ flat_map f (xs ++ x ∷ [])
one_more f xs x = ap (λ (w : List ℕ). flat_map f xs ++ w) (sym (append-nil (f x))) ∙ sym (flat_map-append f xs (x ∷ []))

-- ASKING

pub asks_none : (version : WireVersion) (left sent : Option (List ℕ)) → Asks version left (prepend_known [] left) sent sent 0
asks_none version left sent = record {
  lines = [];
  requests = [];
  counted = refl;
  taken = consumes_none left;
  spelled = refl;
  sends = appends_none sent;
}

pub spelled_more : (lines : List (List ℕ)) (requests : List Request) (line : List ℕ) (request : Request) → map request_in lines ≡ map Some requests → request_in line ≡ Some request → map request_in (lines ++ line ∷ []) ≡ map Some (requests ++ request ∷ [])
spelled_more lines requests line request spelled is =
    map-append request_in lines (line ∷ [])
    ∙ (ap_both (λ (xs ys : List (Option Request)). xs ++ ys) (map request_in lines) (map Some requests) (request_in line ∷ []) (Some request ∷ []) spelled (ap (λ (r : Option Request). r ∷ []) is)
    ∙ sym (map-append Some requests (request ∷ [])))

pub asks_more : (version : WireVersion) (a b c s t u : Option (List ℕ)) (n : ℕ) (line : List ℕ) (request : Request) → Asks version a b s t n → Consumes b c (with_feed line) → request_in line ≡ Some request → Appends t u (request_frame version request) → Asks version a c s u (n + 1)
asks_more version a b c s t u n line request h taken is sent = record {
  lines = h.lines ++ line ∷ [];
  requests = h.requests ++ request ∷ [];
  counted = length-append h.requests (request ∷ []) ∙ ap (λ (k : ℕ). k + 1) h.counted;
  taken = subst (λ (w : List ℕ). Consumes a c w) (one_more with_feed h.lines line) (consumes_both a b c (text_of h.lines) (with_feed line) h.taken taken);
  spelled = spelled_more h.lines h.requests line request h.spelled is;
  sends = subst (λ (w : List ℕ). Appends s u w) (one_more (request_frame version) h.requests request) (appends_both s t u (request_frames version h.requests) (request_frame version request) h.sends sent);
}

pub asks_some : (version : WireVersion) (a b s t : Option (List ℕ)) (n : ℕ) → Asks version a b s t n → AsksSome version a s t
asks_some version a b s t n h = record {
  lines = h.lines;
  requests = h.requests;
  front = (b, h.taken);
  spelled = h.spelled;
  sends = begins_all s t (request_frames version h.requests) h.sends;
}

-- a beginning of one more is sent
pub asks_begun : (version : WireVersion) (a b c s t u : Option (List ℕ)) (n : ℕ) (line : List ℕ) (request : Request) → Asks version a b s t n → Consumes b c (with_feed line) → request_in line ≡ Some request → Begins t u (request_frame version request) → AsksSome version a s u
asks_begun version a b c s t u n line request h taken is sent = record {
  lines = h.lines ++ line ∷ [];
  requests = h.requests ++ request ∷ [];
  front = (c, subst (λ (w : List ℕ). Consumes a c w) (one_more with_feed h.lines line) (consumes_both a b c (text_of h.lines) (with_feed line) h.taken taken));
  spelled = spelled_more h.lines h.requests line request h.spelled is;
  sends = subst (λ (w : List ℕ). Begins s u w) (one_more (request_frame version) h.requests request) (begins_more s t u (request_frames version h.requests) (request_frame version request) h.sends sent);
}

pub asks_all : (version : WireVersion) (a b s t : Option (List ℕ)) (n : ℕ) → Asks version a b s t n → IsAtEnd b → Asks version a (Some []) s t n
asks_all version a b s t n h end = record {
  lines = h.lines;
  requests = h.requests;
  counted = h.counted;
  taken = consumes_all a b (text_of h.lines) h.taken end;
  spelled = h.spelled;
  sends = h.sends;
}

-- TELLING

pub tells_none : (version : WireVersion) (left told : Option (List ℕ)) → Tells version left left told told 0 false
tells_none version left told = record {
  replies = [];
  counted = refl;
  refuses = refl;
  heard = consumes_same left;
  tells = appends_none told;
}

pub tells_more : (version : WireVersion) (a b c s t u : Option (List ℕ)) (n : ℕ) (refused is_refusal : Bool) (reply : Reply) → Tells version a b s t n refused → Consumes b c (reply_frame version reply) → Appends t u (told_line reply) → is_refusal ≡ is_refused reply → Tells version a c s u (n + 1) (refused || is_refusal)
tells_more version a b c s t u n refused is_refusal reply h heard told is = record {
  replies = h.replies ++ reply ∷ [];
  counted = length-append h.replies (reply ∷ []) ∙ ap (λ (k : ℕ). k + 1) h.counted;
  refuses = list_any-append is_refused h.replies (reply ∷ []) ∙ ap_both (λ (x y : Bool). x || y) _ _ _ _ h.refuses (||-false (is_refused reply) ∙ sym is);
  heard = subst (λ (w : List ℕ). Consumes a c w) (one_more (reply_frame version) h.replies reply) (consumes_both a b c (reply_frames version h.replies) (reply_frame version reply) h.heard heard);
  tells = subst (λ (w : List ℕ). Appends s u w) (one_more told_line h.replies reply) (appends_both s t u (reply_lines h.replies) (told_line reply) h.tells told);
}

pub tells_some : (version : WireVersion) (a b s t u : Option (List ℕ)) (n : ℕ) (refused : Bool) → Tells version a b s t n refused → Keeps t u → TellsSome version a s u
tells_some version a b s t u n refused h kept = record {
  replies = h.replies;
  heard = (b, h.heard);
  tells = appends_kept s t u (reply_lines h.replies) h.tells kept;
}

-- FORMS FOR CALLERS

-- the frame is that of the request that a line at the front of what is left asks for
abbrev pub IsNext : WireVersion → Option (List ℕ) → Option (List ℕ) → List ℕ → Type 0
IsNext version left left' frame = (line : List ℕ) × (request : Request) × Consumes left left' (with_feed line) × (request_in line ≡ Some request) × (frame ≡ request_frame version request)

pub asks_begin : (version : WireVersion) (left sent : Option (List ℕ)) (held : List ℕ) (n : ℕ) → held ≡ [] → n ≡ 0 → Asks version left (prepend_known held left) sent sent n
asks_begin version left sent held n empty none =
    subst (λ (h : List ℕ). Asks version left (prepend_known h left) sent sent n) (sym empty) (subst (λ (k : ℕ). Asks version left (prepend_known [] left) sent sent k) (sym none) (asks_none version left sent))

pub asks_next : (version : WireVersion) (a b c s t u : Option (List ℕ)) (n m : ℕ) (frame : List ℕ) → Asks version a b s t n → IsNext version b c frame → Appends t u frame → m ≡ n + 1 → Asks version a c s u m
asks_next version a b c s t u n m frame h next sent more =
    subst (λ (k : ℕ). Asks version a c s u k) (sym more)
    (asks_more version a b c s t u n next.0 next.1 h next.2 next.3 (subst (λ (w : List ℕ). Appends t u w) next.4 sent))

pub asks_broken : (version : WireVersion) (a b c s t u : Option (List ℕ)) (n : ℕ) (frame : List ℕ) → Asks version a b s t n → IsNext version b c frame → Begins t u frame → AsksSome version a s u
asks_broken version a b c s t u n frame h next sent =
    asks_begun version a b c s t u n next.0 next.1 h next.2 next.3 (subst (λ (w : List ℕ). Begins t u w) next.4 sent)

-- a reply is heard and told
abbrev pub IsTold : WireVersion → Option (List ℕ) → Option (List ℕ) → Option (List ℕ) → Option (List ℕ) → Bool → Type 0
IsTold version left left' told told' is_refusal = (reply : Reply) × Consumes left left' (reply_frame version reply) × Appends told told' (told_line reply) × (is_refusal ≡ is_refused reply)

pub tells_begin : (version : WireVersion) (left told : Option (List ℕ)) (n : ℕ) (refused : Bool) → n ≡ 0 → refused ≡ false → Tells version left left told told n refused
tells_begin version left told n refused none granted =
    subst (λ (k : ℕ). Tells version left left told told k refused) (sym none) (subst (λ (b : Bool). Tells version left left told told 0 b) (sym granted) (tells_none version left told))

pub tells_on : (version : WireVersion) (b c t u : Option (List ℕ)) (n m : ℕ) (refused after is_refusal : Bool) → IsTold version b c t u is_refusal → m ≡ n + 1 → after ≡ (refused || is_refusal) → TellsOn version b c t u n refused m after
tells_on version b c t u n m refused after is_refusal next more grown = λ l o h.
    subst (λ (k : ℕ). Tells version l c o u k after) (sym more)
    (subst (λ (g : Bool). Tells version l c o u (n + 1) g) (sym grown)
    (tells_more version l b c o t u n refused is_refusal next.0 h next.1 next.2 next.3))

pub tells_same : (version : WireVersion) (b t : Option (List ℕ)) (n : ℕ) (refused : Bool) → TellsOn version b b t t n refused n refused
tells_same version b t n refused = λ l o h. h

pub some_on : (version : WireVersion) (b t u : Option (List ℕ)) (n : ℕ) (refused : Bool) → Keeps t u → TellsSomeOn version b t u n refused
some_on version b t u n refused kept = λ l o h. tells_some version l b o t u n refused h kept

-- FAULTS

-- what follows from a fact that holds at a fault; of which type the result is doesn't matter there
pub untold_weaker : (why : AskFault) (P Q : Type 0) → (P → Q) → IfUntold {T = Bool} (Err why) P → IfUntold {T = Bool} (Err why) Q
untold_weaker (fault.Call call) P Q from holds = from holds
untold_weaker (fault.Line number line) P Q from holds = from holds
untold_weaker fault.CannotWrite P Q from holds = tt
untold_weaker fault.Refused P Q from holds = from holds

-- the same where a fault is passed on
pub untold_exit : {U : Type 0} (r : Result U AskFault) (why : AskFault) (P Q : Type 0) → r ≡ Err why → (P → Q) → IfUntold {T = Bool} (Err why) P → IfUntold r Q
untold_exit {U} r why P Q is from holds = subst (λ (x : Result U AskFault). IfUntold x Q) (sym is) (untold_weaker why P Q from holds)

-- a fact holds at any fault
pub untold_holds : (why : AskFault) (P : Type 0) → P → IfUntold {T = Bool} (Err why) P
untold_holds (fault.Call call) P holds = holds
untold_holds (fault.Line number line) P holds = holds
untold_holds fault.CannotWrite P holds = tt
untold_holds fault.Refused P holds = holds

-- what holds of a value that is there
pub some_fact : {X : Type 0} (P : X → Type 0) (found : Option X) (x : X) → found ≡ Some x → IfSome found P → P x
some_fact P found x is holds = subst (λ (o : Option _). IfSome o P) is holds

-- the same, by other names of the numbers
pub tells_as : (version : WireVersion) (a b s t : Option (List ℕ)) (n m : ℕ) (refused after : Bool) → Tells version a b s t n refused → m ≡ n → after ≡ refused → Tells version a b s t m after
tells_as version a b s t n m refused after h count same =
    subst (λ (k : ℕ). Tells version a b s t k after) (sym count) (subst (λ (r : Bool). Tells version a b s t n r) (sym same) h)
