-- Turns one after another.
use Rattle.std.proofs.Common.{◌≡◌, ◌∙◌, ℕ, true, Option, Some, None, List, [], ◌∷◌, ◌++◌, take, drop, length, take-append-drop, refl, sym, ap, subst, arith, append_assoc}
use Rattle.std.specs.Prelude.{IsTrue}
use Rattle.std.proofs.lemmas.List.{append-nil, length-append}
use Rattle.std.specs.Io.KnownBytes.{Consumes, Appends, Keeps}
use Rattle.s4_types.specs.declared.principal.Caller.{Caller}
use Rattle.s4_types.specs.declared.request.Request as asked
use Rattle.s4_types.specs.declared.reply.Reply.{Reply}
use Rattle.s4_codec.specs.Replies.{has_body}
use Rattle.s4_stream.specs.declared.event.Event.{Event}
use Rattle.s4_stream.specs.declared.event.Event.TheVariants.{Welcome, Request, Fault}
use Rattle.s4_stream.specs.declared.event.SessionFault as faults
use Rattle.s4_stream.specs.declared.event.SessionState.TheVariants.{Greeting, Closed}
use Rattle.s4_stream.specs.Logins.{Logins}
use Rattle.s4_stream.specs.Stream.{Heard, hear, events_of, state_after}
use Rattle.s4_stream.specs.Feeding.{Listening, Fills, TakesNext, after_events, heard_so_far}
use Rattle.s4_stream.specs.Talk.{sent_for, welcome, reply_frame, fault_frame, requests_in}
use Rattle.s4_stream.proofs.Cuts.{hear_cut}
use Rattle.s4_stream.proofs.Hearing.{closed_frames}
use Rattle.s4_stream.proofs.Joined.{requests_in-append, fit-joined, sent_for-append}
use Rattle.s4_talk.specs.Calls.{Call, call_made, calls_for}
use Rattle.s4_talk.specs.Turning.{fault_after, Serves, heard_in, Hears, IsDry, FaultIsMet, Told, told, fresh_talk, Takes, Scene, scene, Turns, Intakes, Sends, tells_all, EndsSo, Talked}
use Rattle.s4_talk.specs.declared.turns.TalkEnd.{TalkEnd}
use Rattle.s4_talk.specs.declared.turns.TalkEnd.TheVariants as ends

-- ---- known bytes

pub Consumes-then : (a b c : Option (List ℕ)) (xs ys : List ℕ) → Consumes a b xs → Consumes b c ys → Consumes a c (xs ++ ys)
Consumes-then None b c xs ys h k = tt
Consumes-then (Some p) None c xs ys h k = absurd h
Consumes-then (Some p) (Some q) None xs ys h k = absurd k
Consumes-then (Some p) (Some q) (Some r) xs ys h k = h ∙ (ap (λ (z : List ℕ). xs ++ z) k ∙ sym (append_assoc xs ys r))

Consumes-none : (a : Option (List ℕ)) → Consumes a a []
Consumes-none None = tt
Consumes-none (Some p) = refl

keeps_consumes : (a b : Option (List ℕ)) → Keeps a b → Consumes a b []
keeps_consumes None b h = tt
keeps_consumes (Some p) None h = absurd h
keeps_consumes (Some p) (Some q) h = sym h

pub Appends-then : (a b c : Option (List ℕ)) (xs ys : List ℕ) → Appends a b xs → Appends b c ys → Appends a c (xs ++ ys)
Appends-then None b c xs ys h k = tt
Appends-then (Some p) None c xs ys h k = absurd h
Appends-then (Some p) (Some q) None xs ys h k = absurd k
Appends-then (Some p) (Some q) (Some r) xs ys h k = k ∙ (ap (λ (z : List ℕ). z ++ ys) h ∙ append_assoc p xs ys)

Appends-none : (a : Option (List ℕ)) → Appends a a []
Appends-none None = tt
Appends-none (Some p) = sym (append-nil p)

Appends-keeps : (a b c : Option (List ℕ)) (w : List ℕ) → Appends a b w → Keeps b c → Appends a c w
Appends-keeps None b c w h k = tt
Appends-keeps (Some p) None c w h k = absurd h
Appends-keeps (Some p) (Some q) None w h k = absurd k
Appends-keeps (Some p) (Some q) (Some r) w h k = k ∙ h

-- ---- events that are joined

calls_for-append : (xs ys : List Event) (rs more : List Reply) → length rs ≡ requests_in xs → calls_for (xs ++ ys) (rs ++ more) ≡ calls_for xs rs ++ calls_for ys more
calls_for-append [] ys [] more e = refl
calls_for-append [] ys (x ∷ rs) more e = absurd (omega (arith, e))
calls_for-append (Welcome caller ∷ xs) ys rs more e = calls_for-append xs ys rs more e
calls_for-append (Request caller r ∷ xs) ys [] more e = absurd (omega (arith, e))
calls_for-append (Request caller r ∷ xs) ys (x ∷ rs) more e =
    ap (λ (w : List Call). call_made caller r x ++ w) (calls_for-append xs ys rs more (omega (arith, e))) ∙ sym (append_assoc (call_made caller r x) (calls_for xs rs) (calls_for ys more))
calls_for-append (Fault f ∷ xs) ys rs more e = calls_for-append xs ys rs more e

fault_after-append : (f : Option faults.SessionFault) (xs ys : List Event) → fault_after f (xs ++ ys) ≡ fault_after (fault_after f xs) ys
fault_after-append f [] ys = refl
fault_after-append f (Welcome caller ∷ xs) ys = fault_after-append f xs ys
fault_after-append f (Request caller r ∷ xs) ys = fault_after-append f xs ys
fault_after-append f (Fault g ∷ xs) ys = fault_after-append (Some g) xs ys

-- ---- serving

pub Serves-none : (c : List Call) (f : Option faults.SessionFault) (u : List ℕ) → Serves [] c c f f u u
Serves-none c f u = record {
  replies = [];
  each = refl;
  bodies = refl;
  called = sym (append-nil c);
  faulted = refl;
  sent = sym (append-nil u);
}

pub Serves-then : (xs ys : List Event) (c d e : List Call) (f g h : Option faults.SessionFault) (p q r : List ℕ) → Serves xs c d f g p q → Serves ys d e g h q r → Serves (xs ++ ys) c e f h p r
Serves-then xs ys c d e f g h p q r a b = record {
  replies = a.replies ++ b.replies;
  each = omega (arith, length-append a.replies b.replies, requests_in-append xs ys, a.each, b.each);
  bodies = fit-joined xs ys a.replies b.replies a.each a.bodies b.bodies;
  called = b.called ∙ (ap (λ (z : List Call). z ++ calls_for ys b.replies) a.called
      ∙ (append_assoc c (calls_for xs a.replies) (calls_for ys b.replies)
      ∙ ap (λ (z : List Call). c ++ z) (sym (calls_for-append xs ys a.replies b.replies a.each))));
  faulted = b.faulted ∙ (ap (λ (z : Option faults.SessionFault). fault_after z ys) a.faulted ∙ sym (fault_after-append f xs ys));
  sent = b.sent ∙ (ap (λ (z : List ℕ). z ++ sent_for ys b.replies) a.sent
      ∙ (append_assoc p (sent_for xs a.replies) (sent_for ys b.replies)
      ∙ ap (λ (z : List ℕ). p ++ z) (sym (sent_for-append xs ys a.replies b.replies a.each))));
}

-- bytes before all others change nothing
pub Serves-behind : (xs : List Event) (c d : List Call) (f g : Option faults.SessionFault) (p q bytes : List ℕ) → Serves xs c d f g p q → Serves xs c d f g (bytes ++ p) (bytes ++ q)
Serves-behind xs c d f g p q bytes a = record {
  replies = a.replies;
  each = a.each;
  bodies = a.bodies;
  called = a.called;
  faulted = a.faulted;
  sent = ap (λ (z : List ℕ). bytes ++ z) a.sent ∙ sym (append_assoc bytes p (sent_for xs a.replies));
}

-- the same bytes
pub Serves-same : (xs : List Event) (c d : List Call) (f g : Option faults.SessionFault) (p q r s : List ℕ) → p ≡ r → q ≡ s → Serves xs c d f g p q → Serves xs c d f g r s
Serves-same xs c d f g p q r s e k a = subst (λ (z : List ℕ). Serves xs c d f g z s) e (subst (λ (z : List ℕ). Serves xs c d f g p z) k a)

pub Serves-welcome : (caller : Caller) (c : List Call) (f : Option faults.SessionFault) (p q : List ℕ) → q ≡ p ++ welcome caller.version → Serves (Welcome caller ∷ []) c c f f p q
Serves-welcome caller c f p q e = record {
  replies = [];
  each = refl;
  bodies = refl;
  called = sym (append-nil c);
  faulted = refl;
  sent = e ∙ ap (λ (z : List ℕ). p ++ z) (sym (append-nil (welcome caller.version)));
}

pub Serves-fault : (g : faults.SessionFault) (c : List Call) (f : Option faults.SessionFault) (p q : List ℕ) → q ≡ p ++ fault_frame g → Serves (Fault g ∷ []) c c f (Some g) p q
Serves-fault g c f p q e = record {
  replies = [];
  each = refl;
  bodies = refl;
  called = sym (append-nil c);
  faulted = refl;
  sent = e ∙ ap (λ (z : List ℕ). p ++ z) (sym (append-nil (fault_frame g)));
}

pub Serves-request : (caller : Caller) (r : asked.Request) (x : Reply) (c d : List Call) (f : Option faults.SessionFault) (p q : List ℕ) → d ≡ c ++ call_made caller r x → IsTrue (has_body caller.version x)
    → q ≡ p ++ reply_frame caller.version x → Serves (Request caller r ∷ []) c d f f p q
Serves-request caller r x c d f p q calls body e = record {
  replies = x ∷ [];
  each = refl;
  bodies = rw body refl;
  called = calls ∙ ap (λ (z : List Call). c ++ z) (sym (append-nil (call_made caller r x)));
  faulted = refl;
  sent = e ∙ ap (λ (z : List ℕ). p ++ z) (sym (append-nil (reply_frame caller.version x)));
}

-- ---- hearing

pub Hears-none : (logins : Logins) (s : Listening) → Hears logins s s [] []
Hears-none logins s = ap (hear logins s.state) (append-nil s.pending)

pub Hears-then : (logins : Logins) (a b c : Listening) (p q : List ℕ) (xs ys : List Event) → Hears logins a b p xs → Hears logins b c q ys → Hears logins a c (p ++ q) (xs ++ ys)
Hears-then logins a b c p q xs ys h k =
    let first : List ℕ = a.pending ++ p in
    let held : Heard = heard_in logins b in
    let later : Heard = hear logins held.state (held.left ++ q) in
    ap (hear logins a.state) (sym (append_assoc a.pending p q))
    ∙ (hear_cut logins a.state first q
    ∙ (ap (λ (w : Heard). after_events w.events (hear logins w.state (w.left ++ q))) h
    ∙ (ap (λ (es : List Event). heard_so_far es later.state later.left) (append_assoc xs held.events later.events)
    ∙ (ap (after_events xs) (sym (hear_cut logins b.state b.pending q) ∙ k)
    ∙ ap (λ (es : List Event). heard_so_far es (heard_in logins c).state (heard_in logins c).left) (sym (append_assoc xs ys (heard_in logins c).events))))))

-- the next event is heard of what is held
pub Hears-next : (logins : Logins) (s t : Listening) (event : Event) → TakesNext logins s t (Some event) → Hears logins s t [] (event ∷ [])
Hears-next logins s t event takes = ap (hear logins s.state) (append-nil s.pending) ∙ takes.1

-- bytes are held, and none of them is heard yet
pub Hears-filled : (logins : Logins) (left left' : Option (List ℕ)) (n : ℕ) (s t : Listening) (fills : Fills left left' n s t) → Hears logins s t fills.more []
Hears-filled logins left left' n s t fills = ap (heard_in logins) (sym fills.holds)

-- a session that is closed says nothing more
pub closed_is_dry : (logins : Logins) (s : Listening) → s.state ≡ Closed → IsDry logins s
closed_is_dry logins s closed =
    ap (λ w. (hear logins w s.pending).events) closed ∙ ap (λ (h : Heard). h.events) (closed_frames (length s.pending) logins s.pending)

met_is_dry : (logins : Logins) (s : Listening) (f : Option faults.SessionFault) (g : faults.SessionFault) → FaultIsMet s f → f ≡ Some g → IsDry logins s
met_is_dry logins s None g met is = absurd cc
met_is_dry logins s (Some h) g met is = closed_is_dry logins s met

no_event : (event : Event) (events : List Event) → [] ≡ event ∷ events → ⊥
no_event event events e = cc

-- a closed session has no next event
never_next : (logins : Logins) (s t : Listening) (event : Event) → s.state ≡ Closed → TakesNext logins s t (Some event) → ⊥
never_next logins s t event closed takes =
    no_event event (heard_in logins t).events (sym (closed_is_dry logins s closed) ∙ ap (λ (h : Heard). h.events) takes.1)

goes_on : (s : Listening) (event : Event) → s.state ≡ state_after event → FaultIsMet s (fault_after None (event ∷ []))
goes_on s (Welcome caller) is = λ closed. absurd cc
goes_on s (Request caller r) is = λ closed. absurd cc
goes_on s (Fault f) is = is

-- the fault is met with its event
pub met_next : (logins : Logins) (s t : Listening) (f g : Option faults.SessionFault) (event : Event) → FaultIsMet s f → TakesNext logins s t (Some event) → g ≡ fault_after f (event ∷ []) → FaultIsMet t g
met_next logins s t None g event met takes is = subst (FaultIsMet t) (sym is) (goes_on t event takes.0)
met_next logins s t (Some f) g event met takes is = absurd (never_next logins s t event met takes)

pub met_told : (logins : Logins) (s : Listening) (f : Option faults.SessionFault) (g : faults.SessionFault) → FaultIsMet s f → f ≡ Some g → IsDry logins s
met_told logins s f g met is = met_is_dry logins s f g met is

-- ---- taking

pub Takes-none : (logins : Logins) (c : List Call) (t : Told) → Takes logins [] c c t t
Takes-none logins c t = record { events = []; hears = Hears-none logins t.session; serves = Serves-none c t.fault t.waiting }

pub Takes-then : (logins : Logins) (p q : List ℕ) (c d e : List Call) (t u v : Told) → Takes logins p c d t u → Takes logins q d e u v → Takes logins (p ++ q) c e t v
Takes-then logins p q c d e t u v x y = record {
  events = x.events ++ y.events;
  hears = Hears-then logins t.session u.session v.session p q x.events y.events x.hears y.hears;
  serves = Serves-then x.events y.events c d e t.fault u.fault v.fault t.waiting u.waiting v.waiting x.serves y.serves;
}

-- the next event is served
pub Takes-next : (logins : Logins) (c d : List Call) (s t : Listening) (f g : Option faults.SessionFault) (u v : List ℕ) (event : Event) → TakesNext logins s t (Some event) → Serves (event ∷ []) c d f g u v
    → Takes logins [] c d (told s f u) (told t g v)
Takes-next logins c d s t f g u v event takes serves = record { events = event ∷ []; hears = Hears-next logins s t event takes; serves = serves }

-- ---- turns

pub Turns-then : (logins : Logins) (a b c : Scene) → Turns logins a b → Turns logins b c → Turns logins a c
Turns-then logins a b c x y = record {
  read = x.read ++ y.read;
  written = x.written ++ y.written;
  events = x.events ++ y.events;
  consumes = Consumes-then a.left b.left c.left x.read y.read x.consumes y.consumes;
  appends = Appends-then a.held b.held c.held x.written y.written x.appends y.appends;
  hears = Hears-then logins a.talk.session b.talk.session c.talk.session x.read y.read x.events y.events x.hears y.hears;
  serves =
      let behind : Serves y.events b.calls c.calls b.talk.fault c.talk.fault (x.written ++ b.talk.waiting) (x.written ++ (y.written ++ c.talk.waiting))
      = Serves-behind y.events b.calls c.calls b.talk.fault c.talk.fault b.talk.waiting (y.written ++ c.talk.waiting) x.written y.serves in
      let all : Serves (x.events ++ y.events) a.calls c.calls a.talk.fault c.talk.fault a.talk.waiting (x.written ++ (y.written ++ c.talk.waiting))
      = Serves-then x.events y.events a.calls b.calls c.calls a.talk.fault b.talk.fault c.talk.fault a.talk.waiting (x.written ++ b.talk.waiting) (x.written ++ (y.written ++ c.talk.waiting)) x.serves behind in
      Serves-same (x.events ++ y.events) a.calls c.calls a.talk.fault c.talk.fault a.talk.waiting (x.written ++ (y.written ++ c.talk.waiting)) a.talk.waiting ((x.written ++ y.written) ++ c.talk.waiting)
      refl (sym (append_assoc x.written y.written c.talk.waiting)) all;
}

-- a turn that only writes
pub turn_of_sends : (logins : Logins) (left h h' : Option (List ℕ)) (c : List Call) (s : Listening) (f : Option faults.SessionFault) (u u' : List ℕ) → Sends h h' u u' → Turns logins (scene left h c (told s f u)) (scene left h' c (told s f u'))
turn_of_sends logins left h h' c s f u u' x = record {
  read = [];
  written = x.written;
  events = [];
  consumes = Consumes-none left;
  appends = x.appends;
  hears = Hears-none logins s;
  serves = Serves-same [] c c f f u u u (x.written ++ u') refl (sym x.sent) (Serves-none c f u);
}

-- a turn that only reads and serves
turn_of_intakes : (logins : Logins) (left left' h : Option (List ℕ)) (c c' : List Call) (t t' : Told) → Intakes logins left left' c c' t t' → Turns logins (scene left h c t) (scene left' h c' t')
turn_of_intakes logins left left' h c c' t t' x = record {
  read = x.read;
  written = [];
  events = x.takes.events;
  consumes = x.consumes;
  appends = Appends-none h;
  hears = x.takes.hears;
  serves = x.takes.serves;
}

-- writing, and then reading and serving
pub turn_of_both : (logins : Logins) (left left' h h' : Option (List ℕ)) (c c' : List Call) (s s' : Listening) (f f' : Option faults.SessionFault) (u v v' : List ℕ) → Sends h h' u v
    → Intakes logins left left' c c' (told s f v) (told s' f' v') → Turns logins (scene left h c (told s f u)) (scene left' h' c' (told s' f' v'))
turn_of_both logins left left' h h' c c' s s' f f' u v v' x y =
    Turns-then logins (scene left h c (told s f u)) (scene left h' c (told s f v)) (scene left' h' c' (told s' f' v')) (turn_of_sends logins left h h' c s f u v x) (turn_of_intakes logins left left' h' c c' (told s f v) (told s' f' v') y)

-- and then writing again
pub turn_of_all : (logins : Logins) (left left' h h' h'' : Option (List ℕ)) (c c' : List Call) (s s' : Listening) (f f' : Option faults.SessionFault) (u v v' v'' : List ℕ) → Sends h h' u v
    → Intakes logins left left' c c' (told s f v) (told s' f' v') → Sends h' h'' v' v'' → Turns logins (scene left h c (told s f u)) (scene left' h'' c' (told s' f' v''))
turn_of_all logins left left' h h' h'' c c' s s' f f' u v v' v'' x y z =
    Turns-then logins (scene left h c (told s f u)) (scene left' h' c' (told s' f' v')) (scene left' h'' c' (told s' f' v''))
    (turn_of_both logins left left' h h' c c' s s' f f' u v v' x y) (turn_of_sends logins left' h' h'' c' s' f' v' v'' z)

-- ---- reading

-- what is held is served, and nothing is read
pub Intakes-held : (logins : Logins) (left : Option (List ℕ)) (c d : List Call) (t u : Told) → Takes logins [] c d t u → Intakes logins left left c d t u
Intakes-held logins left c d t u takes = record { read = []; consumes = Consumes-none left; takes = takes }

-- what is held is served, and then the reader gives nothing
pub Intakes-kept : (logins : Logins) (left left' : Option (List ℕ)) (c d : List Call) (t u : Told) → Takes logins [] c d t u → Keeps left left' → Intakes logins left left' c d t u
Intakes-kept logins left left' c d t u takes keeps = record { read = []; consumes = keeps_consumes left left' keeps; takes = takes }

-- what is held is served, and then bytes are held, none of which is heard yet
pub Intakes-filled : (logins : Logins) (left left' : Option (List ℕ)) (n : ℕ) (c d : List Call) (t : Told) (s s' : Listening) (f : Option faults.SessionFault) (u : List ℕ) → Takes logins [] c d t (told s f u) → Fills left left' n s s'
    → Intakes logins left left' c d t (told s' f u)
Intakes-filled logins left left' n c d t s s' f u takes fills = record {
  read = fills.more;
  consumes = fills.consumes;
  takes = Takes-then logins [] fills.more c d d t (told s f u) (told s' f u) takes
      (record { events = []; hears = Hears-filled logins left left' n s s' fills; serves = Serves-none d f u });
}

-- and then more of what is held is served
pub Intakes-more : (logins : Logins) (left left' : Option (List ℕ)) (c d e : List Call) (t u v : Told) → Intakes logins left left' c d t u → Takes logins [] d e u v → Intakes logins left left' c e t v
Intakes-more logins left left' c d e t u v x y = record {
  read = x.read;
  consumes = x.consumes;
  takes = subst (λ (w : List ℕ). Takes logins w c e t v) (append-nil x.read) (Takes-then logins x.read [] c d e t u v x.takes y);
}

-- ---- writing

pub Sends-none : (a : Option (List ℕ)) (u : List ℕ) → Sends a a u u
Sends-none a u = record { written = []; appends = Appends-none a; sent = refl }

-- n bytes more are written
pub Sends-more : (a b c : Option (List ℕ)) (u v w buf : List ℕ) (n : ℕ) → Sends a b u v → buf ≡ v → Appends b c (take n buf) → w ≡ drop n v → Sends a c u w
Sends-more a b c u v w buf n x same more is = record {
  written = x.written ++ take n v;
  appends = Appends-then a b c x.written (take n v) x.appends (subst (λ (z : List ℕ). Appends b c (take n z)) same more);
  sent = append_assoc x.written (take n v) w
      ∙ (ap (λ (z : List ℕ). x.written ++ z) (ap (λ (z : List ℕ). take n v ++ z) is ∙ take-append-drop n v) ∙ x.sent);
}

-- nothing more is written
pub Sends-kept : (a b c : Option (List ℕ)) (u v w : List ℕ) → Sends a b u v → Keeps b c → w ≡ v → Sends a c u w
Sends-kept a b c u v w x keeps is = record { written = x.written; appends = Appends-keeps a b c x.written x.appends keeps; sent = ap (λ (z : List ℕ). x.written ++ z) is ∙ x.sent }

-- ---- whole talks

pub turns_none : (logins : Logins) (a : Scene) → Turns logins a a
turns_none logins a = turn_of_sends logins a.left a.held a.held a.calls a.talk.session a.talk.fault a.talk.waiting a.talk.waiting (Sends-none a.held a.talk.waiting)

-- bytes of which none waits
all_sent : (events : List Event) (replies : List Reply) (w waiting : List ℕ) → waiting ≡ [] → w ++ waiting ≡ [] ++ sent_for events replies → w ≡ sent_for events replies
all_sent events replies w waiting none sent = sym (append-nil w) ∙ (ap (λ (z : List ℕ). w ++ z) (sym none) ∙ sent)

-- all that the bytes say is served, where the session says nothing more
all_heard : (logins : Logins) (read : List ℕ) (events : List Event) (s : Listening) → hear logins Greeting read ≡ after_events events (heard_in logins s) → IsDry logins s → events ≡ events_of logins read
all_heard logins read events s hears dry = sym (append-nil events) ∙ (ap (λ (z : List Event). events ++ z) (sym dry) ∙ ap (λ (h : Heard). h.events) (sym hears))

all_of : (logins : Logins) (read w : List ℕ) (events : List Event) (t : Told) (c c' : List Call) → hear logins Greeting read ≡ after_events events (heard_in logins t.session) → (s : Serves events c c' None t.fault [] (w ++ t.waiting)) → t.waiting ≡ [] → IsDry logins t.session
    → (events ≡ events_of logins read) × (w ≡ sent_for (events_of logins read) s.replies)
all_of logins read w events t c c' hears s none dry =
    let all : events ≡ events_of logins read = all_heard logins read events t.session hears dry in
    (all, all_sent events s.replies w t.waiting none s.sent ∙ ap (λ (z : List Event). sent_for z s.replies) all)

all_told : (end : TalkEnd) (logins : Logins) (left : Option (List ℕ)) (read w : List ℕ) (events : List Event) (t : Told) (c c' : List Call) → EndsSo end logins left t → hear logins Greeting read ≡ after_events events (heard_in logins t.session)
    → (s : Serves events c c' None t.fault [] (w ++ t.waiting)) → tells_all end ≡ true → (events ≡ events_of logins read) × (w ≡ sent_for (events_of logins read) s.replies)
all_told ends.PeerClosed logins left read w events t c c' so hears s is = all_of logins read w events t c c' hears s so.2 so.3
all_told (ends.Faulted f) logins left read w events t c c' so hears s is = all_of logins read w events t c c' hears s so.1 so.2
all_told ends.ReadFailed logins left read w events t c c' so hears s is = absurd cc
all_told ends.WriteFailed logins left read w events t c c' so hears s is = absurd cc
all_told ends.NoMemory logins left read w events t c c' so hears s is = absurd cc

-- the talk that turns make
pub Talked-from : (end : TalkEnd) (logins : Logins) (left left' held held' : Option (List ℕ)) (c c' : List Call) (t : Told) → Turns logins (scene left held c fresh_talk) (scene left' held' c' t) → EndsSo end logins left' t
    → Talked end logins left left' held held' c c'
Talked-from end logins left left' held held' c c' t x so = record {
  read = x.read;
  written = x.written;
  events = x.events;
  now = t;
  consumes = x.consumes;
  appends = x.appends;
  hears = x.hears;
  serves = x.serves;
  all = all_told end logins left' x.read x.written x.events t c c' so x.hears x.serves;
  ended = so;
}
