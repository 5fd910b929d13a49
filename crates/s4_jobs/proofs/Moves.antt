-- Each move keeps the rule of the jobs.
use Rattle.std.proofs.Common.{◌≡◌, ◌≢◌, ℕ, ◌+◌, ◌<◌, ◌==◌, zero, suc, true, cond, List, [], ◌∷◌, ◌++◌, length, map, set, All, sym, refl, ap, ◌∙◌, subst, ⊎_elim, ◌⊎◌, inl, inr, append_assoc, arith, eq-eqb, length-append}
use Rattle.std.proofs.lemmas.Bool.{ne_eqb, true≢false}
use Rattle.std.proofs.lemmas.List.{map-append, length-map}
use Rattle.std.proofs.lemmas.List.Elements.{All-push, All-weaker, All-nil}
use mathlib.Core.Option.{Option, some, none, some-ne-none, some-injective}
use lib.ListN.{get_elem?}
use Rattle.crossbeam_queue.specs.Fifo.{Pushes, Pops, Forks, Merges, Learns}
use Rattle.crossbeam_queue.proofs.Lists.{at_set}
use Rattle.s4_jobs.specs.declared.rule.Tag.{Tag}
use Rattle.s4_jobs.specs.declared.rule.View.{View}
use Rattle.s4_jobs.specs.declared.rule.Hand.{Hand}
use Rattle.s4_jobs.specs.declared.rule.Posted.{Posted}
use Rattle.s4_jobs.specs.Log.{Taking, taking, tags_of, put_by, taken_by}
use Rattle.s4_jobs.specs.Rule.{first_view, with_put, with_taken, with_left, with_ended, one_made, newcomer, ended, hand_in, IsFirst, IsWhole, Fits, Holds, HoldsOf, SeenBy, Settles, SettlesOf, LeftBy, puts_of, takes_of, tag_of}
use Rattle.s4_jobs.proofs.Counts.{put_by-same, put_by-other, put_by-none, taken_by-same, taken_by-other, taken_by-none, tags_of-push, total, put_by-length, taken_by-length}

abbrev Every : (ℕ → View → Type 0) → List View → Type 0
Every F views = (port : ℕ) (v : View) → get_elem? views port ≡ some v → F port v

every_set : (F : ℕ → View → Type 0) (views : List View) (port : ℕ) (w : View) → F port w → ((j : ℕ) (u : View) → j ≢ port → get_elem? views j ≡ some u → F j u) → Every F (set views port w)
every_set F views port w mine others j u e = ⊎_elim (λ (x : (j ≡ port) × (w ≡ u)). subst (λ (y : ℕ × View). F y.0 y.1) (λ i. (sym x.0 i, x.1 i)) mine)
    (λ (x : (j ≢ port) × (get_elem? views j ≡ some u)). others j u x.0 x.1) (at_set views port j w u e)

at_snoc : {X : Type 0} (l : List X) (a b : X) (j : ℕ) → get_elem? (l ++ a ∷ []) j ≡ some b → (get_elem? l j ≡ some b) ⊎ ((j ≡ length l) × (a ≡ b))
at_snoc {X} [] a b zero e = inr (refl, some-injective a b e)
at_snoc {X} [] a b (suc j) e = absurd (some-ne-none b (sym e))
at_snoc {X} (x ∷ l) a b zero e = inl e
at_snoc {X} (x ∷ l) a b (suc j) e = ⊎_elim (λ y. inl y) (λ y. inr (ap suc y.0, y.1)) (at_snoc l a b j e)

-- within the list there is an element
there : {X : Type 0} (l : List X) (j : ℕ) → j < length l → (x : X) × (get_elem? l j ≡ some x)
there {X} [] j lt = absurd (omega arith)
there {X} (x ∷ l) zero lt = (x, refl)
there {X} (x ∷ l) (suc j) lt = there l j (omega arith)

-- two live seats at different ports are different
apart : (owner : ℕ → Option ℕ) (a b port j : ℕ) → owner a ≡ some port → owner b ≡ some j → j ≢ port → a ≢ b
apart owner a b port j x y n e = n (some-injective j port (sym y ∙ (sym (ap owner e) ∙ x)))

not_dead : (owner : ℕ → Option ℕ) (a b port : ℕ) → owner a ≡ some port → owner b ≡ none → a ≢ b
not_dead owner a b port x y e = some-ne-none port (sym x ∙ (ap owner e ∙ y))

none_closed : (k : ℕ) (x : Hand) (closed : List Hand) → closed ≡ [] → get_elem? closed k ≢ some x
none_closed k x closed e at = some-ne-none x (sym (sym (ap (λ l. get_elem? l k) e) ∙ at))

cons_not_nil : (x : Tag) (l : List Tag) → x ∷ l ≢ []
cons_not_nil x l e = absurd (omega (arith, ap (λ (m : List Tag). length m) e))

-- while a seat is live that knows of nothing left over, nothing is
nothing_left : (items : List Tag) (views : List View) (h : Holds items views) (port : ℕ) (v : View) → get_elem? views port ≡ some v → v.live ≡ true → v.left ≡ [] → h.left ≡ []
nothing_left items views h port v at live left = by_seat v.seat refl
  where
    none_when : (s : ℕ) → v.seat ≡ suc s → (l : List Tag) → h.left ≡ l → l ≡ []
    none_when s is [] e = refl
    none_when s is (x ∷ l) e =
        let whole = h.ending (λ n. absurd (cons_not_nil x l (sym e ∙ n))) in
        let mine = h.fits port v at in
        let t = there h.closed s (omega (arith, mine.below live, whole, is)) in
        absurd (not_dead h.owner v.seat (s + 1) port (mine.owned live) (h.dead s t.0 t.1) (is ∙ omega arith))

    by_seat : (s : ℕ) → v.seat ≡ s → h.left ≡ []
    by_seat zero is = sym (((h.fits port v at).leads live is).2) ∙ left
    by_seat (suc s) is = none_when s is h.left refl

pub puts : {J : Type 0} (number : J → ℕ) (n port : ℕ) (v : View) (x : Posted J) → v.live ≡ true → x.from ≡ v.seat → Pushes (HoldsOf number) n port v x (λ w. w ≡ with_put v (tag_of number x))
puts {J} number n port v x live from items views _ h at =
    let t = tag_of number x in
    let w : View = with_put v t in
    let ts = map (tag_of number) items in
    let all : List Tag = tags_of h.log ++ (h.left ++ ts) in
    let mine = h.fits port v at in
    let more : map (tag_of number) (items ++ x ∷ []) ≡ ts ++ t ∷ [] = map-append (tag_of number) items (x ∷ []) in
    let is : tags_of h.log ++ (h.left ++ (ts ++ t ∷ [])) ≡ all ++ t ∷ [] = ap (λ (l : List Tag). tags_of h.log ++ l) (sym (append_assoc h.left ts (t ∷ []))) ∙ sym (append_assoc (tags_of h.log) (h.left ++ ts) (t ∷ [])) in
    let F : ℕ → View → Type 0 = Fits h.owner h.made h.closed h.left h.log (all ++ t ∷ []) in
    let here : F port w = record {
      owned = mine.owned;
      below = mine.below;
      put = λ l. ap (λ p. p ++ t.number ∷ []) (mine.put l) ∙ sym (put_by-same v.seat all t from);
      taken = mine.taken;
      leads = mine.leads;
    } in
    let others : (j : ℕ) (u : View) → j ≢ port → get_elem? views j ≡ some u → F j u = λ j u n e. let theirs = h.fits j u e in record {
      owned = theirs.owned;
      below = theirs.below;
      put = λ l. theirs.put l ∙ sym (put_by-other u.seat all t (λ same. apart h.owner v.seat u.seat port j (mine.owned live) (theirs.owned l) n (sym from ∙ same)));
      taken = theirs.taken;
      leads = theirs.leads;
    } in (
      w,
      rw more (record {
        log = h.log;
        left = h.left;
        closed = h.closed;
        made = h.made;
        owner = h.owner;
        from = rw is (All-push (λ (y : Tag). y.from < h.made) all t h.from (rw from (mine.below live)));
        by = h.by;
        hands = λ k y e. rw is (record {
          put = (h.hands k y e).put ∙ sym (put_by-other (k + 1) all t (λ same. not_dead h.owner v.seat (k + 1) port (mine.owned live) (h.dead k y e) (sym from ∙ same)));
          taken = (h.hands k y e).taken;
        });
        dead = h.dead;
        ending = h.ending;
        fits = rw is (every_set F views port w here others);
      }),
      refl,
    )

pub takes : {J : Type 0} (number : J → ℕ) (port : ℕ) (v : View) → v.live ≡ true → v.left ≡ [] → Pops (HoldsOf number) port v (λ x w. w ≡ with_taken v (tag_of number x))
takes {J} number port v live left x items views h at =
    let t = tag_of number x in
    let w : View = with_taken v t in
    let ts = map (tag_of number) items in
    let all : List Tag = tags_of h.log ++ (h.left ++ t ∷ ts) in
    let mine = h.fits port v at in
    let log : List Taking = h.log ++ taking v.seat t ∷ [] in
    let none : h.left ≡ [] = nothing_left (t ∷ ts) views h port v at live left in
    let is : tags_of log ++ (h.left ++ ts) ≡ all = ap (λ l. tags_of log ++ (l ++ ts)) none ∙ (ap (λ l. l ++ ts) (tags_of-push h.log (taking v.seat t)) ∙ (append_assoc (tags_of h.log) (t ∷ []) ts ∙ sym (ap (λ l. tags_of h.log ++ (l ++ t ∷ ts)) none))) in
    let F : ℕ → View → Type 0 = Fits h.owner h.made h.closed h.left log all in
    let here : F port w = record {
      owned = mine.owned;
      below = mine.below;
      put = mine.put;
      taken = λ l. ap (λ p. p ++ t ∷ []) (mine.taken l) ∙ sym (taken_by-same v.seat h.log t);
      leads = mine.leads;
    } in
    let others : (j : ℕ) (u : View) → j ≢ port → get_elem? views j ≡ some u → F j u = λ j u n e. let theirs = h.fits j u e in record {
      owned = theirs.owned;
      below = theirs.below;
      put = theirs.put;
      taken = λ l. theirs.taken l ∙ sym (taken_by-other u.seat v.seat h.log t (apart h.owner v.seat u.seat port j (mine.owned live) (theirs.owned l) n));
      leads = theirs.leads;
    } in (
      w,
      record {
        log = log;
        left = h.left;
        closed = h.closed;
        made = h.made;
        owner = h.owner;
        from = rw is h.from;
        by = All-push (λ (y : Taking). y.by < h.made) h.log (taking v.seat t) h.by (mine.below live);
        hands = λ k y e. rw is (record {
          put = (h.hands k y e).put;
          taken = (h.hands k y e).taken ∙ sym (taken_by-other (k + 1) v.seat h.log t (not_dead h.owner v.seat (k + 1) port (mine.owned live) (h.dead k y e)));
        });
        dead = h.dead;
        ending = h.ending;
        fits = rw is (every_set F views port w here others);
      },
      refl,
    )

pub forks : {J : Type 0} (number : J → ℕ) (port : ℕ) (v : View) → v.live ≡ true → v.seat ≡ 0 → v.closed ≡ [] → v.left ≡ [] → Forks (HoldsOf number) port v (one_made v) (newcomer v)
forks {J} number port v live first unclosed left items views h at =
    let ts = map (tag_of number) items in
    let all : List Tag = tags_of h.log ++ (h.left ++ ts) in
    let l : View = one_made v in
    let r : View = newcomer v in
    let mine = h.fits port v at in
    let lead = mine.leads live first in
    let made_is : v.made ≡ h.made = lead.0 in
    let empty : h.closed ≡ [] = sym lead.1 ∙ unclosed in
    let none_left : h.left ≡ [] = sym lead.2 ∙ left in
    let vs : List View = set views port l in
    let owner : ℕ → Option ℕ = λ s. cond (h.made == s) (some (length vs)) (h.owner s) in
    let old_owner : (s : ℕ) → s < h.made → owner s ≡ h.owner s = λ s lt. rw (ne_eqb h.made s (λ e. absurd (omega (arith, e, lt)))) refl in
    let new_owner : owner h.made ≡ some (length vs) = rw (eq-eqb h.made h.made refl) refl in
    let F : ℕ → View → Type 0 = Fits owner (h.made + 1) h.closed h.left h.log all in
    let here : F port l = record {
      owned = λ a. old_owner v.seat (mine.below a) ∙ mine.owned a;
      below = λ a. omega (arith, mine.below a);
      put = mine.put;
      taken = mine.taken;
      leads = λ a s. (ap (λ (m : ℕ). m + 1) made_is, lead.1, lead.2);
    } in
    let others : (j : ℕ) (u : View) → j ≢ port → get_elem? views j ≡ some u → F j u = λ j u n e. let theirs = h.fits j u e in record {
      owned = λ a. old_owner u.seat (theirs.below a) ∙ theirs.owned a;
      below = λ a. omega (arith, theirs.below a);
      put = theirs.put;
      taken = theirs.taken;
      leads = λ a s. absurd (apart h.owner v.seat u.seat port j (mine.owned live) (theirs.owned a) n (first ∙ sym s));
    } in
    let old : Every F vs = every_set F views port l here others in
    let more : 0 < v.made = omega (arith, mine.below live, made_is) in
    let new : F (length vs) r = record {
      owned = λ a. ap owner made_is ∙ new_owner;
      below = λ a. omega (arith, made_is);
      put = λ a. rw made_is (sym (put_by-none h.made all h.from));
      taken = λ a. rw made_is (sym (taken_by-none h.made h.log h.by));
      leads = λ a s. absurd (omega (arith, s, more));
    } in
    record {
      log = h.log;
      left = h.left;
      closed = h.closed;
      made = h.made + 1;
      owner = owner;
      from = All-weaker (λ (y : Tag). y.from < h.made) (λ (y : Tag). y.from < h.made + 1) (λ y lt. omega (arith, lt)) all h.from;
      by = All-weaker (λ (y : Taking). y.by < h.made) (λ (y : Taking). y.by < h.made + 1) (λ y lt. omega (arith, lt)) h.log h.by;
      hands = h.hands;
      dead = λ k y e. absurd (none_closed k y h.closed empty e);
      ending = λ some_left. absurd (some_left none_left);
      fits = λ j u e. ⊎_elim (λ x. old j u x) (λ (x : (j ≡ length vs) × (r ≡ u)). subst (λ (y : ℕ × View). F y.0 y.1) (λ i. (sym x.0 i, x.1 i)) new) (at_snoc vs r u j e);
    }

pub begins : {J : Type 0} (number : J → ℕ) → HoldsOf number [] (first_view 1 ∷ [])
begins {J} number =
    let v : View = first_view 1 in
    let F : ℕ → View → Type 0 = Fits (λ s. some 0) 1 [] [] [] [] in
    let here : F 0 v = record { owned = λ a. refl; below = λ a. omega arith; put = λ a. refl; taken = λ a. refl; leads = λ a s. (refl, refl, refl) } in
    record {
      log = [];
      left = [];
      closed = [];
      made = 1;
      owner = λ s. some 0;
      from = All-nil (λ (y : Tag). y.from < 1);
      by = All-nil (λ (y : Taking). y.by < 1);
      hands = λ k y e. absurd (some-ne-none y (sym e));
      dead = λ k y e. absurd (some-ne-none y (sym e));
      ending = λ some_left. absurd (some_left refl);
      fits = λ j u e. ⊎_elim (λ x. absurd (some-ne-none u (sym x))) (λ (x : (j ≡ 0) × (v ≡ u)). subst (λ (y : ℕ × View). F y.0 y.1) (λ i. (sym x.0 i, x.1 i)) here) (at_snoc [] v u j e);
    }

-- a seat ends in the first, in the order of the seats
pub merges : {J : Type 0} (number : J → ℕ) (port : ℕ) (v : View) (other : ℕ) (u : View) → IsFirst v → u.live ≡ true → u.seat ≡ length v.closed + 1 → Merges (HoldsOf number) port v other u (with_ended v u) ended
merges {J} number port v other u lead_is u_live next items views h at two at_u =
    let live = lead_is.live in
    let ts = map (tag_of number) items in
    let all : List Tag = tags_of h.log ++ (h.left ++ ts) in
    let both : View = with_ended v u in
    let vs : List View = set views port both in
    let mine = h.fits port v at in
    let lead = mine.leads live lead_is.seat in
    let none_left : h.left ≡ [] = sym lead.2 ∙ lead_is.left in
    let was : get_elem? views other ≡ some u = ⊎_elim (λ x. absurd (two x.0)) (λ x. x.1) (at_set views port other both u at_u) in
    let theirs = h.fits other u was in
    let closed : List Hand = h.closed ++ hand_in u ∷ [] in
    let seat_is : u.seat ≡ length h.closed + 1 = next ∙ ap (λ (l : List Hand). length l + 1) lead.1 in
    let owner : ℕ → Option ℕ = λ s. cond (u.seat == s) none (h.owner s) in
    let gone : owner u.seat ≡ none = rw (eq-eqb u.seat u.seat refl) refl in
    let kept : (s : ℕ) → u.seat ≢ s → owner s ≡ h.owner s = λ s ne. rw (ne_eqb u.seat s ne) refl in
    let F : ℕ → View → Type 0 = Fits owner h.made closed h.left h.log all in
    let G : ℕ → View → Type 0 = λ j y. j ≢ other → F j y in
    let here : G port both = λ _. record {
      owned = λ a. kept v.seat (apart h.owner u.seat v.seat other port (theirs.owned u_live) (mine.owned live) (λ e. two (sym e))) ∙ mine.owned a;
      below = mine.below;
      put = mine.put;
      taken = mine.taken;
      leads = λ a s. (lead.0, ap (λ l. l ++ hand_in u ∷ []) lead.1, lead.2);
    } in
    let others : (j : ℕ) (y : View) → j ≢ port → get_elem? views j ≡ some y → G j y = λ j y n e apart_j. let yours = h.fits j y e in record {
      owned = λ a. kept y.seat (apart h.owner u.seat y.seat other j (theirs.owned u_live) (yours.owned a) apart_j) ∙ yours.owned a;
      below = yours.below;
      put = yours.put;
      taken = yours.taken;
      leads = λ a s. absurd (apart h.owner v.seat y.seat port j (mine.owned live) (yours.owned a) n (lead_is.seat ∙ sym s));
    } in
    let now : Every G vs = every_set G views port both here others in
    let dead_one : F other ended = record {
      owned = λ a. absurd (true≢false (sym a));
      below = λ a. absurd (true≢false (sym a));
      put = λ a. absurd (true≢false (sym a));
      taken = λ a. absurd (true≢false (sym a));
      leads = λ a s. absurd (true≢false (sym a));
    } in
    record {
      log = h.log;
      left = h.left;
      closed = closed;
      made = h.made;
      owner = owner;
      from = h.from;
      by = h.by;
      hands = λ k y e. ⊎_elim (λ x. h.hands k y x)
          (λ (x : (k ≡ length h.closed) × (hand_in u ≡ y)). let s : u.seat ≡ k + 1 = seat_is ∙ ap (λ m. m + 1) (sym x.0) in rw (← x.1) (record { put = theirs.put u_live ∙ ap (λ m. put_by m all) s; taken = theirs.taken u_live ∙ ap (λ m. taken_by m h.log) s }))
          (at_snoc h.closed (hand_in u) y k e);
      dead = λ k y e. ⊎_elim (λ x. kept (k + 1) (not_dead h.owner u.seat (k + 1) other (theirs.owned u_live) (h.dead k y x)) ∙ h.dead k y x)
          (λ (x : (k ≡ length h.closed) × (hand_in u ≡ y)). ap owner (ap (λ m. m + 1) x.0 ∙ sym seat_is) ∙ gone)
          (at_snoc h.closed (hand_in u) y k e);
      ending = λ some_left. absurd (some_left none_left);
      fits = every_set F vs other ended dead_one (λ j y n e. now j y e n);
    }

-- what a seat sees, and what the first sees once all others have ended in it
pub learns : {J : Type 0} (number : J → ℕ) (port : ℕ) (v : View) → v.live ≡ true → v.left ≡ [] → Learns (HoldsOf number) port v (SeenBy number v)
learns {J} number port v live left items views h at =
    let ts = map (tag_of number) items in
    let mine = h.fits port v at in
    let none = nothing_left ts views h port v at live left in
    let is : tags_of h.log ++ (h.left ++ ts) ≡ tags_of h.log ++ ts = ap (λ l. tags_of h.log ++ (l ++ ts)) none in
    record {
      log = h.log;
      put = mine.put live ∙ ap (put_by v.seat) is;
      taken = mine.taken live;
      from = λ s. let m : v.made ≡ h.made = (mine.leads live s).0 in subst (λ (x : ℕ × List Tag). All (λ (t : Tag). t.from < x.0) x.1) (λ i. (sym m i, is i)) h.from;
      by = λ s. let m : v.made ≡ h.made = (mine.leads live s).0 in subst (λ (x : ℕ). All (λ (t : Taking). t.by < x) h.log) (sym m) h.by;
    }

whole_sees : (items : List Tag) (views : List View) (h : Holds items views) (port : ℕ) (v : View) → get_elem? views port ≡ some v → IsWhole v → Settles v items
whole_sees items views h port v at whole =
    let mine = h.fits port v at in
    let lead = mine.leads whole.live whole.seat in
    let is : tags_of h.log ++ (h.left ++ items) ≡ tags_of h.log ++ (v.left ++ items) = ap (λ (l : List Tag). tags_of h.log ++ (l ++ items)) (sym lead.2) in
    record {
      log = h.log;
      from = subst (λ (x : ℕ × List Tag). All (λ (t : Tag). t.from < x.0) x.1) (λ i. (sym lead.0 i, is i)) h.from;
      by = subst (λ (x : ℕ). All (λ (t : Taking). t.by < x) h.log) (sym lead.0) h.by;
      put = mine.put whole.live ∙ (ap (λ s. put_by s (tags_of h.log ++ (h.left ++ items))) whole.seat ∙ ap (put_by 0) is);
      taken = mine.taken whole.live ∙ ap (λ s. taken_by s h.log) whole.seat;
      hands = λ k x e. let hand = h.hands k x (sym (ap (λ l. get_elem? l k) lead.1) ∙ e) in record { put = hand.put ∙ ap (put_by (k + 1)) is; taken = hand.taken };
    }

pub settles : {J : Type 0} (number : J → ℕ) (port : ℕ) (v : View) → IsWhole v → Learns (HoldsOf number) port v (SettlesOf number v)
settles {J} number port v whole items views h at = whole_sees (map (tag_of number) items) views h port v at whole

-- what was put and not taken is left over, or in the queue
pub counts : (v : View) (items : List Tag) → IsWhole v → Settles v items → puts_of v ≡ takes_of v + length v.left + length items
counts v items whole s =
    let all : List Tag = tags_of s.log ++ (v.left ++ items) in
    let puts_all : puts_of v ≡ length all = total (λ (h : Hand). length h.put) (λ (t : Tag). t.from) all (length v.put) v.closed v.made (ap (λ (l : List ℕ). length l) s.put ∙ put_by-length 0 all)
    (λ j h at. ap (λ (l : List ℕ). length l) (s.hands j h at).put ∙ put_by-length (j + 1) all) whole.made s.from in
    let takes_all : takes_of v ≡ length s.log = total (λ (h : Hand). length h.taken) (λ (x : Taking). x.by) s.log (length v.taken) v.closed v.made (ap (λ (l : List Tag). length l) s.taken ∙ taken_by-length 0 s.log)
    (λ j h at. ap (λ (l : List Tag). length l) (s.hands j h at).taken ∙ taken_by-length (j + 1) s.log) whole.made s.by in
    let a = length-append (tags_of s.log) (v.left ++ items) in
    let b = length-append v.left items in
    let c = length-map s.log (λ (x : Taking). x.tag) in omega (arith, puts_all, takes_all, a, b, c)

-- the first takes what is left, once all others have ended in it
pub leaves : {J : Type 0} (number : J → ℕ) (port : ℕ) (v : View) → IsWhole v → Pops (HoldsOf number) port v (LeftBy number v)
leaves {J} number port v whole x items views h at =
    let t = tag_of number x in
    let w : View = with_left v (t ∷ []) in
    let ts = map (tag_of number) items in
    let mine = h.fits port v at in
    let lead = mine.leads whole.live whole.seat in
    let left : List Tag = h.left ++ t ∷ [] in
    let is : tags_of h.log ++ (left ++ ts) ≡ tags_of h.log ++ (h.left ++ t ∷ ts) = ap (λ (l : List Tag). tags_of h.log ++ l) (append_assoc h.left (t ∷ []) ts) in
    let all : List Tag = tags_of h.log ++ (h.left ++ t ∷ ts) in
    let F : ℕ → View → Type 0 = Fits h.owner h.made h.closed left h.log all in
    let here : F port w = record {
      owned = mine.owned;
      below = mine.below;
      put = mine.put;
      taken = mine.taken;
      leads = λ a s. (lead.0, lead.1, ap (λ (l : List Tag). l ++ t ∷ []) lead.2);
    } in
    let others : (j : ℕ) (u : View) → j ≢ port → get_elem? views j ≡ some u → F j u = λ j u n e. let theirs = h.fits j u e in record {
      owned = theirs.owned;
      below = theirs.below;
      put = theirs.put;
      taken = theirs.taken;
      leads = λ a s. absurd (apart h.owner v.seat u.seat port j (mine.owned whole.live) (theirs.owned a) n (whole.seat ∙ sym s));
    } in
    let s = whole_sees (t ∷ ts) views h port v at whole in
    let count = counts v (t ∷ ts) whole s in (
      w,
      record {
        log = h.log;
        left = left;
        closed = h.closed;
        made = h.made;
        owner = h.owner;
        from = rw is h.from;
        by = h.by;
        hands = λ k y e. rw is (h.hands k y e);
        dead = h.dead;
        ending = λ _. sym lead.0 ∙ (whole.made ∙ ap (λ (l : List Hand). length l + 1) lead.1);
        fits = rw is (every_set F views port w here others);
      },
      record { tag = t; numbered = refl; left = refl; more = omega (arith, count) },
    )
