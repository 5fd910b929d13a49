-- Known bytes that are read and written, one after another.
use Rattle.std.proofs.Common.{◌≡◌, ℕ, ◌+◌, Option, Some, None, List, [], ◌∷◌, ◌++◌, length, take, sym, ap, ◌∙◌, append_assoc, refl, subst}
use Rattle.std.proofs.lemmas.List.{append-nil}
use Rattle.std.proofs.Math.Seq.{take-append-add, take-length}
use Rattle.std.specs.Io.KnownBytes.{Appends, Consumes, IsAtEnd, Keeps, prepend_known}
use Rattle.s4_client.specs.Calls.{Begins}

-- equals under a function of two
pub ap_both : {A B C : Type 0} (f : A → B → C) (a b : A) (x y : B) → a ≡ b → x ≡ y → f a x ≡ f b y
ap_both f a b x y first second = ap (λ (v : _). f v x) first ∙ ap (λ (v : _). f b v) second

pub consumes_none : (a : Option (List ℕ)) → Consumes a (prepend_known [] a) []
consumes_none None = tt
consumes_none (Some l) = refl

pub consumes_same : (a : Option (List ℕ)) → Consumes a a []
consumes_same None = tt
consumes_same (Some l) = refl

pub consumes_both : (a b c : Option (List ℕ)) (xs ys : List ℕ) → Consumes a b xs → Consumes b c ys → Consumes a c (xs ++ ys)
consumes_both None b c xs ys first second = tt
consumes_both (Some l) None c xs ys first second = absurd first
consumes_both (Some l) (Some m) None xs ys first second = absurd second
consumes_both (Some l) (Some m) (Some n) xs ys first second = first ∙ (ap (λ (w : List ℕ). xs ++ w) second ∙ sym (append_assoc xs ys n))

-- what is read up to the end is all
pub consumes_all : (a b : Option (List ℕ)) (xs : List ℕ) → Consumes a b xs → IsAtEnd b → Consumes a (Some []) xs
consumes_all None b xs taken end = tt
consumes_all (Some l) None xs taken end = absurd taken
consumes_all (Some l) (Some m) xs taken end = taken ∙ ap (λ (w : List ℕ). xs ++ w) end

pub appends_none : (a : Option (List ℕ)) → Appends a a []
appends_none None = tt
appends_none (Some l) = sym (append-nil l)

pub appends_both : (a b c : Option (List ℕ)) (xs ys : List ℕ) → Appends a b xs → Appends b c ys → Appends a c (xs ++ ys)
appends_both None b c xs ys first second = tt
appends_both (Some l) None c xs ys first second = absurd first
appends_both (Some l) (Some m) None xs ys first second = absurd second
appends_both (Some l) (Some m) (Some n) xs ys first second = second ∙ (ap (λ (z : List ℕ). z ++ ys) first ∙ append_assoc l xs ys)

pub appends_kept : (a b c : Option (List ℕ)) (xs : List ℕ) → Appends a b xs → Keeps b c → Appends a c xs
appends_kept None b c xs grown kept = tt
appends_kept (Some l) None c xs grown kept = absurd grown
appends_kept (Some l) (Some m) None xs grown kept = absurd kept
appends_kept (Some l) (Some m) (Some n) xs grown kept = kept ∙ grown

-- all is a beginning of it
pub begins_all : (a b : Option (List ℕ)) (xs : List ℕ) → Appends a b xs → Begins a b xs
begins_all a b xs grown = (length xs, subst (λ (w : List ℕ). Appends a b w) (sym (take-length xs)) grown)

-- all of some bytes, and then a beginning of others
pub begins_more : (a b c : Option (List ℕ)) (xs ys : List ℕ) → Appends a b xs → Begins b c ys → Begins a c (xs ++ ys)
begins_more a b c xs ys first second =
    (length xs + second.0, subst (λ (w : List ℕ). Appends a c w) (sym (take-append-add xs ys second.0)) (appends_both a b c xs (take second.0 ys) first second.1))

pub keeps_same : (a : Option (List ℕ)) → Keeps a a
keeps_same None = tt
keeps_same (Some l) = refl

pub keeps_both : (a b c : Option (List ℕ)) → Keeps a b → Keeps b c → Keeps a c
keeps_both None b c first second = tt
keeps_both (Some l) None c first second = absurd first
keeps_both (Some l) (Some m) None first second = absurd second
keeps_both (Some l) (Some m) (Some n) first second = second ∙ first

pub keeps_consumes : (a b c : Option (List ℕ)) (xs : List ℕ) → Keeps a b → Consumes b c xs → Consumes a c xs
keeps_consumes None b c xs kept taken = tt
keeps_consumes (Some l) None c xs kept taken = absurd kept
keeps_consumes (Some l) (Some m) None xs kept taken = absurd taken
keeps_consumes (Some l) (Some m) (Some n) xs kept taken = sym kept ∙ taken

pub keeps_end : (a b : Option (List ℕ)) → Keeps a b → IsAtEnd b → IsAtEnd a
keeps_end None b kept end = tt
keeps_end (Some l) None kept end = absurd kept
keeps_end (Some l) (Some m) kept end = sym kept ∙ end

-- HELD BYTES

-- bytes that are read are held
pub held_read : (held more : List ℕ) (a b : Option (List ℕ)) → Consumes a b more → Keeps (prepend_known held a) (prepend_known (held ++ more) b)
held_read held more None b taken = tt
held_read held more (Some l) None taken = absurd taken
held_read held more (Some l) (Some m) taken = append_assoc held more m ∙ ap (λ (w : List ℕ). held ++ w) (sym taken)

pub held_kept : (held : List ℕ) (a b : Option (List ℕ)) → Keeps a b → Keeps (prepend_known held a) (prepend_known held b)
held_kept held None b kept = tt
held_kept held (Some l) None kept = absurd kept
held_kept held (Some l) (Some m) kept = ap (λ (w : List ℕ). held ++ w) kept

-- what stands at the front of what is held is taken
pub held_taken : (front rest : List ℕ) (a : Option (List ℕ)) → Consumes (prepend_known (front ++ rest) a) (prepend_known rest a) front
held_taken front rest None = tt
held_taken front rest (Some l) = append_assoc front rest l

pub held_end : (held : List ℕ) (a : Option (List ℕ)) → held ≡ [] → IsAtEnd a → IsAtEnd (prepend_known held a)
held_end held None empty end = tt
held_end held (Some l) empty end = ap (λ (w : List ℕ). w ++ l) empty ∙ end
