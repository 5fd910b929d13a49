-- No line has more than nine words.
use Rattle.std.proofs.Common.{◌≡◌, ℕ, ◌^◌, Bool, true, false, List, [], ◌∷◌, take, Option, Some, None, Result, Ok, Err, refl, sym, ap, ◌∙◌}
use Rattle.std.specs.Prelude.{codes, if◌then◌else◌}
use Rattle.std.specs.Result.{IsErrAnd}
use Rattle.std.specs.Str.{bytes_eq, is_utf8}
use Rattle.s4_types.specs.declared.principal.WireVersion.{WireVersion}
use Rattle.s4_types.specs.declared.request.Request.{Request}
use Rattle.s4_script.specs.Readings.{◌>>=◌, arrival_in, opening_in, window_in, after_in, at_in, caller_in, in_text, line_in, name_in, number_below, number_in, object_in, place_in, principal_in, purse_in, request_in, user_in, words_in, Gives}
use Rattle.s4_script.specs.declared.error.ParseError.{ParseError}
use Rattle.s4_script.specs.declared.error.ParseError.TheVariants as parse_error

abbrev nothing : (A : Type 0) → Option A
nothing A = None

none_of_one : {A B : Type 0} (a : Option A) → (a >>= λ x. nothing B) ≡ None
none_of_one None = refl
none_of_one (Some x) = refl

none_of_two : {A B C : Type 0} (a : Option A) (b : Option B) → (a >>= λ x. b >>= λ y. nothing C) ≡ None
none_of_two None b = refl
none_of_two (Some x) b = none_of_one b

none_of_three : {A B C D : Type 0} (a : Option A) (b : Option B) (c : Option C) → (a >>= λ x. b >>= λ y. c >>= λ z. nothing D) ≡ None
none_of_three None b c = refl
none_of_three (Some x) b c = none_of_two b c

neither : (b : Bool) (x y : Option Request) → x ≡ None → y ≡ None → (if b then x else y) ≡ None
neither true x y none other = none
neither false x y none other = other

place_of_many : (range : ℕ) (a b c d e f : List ℕ) (words : List (List ℕ)) → place_in range (a ∷ b ∷ c ∷ d ∷ e ∷ f ∷ words) ≡ None
unfolding at_in
place_of_many range a b c d e f words = neither (bytes_eq a (codes "after")) _ None (none_of_one (after_in b c)) refl

plist_of_many : (a b c d e f g : List ℕ) (words : List (List ℕ)) (range : Option ℕ) → (range >>= λ who. place_in who (b ∷ c ∷ d ∷ e ∷ f ∷ g ∷ words)) ≡ None
plist_of_many a b c d e f g words None = refl
plist_of_many a b c d e f g words (Some who) = place_of_many who b c d e f g words

-- no request has more words than six behind its verb
request_of_many : (verb a b c d e f g : List ℕ) (words : List (List ℕ)) → request_in verb (a ∷ b ∷ c ∷ d ∷ e ∷ f ∷ g ∷ words) ≡ None
unfolding request_in at_in
request_of_many verb a b c d e f g words =
    neither (bytes_eq verb (codes "create")) _ _ refl
    (neither (bytes_eq verb (codes "delete")) _ _ refl
    (neither (bytes_eq verb (codes "read")) _ _ (none_of_three (object_in a) (number_below (2 ^ 32) b) (number_below (2 ^ 32) c))
    (neither (bytes_eq verb (codes "write")) _ _ refl
    (neither (bytes_eq verb (codes "append")) _ _ refl
    (neither (bytes_eq verb (codes "truncate")) _ _ refl
    (neither (bytes_eq verb (codes "getattr")) _ _ (none_of_one (object_in a))
    (neither (bytes_eq verb (codes "setattr")) _ _ refl
    (neither (bytes_eq verb (codes "acl-user")) _ _ (none_of_two (object_in a) (user_in b))
    (neither (bytes_eq verb (codes "acl-index")) _ _ (none_of_two (object_in a) (number_below (2 ^ 8) b))
    (neither (bytes_eq verb (codes "setacl")) _ _ refl
    (neither (bytes_eq verb (codes "pcreate")) _ _ refl
    (neither (bytes_eq verb (codes "pdelete")) _ _ refl
    (neither (bytes_eq verb (codes "plist")) _ _ (plist_of_many a b c d e f g words (principal_in a))
    (neither (bytes_eq verb (codes "pmount")) _ _ (none_of_two (purse_in a) (name_in b))
    (neither (bytes_eq verb (codes "flush")) _ _ refl
    (neither (bytes_eq verb (codes "flusho")) _ _ refl
    (neither (bytes_eq verb (codes "setwindow")) _ _ refl
    (neither (bytes_eq verb (codes "setbudget")) _ _ refl
    (neither (bytes_eq verb (codes "audit")) _ _ refl refl)))))))))))))))))))

step_of_many : (version : WireVersion) (moment who verb a b c d e f g : List ℕ) (words : List (List ℕ)) → line_in version (moment ∷ who ∷ verb ∷ a ∷ b ∷ c ∷ d ∷ e ∷ f ∷ g ∷ words) ≡ None
step_of_many version moment who verb a b c d e f g words =
    rw (request_of_many verb a b c d e f g words) (none_of_two (number_in moment) (caller_in version who))

-- the first ten words tell what all of them ask for
pub first_ten_tell : (version : WireVersion) (words : List (List ℕ)) → line_in version (take 10 words) ≡ line_in version words
first_ten_tell version (moment ∷ who ∷ verb ∷ a ∷ b ∷ c ∷ d ∷ e ∷ f ∷ g ∷ words) =
    step_of_many version moment who verb a b c d e f g [] ∙ sym (step_of_many version moment who verb a b c d e f g words)
first_ten_tell version words = refl

pub first_ten_open : (words : List (List ℕ)) → opening_in (take 10 words) ≡ opening_in words
first_ten_open (word ∷ ticks ∷ wire ∷ number ∷ more ∷ words) = refl
first_ten_open words = refl

pub first_ten_window : (words : List (List ℕ)) → window_in (take 10 words) ≡ window_in words
first_ten_window (word ∷ ticks ∷ more ∷ words) = refl
first_ten_window words = refl

pub first_ten_arrive : (words : List (List ℕ)) → arrival_in (take 10 words) ≡ arrival_in words
first_ten_arrive (moment ∷ connection ∷ piece ∷ more ∷ words) = refl
first_ten_arrive words = refl

-- the first ten words tell what the text does
pub of_text : {X : Type 0} (reading : List (List ℕ) → Option X) → ((words : List (List ℕ)) → reading (take 10 words) ≡ reading words)
    → (line : List ℕ) (words : List (List ℕ)) → is_utf8 line ≡ true → words ≡ take 10 (words_in line) → reading words ≡ in_text reading line
unfolding in_text
of_text reading few line words text are = rw text (ap reading are ∙ few (words_in line))

-- what isn't text tells nothing
of_no_text : {X : Type 0} (reading : List (List ℕ) → Option X) (line : List ℕ) → is_utf8 line ≡ false → in_text reading line ≡ None
unfolding in_text
of_no_text reading line other = rw other refl

-- that a line can't be cut into words is told as it is
pub of_bad_text : {X : Type 0} (reading : List (List ℕ) → Option X) (line : List ℕ) (why : ParseError) (told : Result X ParseError)
    → IsErrAnd told (λ e. e ≡ why) → (why ≡ parse_error.Bad → is_utf8 line ≡ false) → Gives told (in_text reading line)
of_bad_text reading line why (Ok x) is bad = absurd is
of_bad_text reading line why (Err parse_error.Bad) is bad = of_no_text reading line (bad (sym is))
of_bad_text reading line why (Err parse_error.NoMemory) is bad = tt
