-- Replies to callers of several versions are told by their bytes.
use Rattle.std.proofs.Common.{◌≡◌, ℕ, ◌&&◌, Bool, true, List, [], ◌∷◌, ◌++◌, length, refl, sym, ap, ◌∙◌}
use Rattle.s4_types.specs.declared.reply.Reply.{Reply}
use Rattle.s4_types.specs.declared.principal.WireVersion.{WireVersion}
use Rattle.s4_codec.specs.Versions.{frame_limit}
use Rattle.s4_codec.specs.Frames.{framed, front_of, Whole}
use Rattle.s4_codec.specs.Replies.{reply, reply_in, has_body}
use Rattle.s4_codec.specs.Fits.{fit, frames}
use Rattle.s4_codec.proofs.Lawful.{both_true, some_is}
use Rattle.s4_codec.proofs.Short.{body_read, body_framed}

and_assoc : (a b c : Bool) → (a && (b && c)) ≡ ((a && b) && c)
and_assoc true b c = refl
and_assoc _ b c = refl

pub fit-append : (ws vs : List WireVersion) (xs ys : List Reply) → length xs ≡ length ws → fit (ws ++ vs) (xs ++ ys) ≡ (fit ws xs && fit vs ys)
fit-append [] vs [] ys e = refl
fit-append [] vs (x ∷ xs) ys e = absurd cc
fit-append (w ∷ ws) vs [] ys e = absurd cc
fit-append (w ∷ ws) vs (x ∷ xs) ys e =
    ap (λ (b : Bool). has_body w x && b) (fit-append ws vs xs ys cc) ∙ and_assoc (has_body w x) (fit ws xs) (fit vs ys)

whole_is : (a b c d : List ℕ) → Whole a b ≡ Whole c d → (a ≡ c) × (b ≡ d)
whole_is a b c d e = (cc, cc)

-- two replies of one version whose frames begin the same bytes
pub same_frame : (w : WireVersion) (x y : Reply) (p q : List ℕ) → has_body w x ≡ true → has_body w y ≡ true → framed ((reply w).spell x) ++ p ≡ framed ((reply w).spell y) ++ q → (x ≡ y) × (p ≡ q)
same_frame w x y p q f g e =
    let same = whole_is ((reply w).spell x) p ((reply w).spell y) q (sym (body_framed w x p f) ∙ ap (front_of (frame_limit w)) e ∙ body_framed w y q g) in
    (some_is x y (sym (body_read w x f) ∙ ap (reply_in w) same.0 ∙ body_read w y g), same.1)

pub determined : (ws : List WireVersion) (xs ys : List Reply) → length xs ≡ length ws → length ys ≡ length ws → fit ws xs ≡ true → fit ws ys ≡ true → frames ws xs ≡ frames ws ys → xs ≡ ys
determined [] [] [] m n f g e = refl
determined [] (x ∷ xs) ys m n f g e = absurd cc
determined [] [] (y ∷ ys) m n f g e = absurd cc
determined (w ∷ ws) [] ys m n f g e = absurd cc
determined (w ∷ ws) (x ∷ xs) [] m n f g e = absurd cc
determined (w ∷ ws) (x ∷ xs) (y ∷ ys) m n f g e =
    let fx = both_true (has_body w x) (fit ws xs) f in
    let fy = both_true (has_body w y) (fit ws ys) g in
    let first = same_frame w x y (frames ws xs) (frames ws ys) fx.0 fy.0 e in
    let one : length xs ≡ length ws = cc in
    let two : length ys ≡ length ws = cc in
    let others : xs ≡ ys = determined ws xs ys one two fx.1 fy.1 first.1 in
    ap (λ (z : Reply). z ∷ xs) first.0 ∙ ap (λ (zs : List Reply). y ∷ zs) others
