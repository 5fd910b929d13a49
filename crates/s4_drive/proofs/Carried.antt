-- Runs in which no request meets want of memory, and the records that steps add.
use Rattle.std.proofs.Common.{◌≡◌, suc, ◌≤◌, Bool, true, false, not, cond, eqb, ℕ, List, [], ◌∷◌, ◌++◌, length, refl, sym, ap, ◌∙◌, append_assoc, arith}
use Rattle.std.specs.Prelude.{if◌then◌else◌}
use Rattle.std.proofs.lemmas.List.{append-nil}
use Rattle.s4_types.specs.declared.record.Record.{Record}
use Rattle.s4_types.specs.declared.record.Step.{Step}
use Rattle.s4_types.specs.declared.record.Step.TheVariants as step
use Rattle.s4_types.specs.declared.reply.Reply.{Reply}
use Rattle.s4_types.specs.Base.{Base}
use Rattle.s4_types.specs.Play.{play_on, record_of, replies as replies_of, is_no_memory, request_count, carried_out, without_no_memory}
use Rattle.s4_types.specs.Strike.{records_of}
use Rattle.s4_types.proofs.Booleans.{by_test}
use Rattle.s4_drive.specs.Step.{replies_to}

-- ---- where no reply is NoMemory, all was carried out

tail_same : (x : Reply) (xs ys : List Reply) → x ∷ xs ≡ x ∷ ys → xs ≡ ys
tail_same x xs ys e = cc

few_by : (b : Bool) (x : Reply) (xs : List Reply) (n : ℕ) → length xs ≤ n → length (if not b then x ∷ xs else xs) ≤ suc n
few_by true x xs n le = omega arith
few_by false x xs n le = omega arith

kept_few : (xs : List Reply) → length (without_no_memory xs) ≤ length xs
kept_few [] = omega arith
kept_few (x ∷ xs) = few_by (is_no_memory x) x (without_no_memory xs) (length xs) (kept_few xs)

kept_all : (b : Bool) (x : Reply) (xs : List Reply) → b ≡ is_no_memory x → (if not b then x ∷ without_no_memory xs else without_no_memory xs) ≡ x ∷ xs → (b ≡ false) × (without_no_memory xs ≡ xs)
kept_all false x xs is e = (refl, tail_same x (without_no_memory xs) xs e)
kept_all true x xs is e =
    let short : length (without_no_memory xs) ≤ length xs = kept_few xs in
    let len : length (without_no_memory xs) ≡ suc (length xs) = ap length e in
    absurd (omega (arith, short, len))

pub all_carried : (xs : List Step) (told : List Reply) → length told ≡ request_count xs → without_no_memory told ≡ told → carried_out xs told ≡ xs
all_carried [] told e all = refl
all_carried (step.Sweep n ∷ xs) told e all = ap (λ (w : List Step). step.Sweep n ∷ w) (all_carried xs told e all)
all_carried (step.Request t caller r ∷ xs) [] e all = absurd (omega (arith, e))
all_carried (step.Request t caller r ∷ xs) (x ∷ told) e all =
    let parts = kept_all (is_no_memory x) x told refl all in
    ap (λ (b : Bool). cond b (carried_out xs told) (step.Request t caller r ∷ carried_out xs told)) parts.0
    ∙ ap (λ (w : List Step). step.Request t caller r ∷ w) (all_carried xs told (omega (arith, e)) parts.1)

-- ---- the records that steps add

abbrev pub records_after : Base → List Record → List Step → List Record
records_after base h [] = []
records_after base h (step.Sweep n ∷ xs) = records_after base h xs
records_after base h (step.Request t caller r ∷ xs) = record_of base h t caller r ∷ records_after base (h ++ record_of base h t caller r ∷ []) xs

pub play_is : (base : Base) (h : List Record) (xs : List Step) → play_on base h xs ≡ h ++ records_after base h xs
play_is base h [] = sym (append-nil h)
play_is base h (step.Sweep n ∷ xs) = play_is base h xs
play_is base h (step.Request t caller r ∷ xs) =
    let new : Record = record_of base h t caller r in
    play_is base (h ++ new ∷ []) xs ∙ append_assoc h (new ∷ []) (records_after base (h ++ new ∷ []) xs)

-- the replies to a principal are those of its records
pub replies_to_own : (base : Base) (who : ℕ) (h : List Record) (xs : List Step) → replies_to who xs (replies_of (records_after base h xs)) ≡ replies_of (records_of who (records_after base h xs))
replies_to_own base who h [] = refl
replies_to_own base who h (step.Sweep n ∷ xs) = replies_to_own base who h xs
replies_to_own base who h (step.Request t caller r ∷ xs) =
    let new : Record = record_of base h t caller r in
    let later : List Record = records_after base (h ++ new ∷ []) xs in
    let rest = replies_to_own base who (h ++ new ∷ []) xs in
    by_test (eqb caller.who who)
    (λ e. ap (λ (b : Bool). cond b (new.reply ∷ replies_to who xs (replies_of later)) (replies_to who xs (replies_of later))) e
    ∙ ap (λ (w : List Reply). new.reply ∷ w) rest
    ∙ ap (λ (b : Bool). replies_of (if b then new ∷ records_of who later else records_of who later)) (sym e))
    (λ e. ap (λ (b : Bool). cond b (new.reply ∷ replies_to who xs (replies_of later)) (replies_to who xs (replies_of later))) e
    ∙ rest
    ∙ ap (λ (b : Bool). replies_of (if b then new ∷ records_of who later else records_of who later)) (sym e))
