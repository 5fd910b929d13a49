-- A list that has the plain logs of its cells is a plain log.
use Rattle.std.proofs.Common.{◌≡◌, ℕ, ◌<◌, ◌%◌, Bool, true, false, cond, List, [], ◌∷◌, ◌++◌, refl, sym, ap, ◌∙◌, append_assoc, append-nil, mod-lt}
use Rattle.std.proofs.lemmas.List.Elements.{filter-append}
use Rattle.s4_types.specs.declared.record.Record.{Record}
use Rattle.s4_types.specs.Base.{Base}
use Rattle.s4_types.specs.Answer.{answer}
use Rattle.s4_types.specs.Outcome.{reply_of}
use Rattle.s4_types.specs.Kinds.{range_of}
use Rattle.s4_types.specs.Play.{record_of, play_on}
use Rattle.s4_merge_laws.specs.Cells.{is_in_cell, records_in, requests_in, IsPlain}
use Rattle.s4_merge_laws.proofs.OfCell.{own-in, outcome-here}

-- each record behind h has the answer of what came before it
abbrev pub Legal : Base → List Record → List Record → Type 0
Legal base h [] = Unit {0}
Legal base h (r ∷ rest) = (r.reply ≡ answer base h r.moment r.caller r.request) × Legal base (h ++ r ∷ []) rest

-- the record that the request of this one has behind h
abbrev again : Base → List Record → Record → Record
again base h r = record_of base h r.moment r.caller r.request

-- what is played behind h
abbrev played : Base → List Record → List Record → List Record
played base h [] = []
played base h (r ∷ rest) = again base h r ∷ played base (h ++ again base h r ∷ []) rest

play_on-played : (base : Base) (h rest : List Record) → play_on base h (requests_in rest) ≡ h ++ played base h rest
play_on-played base h [] = sym (append-nil h)
play_on-played base h (r ∷ rest) = play_on-played base (h ++ again base h r ∷ []) rest ∙ append_assoc h (again base h r ∷ []) (played base (h ++ again base h r ∷ []) rest)

abbrev head_or : Record → List Record → Record
head_or d [] = d
head_or d (r ∷ rest) = r

abbrev tail_of : List Record → List Record
tail_of [] = []
tail_of (r ∷ rest) = rest

legal-played : (base : Base) (h rest : List Record) → played base h rest ≡ rest → Legal base h rest
legal-played base h [] e = tt
legal-played base h (r ∷ rest) e =
    let first : again base h r ≡ r = ap (head_or r) e in
    let more : played base (h ++ again base h r ∷ []) rest ≡ rest = ap tail_of e in (
      sym (ap (λ (x : Record). x.reply) first),
      legal-played base (h ++ r ∷ []) rest (ap (λ (x : Record). played base (h ++ x ∷ []) rest) (sym first) ∙ more),
    )

played-legal : (base : Base) (h rest : List Record) → Legal base h rest → play_on base h (requests_in rest) ≡ h ++ rest
played-legal base h [] l = sym (append-nil h)
played-legal base h (r ∷ rest) l =
    let same : again base h r ≡ r = ap (λ y. record { moment = r.moment; caller = r.caller; request = r.request; reply = y }) (sym l.0) in
    ap (λ (x : Record). play_on base (h ++ x ∷ []) (requests_in rest)) same ∙ played-legal base (h ++ r ∷ []) rest l.1 ∙ append_assoc h (r ∷ []) rest

legal_next : (base : Base) (h rest : List Record) (r : Record) (b : Bool) → b ≡ true → Legal base h (cond b (r ∷ rest) rest) → (r.reply ≡ answer base h r.moment r.caller r.request) × Legal base (h ++ r ∷ []) rest
legal_next base h rest r true e l = l
legal_next base h rest r false e l = cc

legal_rest : (base : Base) (h rest : List Record) (r : Record) (b : Bool) → Legal base h (cond b (r ∷ rest) rest) → Legal base (h ++ cond b (r ∷ []) []) rest
legal_rest base h rest r true l = l.1
legal_rest base h rest r false l = rw (append-nil h) l

-- a list is legal if what it has of each cell is
merged-legal : (base : Base) (cells : ℕ) (h rest : List Record) → 0 < cells → ((cell : ℕ) → cell < cells → Legal base (records_in cells cell h) (records_in cells cell rest)) → Legal base h rest
merged-legal base cells h [] some each = tt
merged-legal base cells h (r ∷ rest) some each =
    let home : ℕ = range_of r.caller r.request % cells in
    let within : home < cells = mod-lt (range_of r.caller r.request) some in
    let mine = legal_next base (records_in cells home h) (records_in cells home rest) r (is_in_cell cells home r) (own-in cells home r refl) (each home within) in (
      mine.0 ∙ ap reply_of (outcome-here base cells home h r.moment r.caller r.request refl),
      merged-legal base cells (h ++ r ∷ []) rest some (λ cell lt. rw (filter-append (is_in_cell cells cell) h (r ∷ [])) (legal_rest base (records_in cells cell h) (records_in cells cell rest) r (is_in_cell cells cell r) (each cell lt))),
    )

pub merged-plain : (base : Base) (cells : ℕ) (all : List Record) → 0 < cells → ((cell : ℕ) → cell < cells → IsPlain base (records_in cells cell all)) → IsPlain base all
merged-plain base cells all some each =
    played-legal base [] all
    (merged-legal base cells [] all some
    (λ cell lt. legal-played base [] (records_in cells cell all) (sym (play_on-played base [] (records_in cells cell all)) ∙ each cell lt)))
