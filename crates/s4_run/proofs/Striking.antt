-- One line more of a script, and of what is written of it.
use Rattle.std.proofs.Common.{◌≡◌, ℕ, List, [], ◌∷◌, ◌++◌, Option, sym, ap, subst, ◌∙◌, append_assoc, append-nil}
use Rattle.std.specs.Io.KnownBytes.{Appends}
use Rattle.std.proofs.KnownBytes.{Appends-trans}
use Rattle.s4_run.specs.declared.strike.AskingLine.{AskingLine}
use Rattle.s4_run.specs.Struck.{line_text, lines_text}

lines_text-snoc : (kept : List AskingLine) (asking : AskingLine) → lines_text (kept ++ asking ∷ []) ≡ lines_text kept ++ line_text asking.line.now
lines_text-snoc [] asking = append-nil (line_text asking.line.now)
lines_text-snoc (x ∷ kept) asking =
    ap (λ text. line_text x.line.now ++ text) (lines_text-snoc kept asking)
    ∙ sym (append_assoc (line_text x.line.now) (lines_text kept) (line_text asking.line.now))

module _ (old mid new : Option (List ℕ)) (front : List ℕ) (kept all : List AskingLine) where
  -- a line that stays is written behind those before it
  pub line_written : (asking : AskingLine) → all ≡ kept ++ asking ∷ [] → Appends old mid (front ++ lines_text kept) → Appends mid new (line_text asking.line.now) → Appends old new (front ++ lines_text all)
  line_written asking is before more =
      subst (Appends old new) (append_assoc front (lines_text kept) (line_text asking.line.now) ∙ ap (λ text. front ++ text) (sym (lines_text-snoc kept asking) ∙ ap lines_text (sym is)))
      (Appends-trans old mid new _ _ before more)

  -- of a line that goes nothing is written
  pub line_passed : all ≡ kept → Appends old mid (front ++ lines_text kept) → Appends old mid (front ++ lines_text all)
  line_passed is before = subst (λ xs. Appends old mid (front ++ lines_text xs)) (sym is) before
