use Rattle.std.proofs.Common.{◌≡◌, ◌+◌, ◌<◌, ℕ, ◌++◌, ◌∷◌, [], Bool, cond, length, get_or, List, take, filter, sym, ◌∙◌, ap, subst}
use Rattle.std.proofs.lemmas.List.{append-nil, take_more}
use Rattle.std.proofs.lemmas.List.Elements.{filter-append}
use Rattle.s4_types.specs.Strike.{is_near, stays}
use Rattle.s4_run.specs.declared.strike.AskingLine.{AskingLine}
use Rattle.s4_run.specs.Struck.{line_text, steps_of}
use Rattle.s4_run.proofs.Striking.{line_written, line_passed}
use Rattle.s4_run.proofs.strike.Script.write_struck.Goals as goal
use Rattle.s4_run.proofs.strike.Script.write_struck.Goals.{then-keeps+in_ok-write_line-2, else-keeps}

-- one line more is written where it stays
pub loop-request-preserved : goal.loop-request-preserved
loop-request-preserved g c =
    let who : ℕ = c.args.self.now.who in
    let items : List AskingLine = c.args.self.now.requests.items in
    let i : ℕ = c.loop-request.request-index in
    let asking : AskingLine = c.request-item.result in
    let test : AskingLine → Bool = λ a. stays who (is_near who (steps_of items)) a.step in
    let same : c.deref-request-items.result.now ≡ items = c.deref-request-items.ensures.value in
    let within : i < length items = subst (λ (xs : List AskingLine). i < length xs) same c.loop-request-test.true in
    let is : asking ≡ get_or items i asking = subst (λ (xs : List AskingLine). asking ≡ get_or xs i asking) same c.request-item.is in
    let front : take (i + 1) items ≡ take i items ++ asking ∷ [] = take_more items i asking within ∙ ap (λ (a : AskingLine). take i items ++ a ∷ []) (sym is) in
    let kept : List AskingLine = filter test (take i items) in
    let told : c.keeps.result ≡ test asking = c.keeps.ensures who (steps_of items) c.args.self.now.near_is in
    let after : filter test (take (i + 1) items) ≡ kept ++ cond c.keeps.result (asking ∷ []) []
    = ap (filter test) front ∙ filter-append test (take i items) (asking ∷ []) ∙ ap (λ b. kept ++ cond b (asking ∷ []) []) (sym told) in
    elim c.if-keeps.branch [
      | then-keeps+in_ok-write_line-2 w ↦
          rw w.writer-is
          (line_written _ _ _ (line_text c.args.self.now.window.now) kept _ asking
          (after ∙ ap (λ b. kept ++ cond b (asking ∷ []) []) w.if-keeps.true)
          c.loop-request.invariant w.in_ok-write_line-2.ensures.written)
      | else-keeps w ↦
          rw w.writer-is
          (line_passed _ _ (g.W.Write.contents c.loop-request.writer) (line_text c.args.self.now.window.now) kept _
          (after ∙ ap (λ b. kept ++ cond b (asking ∷ []) []) w.if-keeps.false ∙ append-nil kept)
          c.loop-request.invariant)
    ]
