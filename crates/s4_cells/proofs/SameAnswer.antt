-- What a wide request is answered depends on no record.
use Rattle.std.proofs.Common.{◌≡◌, ℕ, true, List, [], refl, ap, ◌∙◌}
use Rattle.std.specs.Prelude.{slice_index_or}
use Rattle.s4_types.specs.declared.principal.Caller.{Caller}
use Rattle.s4_types.specs.declared.record.Record.{Record}
use Rattle.s4_types.specs.declared.reply.Reply.{Reply}
use Rattle.s4_types.specs.declared.request.Request.{Request}
use Rattle.s4_types.specs.declared.request.Request.TheVariants.{Flush, SetWindow}
use Rattle.s4_types.specs.Base.{Base, opened}
use Rattle.s4_types.specs.Kinds.{is_wide}
use Rattle.s4_types.specs.Answer.{answer}
use Rattle.s4_types.specs.Play.{record_of}
use Rattle.s4_types.specs.Log.{Log, base_of}
use Rattle.s4_cells.specs.Many.{Each, wide_record}

pub same_answer : (base other : Base) (h g : List Record) (t u : ℕ) (caller : Caller) (request : Request) → is_wide caller request ≡ true → answer base h t caller request ≡ answer other g u caller request
same_answer base other h g t u caller (Flush from to) e = refl
same_answer base other h g t u caller (SetWindow ticks) e = refl
same_answer base other h g t u caller _ e = cc

pub same_record : (base : Base) (h : List Record) (t : ℕ) (caller : Caller) (request : Request) → is_wide caller request ≡ true → record_of base h t caller request ≡ wide_record t caller request
same_record base h t caller request e =
    ap (λ (reply : Reply). record { moment = t; caller = caller; request = request; reply = reply }) (same_answer base (opened 0) h [] t t caller request e)

-- so the reply is the answer of each cell
pub answer_of_each : (cells : List Log) (t : ℕ) (caller : Caller) (request : Request) (reply : Reply) → is_wide caller request ≡ true → reply ≡ answer (opened 0) [] t caller request
    → Each (λ c. reply ≡ answer (base_of c) c.history t caller request) cells
answer_of_each cells t caller request reply wide is k none within =
    let c : Log = slice_index_or cells k none in
    is ∙ same_answer (opened 0) (base_of c) [] c.history t t caller request wide
