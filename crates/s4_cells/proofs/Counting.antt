-- The count of a cell with one record more.
use Rattle.std.proofs.Common.{◌≡◌, ◌+◌, List, [], ◌∷◌, length, ◌∙◌, ap, get_or, arith}
use Rattle.std.proofs.lemmas.List.{length-append}
use Rattle.s4_types.specs.declared.record.Record.{Record}
use Rattle.s4_types.specs.Log.{Log, with_record}
use Rattle.s4_cells.specs.Counts.{count_of}
use Rattle.s4_cells.specs.Many.{AllAdd, AllStay, EachNow}

pub count_more : (log : Log) (r : Record) → count_of (with_record log r) ≡ count_of log + 1
count_more log r = omega (arith, length-append log.history (r ∷ []))

-- the cells were made ready before, and each has the record more
pub counts_more : (r : Record) (old ready new : List Log) → AllStay old ready → AllAdd r ready new → EachNow (λ a b. count_of b ≡ count_of a + 1) old new
counts_more r old ready new stay all = record {
  count = all.count ∙ stay.count;
  each = λ k none lt.
      let more = ap count_of (all.each k none (omega (arith, lt, stay.count))) ∙ count_more (get_or ready k none) r in
      let history = ap (λ (h : List Record). length h) (stay.each k none).history in
      omega (arith, more, history);
}
