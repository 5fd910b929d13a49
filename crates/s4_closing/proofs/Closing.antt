-- From one log of all calls to what a closing says.
use Rattle.std.proofs.Common.{◌≡◌, ℕ, ◌<◌, List, [], ◌∷◌, length, filter, sym, ap, subst, ◌∙◌, arith}
use Rattle.std.specs.Prelude.{slice_index_or}
use Rattle.s4_types.specs.declared.record.Record.{Record}
use Rattle.s4_types.specs.Audit.{is_wide_record}
use Rattle.s4_types.specs.Base.{opened}
use Rattle.s4_types.specs.Play.{replies, InOrder}
use Rattle.s4_types.specs.Log.{Log}
use Rattle.s4_cuts.specs.Cut.{since}
use Rattle.s4_merge_laws.specs.Cells.{records_in, IsPlain}
use Rattle.s4_calls.specs.Logs.{items_of}
use Rattle.s4_call_laws.specs.Left.{AreLeftOf}
use Rattle.s4_call_laws.proofs.Joined.{have-order, have-records, one-log, together}
use Rattle.s4_passes.specs.Calls.{CallList}
use Rattle.s4_closing.specs.Merged.{AllStartAlike, AreHome, AreWhole, HaveCome, HaveSameWides, IsMergeOf, no_state}
use Rattle.s4_closing.specs.Closing.{AreLogged, IsClosing, cut_of}

-- each cell was cut at the moment of all
cut_is : (cells : List Log) → 0 < length cells → AllStartAlike cells → (k : ℕ) (none : Log) → k < length cells → (slice_index_or cells k none).cut ≡ cut_of cells
cut_is [] some alike k none lt = absurd (omega (arith, some))
cut_is (cell ∷ cells) some alike k none lt = (alike k none lt).cut

module _ (cells : List Log) (passes : List CallList) (logged : AreLogged cells passes) where
  -- what is left of a cell is what the cut leaves of the log
  left_is : (k : ℕ) (none : Log) → k < length cells → since (slice_index_or cells k none).cut (slice_index_or cells k none).history ≡ since (slice_index_or cells k none).cut (records_in (length cells) k (items_of logged.log))
  left_is k none lt = ap (since (slice_index_or cells k none).cut) (logged.ever k none lt)

  -- the records that are left are at home
  pub are_home : AreHome cells
  are_home k none lt =
      let cut = (slice_index_or cells k none).cut in
      ap (records_in (length cells) k) (left_is k none lt)
      ∙ ((together (length cells) cut (items_of logged.log)).home k ∙ sym (left_is k none lt))

  -- and the cells have the same wide ones
  pub have_same_wides : 0 < length cells → AllStartAlike cells → HaveSameWides cells
  have_same_wides some alike k none lt =
      let cut = (slice_index_or cells k none).cut in
      let first = (slice_index_or cells 0 none).cut in
      let same : cut ≡ first = (alike k none lt).cut in
      ap (filter is_wide_record) (left_is k none lt)
      ∙ ((together (length cells) cut (items_of logged.log)).wides k
      ∙ (ap (λ (c : ℕ). filter is_wide_record (since c (records_in (length cells) 0 (items_of logged.log)))) same
      ∙ sym (ap (filter is_wide_record) (left_is 0 none some))))

  module _ (window : ℕ) (left : List Record) (some : 0 < length cells) (whole : AreWhole window cells) (came : HaveCome cells) (merge : IsMergeOf (length cells) left cells) where
    are_left : AreLeftOf window (length cells) (cut_of cells) (items_of logged.log) left
    are_left = record {
      plain = λ k lt. subst (λ (w : ℕ). IsPlain (opened w) (records_in (length cells) k (items_of logged.log))) (whole.windows k no_state lt)
          (subst (IsPlain (opened (slice_index_or cells k no_state).opened)) (logged.ever k no_state lt) (came k no_state lt).played);
      rises = λ k lt. subst (InOrder 0) (logged.ever k no_state lt) (came k no_state lt).rises;
      merge = λ k lt.
          merge k no_state lt
          ∙ (left_is k no_state lt
          ∙ ap (λ (c : ℕ). since c (records_in (length cells) k (items_of logged.log))) (cut_is cells some whole.starts k no_state lt));
    }

    pub closing : InOrder 0 left → IsClosing window cells passes left
    closing rises =
        let one = one-log window (length cells) (cut_of cells) (items_of logged.log) left some are_left in
        record {
          logged = logged;
          merge = merge;
          cells_are = λ k none lt. one.cells k lt ∙ sym (logged.ever k none lt);
          rises = one.rises rises;
          plain = one.plain;
          isolated = λ who other. sym (ap replies (one.isolated who other));
          stands = have-records window (length cells) (cut_of cells) logged.log left some logged.placed are_left;
          in_order = λ p pass at. have-order window (length cells) (cut_of cells) logged.log left some logged.placed are_left pass.ever (logged.order p pass at);
        }
