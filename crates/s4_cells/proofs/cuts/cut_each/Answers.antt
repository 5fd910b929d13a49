use Rattle.std.proofs.Common.{ℕ, ◌≡◌, ◌+◌, ◌-◌, ◌<◌, ◌≤◌, length, get_or, subst, sym, ◌∙◌, arith}
use Rattle.std.proofs.lemmas.List.{get_or_read}
use Rattle.s4_types.specs.Log.{Log}
use Rattle.s4_cells.specs.Many.{CutFrom, IsCutAlike}
use Rattle.s4_cells.proofs.CuttingAll.{cut_next}
use Rattle.s4_cells.proofs.cuts.cut_each.Goals as goal

pub loop-left-preserved : goal.loop-left-preserved
loop-left-preserved c =
    let at = c.args.moment in
    let old = c.args.cells.now in
    let mid = c.loop-left.cells in
    let n : ℕ = c.loop-left.left in
    let some : 0 < n = c.loop-left-test.true in
    let few : n ≤ length old = c.loop-left.invariant.few in
    let within : n - 1 < length old = omega (arith, few, some) in
    let one : n ≡ n - 1 + 1 = omega (arith, some) in
    let cut : CutFrom at (n - 1 + 1) old mid = subst (λ (k : ℕ). CutFrom at k old mid) one c.loop-left.invariant.cut in
    let count : length mid ≡ length old = cut.count in
    let cell : (none : Log) → c.index-cells-left.result ≡ get_or old (n - 1) none = λ none.
    get_or_read mid (n - 1) c.index-cells-left.result (omega (arith, within, count)) c.index-cells-left.is none ∙ cut.others (n - 1) none (omega arith) in
    let here : (none : Log) → IsCutAlike at (get_or old (n - 1) none) c.cut.new.self
    = λ none. subst (λ (l : Log). IsCutAlike at l c.cut.new.self) (sym c.index-cells-left.is ∙ cell none) c.cut.ensures in
    record { few = omega (arith, within); cut = cut_next at old mid (n - 1) c.cut.new.self within cut here }
