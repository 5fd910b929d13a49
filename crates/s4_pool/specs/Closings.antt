-- What a closing that fails says.
use Rattle.std.specs.Prelude.{◌≡◌, List, length}
use Rattle.s4_types.specs.Log.{Log}
use Rattle.s4_passes.specs.Calls.{CallList}
use Rattle.s4_closing.specs.Closing.{AreLogged, NoneUncounted}
use Rattle.s4_closing.specs.Merged.{AreWhole, HaveWindow}
use Rattle.s4_pool.specs.Fronts.{FrontState}
use Rattle.s4_pool.specs.Numbers.{HasAll}
use Rattle.s4_pool.specs.declared.closing.Why.{Why}
use Rattle.s4_pool.specs.declared.closing.Why.TheVariants.{Missing, Torn, NoMemory}
use Rattle.s4_pool.specs.declared.closing.Left.{Left}
use Rattle.s4_pool.specs.declared.closing.Left.TheVariants.{Front, Cells}

-- the front is left as it was
abbrev pub IsFront : {G : Type 0} {N : Type 0} → FrontState → Left G N → Type 0
IsFront front (Front left) = left ≡ front
IsFront front (Cells left) = ⊥

-- the cells are left, and this holds of them
abbrev pub AreCells : {G : Type 0} {N : Type 0} → (List Log → Type 0) → Left G N → Type 0
AreCells P (Front left) = ⊥
AreCells P (Cells left) = P left.items

-- the cells are the front's, by their number and window, no call is uncounted, and there is one log of all calls that there ever were
pub record AreOf (front : FrontState) (passes : List CallList) (cells : List Log) : Type 0 where
  pub count : length cells ≡ front.cells
  pub window : HaveWindow front.window cells
  pub counted : NoneUncounted cells passes
  pub logged : AreLogged cells passes

-- what each reason says of the front, of its passes and of what is left
abbrev pub FaultFits : {G : Type 0} {N : Type 0} → FrontState → List CallList → Why → Left G N → Type 0
FaultFits front passes Missing left = ¬ HasAll front.passes passes × IsFront front left
FaultFits front passes Torn left = HasAll front.passes passes × AreCells (λ cells. AreOf front passes cells × ¬ AreWhole front.window cells) left
FaultFits front passes NoMemory left = HasAll front.passes passes × IsFront front left
