use Rattle.std.specs.Prelude.{ℕ, List}
use Rattle.s4_types.specs.Log.{Log}
use Rattle.s4_passes.specs.Calls.{CallList}
use Rattle.s4_closing.specs.declared.reconciling.Verdict.{Verdict}
use Rattle.s4_closing.specs.declared.reconciling.Verdict.TheVariants.{Whole, Torn, NoMemory}
use Rattle.s4_closing.specs.Merged.{AreWhole}
use Rattle.s4_closing.specs.Closing.{AreLogged, IsClosing, NoneUncounted}

-- what each verdict says
abbrev pub Fits : ℕ → List Log → List CallList → Verdict → Type 0
Fits window cells passes (Whole left) = AreWhole window cells × NoneUncounted cells passes × IsClosing window cells passes left.items
Fits window cells passes Torn = ¬ AreWhole window cells × NoneUncounted cells passes × AreLogged cells passes
Fits window cells passes NoMemory = Unit {0}
