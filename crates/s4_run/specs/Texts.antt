-- What is told of faults.
use Rattle.std.specs.Prelude.{ℕ, List, ◌++◌, codes, decimal}
use Rattle.s4_run.specs.declared.fault.RunFault.{RunFault}
use Rattle.s4_run.specs.declared.fault.RunFault.TheVariants as fault

-- why a run ends before its end
abbrev pub fault_text : RunFault → List ℕ
fault_text (fault.BadLine number) = codes "line " ++ decimal number ++ codes ": bad line"
fault_text (fault.MomentGoesBack number) = codes "line " ++ decimal number ++ codes ": moment goes back"
fault_text (fault.CutAboveHorizon number) = codes "line " ++ decimal number ++ codes ": cut above horizon"
fault_text (fault.LoginsLine number) = codes "logins line " ++ decimal number
fault_text fault.CannotReadLogins = codes "cannot read logins"
fault_text fault.UnguardedLogins = codes "others may write the logins"
fault_text fault.CannotRead = codes "cannot read"
fault_text fault.CannotWrite = codes "cannot write"
fault_text fault.NoMemory = codes "no memory"
