-- Why a server ends without success, and what is told of it.
use Rattle.std.specs.Prelude.{ℕ, List, codes}
use Rattle.s4_pool.specs.declared.closing.Why.{Why}
use Rattle.s4_pool.specs.declared.closing.Why.TheVariants as why
use Rattle.s4_server.specs.declared.fault.ServerFault.{ServerFault}
use Rattle.s4_server.specs.declared.fault.ServerFault.TheVariants as fault

-- the fault of a front that can't be closed
abbrev pub fault_of : Why → ServerFault
fault_of why.Missing = fault.Missing
fault_of why.Torn = fault.Torn
fault_of why.NoMemory = fault.NoMemory

abbrev pub fault_text : ServerFault → List ℕ
fault_text fault.Missing = codes "missing"
fault_text fault.Torn = codes "torn"
fault_text fault.NoMemory = codes "no memory"
fault_text fault.NoWatch = codes "cannot listen"
