-- Which requests a line of a script can ask for.
use Rattle.std.specs.Prelude.{ℕ, ◌<◌, ◌≤◌, ◌^◌, Option, IfSome, IsTrue, List}
use Rattle.hex.specs.Hex.{IsBytes}
use Rattle.s4_types.specs.declared.object.ObjectId.{ObjectId}
use Rattle.s4_types.specs.declared.object.Purse.{Purse}
use Rattle.s4_types.specs.declared.request.After.{After}
use Rattle.s4_types.specs.declared.request.Request.{Request}
use Rattle.s4_types.specs.declared.request.Request.TheVariants as request
use Rattle.s4_types.specs.Judgement.{everyone}
use Rattle.s4_types.specs.Name.{is_name}

-- a moment, or a number of ticks
abbrev pub IsMoment : ℕ → Type 0
IsMoment tick = tick < 2 ^ 64

-- the moment that a request names, where it names one
abbrev pub IsMomentIfAny : Option ℕ → Type 0
IsMomentIfAny at = IfSome at IsMoment

-- an offset, a length, a budget, or how many records are skipped
abbrev pub IsCount : ℕ → Type 0
IsCount number = number < 2 ^ 32

abbrev pub IsPrincipal : ℕ → Type 0
IsPrincipal number = number < everyone

-- a principal, or everyone
abbrev pub IsUser : ℕ → Type 0
IsUser number = number ≤ everyone

abbrev pub IsPurseNumber : ℕ → Type 0
IsPurseNumber number = number < 16

abbrev pub IsPurse : Purse → Type 0
IsPurse purse = IsPrincipal purse.creator × IsPurseNumber purse.number

abbrev pub IsSerial : ℕ → Type 0
IsSerial number = (0 < number) × (number < 65536)

abbrev pub IsObject : ObjectId → Type 0
IsObject object = IsPurse object.purse × IsSerial object.serial

abbrev pub IsName : List ℕ → Type 0
IsName name = IsTrue (is_name name)

-- the place behind which a page begins
abbrev pub IsPlace : After → Type 0
IsPlace after = IsPurseNumber after.number × IsName after.name

abbrev pub AreRights : ℕ → Type 0
AreRights number = number < 32

-- Each part of a request is in the range that a script has for it. Bytes may be of any number.
abbrev pub IsScriptable : Request → Type 0
IsScriptable (request.Create number) = IsPurseNumber number
IsScriptable (request.Delete object) = IsObject object
IsScriptable (request.Read object offset length at) = IsObject object × IsCount offset × IsCount length × IsMomentIfAny at
IsScriptable (request.Write object offset bytes) = IsObject object × IsCount offset × IsBytes bytes
IsScriptable (request.Append object bytes) = IsObject object × IsBytes bytes
IsScriptable (request.Truncate object length) = IsObject object × IsCount length
IsScriptable (request.GetAttr object at) = IsObject object × IsMomentIfAny at
IsScriptable (request.SetAttr object bytes) = IsObject object × IsBytes bytes
IsScriptable (request.GetAclByUser object user at) = IsObject object × IsUser user × IsMomentIfAny at
IsScriptable (request.GetAclByIndex object index at) = IsObject object × (index < 2 ^ 8) × IsMomentIfAny at
IsScriptable (request.SetAcl object user rights) = IsObject object × IsUser user × AreRights rights
IsScriptable (request.PCreate name object) = IsName name × IsObject object
IsScriptable (request.PDelete purse name) = IsPurse purse × IsName name
IsScriptable (request.PList range after at) = IsPrincipal range × IfSome after IsPlace × IsMomentIfAny at
IsScriptable (request.PMount purse name at) = IsPurse purse × IsName name × IsMomentIfAny at
IsScriptable (request.Flush from to) = IsMoment from × IsMoment to
IsScriptable (request.FlushO object from to) = IsObject object × IsMoment from × IsMoment to
IsScriptable (request.SetWindow ticks) = IsMoment ticks
IsScriptable (request.SetBudget purse budget) = IsPurse purse × IsCount budget
IsScriptable (request.ReadAudit range skip) = IsPrincipal range × IsCount skip
