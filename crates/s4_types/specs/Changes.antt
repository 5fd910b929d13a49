-- What a request changes, where it is carried out.
use Rattle.std.specs.Prelude.{ℕ, List}
use Rattle.s4_types.specs.declared.object.Purse.{Purse}
use Rattle.s4_types.specs.declared.object.ObjectId.{ObjectId}
use Rattle.s4_types.specs.declared.request.Request.{Request}
use Rattle.s4_types.specs.declared.request.Request.TheVariants.{Create, Delete, Write, Append, Truncate, SetAttr, SetAcl, PCreate, PDelete, Flush, FlushO, SetWindow, SetBudget}

-- it makes an object, ends one, puts another value on one of an object's tracks, binds a name, ends a binding, erases what is past,
-- sets the window or a budget, or changes nothing
pub data Change : Type 0 where
  Makes : (number : ℕ) → Change
  Ends : (o : ObjectId) → Change
  Puts : (o : ObjectId) → Change
  Binds : (name : List ℕ) → (o : ObjectId) → Change
  Unbinds : (purse : Purse) → (name : List ℕ) → Change
  Erases : (from : ℕ) → (to : ℕ) → Change
  SetsWindow : (ticks : ℕ) → Change
  SetsBudget : (purse : Purse) → (budget : ℕ) → Change
  Nothing : Change

abbrev pub change_of : Request → Change
change_of (Create number) = Makes number
change_of (Delete o) = Ends o
change_of (Write o offset bytes) = Puts o
change_of (Append o bytes) = Puts o
change_of (Truncate o length) = Puts o
change_of (SetAttr o bytes) = Puts o
change_of (SetAcl o user rights) = Puts o
change_of (PCreate name o) = Binds name o
change_of (PDelete purse name) = Unbinds purse name
change_of (Flush from to) = Erases from to
change_of (FlushO o from to) = Erases from to
change_of (SetWindow ticks) = SetsWindow ticks
change_of (SetBudget purse budget) = SetsBudget purse budget
change_of _ = Nothing
