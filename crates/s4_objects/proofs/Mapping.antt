-- How the map of objects finds one.
use Rattle.std.proofs.Common.{◌≡◌, sym}
use Rattle.std.specs.Cmp.{both_tied, unsigned_ties}
use Rattle.std.specs.Ordering.{nat_cmp, is_eq}
use Rattle.s4_types.specs.declared.object.ObjectId.{ObjectId}
use Rattle.s4_types.specs.Names.{same_purse, same_object, purse_cmp}
use Rattle.s4_types.proofs.SameNames.{at_purse}
use Rattle.s4_objects.specs.Keys.{object_cmp}

-- a map's look-up finds an object by the test of being one
pub at_object : (o q : ObjectId) → is_eq (object_cmp o q) ≡ same_object o q
at_object o q = sym (both_tied (same_purse o.purse q.purse) (Rattle.std.specs.Prelude.◌==◌ o.serial q.serial) (purse_cmp o.purse q.purse) (nat_cmp o.serial q.serial) (sym (at_purse o.purse q.purse)) (unsigned_ties _ _))
