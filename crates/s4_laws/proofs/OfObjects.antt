-- What is in force of an object, who may do what with it, and what names it has depend on the records that concern its purse.
use Rattle.std.proofs.Common.{◌≡◌, ℕ, Option, Some, None, List, ap}
use Rattle.std.specs.Option.{option_map}
use Rattle.s4_types.specs.declared.principal.Caller.{Caller}
use Rattle.s4_types.specs.declared.object.Purse.{Purse}
use Rattle.s4_types.specs.declared.object.ObjectId.{ObjectId}
use Rattle.s4_types.specs.declared.rights.Right.{Right}
use Rattle.s4_types.specs.declared.record.Record.{Record}
use Rattle.s4_laws.specs.Agree.{AgreeOn}
use Rattle.s4_types.specs.Base.{Base}
use Rattle.s4_types.specs.Versions.{Track, in_force_by, value_at, data_track, attribute_track, acl_track}
use Rattle.s4_types.specs.Bindings.{bound_count, has_name}
use Rattle.s4_types.specs.Judgement.{judge, judge_now, judge_past, held_of}
use Rattle.s4_types.specs.Answer.{value_or_empty}
use Rattle.s4_laws.proofs.OfPurse.{versions-agree, names_of-agree, bound_at-agree}
use Rattle.s4_types.specs.Contents.{data_of, attributes_of, acl_of}

pub value_at-agree : {V : Type 0} (base : Base) (track : Track V) (o : ObjectId) (m : ℕ) (h k : List Record) → AgreeOn o.purse h k → value_at base track o m h ≡ value_at base track o m k
value_at-agree base track o m h k e = ap (in_force_by m) (versions-agree base track o h k e)

pub judge-agree : (base : Base) (t : ℕ) (caller : Caller) (o : ObjectId) (needed : Right) (at : Option ℕ) (h k : List Record) → AgreeOn o.purse h k → judge base h t caller o needed at ≡ judge base k t caller o needed at
judge-agree base t caller o needed None h k e = ap (λ v. judge_now caller o needed (option_map held_of v)) (value_at-agree base acl_track o t h k e)
judge-agree base t caller o needed (Some m) h k e = ap (λ v. judge_past caller o (option_map held_of v)) (value_at-agree base acl_track o m h k e)

pub data_of-agree : (base : Base) (o : ObjectId) (t : ℕ) (h k : List Record) → AgreeOn o.purse h k → data_of base o t h ≡ data_of base o t k
data_of-agree base o t h k e = ap value_or_empty (value_at-agree base data_track o t h k e)

pub attributes_of-agree : (base : Base) (o : ObjectId) (t : ℕ) (h k : List Record) → AgreeOn o.purse h k → attributes_of base o t h ≡ attributes_of base o t k
attributes_of-agree base o t h k e = ap value_or_empty (value_at-agree base attribute_track o t h k e)

pub acl_of-agree : (base : Base) (o : ObjectId) (t : ℕ) (h k : List Record) → AgreeOn o.purse h k → acl_of base o t h ≡ acl_of base o t k
acl_of-agree base o t h k e = ap value_or_empty (value_at-agree base acl_track o t h k e)

pub bound_count-agree : (base : Base) (purse : Purse) (m : ℕ) (h k : List Record) → AgreeOn purse h k → bound_count base purse m h ≡ bound_count base purse m k
bound_count-agree base purse m h k e = simp (names_of-agree base purse h k e, λ (name : List ℕ). bound_at-agree base purse name m h k e)

pub has_name-agree : (base : Base) (o : ObjectId) (m : ℕ) (h k : List Record) → AgreeOn o.purse h k → has_name base o m h ≡ has_name base o m k
has_name-agree base o m h k e = simp (names_of-agree base o.purse h k e, λ (name : List ℕ). bound_at-agree base o.purse name m h k e)
