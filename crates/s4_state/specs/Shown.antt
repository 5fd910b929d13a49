-- Why the names of an object are shown to a caller.
use Rattle.std.specs.Prelude.{ℕ, Option, List}
use Rattle.std.specs.Result.{result_ok}
use Rattle.s4_types.specs.Base.{Base}
use Rattle.s4_types.specs.declared.principal.Caller.{Caller}
use Rattle.s4_types.specs.declared.object.ObjectId.{ObjectId}
use Rattle.s4_types.specs.declared.rights.Right.TheVariants as right
use Rattle.s4_types.specs.declared.reply.Grant.{Grant}
use Rattle.s4_types.specs.declared.record.Record.{Record}
use Rattle.s4_types.specs.Judgement.{judge}

-- the grant of a read, now or at a moment
abbrev pub granted : Base → List Record → ℕ → Caller → Option ℕ → ObjectId → Option Grant
granted base h t caller at o = result_ok (judge base h t caller o right.Read at)
