use Rattle.std.proofs.Common.{arith, ◌∙◌}
use Rattle.s4_types.specs.Answer.{is_gone}
use Rattle.s4_types.specs.Play.{last_of}
use Rattle.s4_types.specs.Versions.{value_at, data_track}
use Rattle.s4_state.specs.Stands.{base_in}
use Rattle.s4_state.proofs.Reading.{current-data-whole, told-whole}
use Rattle.s4_state.proofs.parts.Parts.current_data.Goals as goal
use Rattle.s4_types.specs.Contents.{data_of}

pub unwrap-requires : goal.unwrap-requires
unwrap-requires g c =
    let h = c.args.self.now.history.records in
    let o = c.args.object.now in
    told-whole _ c.as_slice.result (is_gone (value_at (base_in c.args.self.now) data_track o (last_of h) h)) (data_of (base_in c.args.self.now) o (last_of h) h) (c.as_slice.ensures ∙ c.«data».ensures (last_of h) (omega arith)) (current-data-whole c.requires.sound o (last_of h) (omega arith))
