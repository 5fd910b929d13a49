-- An ACL that is handed to the judge, as the definitions have it.
use Rattle.std.specs.Prelude.{Option}
use Rattle.std.specs.Option.{option_map}
use Rattle.s4_types.specs.Judgement as judgement
use Rattle.s4_judge.specs.declared.judge.Held.{Held}

abbrev pub shown_held : Option Held → Option judgement.Held
shown_held held = option_map (λ k. record { acl = k.acl.now; since = k.since }) held
