use Rattle.s4_codec.specs.Format.{list_up_to}
use Rattle.s4_codec.specs.Parts.{flag}
use Rattle.s4_codec.specs.Replies.{name_line}
use Rattle.s4_codec.proofs.Added.{added_after}
use Rattle.s4_codec.proofs.put_replies.put_names.Goals as goal

pub returns-clause-added : goal.returns-clause-added
returns-clause-added g c =
    let parts =
    added_after (list_up_to 64 name_line) flag c.args.lines.now c.args.more _ _ _ (rw c.as_slice.ensures at c.put_name_lines.ensures.added) c.put_flag.ensures.added in
    record { fits = parts.fits; spelled = parts.spelled }
