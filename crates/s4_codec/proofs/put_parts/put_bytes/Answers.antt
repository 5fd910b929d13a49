use Rattle.std.proofs.Common.{rules, ◌≡◌, ◌++◌, length}
use Rattle.s4_codec.specs.Format.{number}
use Rattle.s4_codec.specs.Versions.{length_width}
use Rattle.s4_codec.proofs.Added.{counted_added}
use Rattle.s4_codec.proofs.put_parts.put_bytes.Goals as goal

pub returns-clause-added : goal.returns-clause-added
returns-clause-added g c =
    let bytes = c.args.bytes.now in
    let count : c.len.result ≡ length bytes = search rules in
    let put : g.R.Room.items c.put.new.self ≡ g.R.Room.items c.put_length.new.out ++ bytes = search rules in
    counted_added (number (length_width c.args.version)) bytes _ _ _ (rw count at c.put_length.ensures.added) put
