use Rattle.std.proofs.Common.{refl}
use Rattle.s4_codec.specs.Replies.{reply}
use Rattle.s4_codec.proofs.Lengths.{added_behind}
use Rattle.s4_codec.proofs.Short.{spelled_few, within_has_body}
use Rattle.s4_codec.proofs.put_replies.put_reply.Goals as goal

pub set_length-requires-clause-few : goal.set_length-requires-clause-few
set_length-requires-clause-few c =
    let version = c.args.version in
    let r = c.args.reply.now in
    let body = c.put_body.ensures.added in
    rw (added_behind c.len-start.result c.args.out.now.items _ _ ((reply version).spell r) _ c.len-start.ensures.value refl c.put_u32.ensures.added.spelled body.spelled)
    (spelled_few version r body.fits c.requires.within)

pub returns-clause-body : goal.returns-clause-body
returns-clause-body c = within_has_body c.args.version c.args.reply.now c.put_body.ensures.added.fits c.requires.within
