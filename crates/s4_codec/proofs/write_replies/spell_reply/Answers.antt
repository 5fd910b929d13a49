use Rattle.std.proofs.Common.{rules, ◌≡◌, ◌<◌, ◌++◌, List, ℕ, false, length, ap, ◌∙◌, arith}
use Rattle.s4_types.specs.declared.reply.Reply.{Reply}
use Rattle.s4_codec.specs.Replies.{reply}
use Rattle.s4_codec.specs.Rooms.{is_spellable}
use Rattle.s4_codec.specs.Versions.{frame_limit}
use Rattle.s4_codec.specs.Writings.{Adds}
use Rattle.s4_codec.proofs.Short.{longer_exceeds}
use Rattle.s4_codec.proofs.Spellable.{unspellable}
use Rattle.s4_codec.proofs.write_replies.spell_reply.Goals as goal

pub returns-then-not-is_spellable-clause-too_big : goal.returns-then-not-is_spellable-clause-too_big
returns-then-not-is_spellable-clause-too_big c =
    let is : is_spellable c.args.version c.args.reply.now ≡ false = search rules in
    λ big body spelled. unspellable c.args.version c.args.reply.now is spelled.fits

pub returns-then-len-frame_limit-clause-limits : goal.returns-then-len-frame_limit-clause-limits
returns-then-len-frame_limit-clause-limits c =
    let version = c.args.version in
    let r : Reply = c.args.reply.now in
    let body : List ℕ = c.put_body.new.out.items in
    let added : Adds (reply version) r c.reserve.new.self.items body = c.put_body.ensures.added in
    let is : body ≡ (reply version).spell r = added.spelled ∙ ap (λ (w : List ℕ). w ++ (reply version).spell r) (c.reserve.ensures.items ∙ c.clear.ensures.items) in
    let same : length body ≡ length ((reply version).spell r) = ap length is in
    let long : frame_limit version < length ((reply version).spell r) = grind (arith, same, c.len.ensures, c.frame_limit.ensures, c.if-len-frame_limit.true) in
    longer_exceeds version r added.fits long
