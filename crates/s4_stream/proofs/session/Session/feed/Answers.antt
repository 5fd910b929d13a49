use Rattle.std.proofs.Common.{◌≡◌, ◌∙◌, sym, ap, drop}
use Rattle.s4_stream.specs.Feeding.{heard_so_far}
use Rattle.s4_stream.proofs.Closing.{closed_left}
use Rattle.s4_stream.proofs.session.Session.feed.Goals as goal

pub invariant_of-self-in-Ok : goal.invariant_of-self-in-Ok
invariant_of-self-in-Ok c =
    let h = c.in-Ok.hearing in
    let all = c.as_slice.result.now in
    let is : c.advance.new.self.items ≡ drop h.count all = c.advance.ensures.items ∙ ap (drop h.count) (sym c.as_slice.ensures) in
    let heard = heard_so_far h.events.items h.state (drop h.count all) in
    λ closes. is ∙ closed_left c.args.logins.now _ all heard c.in-Ok.ensures.heard closes
