use Rattle.std.proofs.Common.{◌≡◌, cond, Some, sym, ap, ◌∙◌}
use Rattle.std.specs.Prelude.{is_some}
use Rattle.std.specs.Map.{lookup}
use Rattle.std.specs.BTreeMap.{is_at}
use Rattle.std.specs.Ordering.{nat_cmp}
use Rattle.std.specs.Option.{option_copied_mut}
use Rattle.s4_session.specs.Halls.{session_of}
use Rattle.s4_session.proofs.Feeding.{on_feeds}
use Rattle.s4_session.proofs.sessions.Sessions.feed.Goals as goal

pub returns-clause-sessions : goal.returns-clause-sessions
returns-clause-sessions c =
    let conn = c.args.conn in
    let before = c.self.inside.sessions.entries in
    let s = c.unwrap-session.result.now in
    let new = c.hear.new.self in
    let found : lookup (is_at (nat_cmp conn)) before ≡ Some s = sym c.get_mut.ensures.value ∙ ap option_copied_mut c.unwrap-session.ensures in
    on_feeds c.args.logins.now conn c.args.piece.now c.args.self.now c.open.new.self (c.get_mut.follows.lender new).entries s new
    c.in_ok-open.ensures.open c.in_ok-open.ensures.others (ap (session_of conn) (sym c.self.view_is) ∙ found)
    (λ d. ((c.get_mut.follows.holds new).3 (ap is_some found)).0 d ∙ ap (λ es. cond (is_at (nat_cmp conn) d) (Some new) (session_of d es)) c.self.view_is)
    c.hear.result c.hear.ensures.session
