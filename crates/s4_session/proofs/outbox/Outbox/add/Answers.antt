use Rattle.std.proofs.Common.{◌≡◌, ◌∙◌, Some, refl, sym, ap, subst}
use Rattle.std.specs.Prelude.{is_some, OnOk}
use Rattle.std.specs.Map.{lookup}
use Rattle.std.specs.BTreeMap.{is_at}
use Rattle.std.specs.Ordering.{nat_cmp}
use Rattle.std.specs.Option.{option_copied_mut}
use Rattle.s4_session.specs.Sent.{lists_of}
use Rattle.s4_session.proofs.Outboxes.{Grows, grows_first, grows_on, isnt_some}
use Rattle.s4_session.proofs.outbox.Outbox.add.Goals as goal

pub returns-then-contains_key : goal.returns-then-contains_key
returns-then-contains_key c =
    let conn = c.args.conn in
    let old = c.self.inside.sent.entries in
    let before = c.unwrap-all.result.now in
    let v = c.extend_from_slice.new.self in
    let new = (c.get_mut.follows.lender v).entries in
    let found : lookup (is_at (nat_cmp conn)) old ≡ Some before = sym c.get_mut.ensures.value ∙ ap option_copied_mut c.unwrap-all.ensures in
    subst (λ sent. OnOk c.extend_from_slice.result (Grows conn c.args.bytes.items sent (lists_of new))) c.self.view_is
    (grows_on conn c.args.bytes.items old new v ((c.get_mut.follows.holds v).3 (ap is_some found)).0 c.extend_from_slice.result before found (rw (← c.as_slice.ensures.value) c.extend_from_slice.ensures.items))

pub returns : goal.returns
returns c =
    let conn = c.args.conn in
    let old = c.self.inside.sent.entries in
    let new = c.insert.new.self.entries in
    subst (λ sent. Grows conn c.args.bytes.items sent (lists_of new)) c.self.view_is
    (grows_first conn c.args.bytes.items old new c.args.bytes c.in_ok-insert.ensures.updates.0 (isnt_some _ (sym c.contains_key.ensures ∙ c.if-contains_key.false)) refl)
