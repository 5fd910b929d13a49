use Rattle.std.proofs.Common.{◌≡◌, ◌≢◌, ◌-◌, sym, ◌∙◌, ap, arith, Some}
use Rattle.std.specs.FinMap as finmap
use Rattle.s4_store.specs.Chains.{items_of}
use Rattle.s4_store.specs.Laws.{insert_same, open_here}
use Rattle.s4_tracks.specs.Chain.{with_end}
use Rattle.s4_tracks.proofs.Ending.{within_still, ended_in, none_end, ended_before, empty_is}
use Rattle.s4_tracks.proofs.track.Track.end.Goals as goal

pub returns-then-count-eq0-clause-chains : goal.returns-then-count-eq0-clause-chains
returns-then-count-eq0-clause-chains g c =
    let m = g.S.Store.chains c.args.store.now in
    let is : with_end c.args.moment (items_of m c.args.self.now.chain) ≡ items_of m c.args.self.now.chain = empty_is c.args.moment _ (sym c.len-count.ensures ∙ c.if-count-eq0.true) in
    sym (ap (finmap.insert m c.args.self.now.chain) is ∙ insert_same m c.args.self.now.chain c.requires)

pub returns-then-is_some-clause-chains : goal.returns-then-is_some-clause-chains
returns-then-is_some-clause-chains g c =
    let m = g.S.Store.chains c.args.store.now in
    let is : with_end c.args.moment (items_of m c.args.self.now.chain) ≡ items_of m c.args.self.now.chain = ended_before c.args.moment _ c.len-count.result c.get-newest.result.now c.len-count.ensures c.get-newest.ensures (sym c.is_some.ensures ∙ c.if-is_some.true) in
    sym (ap (finmap.insert m c.args.self.now.chain) is ∙ insert_same m c.args.self.now.chain c.requires)

pub set-requires-clause-open : goal.set-requires-clause-open
set-requires-clause-open g c = rw c.set-ended.ensures.chains (open_here _ _ _)

pub set-requires-clause-within : goal.set-requires-clause-within
set-requires-clause-within g c =
    let some : c.len-count.result ≢ 0 = c.if-count-eq0.false in
    within_still (g.S.Store.chains c.args.store.now) (g.S.Store.chains c.set-ended.new.self) c.args.self.now.chain (c.len-count.result - 1) _ c.set-ended.ensures.chains (omega (arith, c.len-count.ensures))

pub returns-clause-chains : goal.returns-clause-chains
returns-clause-chains g c =
    let m = g.S.Store.chains c.args.store.now in
    let same : Some c.get-newest.result.now ≡ Some c.set-ended.result = sym c.get-newest.ensures ∙ c.set-ended.ensures.old in
    let same_end : c.get-newest.result.now.end ≡ c.set-ended.result.end = cc in
    ended_in m (g.S.Store.chains c.set-ended.new.self) (g.S.Store.chains c.set.new.self) c.args.self.now.chain c.args.moment c.len-count.result c.set-ended.result _
    c.len-count.ensures c.set-ended.ensures.old (sym same_end ∙ none_end _ (sym c.is_some.ensures ∙ c.if-is_some.false)) c.set-ended.ensures.chains c.set.ensures.chains
