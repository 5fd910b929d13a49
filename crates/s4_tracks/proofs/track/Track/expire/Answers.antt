use Rattle.std.proofs.Common.{◌≡◌, ℕ, ◌+◌, ◌≤◌, true, false, List, sym, ◌∙◌, ap, subst, arith, drop, take, length, min}
use Rattle.std.specs.List.{list_any, prefix_len}
use Rattle.std.specs.FinMap as finmap
use Rattle.std.proofs.lemmas.List.{drop-drop}
use Rattle.std.proofs.Math.Nat.{min-eq_left, min-eq_right}
use Rattle.s4_types.specs.declared.version.Version.{Version}
use Rattle.s4_store.specs.Chains.{items_of, IsOpen}
use Rattle.s4_store.specs.Laws.{insert_same, insert_twice, items_here, open_here, StillOpen-insert}
use Rattle.s4_tracks.specs.Chain.{is_expired}
use Rattle.s4_tracks.proofs.Expiring.{front_there, one_more, no_more, in_order_count}
use Rattle.s4_tracks.proofs.track.Track.expire.Goals as goal

pub loop-freed-init : goal.loop-freed-init
loop-freed-init g c = record {
  chains = sym (insert_same (g.S.Store.chains c.args.store.now) c.args.self.now.chain c.requires);
  expired = omega arith;
  room = omega arith;
}

pub begins_expired-requires : goal.begins_expired-requires
begins_expired-requires g c = subst (λ m. IsOpen m c.args.self.now.chain) (sym c.loop-freed.invariant.chains) (open_here (g.S.Store.chains c.args.store.now) c.args.self.now.chain _)

pub returns-then-not-begins_expired-clause-freed : goal.returns-then-not-begins_expired-clause-freed
returns-then-not-begins_expired-clause-freed g c =
    let m = g.S.Store.chains c.args.store.now in
    let items = items_of m c.args.self.now.chain in
    let here : items_of (g.S.Store.chains c.loop-freed.store) c.args.self.now.chain ≡ drop c.loop-freed.freed items =
    ap (λ a. items_of a c.args.self.now.chain) c.loop-freed.invariant.chains ∙ items_here m c.args.self.now.chain (drop c.loop-freed.freed items) in
    let stop : list_any (is_expired c.args.horizon) (take 1 (drop c.loop-freed.freed items)) ≡ false =
    ap (λ vs. list_any (is_expired c.args.horizon) (take 1 vs)) (sym here) ∙ sym c.begins_expired.ensures ∙ c.if-not-begins_expired.true in
    let all : c.loop-freed.freed ≡ prefix_len (is_expired c.args.horizon) items = no_more (is_expired c.args.horizon) c.loop-freed.freed items c.loop-freed.invariant.expired stop in
    let most : c.loop-freed.freed ≤ c.args.most = omega (arith, c.loop-freed-test.true) in
    sym (ap (min c.args.most) (sym all) ∙ min-eq_right most)

pub returns-then-not-begins_expired-clause-all : goal.returns-then-not-begins_expired-clause-all
returns-then-not-begins_expired-clause-all g c order =
    returns-then-not-begins_expired-clause-freed g c ∙ ap (min c.args.most) (in_order_count c.args.horizon (items_of (g.S.Store.chains c.args.store.now) c.args.self.now.chain) order)

pub returns-then-not-begins_expired-clause-still : goal.returns-then-not-begins_expired-clause-still
returns-then-not-begins_expired-clause-still g c = StillOpen-insert (g.S.Store.chains c.args.store.now) (g.S.Store.chains c.loop-freed.store) c.args.self.now.chain _ c.loop-freed.invariant.chains

pub loop-freed-preserved : goal.loop-freed-preserved
loop-freed-preserved g c =
    let m = g.S.Store.chains c.args.store.now in
    let chain : ℕ = c.args.self.now.chain in
    let items = items_of m chain in
    let now = g.S.Store.chains c.loop-freed.store in
    let left : List Version = drop c.loop-freed.freed items in
    let here : items_of now chain ≡ left = ap (λ a. items_of a chain) c.loop-freed.invariant.chains ∙ items_here m chain left in
    let go : list_any (is_expired c.args.horizon) (take 1 left) ≡ true = ap (λ vs. list_any (is_expired c.args.horizon) (take 1 vs)) (sym here) ∙ sym c.begins_expired.ensures ∙ c.if-not-begins_expired.false in
    let fewer : length (drop 1 left) + 1 ≡ length left = front_there (is_expired c.args.horizon) left go in
    let room : g.S.Store.room c.drop_oldest.new.self + length (drop 1 left) ≡ g.S.Store.room c.loop-freed.store + length left = subst (λ vs. g.S.Store.room c.drop_oldest.new.self + length (drop 1 vs) ≡ g.S.Store.room c.loop-freed.store + length vs) here c.drop_oldest.ensures.room in
    record {
      chains = c.drop_oldest.ensures.chains ∙ ap (λ vs. finmap.insert now chain (drop 1 vs)) here ∙ ap (λ a. finmap.insert a chain (drop 1 left)) c.loop-freed.invariant.chains
          ∙ insert_twice m chain left (drop 1 left) ∙ ap (finmap.insert m chain) (drop-drop 1 c.loop-freed.freed items);
      expired = one_more (is_expired c.args.horizon) c.loop-freed.freed items c.loop-freed.invariant.expired go;
      room = omega (arith, c.loop-freed.invariant.room);
    }

pub returns-clause-freed : goal.returns-clause-freed
returns-clause-freed g c =
    let most : c.args.most ≡ c.loop-freed.freed = omega (arith, c.loop-freed-test.false, c.loop-freed.auto.freed-end) in
    let enough : c.args.most ≤ prefix_len (is_expired c.args.horizon) (items_of (g.S.Store.chains c.args.store.now) c.args.self.now.chain) = omega (arith, c.loop-freed.invariant.expired) in
    sym (min-eq_left enough)

pub returns-clause-all : goal.returns-clause-all
returns-clause-all g c order =
    let most : c.args.most ≡ c.loop-freed.freed = omega (arith, c.loop-freed-test.false, c.loop-freed.auto.freed-end) in
    let enough : c.args.most ≤ prefix_len (is_expired c.args.horizon) (items_of (g.S.Store.chains c.args.store.now) c.args.self.now.chain) = omega (arith, c.loop-freed.invariant.expired) in
    sym (min-eq_left enough) ∙ ap (min c.args.most) (in_order_count c.args.horizon (items_of (g.S.Store.chains c.args.store.now) c.args.self.now.chain) order)

pub returns-clause-still : goal.returns-clause-still
returns-clause-still g c = StillOpen-insert (g.S.Store.chains c.args.store.now) (g.S.Store.chains c.loop-freed.store) c.args.self.now.chain _ c.loop-freed.invariant.chains
