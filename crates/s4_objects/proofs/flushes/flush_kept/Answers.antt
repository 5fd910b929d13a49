use Rattle.std.proofs.Common.{◌≡◌, ◌+◌, ◌++◌, ◌∙◌, ap, arith, length, count_by, append_assoc}
use Rattle.std.proofs.lemmas.List.{length-append}
use Rattle.s4_store.specs.Chains.{items_of}
use Rattle.s4_store.specs.Laws.{StillOpen-insert}
use Rattle.s4_tracks.specs.Chain.{is_erasable}
use Rattle.s4_objects.specs.Flushes.{refunds_of}
use Rattle.s4_objects.proofs.Flushing.{second_before, first_after, second_after, others_after, none_opened, both_open, used_still, refunds_count}
use Rattle.s4_objects.proofs.flushes.flush_kept.Goals as goal

pub flush_track-requires-2-clause-open : goal.flush_track-requires-2-clause-open
flush_track-requires-2-clause-open g c = StillOpen-insert (g.S.Store.chains c.args.store.now) (g.S.Store.chains c.flush_track.new.store) c.args.kept.now.data.chain _ c.flush_track.ensures.chains c.args.kept.now.attributes.chain c.requires.attributes

pub flush_track-requires-2-clause-room : goal.flush_track-requires-2-clause-room
flush_track-requires-2-clause-room g c =
    let m = g.S.Store.chains c.args.store.now in
    let before = items_of m c.args.kept.now.data.chain in
    let rs = refunds_of c.args.purse.now c.args.from c.args.to before in
    let same = second_before m (g.S.Store.chains c.flush_track.new.store) (g.S.Store.chains c.flush_track.new.store) c.args.kept.now.data.chain c.args.kept.now.attributes.chain c.args.from c.args.to c.requires.apart c.flush_track.ensures.chains in
    let as_many : count_by (is_erasable c.args.from c.args.to) (items_of (g.S.Store.chains c.flush_track.new.store) c.args.kept.now.attributes.chain) ≡ count_by (is_erasable c.args.from c.args.to) (items_of m c.args.kept.now.attributes.chain) =
    ap (count_by (is_erasable c.args.from c.args.to)) same in
    let longer : length c.flush_track.new.refunds.items ≡ length c.args.refunds.now.items + length rs = ap length c.flush_track.ensures.refunds ∙ length-append c.args.refunds.now.items rs in
    let told' : length rs ≡ count_by (is_erasable c.args.from c.args.to) before = refunds_count c.args.from c.args.to c.args.purse.now before in
    omega (arith, c.requires.room, c.flush_track.ensures.capacity)

pub returns-clause-data : goal.returns-clause-data
returns-clause-data g c = first_after (g.S.Store.chains c.args.store.now) (g.S.Store.chains c.flush_track.new.store) (g.S.Store.chains c.flush_track-2.new.store) c.args.kept.now.data.chain c.args.kept.now.attributes.chain c.args.from c.args.to c.requires.apart c.flush_track.ensures.chains c.flush_track-2.ensures.chains

pub returns-clause-attributes : goal.returns-clause-attributes
returns-clause-attributes g c = second_after (g.S.Store.chains c.args.store.now) (g.S.Store.chains c.flush_track.new.store) (g.S.Store.chains c.flush_track-2.new.store) c.args.kept.now.data.chain c.args.kept.now.attributes.chain c.args.from c.args.to c.requires.apart c.flush_track.ensures.chains c.flush_track-2.ensures.chains

pub returns-clause-others : goal.returns-clause-others
returns-clause-others g c = others_after (g.S.Store.chains c.args.store.now) (g.S.Store.chains c.flush_track.new.store) (g.S.Store.chains c.flush_track-2.new.store) c.args.kept.now.data.chain c.args.kept.now.attributes.chain c.args.from c.args.to c.requires.apart c.flush_track.ensures.chains c.flush_track-2.ensures.chains

pub returns-clause-still : goal.returns-clause-still
returns-clause-still g c = both_open (g.S.Store.chains c.args.store.now) (g.S.Store.chains c.flush_track.new.store) (g.S.Store.chains c.flush_track-2.new.store) c.args.kept.now.data.chain c.args.kept.now.attributes.chain c.args.from c.args.to c.requires.apart c.flush_track.ensures.chains c.flush_track-2.ensures.chains

pub returns-clause-unopened : goal.returns-clause-unopened
returns-clause-unopened g c = none_opened (g.S.Store.chains c.args.store.now) (g.S.Store.chains c.flush_track.new.store) (g.S.Store.chains c.flush_track-2.new.store) c.args.kept.now.data.chain c.args.kept.now.attributes.chain c.args.from c.args.to c.requires.apart c.flush_track.ensures.chains c.flush_track-2.ensures.chains c.requires.data c.requires.attributes

pub returns-clause-used : goal.returns-clause-used
returns-clause-used g c =
    used_still _ _ c.args.kept.now.attributes.chain c.args.from c.args.to c.flush_track-2.ensures.chains
    ∙ used_still _ _ c.args.kept.now.data.chain c.args.from c.args.to c.flush_track.ensures.chains

pub returns-clause-refunds : goal.returns-clause-refunds
returns-clause-refunds g c =
    let m = g.S.Store.chains c.args.store.now in
    let p = c.args.purse.now in
    let first = refunds_of p c.args.from c.args.to (items_of m c.args.kept.now.data.chain) in
    let same = second_before m (g.S.Store.chains c.flush_track.new.store) (g.S.Store.chains c.flush_track-2.new.store) c.args.kept.now.data.chain c.args.kept.now.attributes.chain c.args.from c.args.to c.requires.apart c.flush_track.ensures.chains in
    c.flush_track-2.ensures.refunds
    ∙ ap (λ rs. rs ++ refunds_of p c.args.from c.args.to (items_of (g.S.Store.chains c.flush_track.new.store) c.args.kept.now.attributes.chain)) c.flush_track.ensures.refunds
    ∙ append_assoc c.args.refunds.now.items first (refunds_of p c.args.from c.args.to (items_of (g.S.Store.chains c.flush_track.new.store) c.args.kept.now.attributes.chain))
    ∙ ap (λ vs. c.args.refunds.now.items ++ (first ++ refunds_of p c.args.from c.args.to vs)) same
