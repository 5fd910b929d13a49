use Rattle.std.proofs.Common.{◌≡◌, ◌≢◌, ℕ, ◌+◌, Bool, true, false, cond, Some, None, List, [], ◌∷◌, refl, sym, ◌∙◌, ap, arith, filter, length, drop}
use Rattle.std.specs.Option.{option_map}
use Rattle.std.specs.FinMap as finmap
use Rattle.std.specs.Map.{keys_of, remove_entry}
use Rattle.std.specs.BTreeMap.{get, is_at}
use Rattle.s4_types.specs.declared.version.Version.{Version}
use Rattle.s4_types.specs.Name.{same_name, name_cmp}
use Rattle.s4_types.proofs.Booleans.{by_test}
use Rattle.s4_types.proofs.SameNames.{at_name, name_is}
use Rattle.s4_store.specs.Chains.{items_of, item_count}
use Rattle.s4_store.specs.Laws.{items_here}
use Rattle.s4_store.specs.Counts.{item_count-insert, item_count-remove_empty}
use Rattle.s4_parts.specs.Table.{chain_on, is_any}
use Rattle.s4_parts.proofs.shelf.Shelf.free.Given.{Over}
use Rattle.s4_parts.proofs.shelf.Shelf.free.Goals as goal
use Rattle.s4_parts.proofs.shelf.Shelf.free.Goals.{After-len}

nothing : (vs : List Version) → length vs ≡ 0 → vs ≡ []
nothing [] e = refl
nothing (v ∷ vs) e = absurd (omega arith)

some-left : (vs : List Version) → length vs ≢ 0 → is_any vs ≡ true
some-left [] e = absurd (e refl)
some-left (v ∷ vs) e = refl

one-less : (vs : List Version) → is_any vs ≡ true → length (drop 1 vs) + 1 ≡ length vs
one-less [] e = cc
one-less (v ∷ vs) e = omega arith

clash : (b : Bool) → b ≡ true → b ≡ false → ⊥
clash true e f = cc
clash false e f = cc

-- a name that fails the test is taken out
filter-removed : {X : Type 0} (test : List ℕ → Bool) (name : List ℕ) → test name ≡ false → (es : List (List ℕ × X)) → filter test (keys_of (remove_entry (is_at (name_cmp name)) es)) ≡ filter test (keys_of es)
filter-removed test name fails [] = refl
filter-removed test name fails (e ∷ es) = by_test (is_at (name_cmp name) e.0)
    (λ f. let is : name ≡ e.0 = name_is name e.0 (sym (at_name name e.0) ∙ f) in
    ap (λ b. filter test (keys_of (cond b es (e ∷ remove_entry (is_at (name_cmp name)) es)))) f
    ∙ sym (ap (λ b. cond b (e.0 ∷ filter test (keys_of es)) (filter test (keys_of es))) (ap test (sym is) ∙ fails)))
    (λ f. ap (λ b. filter test (keys_of (cond b es (e ∷ remove_entry (is_at (name_cmp name)) es)))) f
    ∙ ap (λ xs. cond (test e.0) (e.0 ∷ xs) xs) (filter-removed test name fails es))

found : (g : Over) (c : After-len g) → chain_on (Some c.args.self.now) c.args.name.now ≡ Some c.unwrap-track.result.chain
found g c = sym c.track.ensures ∙ ap (option_map (λ t. t.chain)) c.unwrap-track.ensures

here : (g : Over) (c : After-len g) → items_of (g.S.Store.chains c.drop_oldest.new.self) c.unwrap-track.result.chain ≡ drop 1 (items_of (g.S.Store.chains c.args.store.now) c.unwrap-track.result.chain)
here g c = ap (λ m. items_of m c.unwrap-track.result.chain) c.drop_oldest.ensures.chains ∙ items_here (g.S.Store.chains c.args.store.now) c.unwrap-track.result.chain _

counted : (g : Over) (c : After-len g) → c.len.result ≡ length (drop 1 (items_of (g.S.Store.chains c.args.store.now) c.unwrap-track.result.chain))
counted g c = c.len.ensures ∙ ap length (here g c)

dropped : (g : Over) (c : After-len g) → item_count (g.S.Store.chains c.drop_oldest.new.self) + 1 ≡ item_count (g.S.Store.chains c.args.store.now)
dropped g c =
    let old = g.S.Store.chains c.args.store.now in
    let chain : ℕ = c.unwrap-track.result.chain in
    let rest : List Version = drop 1 (items_of old chain) in
    let all : item_count (finmap.insert old chain rest) + length (items_of old chain) ≡ item_count old + length rest = item_count-insert old chain rest in
    let one : length rest + 1 ≡ length (items_of old chain) = one-less (items_of old chain) (c.requires.any chain (found g c)) in
    let is : item_count (g.S.Store.chains c.drop_oldest.new.self) ≡ item_count (finmap.insert old chain rest) = ap item_count c.drop_oldest.ensures.chains in
    omega arith

pub returns-then-len-eq0-clause-frees : goal.returns-then-len-eq0-clause-frees
returns-then-len-eq0-clause-frees g c =
    let old = g.S.Store.chains c.args.store.now in
    let chain : ℕ = c.unwrap-track.result.chain in
    let rest : List Version = drop 1 (items_of old chain) in
    let at = (goal.at.returns-then-len-eq0-clause-frees g c).After-len in
    let none : rest ≡ [] = nothing rest (sym (counted g at) ∙ c.if-len-eq0.true) in
    record {
      chain = chain;
      found = found g at;
      kept = λ e. absurd (clash (is_any rest) e (ap is_any none));
      given = λ e. record {
        chains = c.close.ensures.chains ∙ ap (λ m. finmap.remove m chain) (c.drop_oldest.ensures.chains ∙ ap (finmap.insert old chain) none);
        gone = λ n. ap (option_map (λ t. t.chain)) (c.remove.ensures.updates.0 n ∙ ap (λ b. cond b None (get name_cmp c.args.self.now.tracks n)) (at_name c.args.name.now n))
            ∙ by_test (same_name c.args.name.now n)
            (λ f. ap (λ b. option_map (λ t. t.chain) (cond b None (get name_cmp c.args.self.now.tracks n))) f ∙ sym (ap (λ b. cond b None (chain_on (Some c.args.self.now) n)) f))
            (λ f. ap (λ b. option_map (λ t. t.chain) (cond b None (get name_cmp c.args.self.now.tracks n))) f ∙ sym (ap (λ b. cond b None (chain_on (Some c.args.self.now) n)) f));
        names = λ test fails. ap (λ es. filter test (keys_of es)) c.remove.ensures.entries ∙ filter-removed test c.args.name.now fails c.args.self.now.tracks.entries;
        sorted = c.remove.ensures.ordered;
      };
      serials = refl;
    }

pub returns-then-len-eq0-clause-used : goal.returns-then-len-eq0-clause-used
returns-then-len-eq0-clause-used g c =
    let old = g.S.Store.chains c.args.store.now in
    let chain : ℕ = c.unwrap-track.result.chain in
    let at = (goal.at.returns-then-len-eq0-clause-used g c).After-len in
    let one = dropped g at in
    let mid = g.S.Store.chains c.drop_oldest.new.self in
    let none : items_of mid chain ≡ [] = nothing (items_of mid chain) (sym c.len.ensures ∙ c.if-len-eq0.true) in
    let same : item_count (finmap.remove mid chain) ≡ item_count mid =
    item_count-remove_empty mid chain (c.drop_oldest.ensures.still chain (c.requires.open chain (found g at))) none in
    let is : item_count (g.S.Store.chains c.close.new.self) ≡ item_count (finmap.remove mid chain) = ap item_count c.close.ensures.chains in
    omega arith

pub returns-else-len-eq0-clause-frees : goal.returns-else-len-eq0-clause-frees
returns-else-len-eq0-clause-frees g c =
    let old = g.S.Store.chains c.args.store.now in
    let chain : ℕ = c.unwrap-track.result.chain in
    let rest : List Version = drop 1 (items_of old chain) in
    let at = (goal.at.returns-else-len-eq0-clause-frees g c).After-len in
    let some : is_any rest ≡ true = some-left rest (λ e. c.if-len-eq0.false (counted g at ∙ e)) in
    record {
      chain = chain;
      found = found g at;
      kept = λ e. record { chains = c.drop_oldest.ensures.chains; tracks = refl };
      given = λ e. absurd (clash (is_any rest) some e);
      serials = refl;
    }

pub returns-else-len-eq0-clause-used : goal.returns-else-len-eq0-clause-used
returns-else-len-eq0-clause-used g c = dropped g (goal.at.returns-else-len-eq0-clause-used g c).After-len
