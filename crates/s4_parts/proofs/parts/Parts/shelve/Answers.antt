use Rattle.std.proofs.Common.{◌≡◌, false, Option, Some, None, refl, sym, ◌∙◌, ap, length, arith}
use Rattle.std.specs.Prelude.{is_some}
use Rattle.std.specs.Option.{option_map}
use Rattle.std.specs.Map.{lookup, keys_of}
use Rattle.std.specs.BTreeMap.{is_at}
use Rattle.s4_types.specs.Name.{name_cmp}
use Rattle.s4_parts.specs.Table.{shelf_of, chain_on, names_on, serials_on}
use Rattle.s4_parts.proofs.Shelving.{shelved}
use Rattle.s4_parts.proofs.Rooming.{room-shelved}
use Rattle.std.specs.BTreeMap.{insert_entry}
use Rattle.s4_types.specs.Names.{purse_cmp}
use Rattle.s4_parts.specs.Waiting.{bound_on}
use Rattle.s4_parts.proofs.Totals.{bound-insert}
use Rattle.s4_parts.proofs.parts.Parts.shelve.Goals as goal

isnt_some : {A : Type 0} (x : Option A) → is_some x ≡ false → x ≡ None
isnt_some None e = refl
isnt_some (Some y) e = cc

pub returns-clause-chains : goal.returns-clause-chains
returns-clause-chains c p n =
    shelved c.args.self.now (record { alloc = c.args.self.now.alloc; shelves = c.insert.new.self; ends = c.args.self.now.ends }) c.args.purse.now c.new.result (isnt_some _ (sym c.contains_key.ensures ∙ c.if-contains_key.false)) c.in_ok-insert.ensures.updates.0
    (λ x. chain_on x n) (ap (λ es. option_map (λ t. t.chain) (lookup (is_at (name_cmp n)) es)) c.new.ensures.tracks) p

pub returns-clause-names : goal.returns-clause-names
returns-clause-names c p =
    shelved c.args.self.now (record { alloc = c.args.self.now.alloc; shelves = c.insert.new.self; ends = c.args.self.now.ends }) c.args.purse.now c.new.result (isnt_some _ (sym c.contains_key.ensures ∙ c.if-contains_key.false)) c.in_ok-insert.ensures.updates.0
    names_on (ap keys_of c.new.ensures.tracks) p

pub returns-clause-serials : goal.returns-clause-serials
returns-clause-serials c p =
    shelved c.args.self.now (record { alloc = c.args.self.now.alloc; shelves = c.insert.new.self; ends = c.args.self.now.ends }) c.args.purse.now c.new.result (isnt_some _ (sym c.contains_key.ensures ∙ c.if-contains_key.false)) c.in_ok-insert.ensures.updates.0
    serials_on c.new.ensures.bound p

pub returns-clause-bound : goal.returns-clause-bound
returns-clause-bound c =
    let none : shelf_of c.args.self.now c.args.purse.now ≡ None = isnt_some _ (sym c.contains_key.ensures ∙ c.if-contains_key.false) in
    let more = bound-insert c.args.self.now.shelves.entries c.args.purse.now c.new.result none in
    let nothing : length c.new.result.bound.items ≡ 0 = ap length c.new.ensures.bound in
    let is : bound_on c.insert.new.self.entries ≡ bound_on (insert_entry purse_cmp c.args.self.now.shelves.entries c.args.purse.now c.new.result) = ap bound_on c.in_ok-insert.ensures.entries in
    omega arith

pub returns-clause-room : goal.returns-clause-room
returns-clause-room c p =
    room-shelved c.args.self.now (record { alloc = c.args.self.now.alloc; shelves = c.insert.new.self; ends = c.args.self.now.ends }) c.args.purse.now c.new.result (isnt_some _ (sym c.contains_key.ensures ∙ c.if-contains_key.false)) c.in_ok-insert.ensures.updates.0 p
