-- ACLs in which no entry can serve a principal, and that none does once another's entry is changed.
use Rattle.std.proofs.Common.{◌≡◌, ℕ, Bool, true, false, cond, not, ◌||◌, ◌+◌, ◌==◌, Option, Some, None, List, [], ◌∷◌, ◌++◌, map, filter, refl, ap, ◌∙◌}
use Rattle.std.specs.List.{list_any}
use Rattle.std.specs.Option.{option_or}
use Rattle.s4_types.specs.declared.acl.AclEntry.{AclEntry}
use Rattle.s4_types.specs.Acl.{names, without_entry, replaced, with_entry, acl_with}
use Rattle.s4_types.specs.Judgement.{Found, found_from, everyone, reaches, asked_entry}
use Rattle.s4_types.proofs.Snoc.{list_any-snoc}
use Rattle.s4_laws.proofs.Strangers.{either-false}

-- whether some entry can serve the principal
abbrev pub serves : ℕ → List AclEntry → Bool
serves who acl = list_any (λ entry. reaches who entry.who) acl

unfound-both : (who index : ℕ) (acl : List AclEntry) → serves who acl ≡ false → (found_from index who acl ≡ None) × (found_from index everyone acl ≡ None)
unfound-both who index [] e = (refl, refl)
unfound-both who index (entry ∷ acl) e =
    let parts = either-false (reaches who entry.who) (serves who acl) e in
    let each = either-false (entry.who == who) (entry.who == everyone) parts.0 in
    let rest = unfound-both who (index + 1) acl parts.1 in (
      ap (λ b. cond b (Some (record { index = index; rights = entry.rights })) (found_from (index + 1) who acl)) each.0 ∙ rest.0,
      ap (λ b. cond b (Some (record { index = index; rights = entry.rights })) (found_from (index + 1) everyone acl)) each.1 ∙ rest.1,
    )

pub unfound : (who : ℕ) (acl : List AclEntry) → serves who acl ≡ false → asked_entry who acl ≡ None
unfound who acl e =
    let both = unfound-both who 0 acl e in
    ap (λ (o : Option Found). option_or o (found_from 0 everyone acl)) both.0 ∙ both.1

none-filtered : {A : Type 0} (p keep : A → Bool) (xs : List A) → list_any p xs ≡ false → list_any p (filter keep xs) ≡ false
none-filtered p keep [] e = refl
none-filtered p keep (x ∷ xs) e =
    let parts = either-false (p x) (list_any p xs) e in
    of (keep x) parts.0 (none-filtered p keep xs parts.1)
  where
    of : (b : Bool) → p x ≡ false → list_any p (filter keep xs) ≡ false → list_any p (cond b (x ∷ filter keep xs) (filter keep xs)) ≡ false
    of true f rest = ap (λ c. c || list_any p (filter keep xs)) f ∙ rest
    of false f rest = rest

none-mapped : {A : Type 0} (p : A → Bool) (f : A → A) → ((x : A) → p x ≡ false → p (f x) ≡ false) → (xs : List A) → list_any p xs ≡ false → list_any p (map f xs) ≡ false
none-mapped p f keeps [] e = refl
none-mapped p f keeps (x ∷ xs) e =
    let parts = either-false (p x) (list_any p xs) e in
    ap (λ c. c || list_any p (map f xs)) (keeps x parts.0) ∙ none-mapped p f keeps xs parts.1

replaced-lacks : (who : ℕ) (new : AclEntry) (acl : List AclEntry) → reaches who new.who ≡ false → serves who acl ≡ false → serves who (replaced new acl) ≡ false
replaced-lacks who new acl n e = none-mapped (λ entry. reaches who entry.who) (λ entry. cond (entry.who == new.who) new entry) (λ entry f. of entry (entry.who == new.who) f) acl e
  where
    of : (entry : AclEntry) (b : Bool) → reaches who entry.who ≡ false → reaches who (cond b new entry).who ≡ false
    of entry true f = n
    of entry false f = f

with_entry-lacks : (who : ℕ) (new : AclEntry) (acl : List AclEntry) → reaches who new.who ≡ false → serves who acl ≡ false → serves who (with_entry new acl) ≡ false
with_entry-lacks who new acl n e = of (names new.who acl)
  where
    of : (b : Bool) → serves who (cond b (replaced new acl) (acl ++ new ∷ [])) ≡ false
    of true = replaced-lacks who new acl n e
    of false = list_any-snoc (λ entry. reaches who entry.who) acl new ∙ ap (λ b. b || reaches who new.who) e ∙ n

pub acl_with-lacks : (who user rights : ℕ) (acl : List AclEntry) → reaches who user ≡ false → serves who acl ≡ false → serves who (acl_with user rights acl) ≡ false
acl_with-lacks who user rights acl n e = of (rights == 0)
  where
    of : (b : Bool) → serves who (cond b (without_entry user acl) (with_entry (record { who = user; rights = rights }) acl)) ≡ false
    of true = none-filtered (λ entry. reaches who entry.who) (λ entry. not (entry.who == user)) acl e
    of false = with_entry-lacks who (record { who = user; rights = rights }) acl n e
