-- Requests that pass the test of being one are one.
use Rattle.std.proofs.Common.{◌≡◌, true, IsTrue, Some, None, nat_eq, ◌==◌, ◌&&◌, subst, rules, Decides}
use Rattle.std.specs.Cmp.Lexicographic.{bytes_decides, pointwise}
use Rattle.std.proofs.lemmas.Bool.{false≢true, eqb-true}
use Rattle.s4_types.specs.declared.request.After.{After}
use Rattle.s4_types.specs.declared.request.Request.{Request}
use Rattle.s4_types.specs.declared.request.Request.TheVariants.{Create, Delete, Read, Write, Append, Truncate, GetAttr, SetAttr, GetAclByUser, GetAclByIndex, SetAcl, PCreate, PDelete, PList, PMount, Flush, FlushO, SetWindow, SetBudget, ReadAudit}
use Rattle.s4_types.specs.contracts.request.RequestPartialEq.TheImpl.{ghosts}
use Rattle.s4_types.proofs.Booleans.{both}
use Rattle.s4_types.proofs.SameNames.{purse_is, object_is}

after-is : (a b : After) → ((a.number == b.number) && pointwise nat_eq a.name b.name) ≡ true → a ≡ b
after-is a b e =
    let number : a.number ≡ b.number = eqb-true a.number b.number (both _ _ e).0 in
    let name : a.name ≡ b.name = (bytes_decides a.name b.name).0 (both _ _ e).1 in
    λ i. record { number = number i; name = name i }

request-is : (a b : Request) → IsTrue (ghosts.eq a b) → a ≡ b
request-is (Create number) (Create number') e = search rules
request-is (Delete o) (Delete o') e = let is : o ≡ o' = object_is o o' e in search rules
request-is (Read o offset length at) (Read o' offset' length' at') e = let is : o ≡ o' = object_is o o' (both _ _ e).0 in search rules
request-is (Write o offset bytes) (Write o' offset' bytes') e = let is : o ≡ o' = object_is o o' (both _ _ e).0 in search rules
request-is (Append o bytes) (Append o' bytes') e = let is : o ≡ o' = object_is o o' (both _ _ e).0 in search rules
request-is (Truncate o length) (Truncate o' length') e = let is : o ≡ o' = object_is o o' (both _ _ e).0 in search rules
request-is (GetAttr o at) (GetAttr o' at') e = let is : o ≡ o' = object_is o o' (both _ _ e).0 in search rules
request-is (SetAttr o bytes) (SetAttr o' bytes') e = let is : o ≡ o' = object_is o o' (both _ _ e).0 in search rules
request-is (GetAclByUser o user at) (GetAclByUser o' user' at') e = let is : o ≡ o' = object_is o o' (both _ _ e).0 in search rules
request-is (GetAclByIndex o index at) (GetAclByIndex o' index' at') e = let is : o ≡ o' = object_is o o' (both _ _ e).0 in search rules
request-is (SetAcl o user rights) (SetAcl o' user' rights') e = let is : o ≡ o' = object_is o o' (both _ _ e).0 in search rules
request-is (PCreate name o) (PCreate name' o') e = let is : o ≡ o' = object_is o o' (both _ _ e).1 in search rules
request-is (PDelete purse name) (PDelete purse' name') e = let is : purse ≡ purse' = purse_is purse purse' (both _ _ e).0 in search rules
request-is (PList range None at) (PList range' None at') e = search rules
request-is (PList range (Some after) at) (PList range' (Some after') at') e = let is : after ≡ after' = after-is after after' (both _ _ (both _ _ e).1).0 in search rules
request-is (PList range _ at) (PList range' _ at') e = absurd (false≢true (both _ _ e).1)
request-is (PMount purse name at) (PMount purse' name' at') e = let is : purse ≡ purse' = purse_is purse purse' (both _ _ e).0 in search rules
request-is (Flush from to) (Flush from' to') e = search rules
request-is (FlushO o from to) (FlushO o' from' to') e = let is : o ≡ o' = object_is o o' (both _ _ e).0 in search rules
request-is (SetWindow ticks) (SetWindow ticks') e = search rules
request-is (SetBudget purse budget) (SetBudget purse' budget') e = let is : purse ≡ purse' = purse_is purse purse' (both _ _ e).0 in search rules
request-is (ReadAudit range skip) (ReadAudit range' skip') e = search rules
request-is _ _ e = absurd (false≢true e)

request-self : (a : Request) → IsTrue (ghosts.eq a a)
request-self (PList range (Some after) at) = search rules
request-self _ = search rules

-- the test tells whether they are one
pub request-Decides : (a b : Request) → Decides (ghosts.eq a b) (a ≡ b)
request-Decides a b = (request-is a b, λ e. subst (λ (x : Request). IsTrue (ghosts.eq a x)) e (request-self a))
