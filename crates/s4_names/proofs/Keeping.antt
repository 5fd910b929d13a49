-- An entry more takes none away.
use Rattle.std.proofs.Common.{◌≡◌, ℕ, Bool, true, false, cond, Option, Some, refl}
use Rattle.std.specs.Prelude.{is_some}

pub still_some : (b : Bool) (n : ℕ) (entry : Option ℕ) → is_some entry ≡ true → is_some (cond b (Some n) entry) ≡ true
still_some true n entry e = refl
still_some false n entry e = e
