-- Each part of requests and replies has one spelling a value, and a value for each spelling.
use Rattle.std.proofs.Common.{◌≡◌, ℕ, zero, suc, Bool, true, false, cond, eqb, Option, Some, None, List, refl, sym, ap, arith}
use Rattle.std.specs.Prelude.{nat_lt}
use Rattle.s4_types.specs.declared.rights.Right.{Right}
use Rattle.s4_types.specs.declared.rights.Right.TheVariants as right
use Rattle.s4_types.specs.declared.reply.Grant.{Grant}
use Rattle.s4_types.specs.declared.reply.Grant.TheVariants as grants
use Rattle.s4_types.specs.Rights.{number_of}
use Rattle.s4_types.specs.Name.{is_name}
use Rattle.s4_types.specs.declared.principal.WireVersion.{WireVersion}
use Rattle.s4_types.specs.declared.principal.WireVersion.TheVariants.{One, Two}
use Rattle.s4_codec.specs.Versions.{length_width}
use Rattle.s4_codec.specs.Format.{◌&◌, byte, number, counted, only, optional}
use Rattle.s4_codec.specs.Parts.{moment, principal, user, purse_number, index, serial, pad, purse, object, name, byte_string, rights, rights_given, optional_moment, after, optional_after, grant, grant_of, part_of_grant, flag, flag_of, number_of_flag, right_needed, right_of, is_right}
use Rattle.s4_codec.proofs.Lawful.{IsFormat, IsWide, some_is, both_true, byte_is, number_is, wide2, wide4, wide8, pair_is, only_is, made_is, optional_is, counted_is}
use Rattle.std.proofs.lemmas.Bool.{eqb-true, ltb-true}

pub moment_is : IsFormat moment
moment_is = number_is 8 wide8

pub word_is : IsFormat (number 4)
word_is = number_is 4 wide4

pub principal_is : IsFormat principal
principal_is = only_is _ (number 4) word_is

pub user_is : IsFormat user
user_is = word_is

pub purse_number_is : IsFormat purse_number
purse_number_is = only_is _ byte byte_is

pub index_is : IsFormat index
index_is = only_is _ byte byte_is

pub serial_is : IsFormat serial
serial_is = only_is _ (number 2) (number_is 2 wide2)

pub pad_is : IsFormat pad
pad_is = only_is _ byte byte_is

pub purse_is : IsFormat purse
purse_is = made_is (principal & purse_number) _ _ (pair_is principal_is purse_number_is)
    (λ x e. refl)
    (λ p x e. ap (λ (z : ℕ × ℕ). record { creator = z.0; number = z.1 }) (sym (some_is (p.creator, p.number) x e)))

pub object_is : IsFormat object
object_is = made_is (principal & (pad & (purse_number & serial))) _ _
    (pair_is principal_is (pair_is pad_is (pair_is purse_number_is serial_is)))
    (λ x e. ap (λ (k : ℕ). Some (x.0, (k, x.1.1))) (sym (eqb-true _ _ (both_true _ _ (both_true _ _ (both_true _ _ e).1).0).1)))
    (λ o x e. ap (λ (z : ℕ × (ℕ × (ℕ × ℕ))). record { purse = record { creator = z.0; number = z.1.1.0 }; serial = z.1.1.1 }) (sym (some_is (o.purse.creator, (0, (o.purse.number, o.serial))) x e)))

pub name_is : IsFormat name
name_is = only_is is_name (counted byte) (counted_is byte byte_is)

-- the only step that looks at the version
pub width_is : (version : WireVersion) → IsWide (length_width version)
width_is One = wide2
width_is Two = wide4

pub bytes_are : (version : WireVersion) → IsFormat (byte_string version)
bytes_are version = counted_is (number (length_width version)) (number_is (length_width version) (width_is version))

pub rights_are : IsFormat rights
rights_are = only_is _ byte byte_is

pub rights_given_is : IsFormat rights_given
rights_given_is = only_is _ byte byte_is

pub optional_moment_is : IsFormat optional_moment
optional_moment_is = optional_is moment moment_is

pub after_is : IsFormat after
after_is = made_is (purse_number & name) _ _ (pair_is purse_number_is name_is)
    (λ x e. refl)
    (λ a x e. ap (λ (z : ℕ × List ℕ). record { number = z.0; name = z.1 }) (sym (some_is (a.number, a.name) x e)))

pub optional_after_is : IsFormat optional_after
optional_after_is = optional_is after after_is

there_grant : (o : Option (ℕ × ℕ)) → part_of_grant (grant_of o) ≡ Some o
there_grant None = refl
there_grant (Some x) = refl

back_grant : (g : Grant) (o : Option (ℕ × ℕ)) → part_of_grant g ≡ Some o → grant_of o ≡ g
back_grant grants.Admin o e = ap grant_of (sym (some_is None o e))
back_grant grants.Owner o e = absurd cc
back_grant (grants.Entry index since) o e = ap grant_of (sym (some_is (Some (index, since)) o e))

pub grant_is : IsFormat grant
grant_is = made_is (optional (index & moment)) grant_of part_of_grant (optional_is (index & moment) (pair_is index_is moment_is))
    (λ o e. there_grant o) back_grant

there_flag : (n : ℕ) → nat_lt n 2 ≡ true → number_of_flag (flag_of n) ≡ n
there_flag zero e = refl
there_flag (suc zero) e = refl
there_flag (suc (suc n)) e = absurd (omega (arith, ltb-true (suc (suc n)) 2 e))

back_flag : (b : Bool) (n : ℕ) → Some (number_of_flag b) ≡ Some n → flag_of n ≡ b
back_flag true n e = ap flag_of (sym (some_is 1 n e))
back_flag false n e = ap flag_of (sym (some_is 0 n e))

pub flag_is : IsFormat flag
flag_is = made_is (only (λ n. nat_lt n 2) byte) flag_of (λ b. Some (number_of_flag b)) (only_is _ byte byte_is)
    (λ n e. ap Some (there_flag n (both_true _ _ e).1)) back_flag

picked : (b : Bool) (x y : Right) (n : ℕ) → (b ≡ true → number_of x ≡ n) → (b ≡ false → number_of y ≡ n) → number_of (cond b x y) ≡ n
picked true x y n f g = f refl
picked false x y n f g = g refl

there_right : (n : ℕ) → is_right n ≡ true → number_of (right_of n) ≡ n
there_right n e =
    picked (eqb n 1) _ _ n (λ t. sym (eqb-true n 1 t)) (λ f1.
    picked (eqb n 2) _ _ n (λ t. sym (eqb-true n 2 t)) (λ f2.
    picked (eqb n 4) _ _ n (λ t. sym (eqb-true n 4 t)) (λ f3.
    picked (eqb n 8) _ _ n (λ t. sym (eqb-true n 8 t)) (λ f4.
    picked (eqb n 16) _ _ n (λ t. sym (eqb-true n 16 t)) (λ f5. sym (eqb-true n 32 (rw (f1, f2, f3, f4, f5) at e)))))))

back_right : (r : Right) (n : ℕ) → Some (number_of r) ≡ Some n → right_of n ≡ r
back_right right.Read n e = ap right_of (sym (some_is 1 n e))
back_right right.Write n e = ap right_of (sym (some_is 2 n e))
back_right right.Delete n e = ap right_of (sym (some_is 4 n e))
back_right right.Control n e = ap right_of (sym (some_is 8 n e))
back_right right.Recover n e = ap right_of (sym (some_is 16 n e))
back_right right.Admin n e = ap right_of (sym (some_is 32 n e))

pub right_is : IsFormat right_needed
right_is = made_is (only is_right byte) right_of (λ r. Some (number_of r)) (only_is is_right byte byte_is)
    (λ n e. ap Some (there_right n (both_true _ _ e).1)) back_right
