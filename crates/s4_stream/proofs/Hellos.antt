-- A Hello has one spelling.
use Rattle.std.proofs.Common.{◌≡◌, ℕ, Bool, true, false, List, [], ◌∷◌, Some, refl, sym, ap, ◌∙◌}
use Rattle.s4_types.specs.declared.principal.WireVersion.{WireVersion}
use Rattle.s4_types.specs.declared.principal.WireVersion.TheVariants.{One, Two}
use Rattle.s4_types.specs.Limits.{number_of_version, version_of}
use Rattle.s4_codec.specs.Format.{◌&◌, AreBytes, number, block, byte, only}
use Rattle.std.specs.Prelude.{◌==◌, ◌||◌, if◌then◌else◌}
use Rattle.s4_codec.specs.Parts.{principal}
use Rattle.s4_codec.proofs.Lawful.{IsFormat, some_is, both_true, byte_is, block_is, only_is, pair_is, made_is, whole_takes, whole_again, are_bytes, IsCase, cases_are}
use Rattle.s4_codec.proofs.PartLaws.{principal_is, word_is}
use Rattle.s4_codec.proofs.TableLaws.{both, principal_holds}
use Rattle.s4_stream.specs.Rows.{is_hello, IsHello}
use Rattle.s4_stream.specs.declared.hello.Hello.{Hello}
use Rattle.s4_stream.specs.Hello.{version, hello_fields, hello, hello_in}
use Rattle.std.proofs.lemmas.Bool.{eqb-true}

named : (n : ℕ) (one two : Bool) → (n == 1) ≡ one → (n == 2) ≡ two → (one || two) ≡ true → number_of_version (if one then One else Two) ≡ n
named n true two a b e = sym (eqb-true n 1 a)
named n false true a b e = sym (eqb-true n 2 b)
named n false false a b e = cc

there_version : (n : ℕ) → (only (λ n. (n == 1) || (n == 2)) byte).fits n ≡ true → number_of_version (version_of n) ≡ n
there_version n e = named n (n == 1) (n == 2) refl refl (both_true _ _ e).1

back_version : (v : WireVersion) (n : ℕ) → Some (number_of_version v) ≡ Some n → version_of n ≡ v
back_version One n e = ap version_of (sym (some_is 1 n e))
back_version Two n e = ap version_of (sym (some_is 2 n e))

version_is : IsFormat version
version_is = made_is (only (λ n. (n == 1) || (n == 2)) byte) version_of (λ v. Some (number_of_version v)) (only_is _ byte byte_is)
    (λ n e. ap Some (there_version n e)) back_version

fields_are : IsFormat (version & (principal & (number 4 & block 16)))
fields_are = pair_is version_is (pair_is principal_is (pair_is word_is (block_is 16)))

hello_fields_are : IsFormat hello_fields
hello_fields_are = made_is (version & (principal & (number 4 & block 16))) _ _ fields_are
    (λ x e. refl)
    (λ h x e. ap (λ (z : WireVersion × (ℕ × (ℕ × List ℕ))). record { caller = record { who = z.1.0; client = z.1.1.0; version = z.0 }; secret = z.1.1.1 }) (sym (some_is (h.caller.version, (h.caller.who, (h.caller.client, h.secret))) x e)))

hello_case : IsCase (λ (h : Hello). 0) 0 hello_fields
hello_case = record { lawful = hello_fields_are; coded = λ h e. refl }

pub hello_is : IsFormat hello
hello_is = cases_are (λ h. 0) (hello_fields ∷ []) (hello_case, tt)

-- ---- as a row

version_holds : (v : WireVersion) → version.fits v ≡ true
version_holds One = refl
version_holds Two = refl

hello_holds : (h : Hello) → hello.fits h ≡ is_hello h
hello_holds h = both (version_holds h.caller.version) (both (principal_holds h.caller.who) refl)

pub read_hello : (body : List ℕ) (h : Hello) → AreBytes body → hello_in body ≡ Some h → IsHello body h
read_hello body h bytes e =
    let takes = whole_takes hello hello_is body h (are_bytes body bytes) e in
    record { parts = sym (hello_holds h) ∙ takes.1; bytes = takes.0 }

pub hello_read : (body : List ℕ) (h : Hello) → IsHello body h → hello_in body ≡ Some h
hello_read body h row = ap hello_in row.bytes ∙ whole_again hello hello_is h (hello_holds h ∙ row.parts)
