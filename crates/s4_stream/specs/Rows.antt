-- A Hello's body as a row, for whoever doesn't want to read formats.
use Rattle.std.specs.Prelude.{◌≡◌, ℕ, ◌^◌, Bool, true, ◌&&◌, ◌==◌, nat_lt, List, ◌∷◌, ◌++◌, length}
use Rattle.byteorder.specs.Endian.{big_bytes}
use Rattle.s4_types.specs.Limits.{number_of_version}
use Rattle.s4_stream.specs.declared.hello.Hello.{Hello}

-- code 0, the version, the principal, the client and the secret
abbrev pub hello_bytes : Hello → List ℕ
hello_bytes h = 0 ∷ number_of_version h.caller.version ∷ big_bytes 4 h.caller.who ++ (big_bytes 4 h.caller.client ++ h.secret)

-- whether there is such a Hello: of a principal, with a client's number and a secret of 16 bytes
abbrev pub is_hello : Hello → Bool
is_hello h = nat_lt h.caller.who 4294967295 && (nat_lt h.caller.client (2 ^ 32) && (length h.secret == 16))

-- The body is the Hello's bytes, and there is such a Hello.
pub record IsHello (body : List ℕ) (h : Hello) : Type 0 where
  pub parts : is_hello h ≡ true
  pub bytes : body ≡ hello_bytes h
