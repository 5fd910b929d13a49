-- How a connection begins.
use Rattle.std.specs.Prelude.{ℕ, ◌==◌, ◌||◌, if◌then◌else◌, Option, Some, None, List, [], ◌∷◌}
use Rattle.s4_types.specs.declared.principal.WireVersion.{WireVersion}
use Rattle.s4_types.specs.Limits.{number_of_version, version_of}
use Rattle.s4_codec.specs.Format.{Format, ◌&◌, byte, number, block, only, made, cases, whole}
use Rattle.s4_codec.specs.Parts.{principal}
use Rattle.s4_stream.specs.Logins.{Logins, is_login}
use Rattle.s4_stream.specs.declared.hello.Hello.{Hello}
use Rattle.s4_stream.specs.declared.event.Event.{Event}
use Rattle.s4_stream.specs.declared.event.Event.TheVariants.{Welcome, Fault}
use Rattle.s4_stream.specs.declared.event.SessionFault.TheVariants as fault

-- the version of the wire that a Hello names, 1 or 2
abbrev pub version : Format WireVersion
version = made (only (λ n. (n == 1) || (n == 2)) byte) version_of (λ v. Some (number_of_version v))

-- version, principal, client and secret
abbrev pub hello_fields : Format Hello
hello_fields = made (version & (principal & (number 4 & block 16)))
    (λ x. record { caller = record { who = x.1.0; client = x.1.1.0; version = x.0 }; secret = x.1.1.1 })
    (λ h. Some (h.caller.version, (h.caller.who, (h.caller.client, h.secret))))

-- the body of code 0
abbrev pub hello : Format Hello
hello = cases (λ h. 0) (hello_fields ∷ [])

-- the Hello that a body spells
abbrev pub hello_in : List ℕ → Option Hello
hello_in body = whole (hello.at body)

-- what a first body brings about
abbrev pub greeted : Logins → Option Hello → Event
greeted logins None = Fault fault.Malformed
greeted logins (Some h) = if is_login logins h.caller.who h.secret then Welcome h.caller else Fault fault.BadLogin
