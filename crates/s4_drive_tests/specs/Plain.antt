-- Records that every base can follow.
use Rattle.std.specs.Prelude.{◌≡◌, true, List, [], ◌∷◌}
use Rattle.s4_types.specs.declared.request.Request.{Request}
use Rattle.s4_types.specs.declared.request.Request.TheVariants.{Create, SetAcl}
use Rattle.s4_types.specs.declared.reply.Reply.TheVariants.{Done}
use Rattle.s4_types.specs.declared.record.Record.{Record}
use Rattle.s4_types.specs.Kinds.{is_accepted}

-- it makes no object, and sets no ACL
abbrev pub IsPlainKind : Request → Type 0
IsPlainKind (Create number) = ⊥
IsPlainKind (SetAcl o user rights) = ⊥
IsPlainKind _ = Unit {0}

-- where it was carried out, it is of such a kind, and was told so
abbrev pub IsPlain : Record → Type 0
IsPlain r = is_accepted r ≡ true → IsPlainKind r.request × (r.reply ≡ Done)

abbrev pub ArePlain : List Record → Type 0
ArePlain [] = Unit {0}
ArePlain (r ∷ h) = IsPlain r × ArePlain h
