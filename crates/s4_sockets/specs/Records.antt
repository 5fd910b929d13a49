-- What records of a principal's requests take, and how much they may.
use Rattle.std.specs.Prelude.{ℕ, Bool, true, false, Option, Some, None, List, [], ◌∷◌, ◌+◌, ◌*◌, ◌-◌, ◌^◌, ◌==◌, ◌||◌, min, nat_lt, length, if◌then◌else◌}
use Rattle.std.specs.List.{sum_by}
use Rattle.s4_types.specs.declared.request.Request.{Request}
use Rattle.s4_types.specs.declared.request.Request.TheVariants.{Write, Append, SetAttr}
use Rattle.s4_types.specs.declared.reply.Reply.{Reply}
use Rattle.s4_types.specs.declared.reply.Reply.TheVariants.{Data, Attr, Names, Audit}
use Rattle.s4_sockets.specs.declared.hold.Awaited.{Awaited}
use Rattle.s4_sockets.specs.declared.hold.Awaited.TheVariants.{Room, Journal}
use Rattle.s4_sockets.specs.declared.left.Span.{Span}

-- a number, as far as it fits in 64 bits
abbrev pub fit : ℕ → ℕ
fit n = min n (2 ^ 64 - 1)

-- the bytes that a request brings, which its record keeps
abbrev pub brought : Request → ℕ
brought (Write o offset bytes) = length bytes
brought (Append o bytes) = length bytes
brought (SetAttr o bytes) = length bytes
brought _ = 0

-- the bytes of what a reply gives, which its record keeps: each line of a page of names counts for 80 of them, and of an audit for 24
abbrev pub given : Reply → ℕ
given (Data grant bytes) = length bytes
given (Attr grant bytes) = length bytes
given (Names lines more) = fit (length lines * 80)
given (Audit lines more) = fit (length lines * 24)
given _ = 0

-- the bytes of a record of this request with this reply: 260, and its data
abbrev pub record_bytes : Request → Reply → ℕ
record_bytes request reply = fit (fit (260 + brought request) + given reply)

-- whether so many bytes are less than the most that there may be, where that is bounded
abbrev pub is_below : Option ℕ → ℕ → Bool
is_below None bytes = true
is_below (Some most) bytes = nat_lt bytes most

-- whether a request of this principal may leave a record more, whose records take so many bytes: the administrator's always may
abbrev pub may_leave : ℕ → Option ℕ → ℕ → Bool
may_leave who most bytes = (who == 0) || is_below most bytes

-- what a request of this principal waits for, if anything, whose records take so many bytes, and those that the journal lacks so many
abbrev pub awaited_of : ℕ → Option ℕ → ℕ → ℕ → Option Awaited
awaited_of who most bytes lacking =
    if may_leave who most bytes then (if may_leave who (Some 67108864) lacking then None else Some Journal) else Some Room

-- how many bytes the records of these spans take
abbrev pub span_bytes : List Span → ℕ
span_bytes spans = sum_by (λ (s : Span). s.bytes) spans

-- the spans that are left once the records before a moment went
abbrev pub left_at : ℕ → List Span → List Span
left_at cut [] = []
left_at cut (span ∷ spans) = if nat_lt span.last cut then left_at cut spans else span ∷ spans
