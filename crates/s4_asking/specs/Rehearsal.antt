-- Lines that have the replies that are wanted.
use Rattle.std.specs.Prelude.{◌≡◌, ⊤, ℕ, Bool, false, Option, Some, None, is_none, option_to_list, List, [], ◌∷◌, ◌++◌, ◌||◌, ◌&&◌, ◌⊎◌, flat_map}
use Rattle.std.specs.Io.KnownBytes.{Appends, Consumes}
use Rattle.s4_types.specs.Kinds.{is_refused}
use Rattle.s4_types.specs.declared.principal.Caller.{Caller}
use Rattle.s4_types.specs.declared.principal.WireVersion.{WireVersion}
use Rattle.s4_types.specs.declared.reply.Reply.{Reply}
use Rattle.s4_types.specs.declared.request.Request.{Request}
use Rattle.s4_asking.specs.Lines.{HasFront, text_of}
use Rattle.s4_asking.specs.Spelling.{Asked, asked_in, before_arrow, behind_arrow, told_line, told_text}

-- EXCHANGES

-- who asked for what, and the reply
pub record Exchange : Type 0 where
  pub asked : Asked
  pub reply : Reply

-- that of a caller, a request and a reply
abbrev pub exchange : Caller → Request → Reply → Exchange
exchange caller request reply = record { asked = record { caller = caller; request = request }; reply = reply }

-- known exchanges grow by these
abbrev pub Grows : Option (List Exchange) → Option (List Exchange) → List Exchange → Type 0
Grows None new more = ⊤
Grows (Some xs) None more = ⊥
Grows (Some xs) (Some ys) more = ys ≡ xs ++ more

-- the lines of their replies
abbrev pub told_lines : List Exchange → List ℕ
told_lines exchanges = flat_map (λ e. told_line e.reply) exchanges

-- THEIR LINES

-- a text is the one that is wanted, or none is
abbrev pub IsWanted : Option (List ℕ) → List ℕ → Type 0
IsWanted None text = ⊤
IsWanted (Some wanted) text = text ≡ wanted

-- an exchange is that of a line: it asks what the line asks, and is replied what is wanted there
pub record Fits (version : WireVersion) (client : ℕ) (line : List ℕ) (exchange : Exchange) : Type 0 where
  pub asked : asked_in version client (before_arrow line) ≡ Some exchange.asked
  pub wanted : IsWanted (behind_arrow line) (told_text exchange.reply)

-- exchanges are those of lines, one by one
abbrev pub AllFit : WireVersion → ℕ → List (List ℕ) → List Exchange → Type 0
AllFit version client [] [] = ⊤
AllFit version client [] (e ∷ es) = ⊥
AllFit version client (line ∷ lines) [] = ⊥
AllFit version client (line ∷ lines) (e ∷ es) = Fits version client line e × AllFit version client lines es

-- whether a line wants no reply, and is refused
abbrev pub is_refusal : List ℕ → Exchange → Bool
is_refusal line exchange = is_none (behind_arrow line) && is_refused exchange.reply

-- whether one of the lines does, and is
abbrev pub any_refusal : List (List ℕ) → List Exchange → Bool
any_refusal [] es = false
any_refusal (line ∷ lines) [] = false
any_refusal (line ∷ lines) (e ∷ es) = is_refusal line e || any_refusal lines es

-- WHOLE RUNS

-- At most one request is carried out, and its reply may be told.
pub record CarriesSome (held held' : Option (List Exchange)) (told told' : Option (List ℕ)) : Type 0 where
  pub last : Option Exchange
  pub shown : Option Exchange
  pub grown : Grows held held' (option_to_list last)
  pub tells : Appends told told' (told_lines (option_to_list shown))
  pub same : (shown ≡ None) ⊎ (shown ≡ last)

-- Lines are taken from what is left of the input, each is carried out, and its reply is told.
pub record Rehearses (version : WireVersion) (client : ℕ) (left left' : Option (List ℕ)) (held held' : Option (List Exchange)) (told told' : Option (List ℕ)) (refused : Bool) : Type 0 where
  pub lines : List (List ℕ)
  pub exchanges : List Exchange
  pub taken : Consumes left left' (text_of lines)
  pub fit : AllFit version client lines exchanges
  pub grown : Grows held held' exchanges
  pub tells : Appends told told' (told_lines exchanges)
  pub refuses : any_refusal lines exchanges ≡ refused

-- So are some of the lines at its front. At most one further request is carried out, the last of all, and its reply may be told.
pub record RehearsesSome (version : WireVersion) (client : ℕ) (left : Option (List ℕ)) (held held' : Option (List Exchange)) (told told' : Option (List ℕ)) : Type 0 where
  pub lines : List (List ℕ)
  pub exchanges : List Exchange
  pub last : Option Exchange
  pub shown : Option Exchange
  pub front : HasFront left (text_of lines)
  pub fit : AllFit version client lines exchanges
  pub grown : Grows held held' (exchanges ++ option_to_list last)
  pub tells : Appends told told' (told_lines (exchanges ++ option_to_list shown))
  pub same : (shown ≡ None) ⊎ (shown ≡ last)
