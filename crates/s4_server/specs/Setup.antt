-- What callers see of a server that is set up.
use Rattle.std.specs.Prelude.{◌≡◌, ℕ, List, [], slice_index_or}
use Rattle.atomic_table.specs.Seated.{TableId}
use Rattle.s4_types.specs.declared.principal.Caller.{Caller}
use Rattle.s4_types.specs.declared.request.Request.{Request}
use Rattle.s4_types.specs.declared.reply.Reply.{Reply}
use Rattle.s4_passes.specs.Calls.{CallList}
use Rattle.s4_pool.specs.Serving.{ServesUnlessRefused}
use Rattle.s4_settings.specs.declared.settings.Settings.{Settings}

-- its settings, and its first pass, by which it is asked before connections are served
pub record Setup : Type 0 where
  pub settings : Settings
  pub first : CallList

-- the front of a server of these settings, with the ledger of the blank one, is that which is named by this ledger, window and number of passes
pub record IsNamed (ledger : TableId) (window passes : ℕ) (blank : TableId) (settings : Settings) : Type 0 where
  pub ledger_is : blank ≡ ledger
  pub window_is : settings.window ≡ window
  pub passes_is : settings.workers ≡ passes
  pub cells_is : settings.cells ≡ ledger.words

-- no pass: a list without calls
abbrev pub no_pass : CallList
no_pass = record { number = 0; ever = []; calls = []; room = 0 }

-- the first of the passes
abbrev pub first_of : List CallList → CallList
first_of passes = slice_index_or passes 0 no_pass

-- The first pass has one call more, of what was asked at a moment that some clock told, with this reply; or it met want of memory and has none.
-- All else is as it was.
pub record CarriesOut (old new : Setup) (caller : Caller) (request : Request) (reply : Reply) : Type 0 where
  pub settings : new.settings ≡ old.settings
  pub clock : ℕ
  pub serves : ServesUnlessRefused old.first new.first caller clock request reply
