use Rattle.s4_commands.proofs.checking.try_setup.Given as goal

abbrev pub ghosts-try_named : goal.ghosts-try_named
ghosts-try_named g a = record { ledger = a.blank.ledger; window = a.settings.window; passes = a.settings.workers }
