use Rattle.s4_commands.proofs.serving.serve_on.Given as goal

abbrev pub ghosts-serve_named : goal.ghosts-serve_named
ghosts-serve_named g a = record { ledger = a.blank.ledger; window = a.settings.window; passes = a.settings.workers }
