use Rattle.s4_row_tests.proofs.ways.conversations.tell.Given as goal

abbrev pub ghosts-tell_by_front : goal.ghosts-tell_by_front
ghosts-tell_by_front g a = record { ledger = a.blank.ledger; window = a.script.now.window; passes = 1 }
