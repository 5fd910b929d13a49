use Rattle.s4_row_tests.proofs.calls.lent.serve.Given as goal

abbrev pub ghosts-lend : goal.ghosts-lend
ghosts-lend g a = record { ledger = a.blank.ledger; window = 100; passes = 1 }
