use Rattle.s4_pool_tests.proofs.fronts.check.Given as goal

abbrev pub ghosts-check_front : goal.ghosts-check_front
ghosts-check_front g a = record { ledger = a.blank.ledger; window = a.opened.1; passes = a.opened.2 }
