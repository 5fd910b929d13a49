use Rattle.s4_row_tests.proofs.calls.fronts.serve.Given as goal

abbrev pub ghosts-serve_front : goal.ghosts-serve_front
ghosts-serve_front g a = record { ledger = a.blank.ledger; window = 100; passes = 2 }
