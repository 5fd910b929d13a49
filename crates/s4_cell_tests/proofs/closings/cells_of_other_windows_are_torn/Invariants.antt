use Rattle.s4_cell_tests.proofs.closings.cells_of_other_windows_are_torn.Given as goal

abbrev pub ghosts-found : goal.ghosts-found
ghosts-found a = record { ledger = a.blank.ledger; window = 100; passes = 0 }
