use Rattle.s4_pool_tests.proofs.faults.each_of_two_fronts_has_the_calls_of_its_pass.Given as goal

abbrev pub ghosts-records_of_two-N-Names : goal.ghosts-records_of_two-N-Names
ghosts-records_of_two-N-Names g a = record { ledger = a.one.ledger; window = 100; passes = 1 }

abbrev pub ghosts-records_of_two-M-Names : goal.ghosts-records_of_two-M-Names
ghosts-records_of_two-M-Names g a = record { ledger = a.other.ledger; window = 100; passes = 1 }
