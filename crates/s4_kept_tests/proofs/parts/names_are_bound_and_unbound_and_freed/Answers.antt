use Rattle.s4_kept_tests.proofs.parts.names_are_bound_and_unbound_and_freed.Goals as goal

pub bind-requires-clause-waits : goal.bind-requires-clause-waits
bind-requires-clause-waits g c = c.new-parts.ensures.waits _
